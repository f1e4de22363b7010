-- Bits of words, for any number of words.
use Rattle.std.proofs.Common.{◌≡◌, ℕ, zero, suc, ◌+◌, ◌-◌, ◌/◌, ◌%◌, ◌^◌, ◌<◌, ◌≤◌, w64, Bool, true, false, not, ◌&&◌, ◌||◌, eqb, List, [], ◌∷◌, length, get_or, set, Some, None, Option, MatchOption, Bor, sym, refl, ap, ◌∙◌, subst, ⊎_elim, div-add-mod', arith}
use native.Mathlib.Nat.{div-eq_of_lt}
use denote.Param.Members.{Mut}
use lib.Bits.{bit_and, bit_or}
use Rattle.std.specs.Fn.{Called}
use Rattle.std.specs.Slice.{IsItemAt}
use Rattle.std.specs.Array.{IsFromFnResult, IsFromFnResultFrom}
use Rattle.std.proofs.lemmas.Nat.{mod_below}
use Rattle.std.proofs.lemmas.Nat.Bits as number
use Rattle.std.proofs.lemmas.Nat.Bits.{bit_at_and, bit_at_not, bit_at-lt, bit_at-zero, shr_and_one, bit_at-pow_same, bit_at-pow_other, bit_at_above}
use Rattle.std.proofs.lemmas.List.{get_or-set_same, get_or-set_other, get_or_past}
use Rattle.std.proofs.lemmas.Bool.{cases_eq, cases_lt, eq-eqb, ne_eqb, eqb-true, and_parts}
use Rattle.std.proofs.lemmas.Bool.Decides.{nat_tests}
use Rattle.sets.specs.Bits.{bit, bits, raised}

module _ (a b n : ℕ) where
  pub bit_at_or : bit (bit_or a b) n ≡ (bit a n || bit b n)
  bit_at_or = grind (arith, nat_tests, number.bit_at_or a b n, bit_at-lt a n, bit_at-lt b n)

  pub bit_without : b < 2 ^ 64 → n < 64 → bit (bit_and a (2 ^ 64 - 1 - b)) n ≡ (bit a n && not (bit b n))
  bit_without fits low = grind (arith, nat_tests, bit_at_and a (2 ^ 64 - 1 - b) n, bit_at_not w64 b n fits low, bit_at-lt a n, bit_at-lt b n)

bit_zero : (n : ℕ) → bit 0 n ≡ false
bit_zero n = ap (λ x. eqb x 1) (bit_at-zero n)

-- the word of one serial
bit_one : (j n : ℕ) → bit (2 ^ j) n ≡ eqb j n
bit_one j n =
    ⊎_elim
    (λ (same : j ≡ n). ap (λ i. bit (2 ^ i) n) same ∙ ap (λ x. eqb x 1) (bit_at-pow_same n) ∙ sym (eq-eqb j n same))
    (λ (apart : j ≡ n → ⊥). ap (λ x. eqb x 1) (bit_at-pow_other j n (λ e. apart (sym e))) ∙ sym (ne_eqb j n apart))
    (cases_eq j n)

-- two numbers are equal where their words and their bits are
same_parts : (n k : ℕ) → n / 64 ≡ k / 64 → eqb (n % 64) (k % 64) ≡ eqb n k
same_parts n k words =
    let a = div-add-mod' n 64 in
    let b = div-add-mod' k 64 in
    ⊎_elim
    (λ (same : n % 64 ≡ k % 64). eq-eqb _ _ same ∙ sym (eq-eqb n k (omega arith)))
    (λ (apart : n % 64 ≡ k % 64 → ⊥). ne_eqb _ _ apart ∙ sym (ne_eqb n k (λ is. apart (ap (λ x. x % 64) is))))
    (cases_eq (n % 64) (k % 64))

or_false : (b : Bool) → b ≡ (b || false)
or_false true = refl
or_false false = refl

pub bits_with : (ws : List ℕ) (n : ℕ) → n / 64 < length ws → (k : ℕ) → bits (raised ws n) k ≡ (bits ws k || eqb n k)
unfolding bits
bits_with ws n inside k =
    let new = bit_or (get_or ws (n / 64) 0) (2 ^ (n % 64)) in
    ⊎_elim
    (λ (here : k / 64 ≡ n / 64).
    ap (λ i. bit (get_or (set ws (n / 64) new) i 0) (k % 64)) here ∙ ap (λ w. bit w (k % 64)) (get_or-set_same ws (n / 64) new 0 inside)
    ∙ bit_at_or (get_or ws (n / 64) 0) (2 ^ (n % 64)) (k % 64)
    ∙ ap (λ i. bit (get_or ws i 0) (k % 64) || bit (2 ^ (n % 64)) (k % 64)) (sym here)
    ∙ ap (λ b. bit (get_or ws (k / 64) 0) (k % 64) || b) (bit_one (n % 64) (k % 64) ∙ same_parts n k (sym here)))
    (λ (apart : k / 64 ≡ n / 64 → ⊥).
    ap (λ w. bit w (k % 64)) (get_or-set_other ws (n / 64) (k / 64) new 0 apart) ∙ or_false (bit (get_or ws (k / 64) 0) (k % 64))
    ∙ ap (λ b. bit (get_or ws (k / 64) 0) (k % 64) || b) (sym (ne_eqb n k (λ is. apart (ap (λ x. x / 64) (sym is))))))
    (cases_eq (k / 64) (n / 64))

pub bits_past : (ws : List ℕ) (n : ℕ) → length ws ≤ n / 64 → bits ws n ≡ false
unfolding bits
bits_past ws n past = ap (λ w. bit w (n % 64)) (get_or_past ws (n / 64) 0 past) ∙ bit_zero (n % 64)

-- the test of a serial's bit, in the word that it stands in
pub bit_tested : (ws : List ℕ) (n : ℕ) (word : Option (Bor ℕ)) (r : Bool) → IsItemAt ws (n / 64) word → MatchOption word (r ≡ false) (λ w. r ≡ eqb (bit_and (w.now / 2 ^ (n % 64)) 1) 1) → r ≡ bits ws n
unfolding bits
bit_tested ws n None r at is = is ∙ sym (bits_past ws n at.3)
bit_tested ws n (Some w) r at is = is ∙ ap (λ x. eqb x 1) (shr_and_one w.now (n % 64)) ∙ ap (λ x. bit x (n % 64)) (at.3.1 0)

-- what calls of a closure that computes h gave, place by place
calls_gave : {F : Type 0} (g : Mut F (ℕ × Unit {0}) ℕ) (f : F) (h : ℕ → ℕ) → ((i r : ℕ) (q : F) → Called g f (i, tt) r q → (q ≡ f) × (r ≡ h i)) → (ws : List ℕ) (from n : ℕ) → IsFromFnResultFrom g f ws from n → (k : ℕ) → from ≤ k → k < from + n → get_or ws k 0 ≡ h k
calls_gave g f h same ws from zero made k low high = absurd (omega arith)
calls_gave g f h same ws from (suc n) (q, y, at, called, later) k low high =
    let is = same from y q called in
    ⊎_elim
    (λ (here : k ≡ from). ap (λ i. get_or ws i 0) here ∙ at.1 0 ∙ is.1 ∙ ap h (sym here))
    (λ (apart : k ≡ from → ⊥). calls_gave g f h same ws (from + 1) n (subst (λ p. IsFromFnResultFrom g p ws (from + 1) n) is.0 later) k (omega arith) (omega arith))
    (cases_eq k from)

pub made_by_calls : {F : Type 0} {g : Mut F (ℕ × Unit {0}) ℕ} {f : F} {ws : List ℕ} {n : ℕ} (h : ℕ → ℕ) → IsFromFnResult g f ws n → ((i r : ℕ) (q : F) → Called g f (i, tt) r q → (q ≡ f) × (r ≡ h i)) → (k : ℕ) → k < n → get_or ws k 0 ≡ h k
made_by_calls {F} {g} {f} {ws} {n} h made same k low = calls_gave g f h same ws 0 n made.each k (omega arith) (omega arith)

-- words made one by one from those of two sets
pub bits_combined : (both : Bool → Bool → Bool) (xs ys ws : List ℕ) → both false false ≡ false → length xs ≡ length ws → length ys ≡ length ws → ((i j : ℕ) → i < length ws → j < 64 → bit (get_or ws i 0) j ≡ both (bit (get_or xs i 0) j) (bit (get_or ys i 0) j)) → (k : ℕ) → bits ws k ≡ both (bits xs k) (bits ys k)
unfolding bits
bits_combined both xs ys ws none long_xs long_ys each k =
    ⊎_elim
    (λ (within : k / 64 < length ws). each (k / 64) (k % 64) within (mod_below k 64 (omega arith)))
    (λ (past : length ws ≤ k / 64).
    bits_past ws k past ∙ sym (ap (λ b. both b (bits ys k)) (bits_past xs k (omega arith)) ∙ ap (both false) (bits_past ys k (omega arith)) ∙ none))
    (cases_lt (k / 64) (length ws))

abbrev pub all_zero : List ℕ → Bool
all_zero [] = true
all_zero (w ∷ ws) = eqb w 0 && all_zero ws

zero_at : (ws : List ℕ) → all_zero ws ≡ true → (i : ℕ) → get_or ws i 0 ≡ 0
zero_at [] none i = get_or_past [] i 0 (omega arith)
zero_at (w ∷ ws) none zero = eqb-true w 0 (and_parts (eqb w 0) (all_zero ws) none).0
zero_at (w ∷ ws) none (suc i) = zero_at ws (and_parts (eqb w 0) (all_zero ws) none).1 i

pub bits_none : (ws : List ℕ) → all_zero ws ≡ true → (k : ℕ) → bits ws k ≡ false
unfolding bits
bits_none ws none k = ap (λ w. bit w (k % 64)) (zero_at ws none (k / 64)) ∙ bit_zero (k % 64)

-- a mask in the first word, and zeros after it
pub bits_mask : (mask : ℕ) (zeros : List ℕ) → mask < 2 ^ 64 → all_zero zeros ≡ true → (k : ℕ) → bits (mask ∷ zeros) k ≡ bit mask k
unfolding bits
bits_mask mask zeros small none k =
    let parts = div-add-mod' k 64 in
    ⊎_elim
    (λ (below : k < 64).
    let first : k / 64 ≡ 0 = div-eq_of_lt below in
    let same : k % 64 ≡ k = omega arith in
    ap (λ i. bit (get_or (mask ∷ zeros) i 0) (k % 64)) first ∙ ap (bit mask) same)
    (λ (above : 64 ≤ k).
    let j : ℕ = k / 64 - 1 in
    let later : k / 64 ≡ suc j = omega (arith, mod_below k 64 (omega arith)) in
    ap (λ i. bit (get_or (mask ∷ zeros) i 0) (k % 64)) later ∙ ap (λ w. bit w (k % 64)) (zero_at zeros none j) ∙ bit_zero (k % 64) ∙ sym (ap (λ x. eqb x 1) (bit_at_above mask 64 k small above)))
    (cases_lt k 64)
