-- One changed byte is always seen: the sum changes by less than 256 and not by 0, and two sums have other digits.
-- Assumes nothing.
use Rattle.std.proofs.Common.{◌≡◌, ℕ, zero, suc, ◌+◌, ◌-◌, ◌/◌, ◌%◌, ◌<◌, true, false, cond, List, [], ◌∷◌, length, get_or, set, sum, sym, ap, ◌∙◌, ⊎_elim, arith}
use Rattle.std.proofs.lemmas.Slice.Eq.{bytes_eq-Decides}
use Rattle.std.proofs.lemmas.List.{get_or_past, get_or-set_same}
use Rattle.std.proofs.lemmas.List.Sums.{sum_by-set}
use Rattle.std.proofs.lemmas.Bool.{cases_Bool, cases_lt}
use Rattle.lines.specs.Lines.{Line}
use Rattle.checksum.specs.Sum.{weight, sum_of, marked}
use Rattle.checksum.specs.Layer.{summed}
use Rattle.checksum.specs.Change.{changed, ChangeSeen}

-- the digits tell the number
same_number : (a b : ℕ) → a < 100000 → b < 100000 → marked a ≡ marked b → a ≡ b
same_number a b small small' same =
    let d0 : 48 + a / 10000 % 10 ≡ 48 + b / 10000 % 10 = ap (λ l. get_or l 2 0) same in
    let d1 : 48 + a / 1000 % 10 ≡ 48 + b / 1000 % 10 = ap (λ l. get_or l 3 0) same in
    let d2 : 48 + a / 100 % 10 ≡ 48 + b / 100 % 10 = ap (λ l. get_or l 4 0) same in
    let d3 : 48 + a / 10 % 10 ≡ 48 + b / 10 % 10 = ap (λ l. get_or l 5 0) same in
    let d4 : 48 + a % 10 ≡ 48 + b % 10 = ap (λ l. get_or l 6 0) same in
    omega arith

-- what the change of byte j of the line at k adds to the weight
weight_changed : (ls : List Line) (k j b : ℕ) → j < length (get_or ls k []) → weight (set ls k (set (get_or ls k []) j b)) + get_or (get_or ls k []) j 0 ≡ weight ls + b
weight_changed ls k j b inside =
    let l : Line = get_or ls k [] in
    let there : k < length ls = ⊎_elim (λ o. o) (λ o. absurd (omega (arith, ap length (get_or_past ls k [] o)))) (cases_lt k (length ls)) in
    let lines : weight (set ls k (set l j b)) + (sum l + 10) ≡ weight ls + (sum (set l j b) + 10) = sum_by-set (λ x. sum x + 10) ls k (set l j b) [] there in
    let bytes : sum (set l j b) + get_or l j 0 ≡ sum l + b = sum_by-set (λ x. x) l j b 0 inside in
    omega arith

-- a first line that holds the sum before the change does not hold it after
unseen : (f : Line) (ls : List Line) (k j b : ℕ) → summed (f ∷ ls) ≡ true → j < length (get_or (f ∷ ls) k []) → get_or (get_or (f ∷ ls) k []) j 0 < 256 → b < 256 → (b ≡ get_or (get_or (f ∷ ls) k []) j 0 → ⊥) → summed (set (f ∷ ls) k (set (get_or (f ∷ ls) k []) j b)) ≡ true → ⊥
unseen f ls zero j b before inside old new apart after =
    let was : f ≡ marked (sum_of ls) = (bytes_eq-Decides f (marked (sum_of ls))).0 before in
    let is : set f j b ≡ marked (sum_of ls) = (bytes_eq-Decides (set f j b) (marked (sum_of ls))).0 after in
    apart (sym (get_or-set_same f j b 0 inside) ∙ ap (λ l. get_or l j 0) (is ∙ sym was))
unseen f ls (suc k) j b before inside old new apart after =
    let ls' : List Line = set ls k (set (get_or ls k []) j b) in
    let was : f ≡ marked (sum_of ls) = (bytes_eq-Decides f (marked (sum_of ls))).0 before in
    let is : f ≡ marked (sum_of ls') = (bytes_eq-Decides f (marked (sum_of ls'))).0 after in
    let same : sum_of ls ≡ sum_of ls' = same_number (sum_of ls) (sum_of ls') (omega arith) (omega arith) (sym was ∙ is) in
    omega (arith, weight_changed ls k j b inside, apart)

pub change_seen : ChangeSeen
change_seen [] n j b before inside old new apart = absurd (omega arith)
change_seen (f ∷ ls) n j b before inside old new apart =
    let ls' : List Line = changed (f ∷ ls) n j b in
    let lost : summed ls' ≡ false = ⊎_elim (λ after. absurd (unseen f ls (n - 1) j b before inside old new apart after)) (λ e. e) (cases_Bool (summed ls')) in
    (lost, ap (λ t. cond t 0 4) lost)
