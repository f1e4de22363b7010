use Rattle.std.proofs.Common.{◌≡◌, ℕ, ◌/◌, ◌%◌, ◌^◌, List, get_or, set, sym, ap, ◌∙◌, arith}
use native.Mathlib.Nat.{div-eq_of_lt}
use lib.Bits.{bit_or}
use Rattle.std.proofs.lemmas.Nat.{one_shl, mod_below}
use Rattle.sets.specs.Bits.{bits}
use Rattle.sets.specs.declared.set.SerialSet.{SerialSet}
use Rattle.std.proofs.lemmas.List.{set_past}
use Rattle.sets.proofs.Words.{bits_with}
use Rattle.sets.proofs.set.SerialSet.with.Goals as goal

set_of_words : List ℕ → SerialSet
set_of_words ws = record { words = ws }

pub returns-then-at-lt-WORDS : goal.returns-then-at-lt-WORDS
unfolding set_of_words
returns-then-at-lt-WORDS c =
    let ws = c.args.self.words in
    let n = c.args.n in
    let one = one_shl (n % 64) 64 (mod_below n 64 (omega arith)) in
    record {
      value = ap (λ w. set_of_words (set ws (n / 64) (bit_or (get_or ws (n / 64) 0) w))) one;
      serials = λ _ k. ap (λ w. bits (set ws (n / 64) (bit_or (get_or ws (n / 64) 0) w)) k) one ∙ bits_with ws n (omega arith) k;
    }

pub returns-else-at-lt-WORDS : goal.returns-else-at-lt-WORDS
unfolding set_of_words
returns-else-at-lt-WORDS c =
    let ws = c.args.self.words in
    let n = c.args.n in
    record {
      value = ap set_of_words (sym (set_past ws (n / 64) (bit_or (get_or ws (n / 64) 0) (2 ^ (n % 64))) (omega arith)));
      serials = λ low. let none : n / 64 ≡ 0 = div-eq_of_lt low in absurd (omega arith);
    }
