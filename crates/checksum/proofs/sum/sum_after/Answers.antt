use Rattle.std.proofs.Common.{◌≡◌, ℕ, ◌+◌, ◌%◌, List, ◌∷◌, length, sum, sym, ap, ◌∙◌, mod-eq_of_lt, arith}
use native.Mathlib.Nat.{mod-add-mod}
use Rattle.std.proofs.lemmas.List.Sums.{sum_by-cons}
use Rattle.lines.specs.Lines.{Line}
use Rattle.checksum.specs.Sum.{weight}
use Rattle.checksum.proofs.sum.sum_after.Goals as goal

pub loop-line-init : goal.loop-line-init
loop-line-init g c =
    let none : 0 + weight c.after-lines.result ≡ weight c.after-lines.result = omega arith in
    record { whole = ap (λ n. n % 65536) none ∙ ap (λ ls. weight ls % 65536) c.after-lines.ensures; small = omega arith }

pub loop-line-smaller : goal.loop-line-smaller
loop-line-smaller g c = omega (arith, ap length c.in-Some.ensures)

pub loop-line-preserved : goal.loop-line-preserved
loop-line-preserved g c =
    let line : Line = c.in-Some.line.now in
    let to_come : List Line = c.next_in.new.self in
    let total : ℕ = c.loop-line.total in
    let more : total + (sum line + 10) + weight to_come ≡ total + weight (line ∷ to_come) = omega (arith, sum_by-cons (λ l. sum l + 10) line to_come) in
    record {
      whole = ap (λ t. (t + weight to_come) % 65536) c.add_line-total.ensures ∙ mod-add-mod (total + (sum line + 10)) 65536 (weight to_come) ∙ ap (λ n. n % 65536) more ∙ ap (λ ls. (total + weight ls) % 65536) (sym c.in-Some.ensures) ∙ c.loop-line.invariant.whole;
      small = c.add_line-total.type_inv;
    }

pub returns : goal.returns
returns g c =
    let inv = c.loop-line.invariant in
    let done : c.loop-line.total + weight c.loop-line.lines ≡ c.loop-line.total = omega (arith, ap weight c.in_default.ensures.0) in
    sym (mod-eq_of_lt inv.small) ∙ ap (λ n. n % 65536) (sym done) ∙ inv.whole
