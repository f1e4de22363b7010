use Rattle.std.proofs.Common.{◌≡◌, ℕ, List, drop, ◌+◌, ◌-◌, ◌*◌, ◌/◌, ap, ◌∙◌, arith}
use Rattle.std.proofs.lemmas.List.{take_rest}
use Rattle.lines.specs.Rows.{row_len, lines_in, start_of}
use Rattle.lines.proofs.RowLaws.{next_start, rows_few, start_within}
use Rattle.lines.proofs.text.Text.start.Goals as goal

pub bounds-self-mark : goal.bounds-self-mark
bounds-self-mark c = omega (arith, c.requires.to, c.args.self.now.counted, rows_few c.args.self.now.bytes.now c.args.self.now.whole)

pub loop-init : goal.loop-init
loop-init c =
    let mark : ℕ = (c.args.n - 1) / 64 in
    let here = c.args.self.now.marked mark (omega (arith, c.requires.to, c.requires.from, c.args.self.now.counted)) in
    record { here = here; within = omega (arith, start_within c.args.self.now.bytes.now _ (64 * mark + 1) here (omega arith) (omega (arith, c.requires.to, c.requires.from, c.args.self.now.counted))) }

pub loop-preserved : goal.loop-preserved
loop-preserved c =
    let bs : List ℕ = c.args.self.now.bytes.now in
    let inv = c.loop.invariant in
    let end : c.loop.at + c.row_len.result ≡ c.loop.at + row_len (drop c.loop.at bs) = ap (λ k. c.loop.at + k) (c.row_len.ensures.is ∙ ap row_len (take_rest bs c.loop.at)) in
    let here : c.loop.at + (c.row_len.result + 1) ≡ start_of (lines_in bs) (c.loop.counter + 1) = omega (arith, next_start bs c.loop.at (c.loop.at + c.row_len.result) c.loop.counter inv.here end (omega arith) (omega (arith, c.requires.to, c.args.self.now.counted))) in
    record { here = here; within = omega (arith, start_within bs _ (c.loop.counter + 1) here (omega arith) (omega (arith, c.requires.to, c.args.self.now.counted))) }

pub returns : goal.returns
returns c =
    record {
      is = c.loop.invariant.here ∙ ap (start_of (lines_in c.args.self.now.bytes.now)) (omega (arith, c.requires.from));
      within = c.loop.invariant.within;
    }
