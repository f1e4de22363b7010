use Rattle.std.proofs.Common.{◌≡◌, ℕ, ◌+◌, List, map, get_or, set, sym, ap, ◌∙◌, arith}
use Rattle.std.proofs.Math.Seq.{paste}
use Rattle.std.proofs.lemmas.List.{get_or-map, length-map}
use Rattle.std.proofs.lemmas.List.Edits.{paste_more}
use Rattle.blocks.specs.Laid.{clean}
use Rattle.blocks.proofs.sheet.put_clean.Goals as goal

pub loop-i-preserved : goal.loop-i-preserved
loop-i-preserved c =
    let l : List ℕ = map clean c.args.line.now in
    let i : ℕ = c.loop-i.i in
    let done : List ℕ = paste c.args.buf.now 0 l i in
    let size = length-map c.args.line.now clean in
    let byte : c.cleaned.result ≡ get_or l i 0 = c.cleaned.ensures ∙ sym (get_or-map clean c.args.line.now i 0 0 (omega arith)) in
    let at : i ≡ 0 + i = omega arith in
    ap (λ b. set b i c.cleaned.result) c.loop-i.invariant ∙ ap (λ v. set done i v) byte ∙ ap (λ k. set done k (get_or l i 0)) at
    ∙ paste_more c.args.buf.now 0 l i 0 (omega arith) (omega arith)
