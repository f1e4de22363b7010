use Rattle.std.proofs.Common.{◌^◌, ◌≤◌, length, arith}
use Rattle.std.proofs.Math.Nat.{pow-le-pow_right}
use Rattle.std.proofs.lemmas.Grind.{common_steps}
use Rattle.records.proofs.numeral.read_numeral.Goals as goal

pub returns-in_default-2-clause-small : goal.returns-in_default-2-clause-small
returns-in_default-2-clause-small c =
    let up : 10 ^ length c.args.word.now ≤ 10 ^ c.args.most = pow-le-pow_right (omega arith) c.if-word-most.false in
    grind (arith, common_steps)
