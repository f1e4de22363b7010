use Rattle.std.proofs.Common.{rules, tests, ◌≡◌, ℕ, List, cond, ◌≤◌, length, nat_eq, nat_lt, Some, None, sym, ap, ◌∙◌, ⊎_elim, arith}
use Rattle.std.specs.Option.{unwrap_or}
use Rattle.std.proofs.lemmas.Iterator.Search.{position_from_yields_List}
use Rattle.std.proofs.lemmas.Iterator.{YieldsList-from_slice}
use Rattle.std.proofs.lemmas.Bool.{cases_lt, lt-ltb, le-ltb}
use Rattle.std.proofs.lemmas.List.Sums.{prefix_len-le-length}
use Rattle.lines.specs.Rows.{row_len}
use Rattle.lines.proofs.RowLaws.{place_is}
use Rattle.lines.proofs.rows.row_len.Goals as goal

-- a place that is looked for, or the length where there is none
found_or_len : (bs : List ℕ) (k : ℕ) → k ≤ length bs → unwrap_or (cond (nat_lt k (length bs)) (Some k) None) (length bs) ≡ k
found_or_len bs k most =
    ⊎_elim (λ h. ap (λ b. unwrap_or (cond b (Some k) None) (length bs)) (lt-ltb _ _ h)) (λ h. ap (λ b. unwrap_or (cond b (Some k) None) (length bs)) (le-ltb _ _ h) ∙ omega arith) (cases_lt k (length bs))

pub returns : goal.returns
returns c =
    let bs : List ℕ = c.args.bytes.now in
    let p = position_from_yields_List (λ b. nat_eq b 10) _ _ _ c.position.ensures.ran (YieldsList-from_slice bs cc) (λ x b q k. search (rules, tests)) in
    let most = prefix_len-le-length _ bs in
    let is : c.unwrap_or.result ≡ row_len bs = c.unwrap_or.ensures ∙ ap (λ o. unwrap_or o (length bs)) p ∙ ap (λ k. unwrap_or (cond (nat_lt k (length bs)) (Some k) None) (length bs)) (sym (place_is bs)) ∙ found_or_len bs (row_len bs) most in
    record { is = is; within = omega (arith, is, most) }
