-- The steps of a writer.
use Rattle.std.proofs.Common.{◌≡◌, ℕ, ◌+◌, ◌<◌, ◌≤◌, List, [], ◌∷◌, ◌++◌, length, take, drop, sym, ap, ◌∙◌, arith}
use Rattle.std.proofs.lemmas.Bool.{lt-leb}
use Rattle.std.proofs.lemmas.List.{append_assoc, length-append, length-take-le, take_at, drop_at, drop-drop, length-drop}
use Rattle.lines.specs.declared.fault.Cause.TheVariants.{BufferTooSmall}
use Rattle.lines.specs.Faults.{accepted, plain}
use Rattle.lines.specs.Lines.{Line}
use Rattle.lines.proofs.LineLaws.{check_passes}
use Rattle.whole.specs.Whole.{row_at, row_refusal, text_of}

-- the front of `out` and the lines that are left make up `all`, and beyond `at` the bytes are as they were
pub record Written (all was out : List ℕ) (at : ℕ) (left : List Line) : Type 0 where
  pub fits : at + length (text_of left) ≤ length out
  pub front : take at out ++ text_of left ≡ all
  pub rest : drop at out ≡ drop at was

-- there is room for the next line and its LF
pub next_fits : {all was out : List ℕ} {at : ℕ} {l : Line} {left : List Line} → Written all was out at (l ∷ left) → at + length l < length out
next_fits {out = out} {at = at} {l = l} {left = left} w = let fits = w.fits in let own = length-append l (10 ∷ text_of left) in omega arith

pub row_fits : (len at space : ℕ) → at + len < space → row_refusal len at space ≡ accepted
row_fits len at space room = check_passes _ (plain BufferTooSmall) accepted (lt-leb space (at + len) room)

pub written_more : (all was out new : List ℕ) (at : ℕ) (l : Line) (left : List Line) → Written all was out at (l ∷ left)
    → new ≡ row_at l at out → Written all was new (at + length l + 1) left
written_more all was out new at l left w is =
    let fits = w.fits in
    let own = length-append l (10 ∷ []) in
    let rows = length-append l (10 ∷ text_of left) in
    let a = length-take-le at out (omega arith) in
    let row = l ++ (10 ∷ []) in
    let front = take at out ++ row in
    let n = at + length l + 1 in
    let tail = drop n out in
    let long : length front ≡ n = omega (arith, length-append (take at out) row) in
    let joined : (ys : List ℕ) → take at out ++ (l ++ (10 ∷ ys)) ≡ front ++ ys = λ ys. ap (λ zs. take at out ++ zs) (sym (append_assoc l (10 ∷ []) ys)) ∙ sym (append_assoc (take at out) row ys) in
    let split : new ≡ front ++ tail = is ∙ joined tail in
    let size_is : length new ≡ length front + length tail = ap length split ∙ length-append front tail in
    let past : (xs : List ℕ) → drop (length l + 1) (drop at xs) ≡ drop n xs = λ xs. drop-drop (length l + 1) at xs ∙ ap (λ k. drop k xs) (let e : at + (length l + 1) ≡ n = omega arith in e) in
    record {
      fits = omega (arith, length-drop n out);
      front = ap (λ xs. xs ++ text_of left) (ap (take n) split ∙ take_at front tail n long) ∙ sym (joined (text_of left)) ∙ w.front;
      rest = ap (drop n) split ∙ drop_at front tail n long ∙ sym (past out) ∙ ap (drop (length l + 1)) w.rest ∙ past was;
    }
