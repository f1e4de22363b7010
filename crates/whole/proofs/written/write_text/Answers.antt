use Rattle.std.proofs.Common.{◌≡◌, ℕ, ◌+◌, ◌<◌, ◌≤◌, List, [], ◌∷◌, ◌++◌, length, length-append, take, drop, Ok, Err, sym, refl, ap, ◌∙◌, append_assoc, append-nil, arith}
use Rattle.std.proofs.lemmas.List.{take-append-drop, take_at, drop_at, drop-drop, length-take}
use Rattle.std.proofs.lemmas.Bool.{lt-ltb, le-ltb}
use Rattle.lines.specs.declared.fault.Cause.TheVariants.{BufferTooSmall}
use Rattle.lines.specs.Faults.{accepted, plain, verdict, left}
use Rattle.lines.specs.Lines.{Line, fronted}
use Rattle.whole.specs.Whole.{text_of}
use Rattle.lines.proofs.LineLaws.{check_fails, check_passes}
use Rattle.whole.proofs.WholeLaws.{total-most}
use Rattle.whole.proofs.TextBack.{text_back, text_size}
use Rattle.whole.proofs.written.write_text.Goals as goal

pub overflow_add-total_bytes : goal.overflow_add-total_bytes
overflow_add-total_bytes g c =
    let ok = g.S.LineSource.lawful c.args.source.now in
    omega (arith, total-most (g.S.LineSource.lines c.args.source.now) ok, ok.0, c.total_bytes.ensures, c.count.ensures)

pub returns-then-buf-total_bytes : goal.returns-then-buf-total_bytes
returns-then-buf-total_bytes g c =
    let ls : List Line = g.S.LineSource.lines c.args.source.now in
    let buf : List ℕ = c.args.buf.now in
    let short : length buf < length (text_of ls) = omega (arith, text_size ls, c.total_bytes.ensures, c.count.ensures) in
    let q = check_fails _ (plain BufferTooSmall) accepted (lt-ltb _ _ short) in
    record {
      answer = ap Err c.plain.ensures ∙ sym (ap (λ r. verdict r (length (text_of ls))) q);
      bytes = sym (ap (λ r. left r (fronted (text_of ls) buf) buf) q);
      back = text_back ls (g.S.LineSource.lawful c.args.source.now);
    }

pub loop-line-init : goal.loop-line-init
loop-line-init g c =
    let ls : List Line = g.S.LineSource.lines c.args.source.now in
    let all : c.of-lines.result ≡ ls = c.of-lines.ensures in
    record { front = ap text_of all; kept = refl; room = omega (arith, ap (λ r. length (text_of r)) all, text_size ls, c.total_bytes.ensures, c.count.ensures) }

-- the row of the next line has room
row_room : (it rest : List Line) (line : List ℕ) (at space : ℕ) → it ≡ line ∷ rest → at + length (text_of it) ≤ space → at + (length line + 1) + length (text_of rest) ≤ space
row_room it rest line at space is room = omega (arith, ap (λ r. length (text_of r)) is, length-append line (10 ∷ text_of rest), room)

-- a row more at `at`, in a buffer whose front has the lines before it
module _ (buf new first line : List ℕ) (rest : List Line) (at : ℕ) (text : List ℕ) (is : new ≡ take at buf ++ (line ++ (10 ∷ drop (at + length line + 1) buf))) (room : at + (length line + 1) ≤ length buf) where
  whole : new ≡ (take at buf ++ (line ++ (10 ∷ []))) ++ drop (at + length line + 1) buf
  whole = is ∙ sym (simp append_assoc refl)

  long : length (take at buf ++ (line ++ (10 ∷ []))) ≡ at + (length line + 1)
  long = omega (arith, length-append (take at buf) (line ++ (10 ∷ [])), length-append line (10 ∷ []), length-take at buf)

  front : take at buf ++ text_of (line ∷ rest) ≡ text → take (at + (length line + 1)) new ++ text_of rest ≡ text
  front h = ap (λ b. take (at + (length line + 1)) b ++ text_of rest) whole ∙ ap (λ b. b ++ text_of rest) (take_at _ _ _ long) ∙ simp append_assoc refl ∙ h

  kept : drop at buf ≡ drop at first → drop (at + (length line + 1)) new ≡ drop (at + (length line + 1)) first
  kept h = ap (drop (at + (length line + 1))) whole ∙ drop_at _ _ _ long ∙ ap (λ k. drop k buf) (omega arith) ∙ sym (drop-drop (length line + 1) at buf) ∙ ap (drop (length line + 1)) h ∙ drop-drop (length line + 1) at first ∙ ap (λ k. drop k first) (omega arith)

pub put_row-requires : goal.put_row-requires
put_row-requires g c =
    omega (arith, row_room _ _ _ _ (length c.loop-line.buf) c.in-Some.ensures c.loop-line.invariant.room)

pub loop-line-preserved : goal.loop-line-preserved
loop-line-preserved g c =
    let inv = c.loop-line.invariant in
    let row : List ℕ = c.in-Some.line.now in
    let room = row_room _ _ row c.loop-line.at (length c.loop-line.buf) c.in-Some.ensures inv.room in
    let fits : c.loop-line.at + (length row + 1) ≤ length c.loop-line.buf = omega (arith, room) in
    record {
      front = front c.loop-line.buf c.put_row.new.buf c.args.buf.now row c.next_in.new.self c.loop-line.at _ c.put_row.ensures fits (ap (λ r. take c.loop-line.at c.loop-line.buf ++ text_of r) (sym c.in-Some.ensures) ∙ inv.front);
      kept = kept c.loop-line.buf c.put_row.new.buf c.args.buf.now row c.next_in.new.self c.loop-line.at [] c.put_row.ensures fits inv.kept;
      room = omega (arith, room, c.put_row.auto.buf);
    }

pub returns : goal.returns
returns g c =
    let ls : List Line = g.S.LineSource.lines c.args.source.now in
    let buf : List ℕ = c.args.buf.now in
    let inv = c.loop-line.invariant in
    let s = c.in_default.ensures in
    let room : length (text_of ls) ≤ length buf = omega (arith, text_size ls, c.total_bytes.ensures, c.count.ensures) in
    let q = check_passes _ (plain BufferTooSmall) accepted (le-ltb (length buf) (length (text_of ls)) room) in
    let front : take c.loop-line.at c.loop-line.buf ≡ text_of ls = sym (append-nil _) ∙ ap (λ r. take c.loop-line.at c.loop-line.buf ++ text_of r) (sym s.0) ∙ inv.front in
    let long : c.loop-line.at ≡ length (text_of ls) = omega (arith, ap length front, length-take c.loop-line.at c.loop-line.buf, inv.room) in
    record {
      answer = ap Ok long ∙ sym (ap (λ r. verdict r (length (text_of ls))) q);
      bytes = sym (take-append-drop c.loop-line.at c.loop-line.buf) ∙ (λ t. front t ++ inv.kept t) ∙ ap (λ k. text_of ls ++ drop k buf) long ∙ sym (ap (λ r. left r (fronted (text_of ls) buf) buf) q);
      back = text_back ls (g.S.LineSource.lawful c.args.source.now);
    }
