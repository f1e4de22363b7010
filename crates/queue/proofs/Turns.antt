-- What a turn by one place of a part of a list leaves of its front.
use Rattle.std.proofs.Common.{◌≡◌, ℕ, suc, ◌+◌, ◌-◌, ◌<◌, ◌≤◌, List, [], ◌∷◌, ◌++◌, length, take, drop, set, sym, ap, ◌∙◌, add-one, length-set, arith}
use borrow.Rule.Slice.PartMut.{put_mid, mid_of}
use Rattle.std.specs.List.{insert, remove}
use Rattle.std.proofs.lemmas.Slice.{take-put_mid}
use Rattle.std.proofs.lemmas.List.{take-take, take-set-le, drop-take, drop-drop, take_at, drop_at, take_more_set, drop-append-le, append_assoc, length-take, length-drop, length-append}

pub fits_from_front : {X : Type 0} (xs ys : List X) (n : ℕ) → take n xs ≡ ys → length ys ≡ n → n ≤ length xs
fits_from_front xs ys n is long = omega (arith, ap length is, length-take n xs)

part : {X : Type 0} (xs : List X) (n at : ℕ) → at ≤ n → drop at (take n xs) ≡ take (n - at) (drop at xs)
part xs n at le = let e : n ≡ at + (n - at) = omega arith in ap (λ m. drop at (take m xs)) e ∙ drop-take at (n - at) xs

module _ {X : Type 0} (xs : List X) (n at k : ℕ) where
  -- the element at the place goes behind the others of the part, and out of the front
  pub turned_out : (ys : List X) → at < n → n ≤ length xs → k ≡ n - at → ys ≡ drop 1 (mid_of at k xs) ++ take 1 (mid_of at k xs) → take (n - 1) (put_mid at k xs ys) ≡ remove (take n xs) at
  turned_out ys lt le ek is =
      let front = take n xs in
      let mid = mid_of at k xs in
      let same : drop at front ≡ mid = part xs n at (omega arith) ∙ ap (λ j. take j (drop at xs)) (sym ek) in
      let rest : drop 1 mid ≡ drop (suc at) front = ap (drop 1) (sym same) ∙ drop-drop 1 at front ∙ ap (λ j. drop j front) (add-one at) in
      let before : length (take at xs) ≡ at = omega (arith, length-take at xs) in
      let long : length mid ≡ k = omega (arith, length-take k (drop at xs), length-drop at xs) in
      let others : length (take at xs ++ drop 1 mid) ≡ n - 1 = omega (arith, length-append (take at xs) (drop 1 mid), length-drop 1 mid) in
      let all : length ys ≡ k = omega (arith, ap length is, length-append (drop 1 mid) (take 1 mid), length-drop 1 mid, length-take 1 mid) in
      sym (take-take (n - 1) n (put_mid at k xs ys) (omega arith))
      ∙ ap (take (n - 1)) (take-put_mid at k xs ys n (omega arith) (omega arith) ∙ ap (λ zs. take at xs ++ zs) is ∙ sym (append_assoc (take at xs) (drop 1 mid) (take 1 mid)))
      ∙ take_at (take at xs ++ drop 1 mid) (take 1 mid) (n - 1) others
      ∙ cc (take-take at n xs (omega arith), rest)

  -- the element behind the front goes in at the place
  pub turned_in : (x : X) (ys : List X) → at ≤ n → n < length xs → k ≡ n + 1 - at → let mid = mid_of at k (set xs n x) in ys ≡ drop (length mid - 1) mid ++ take (length mid - 1) mid → take (n + 1) (put_mid at k (set xs n x) ys) ≡ insert (take n xs) at x
  turned_in x ys le lt ek is =
      let front = take n xs in
      let new = set xs n x in
      let mid = mid_of at k new in
      let whole : length new ≡ length xs = length-set xs n x in
      let long : length front ≡ n = omega (arith, length-take n xs) in
      let parts : mid ≡ drop at front ++ x ∷ [] =
      ap (λ j. take j (drop at new)) ek ∙ sym (part new (n + 1) at (omega arith)) ∙ ap (drop at) (take_more_set xs n x lt) ∙ drop-append-le at front (x ∷ []) (omega arith) in
      let before : length (drop at front) ≡ length mid - 1 = omega (arith, ap length parts, length-append (drop at front) (x ∷ [])) in
      let last : drop (length mid - 1) mid ≡ x ∷ [] = ap (drop (length mid - 1)) parts ∙ drop_at (drop at front) (x ∷ []) _ before in
      let others : take (length mid - 1) mid ≡ drop at front = ap (take (length mid - 1)) parts ∙ take_at (drop at front) (x ∷ []) _ before in
      let turned : ys ≡ x ∷ drop at front = cc in
      take-put_mid at k new ys (n + 1) (omega (arith, ap length turned, length-drop at front)) (omega arith) ∙ cc (take-set-le at xs n x le, take-take at n xs le)
