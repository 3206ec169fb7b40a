-- What the tail's move and the items' copy make of a row of places.
use Rattle.std.proofs.Common.{◌≡◌, ℕ, ◌+◌, ◌-◌, ◌≤◌, List, ◌++◌, length, take, drop, sym, ap, ◌∙◌, arith}
use lib.Seq.{paste}
use borrow.Rule.Slice.PartMut.{put_mid}
use Rattle.std.proofs.lemmas.List.{append_assoc, length-take-le, take-take, take-append-le, drop-take, drop_at, drop-drop}
use Rattle.text.specs.Meaning.{replaced}

module _ {E : Type 0} (xs : List E) (n p k : ℕ) (ys : List E) (used : n ≤ length xs) (range : p + k ≤ n) (room : n - k + length ys ≤ length xs) where
  -- the row once the tail has moved
  abbrev moved : List E
  moved = paste xs (p + length ys) (drop (p + k) xs) (n - (p + k))

  long : length (take (p + length ys) xs) ≡ p + length ys
  long = length-take-le (p + length ys) xs (omega arith)

  -- before p nothing has moved
  front : take p moved ≡ take p xs
  front =
      let h : p ≤ length (take (p + length ys) xs) = omega (arith, long) in
      rw (append_assoc, take-append-le) (take-take p (p + length ys) xs (omega arith))

  -- from the items' end on stands the tail, and then what stood there before
  back : drop (p + length ys) moved ≡ take (n - (p + k)) (drop (p + k) xs) ++ drop (n - k + length ys) xs
  back =
      let e : p + length ys + (n - (p + k)) ≡ n - k + length ys = omega arith in
      rw (append_assoc, e) (drop_at (take (p + length ys) xs) _ (p + length ys) long)

  -- the tail is what the text has from p + k on
  tail : take (n - (p + k)) (drop (p + k) xs) ≡ drop (p + k) (take n xs)
  tail =
      let e : p + k + (n - (p + k)) ≡ n = omega arith in
      sym (drop-take (p + k) (n - (p + k)) xs) ∙ ap (λ i. drop (p + k) (take i xs)) e

  -- with the items put in, the row is the changed text and then what stood there before
  pub spliced : put_mid p ((p + length ys) - p) moved ys ≡ replaced (take n xs) p k ys ++ drop (n - k + length ys) xs
  spliced =
      let e : (p + length ys) - p ≡ length ys = omega arith in
      let h : p ≤ n = omega arith in
      rw (e, drop-drop, front, back, tail, take-take p n xs h) (simp append_assoc)
