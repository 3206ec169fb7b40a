-- Laws of what a pair accepts, and of a list with a part replaced.
use Rattle.std.proofs.Common.{◌≡◌, ℕ, zero, suc, ◌+◌, ◌-◌, ◌<◌, ◌≤◌, Bool, true, false, List, [], ◌∷◌, ◌++◌, length, get_or, take, drop, is_ok, Ok, Err, Result, Option, Some, None, MatchOption, sym, refl, ap, ◌∙◌, le_of_suc-le-suc, not-suc-le-zero, suc-add, zero-add, arith, length-append, length-drop, length-take}
use Rattle.std.specs.Slice.{IsItemAt}
use denote.Ref.{Bor}
use Rattle.std.proofs.lemmas.List.{length-take-le}
use Rattle.text.specs.declared.EditRefusal.{EditRefusal}
use Rattle.text.specs.declared.EditRefusal.TheVariants.{Range, Room}
use Rattle.text.specs.declared.MakeRefusal.{MakeRefusal}
use Rattle.text.specs.declared.MakeRefusal.TheVariants.{Buffer, Count}
use Rattle.text.specs.Meaning.{accepted, replaced}
use Rattle.text.specs.Refusals.{RangeExactly, RoomExactly, BufferExactly, CountExactly}

module _ {E : Type 0} (fits : ℕ → ℕ → E → Bool) where
  -- no at and beyond the end
  pub accepted_past : (xs : List E) (a b i : ℕ) → length xs ≤ i → accepted fits xs a b i ≡ false
  accepted_past [] a b i h = refl
  accepted_past (x ∷ xs) a b zero h = absurd (not-suc-le-zero h)
  accepted_past (x ∷ xs) a b (suc i) h = accepted_past xs a b i (le_of_suc-le-suc h)

  -- within the text it is the element's own answer
  pub accepted_in : (xs : List E) (a b i : ℕ) (d : E) → i < length xs → accepted fits xs a b i ≡ fits a b (get_or xs i d)
  accepted_in [] a b i d h = absurd (not-suc-le-zero h)
  accepted_in (x ∷ xs) a b zero d h = refl
  accepted_in (x ∷ xs) a b (suc i) d h = accepted_in xs a b i d (le_of_suc-le-suc h)

  -- an element's own answer, if there is one at the place, and else no
  pub accepted_at : (xs : List E) (a b i : ℕ) (o : Option (Bor E)) (r : Bool) {Q : Bor E → Type 0} → IsItemAt xs i o → MatchOption o (r ≡ false) Q → ((x : Bor E) → Q x → r ≡ fits a b x.now) → r ≡ accepted fits xs a b i
  accepted_at xs a b i None r at is own = is ∙ sym (accepted_past xs a b i at.3)
  accepted_at xs a b i (Some x) r at is own = own x is ∙ ap (fits a b) at.1 ∙ sym (accepted_in xs a b i x.now at.3.0)

  accepted_left : (xs ys : List E) (a b i : ℕ) → i < length xs → accepted fits (xs ++ ys) a b i ≡ accepted fits xs a b i
  accepted_left [] ys a b i h = absurd (not-suc-le-zero h)
  accepted_left (x ∷ xs) ys a b zero h = refl
  accepted_left (x ∷ xs) ys a b (suc i) h = accepted_left xs ys a b i (le_of_suc-le-suc h)

  accepted_right : (xs ys : List E) (a b j : ℕ) → accepted fits (xs ++ ys) a b (length xs + j) ≡ accepted fits ys a b j
  accepted_right [] ys a b j = rw (zero-add j)
  accepted_right (x ∷ xs) ys a b j = rw (suc-add (length xs) j) (accepted_right xs ys a b j)

  accepted_take : (n : ℕ) (xs : List E) (a b i : ℕ) → i < n → accepted fits (take n xs) a b i ≡ accepted fits xs a b i
  accepted_take zero xs a b i h = absurd (not-suc-le-zero h)
  accepted_take (suc n) [] a b i h = refl
  accepted_take (suc n) (x ∷ xs) a b zero h = refl
  accepted_take (suc n) (x ∷ xs) a b (suc i) h = accepted_take n xs a b i (le_of_suc-le-suc h)

  accepted_drop : (n : ℕ) (xs : List E) (a b j : ℕ) → accepted fits (drop n xs) a b j ≡ accepted fits xs a b (n + j)
  accepted_drop zero xs a b j = rw (zero-add j)
  accepted_drop (suc n) [] a b j = refl
  accepted_drop (suc n) (x ∷ xs) a b j = rw (suc-add n j) (accepted_drop n xs a b j)

  -- a change leaves what stands before it
  pub accepted_before : (xs : List E) (p k : ℕ) (ys : List E) (a b i : ℕ) → p ≤ length xs → i < p → accepted fits (replaced xs p k ys) a b i ≡ accepted fits xs a b i
  accepted_before xs p k ys a b i h l =
      let e : i < length (take p xs) = rw (length-take-le p xs h) l in
      accepted_left (take p xs) (ys ++ drop (p + k) xs) a b i e ∙ accepted_take p xs a b i l

  -- the items stand where the change was made
  pub accepted_inserted : (xs : List E) (p k : ℕ) (ys : List E) (a b j : ℕ) → p ≤ length xs → j < length ys → accepted fits (replaced xs p k ys) a b (p + j) ≡ accepted fits ys a b j
  accepted_inserted xs p k ys a b j h l =
      let e : length (take p xs) + j ≡ p + j = ap (λ n. n + j) (length-take-le p xs h) in
      sym (ap (accepted fits (replaced xs p k ys) a b) e)
      ∙ accepted_right (take p xs) (ys ++ drop (p + k) xs) a b j
      ∙ accepted_left ys (drop (p + k) xs) a b j l

  -- what stood behind the k elements stands behind the items
  pub accepted_moved : (xs : List E) (p k : ℕ) (ys : List E) (a b j : ℕ) → p ≤ length xs → accepted fits (replaced xs p k ys) a b (p + length ys + j) ≡ accepted fits xs a b (p + k + j)
  accepted_moved xs p k ys a b j h =
      let t = length-take-le p xs h in
      let e : length (take p xs) + (length ys + j) ≡ p + length ys + j = omega arith in
      sym (ap (accepted fits (replaced xs p k ys) a b) e)
      ∙ accepted_right (take p xs) (ys ++ drop (p + k) xs) a b (length ys + j)
      ∙ accepted_right ys (drop (p + k) xs) a b j
      ∙ accepted_drop (p + k) xs a b j

  -- the same by the new place
  pub accepted_after : (xs : List E) (p k : ℕ) (ys : List E) (a b i : ℕ) → p ≤ length xs → p + length ys ≤ i → accepted fits (replaced xs p k ys) a b i ≡ accepted fits xs a b (i - length ys + k)
  accepted_after xs p k ys a b i h l =
      let e : p + length ys + (i - (p + length ys)) ≡ i = omega arith in
      let f : p + k + (i - (p + length ys)) ≡ i - length ys + k = omega arith in
      sym (ap (accepted fits (replaced xs p k ys) a b) e)
      ∙ accepted_moved xs p k ys a b (i - (p + length ys)) h
      ∙ ap (accepted fits xs a b) f

-- a change takes k elements from the size, and adds the items
pub length_replaced : {E : Type 0} (xs : List E) (p k : ℕ) (ys : List E) → p + k ≤ length xs → length (replaced xs p k ys) ≡ length xs - k + length ys
length_replaced xs p k ys h = simp (length-append, length-take, length-drop) (omega arith)

-- a change that stays within the text and its capacity is made
pub edit_made : (r : Result (Unit {0}) EditRefusal) (n room p k m : ℕ) → RangeExactly r n p k → RoomExactly r n room p k m → p + k ≤ n → n - k + m ≤ room → is_ok r ≡ true
edit_made (Ok x) n room p k m h l in' fits = refl
edit_made (Err Range) n room p k m h l in' fits = absurd (omega (arith, h.0 refl))
edit_made (Err Room) n room p k m h l in' fits = absurd (omega (arith, (l.0 refl).1))

-- a change that is made stays within both
pub edit_fits : (r : Result (Unit {0}) EditRefusal) (n room p k m : ℕ) → RangeExactly r n p k → RoomExactly r n room p k m → is_ok r ≡ true → (p + k ≤ n) × (n - k + m ≤ room)
edit_fits (Ok x) n room p k m h l e =
    let in' : p + k ≤ n = grind (arith, h.1) in
    (in', grind (arith, l.1))
edit_fits (Err y) n room p k m h l e = absurd (cc)

-- a buffer and a count within the limits make a text
pub make_made : (r : Result (Unit {0}) MakeRefusal) (n count : ℕ) → BufferExactly r n → CountExactly r n count → n ≤ 65535 → count ≤ n → is_ok r ≡ true
make_made (Ok x) n count h l few fits = refl
make_made (Err Buffer) n count h l few fits = absurd (omega (arith, h.0 refl))
make_made (Err Count) n count h l few fits = absurd (omega (arith, (l.0 refl).1))
