-- Lists: members, and how many can be apart.
use Rattle.std.proofs.Common.{◌≡◌, suc, ◌≤◌, ◌⊎◌, List, [], ◌∷◌, ◌++◌, map, length, sym, refl, ap, ◌∙◌, subst, inl, inr, arith}
use Rattle.peg.specs.Members.{In, Distinct}

module _ {A : Type 0} where
  pub in_append : (z : A) (xs ys : List A) → In z (xs ++ ys) → In z xs ⊎ In z ys
  in_append z [] ys h = inr h
  in_append z (x ∷ xs) ys (inl e) = inl (inl e)
  in_append z (x ∷ xs) ys (inr h) = elim (in_append z xs ys h) [ inl p ↦ inl (inr p) | inr p ↦ inr p ]

  pub in_left : (z : A) (xs ys : List A) → In z xs → In z (xs ++ ys)
  in_left z [] ys h = elim h [ ]
  in_left z (x ∷ xs) ys (inl e) = inl e
  in_left z (x ∷ xs) ys (inr h) = inr (in_left z xs ys h)

  pub in_right : (z : A) (xs ys : List A) → In z ys → In z (xs ++ ys)
  in_right z [] ys h = h
  in_right z (x ∷ xs) ys h = inr (in_right z xs ys h)

  -- the list without one of its members
  pub without : (c : A) (xs : List A) → In c xs → List A
  without c [] h = []
  without c (y ∷ ys) (inl e) = ys
  without c (y ∷ ys) (inr h) = y ∷ without c ys h

  pub length_without : (c : A) (xs : List A) (h : In c xs) → suc (length (without c xs h)) ≡ length xs
  unfolding without
  length_without c [] h = absurd h
  length_without c (y ∷ ys) (inl e) = refl
  length_without c (y ∷ ys) (inr h) = ap suc (length_without c ys h)

  pub in_without : (c d : A) (xs : List A) (h : In c xs) → ¬ (d ≡ c) → In d xs → In d (without c xs h)
  unfolding without
  in_without c d [] h q k = absurd h
  in_without c d (y ∷ ys) (inl e) q (inl f) = absurd (q (f ∙ sym e))
  in_without c d (y ∷ ys) (inl e) q (inr k) = k
  in_without c d (y ∷ ys) (inr h) q (inl f) = inl f
  in_without c d (y ∷ ys) (inr h) q (inr k) = inr (in_without c d ys h q k)

  -- distinct members of a list are no more than it is long
  pub no_more : (xs us : List A) → Distinct xs → ((z : A) → In z xs → In z us) → length xs ≤ length us
  no_more [] us d f = omega arith
  no_more (x ∷ xs) us d f =
      let q = f x (inl refl) in
      let h = no_more xs (without x us q) d.1 (λ z p. in_without x z us q (λ e. d.0 (subst (λ y. In y xs) e p)) (f z (inr p))) in
      omega (arith, length_without x us q)

pub in_map : {A B : Type 0} (f : A → B) (z : B) (xs : List A) → In z (map f xs) → (y : A) × In y xs × (z ≡ f y)
in_map f z [] h = elim h [ ]
in_map f z (x ∷ xs) (inl e) = (x, inl refl, e)
in_map f z (x ∷ xs) (inr h) = let q = in_map f z xs h in (q.0, inr q.1, q.2)

pub map_in : {A B : Type 0} (f : A → B) (y : A) (xs : List A) → In y xs → In (f y) (map f xs)
map_in f y [] h = elim h [ ]
map_in f y (x ∷ xs) (inl e) = inl (ap f e)
map_in f y (x ∷ xs) (inr h) = inr (map_in f y xs h)
