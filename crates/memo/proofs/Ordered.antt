-- Entries in the order put: finding one, entering one, shifting them all.
use Rattle.std.proofs.Common.{◌≡◌, ℕ, zero, suc, ◌+◌, ◌<◌, ◌≤◌, Bool, true, false, cond, not, ◌&&◌, eqb, ltb, ◌⊎◌, List, [], ◌∷◌, ◌++◌, length, take, drop, is_some, Some, None, Option, sym, refl, ap, ◌∙◌, subst, inl, inr, arith}
use Rattle.std.proofs.lemmas.Option.{none-some, same_Some}
use Rattle.std.proofs.lemmas.Bool.{both_ways, cases_Bool, and_parts, and_from, not-true, ltb-true, eqb-true, eq-eqb, lt-ltb, cond-true, cond-false}
use Rattle.std.proofs.lemmas.List.{take_all, length-append, length-take, length-drop}
use Rattle.std.specs.List.{find, position_from}
use Rattle.std.specs.Option.{option_map}
use Rattle.std.specs.List.Retain.{RetainsInTurn}
use denote.Enum.Bare.{sameb}
use Rattle.grammar.specs.contracts.expr.Mode.{the_type}
use Rattle.grammar.specs.declared.expr.Mode.{Mode}
use Rattle.grammar.specs.declared.expr.Mode.TheVariants.{On, Off}
use Rattle.peg.specs.declared.results.RulePlace.{RulePlace}
use Rattle.memo.specs.declared.row.Row.{Row}
use Rattle.memo.specs.declared.entries.Entry.{Entry}
use Rattle.memo.specs.Tables.{Same}
use Rattle.memo.specs.Entries.{same_mode, names, found, holds, lawful, without, entered, rehomed, at_place, shifted}

same_mode_is : (a b : Mode) → same_mode a b ≡ true → a ≡ b
same_mode_is On On e = refl
same_mode_is Off Off e = refl
same_mode_is On Off e = absurd (both_ways false refl e)
same_mode_is Off On e = absurd (both_ways false refl e)

-- `==` on modes, and on rule-places
same_mode_eq : (a b : Mode) → sameb the_type a b ≡ same_mode a b
same_mode_eq On On = refl
same_mode_eq On Off = refl
same_mode_eq Off On = refl
same_mode_eq Off Off = refl

abbrev pub of_rule_place : Entry → RulePlace → Bool
of_rule_place e a = eqb e.at.rule a.rule && (eqb e.at.place a.place && sameb the_type e.at.mode a.mode)

names_eq : (e : Entry) (a : RulePlace) → of_rule_place e a ≡ names e a.rule a.place a.mode
names_eq e a = ap (λ (b : Bool). eqb e.at.rule a.rule && (eqb e.at.place a.place && b)) (same_mode_eq e.at.mode a.mode)

-- the row of the first entry that `find` gives
pub found_find : (es : List Entry) (a : RulePlace) → option_map (λ (e : Entry). e.row) (find (λ e. of_rule_place e a) es) ≡ found es a.rule a.place a.mode
found_find [] a = refl
found_find (e ∷ es) a =
    elim (cases_Bool (of_rule_place e a)) [
      | inl t ↦ ap (λ (x : Option Entry). option_map (λ (e : Entry). e.row) x) (cond-true _ _ _ t) ∙ sym (cond-true _ _ _ (sym (names_eq e a) ∙ t))
      | inr f ↦ ap (λ (x : Option Entry). option_map (λ (e : Entry). e.row) x) (cond-false _ _ _ f) ∙ found_find es a ∙ sym (cond-false _ _ _ (sym (names_eq e a) ∙ f))
    ]

same_mode_self : (a : Mode) → same_mode a a ≡ true
same_mode_self On = refl
same_mode_self Off = refl

-- keys are equal or not
same_is : (r i : ℕ) (o : Mode) (r' i' : ℕ) (o' : Mode) → (eqb r r' && (eqb i i' && same_mode o o')) ≡ true → Same r i o r' i' o'
same_is r i o r' i' o' t =
    let a = and_parts (eqb r r') (eqb i i' && same_mode o o') t in
    let b = and_parts (eqb i i') (same_mode o o') a.1 in
    (eqb-true r r' a.0, eqb-true i i' b.0, same_mode_is o o' b.1)

is_same : (r i : ℕ) (o : Mode) (r' i' : ℕ) (o' : Mode) → Same r i o r' i' o' → (eqb r r' && (eqb i i' && same_mode o o')) ≡ true
is_same r i o r' i' o' s = and_from _ _ (eq-eqb r r' s.0) (and_from _ _ (eq-eqb i i' s.1) (rw s.2 (same_mode_self o')))

pub same_key : (r i : ℕ) (o : Mode) (r' i' : ℕ) (o' : Mode) → Same r i o r' i' o' ⊎ (Same r i o r' i' o' → ⊥)
same_key r i o r' i' o' =
    elim (cases_Bool (eqb r r' && (eqb i i' && same_mode o o'))) [
      | inl t ↦ inl (same_is r i o r' i' o' t)
      | inr f ↦ inr (λ s. both_ways _ f (is_same r i o r' i' o' s))
    ]

pub names_is : (e : Entry) (r i : ℕ) (o : Mode) → names e r i o ≡ true → Same e.at.rule e.at.place e.at.mode r i o
names_is e = same_is e.at.rule e.at.place e.at.mode

pub names_same : (e : Entry) (r i : ℕ) (o : Mode) → Same e.at.rule e.at.place e.at.mode r i o → names e r i o ≡ true
names_same e = is_same e.at.rule e.at.place e.at.mode

pub none_of : {A : Type 0} (x : Option A) → is_some x ≡ false → x ≡ None
none_of None e = refl
none_of (Some y) e = absurd (both_ways true e refl)

-- what a lawful list says of its first entry
pub record Lawful (e : Entry) (es : List Entry) : Type 0 where
  pub rule : e.at.rule < 64
  pub place : e.at.place < 65536
  pub alone : found es e.at.rule e.at.place e.at.mode ≡ None
  pub rest : lawful es ≡ true

pub lawful_is : (e : Entry) (es : List Entry) → lawful (e ∷ es) ≡ true → Lawful e es
lawful_is e es t =
    let a = and_parts (ltb e.at.rule 64 && ltb e.at.place 65536) (not (holds es e) && lawful es) t in
    let b = and_parts (ltb e.at.rule 64) (ltb e.at.place 65536) a.0 in
    let c = and_parts (not (holds es e)) (lawful es) a.1 in
    record {
      rule = ltb-true e.at.rule 64 b.0;
      place = ltb-true e.at.place 65536 b.1;
      alone = none_of (found es e.at.rule e.at.place e.at.mode) (not-true (holds es e) c.0);
      rest = c.1;
    }

pub lawful_made : (e : Entry) (es : List Entry) → Lawful e es → lawful (e ∷ es) ≡ true
lawful_made e es l =
    let gone : not (holds es e) ≡ true = rw l.alone in
    and_from _ _ (and_from _ _ (lt-ltb e.at.rule 64 l.rule) (lt-ltb e.at.place 65536 l.place)) (and_from _ _ gone l.rest)

-- what an entry's first says of a key
pub found_first : (e : Entry) (es : List Entry) (r i : ℕ) (o : Mode) → Same e.at.rule e.at.place e.at.mode r i o → found (e ∷ es) r i o ≡ Some e.row
found_first e es r i o s = cond-true _ _ _ (names_same e r i o s)

pub found_next : (e : Entry) (es : List Entry) (r i : ℕ) (o : Mode) → names e r i o ≡ false → found (e ∷ es) r i o ≡ found es r i o
found_next e es r i o f = cond-false _ _ _ f

-- a row held behind a lawful first entry is held
pub found_behind : (e : Entry) (es : List Entry) (r i : ℕ) (o : Mode) (x : Row) → Lawful e es → found es r i o ≡ Some x → found (e ∷ es) r i o ≡ Some x
found_behind e es r i o x l h =
    elim (cases_Bool (names e r i o)) [
      | inl t ↦
          let s = names_is e r i o t in
          let none : found es r i o ≡ None = rw (sym s.0, sym s.1, sym s.2) l.alone in
          absurd (none-some x (sym none ∙ h))
      | inr f ↦ found_next e es r i o f ∙ h
    ]

-- rows lie within 64 rules and 65,536 places
pub found_within : (es : List Entry) (r i : ℕ) (o : Mode) (x : Row) → lawful es ≡ true → found es r i o ≡ Some x → (r < 64) × (i < 65536)
found_within [] r i o x l h = absurd (none-some x h)
found_within (e ∷ es) r i o x l h =
    let law = lawful_is e es l in
    elim (cases_Bool (names e r i o)) [
      | inl t ↦ let s = names_is e r i o t in (omega (arith, s.0, law.rule), omega (arith, s.1, law.place))
      | inr f ↦ found_within es r i o x law.rest (sym (found_next e es r i o f) ∙ h)
    ]

-- what is found in a front is found
pub found_take : (n : ℕ) (es : List Entry) (r i : ℕ) (o : Mode) (x : Row) → found (take n es) r i o ≡ Some x → found es r i o ≡ Some x
found_take zero es r i o x h = absurd (none-some x h)
found_take (suc n) [] r i o x h = h
found_take (suc n) (e ∷ es) r i o x h =
    elim (cases_Bool (names e r i o)) [
      | inl t ↦ cond-true _ _ _ t ∙ sym (cond-true _ _ _ t) ∙ h
      | inr f ↦ found_next e es r i o f ∙ found_take n es r i o x (sym (found_next e (take n es) r i o f) ∙ h)
    ]

module _ (e : Entry) where
  pub gone_without : (es : List Entry) → found (without e es) e.at.rule e.at.place e.at.mode ≡ None
  gone_without [] = refl
  gone_without (f ∷ fs) =
      elim (cases_Bool (names f e.at.rule e.at.place e.at.mode)) [
        | inl t ↦ ap (λ (zs : List Entry). found zs e.at.rule e.at.place e.at.mode) (cond-true _ _ _ t) ∙ gone_without fs
        | inr n ↦ ap (λ (zs : List Entry). found zs e.at.rule e.at.place e.at.mode) (cond-false _ _ _ n) ∙ found_next f (without e fs) _ _ _ n ∙ gone_without fs
      ]

  pub found_without : (es : List Entry) (r i : ℕ) (o : Mode) → (Same r i o e.at.rule e.at.place e.at.mode → ⊥) → found (without e es) r i o ≡ found es r i o
  found_without [] r i o h = refl
  found_without (f ∷ fs) r i o h =
      elim (cases_Bool (names f e.at.rule e.at.place e.at.mode)) [
        | inl t ↦ elim (cases_Bool (names f r i o)) [
          | inl u ↦
              let a = names_is f e.at.rule e.at.place e.at.mode t in
              let b = names_is f r i o u in
              absurd (h (sym b.0 ∙ a.0, sym b.1 ∙ a.1, sym b.2 ∙ a.2))
          | inr u ↦ ap (λ (zs : List Entry). found zs r i o) (cond-true _ _ _ t) ∙ found_without fs r i o h ∙ sym (found_next f fs r i o u)
        ]
        | inr n ↦ ap (λ (zs : List Entry). found zs r i o) (cond-false _ _ _ n)
            ∙ ap (λ (y : Option Row). cond (names f r i o) (Some f.row) y) (found_without fs r i o h)
      ]

-- the place of the first entry of a rule-place, as `position` counts from k
abbrev pub place_from : ℕ → RulePlace → List Entry → Option ℕ
place_from k a es = position_from (λ e. of_rule_place e a) k es

module _ (e : Entry) where
  -- where the entry's rule-place has no row, all are others
  pub without_none : (es : List Entry) → found es e.at.rule e.at.place e.at.mode ≡ None → without e es ≡ es
  without_none [] h = refl
  without_none (x ∷ xs) h =
      elim (cases_Bool (names x e.at.rule e.at.place e.at.mode)) [
        | inl t ↦ absurd (none-some x.row (sym h ∙ cond-true _ _ _ t))
        | inr f ↦ cond-false _ _ _ f ∙ ap (λ (zs : List Entry). x ∷ zs) (without_none xs (sym (found_next x xs _ _ _ f) ∙ h))
      ]

  -- a rule-place that `position` does not find has no row
  nowhere : (k : ℕ) (es : List Entry) → place_from k e.at es ≡ None → found es e.at.rule e.at.place e.at.mode ≡ None
  nowhere k [] h = refl
  nowhere k (x ∷ xs) h =
      elim (cases_Bool (of_rule_place x e.at)) [
        | inl t ↦ absurd (none-some k (sym h ∙ cond-true _ _ _ t))
        | inr f ↦ found_next x xs _ _ _ (sym (names_eq x e.at) ∙ f) ∙ nowhere (k + 1) xs (sym (cond-false _ _ _ f) ∙ h)
      ]

  -- those before and behind the entry at i are all others
  record Beside (es : List Entry) (i : ℕ) : Type 0 where
    pub low : i < length es
    pub others : without e es ≡ take i es ++ drop (suc i) es

  others_at : (k j : ℕ) (es : List Entry) → lawful es ≡ true → place_from k e.at es ≡ Some j → (i : ℕ) × (j ≡ k + i) × Beside es i
  others_at k j [] law h = absurd (none-some j h)
  others_at k j (x ∷ xs) law h =
      let l = lawful_is x xs law in
      elim (cases_Bool (of_rule_place x e.at)) [
        | inl t ↦
            let named : names x e.at.rule e.at.place e.at.mode ≡ true = sym (names_eq x e.at) ∙ t in
            let s = names_is x e.at.rule e.at.place e.at.mode named in
            let alone : found xs e.at.rule e.at.place e.at.mode ≡ None = rw (sym s.0, sym s.1, sym s.2) l.alone in
            let is : k ≡ j = same_Some k j (sym (cond-true _ _ _ t) ∙ h) in
            (0, omega arith, record { low = omega arith; others = cond-true _ _ _ named ∙ without_none xs alone })
        | inr f ↦
            let rest = others_at (k + 1) j xs l.rest (sym (cond-false _ _ _ f) ∙ h) in (
              suc rest.0,
              omega (arith, rest.1),
              record {
                low = omega (arith, rest.2.low);
                others = cond-false _ _ _ (sym (names_eq x e.at) ∙ f) ∙ ap (λ (zs : List Entry). x ∷ zs) rest.2.others;
              },
            )
      ]

  -- a put in the place of the entry at i, with those before it one back
  pub entered_at : (es zs : List Entry) (i : ℕ) → lawful es ≡ true → length es ≤ 64 → place_from 0 e.at es ≡ Some i
      → zs ≡ e ∷ (take i es ++ drop (i + 1) es) → (zs ≡ entered e es) × (length zs ≡ length es)
  entered_at es zs i law few h is =
      let got = others_at 0 i es law h in
      let same : got.0 ≡ i = omega (arith, got.1) in
      let beside = subst (λ (j : ℕ). Beside es j) same got.2 in
      let rest = take i es ++ drop (i + 1) es in
      let next : suc i ≡ i + 1 = omega arith in
      let others : without e es ≡ rest = beside.others ∙ ap (λ (n : ℕ). take i es ++ drop n es) next in
      let long : suc (length rest) ≡ length es = simp (length-append, length-take, length-drop) (omega (arith, beside.low)) in (
        is ∙ ap (λ (zs : List Entry). e ∷ zs) (sym (ap (λ (ys : List Entry). take 63 ys) others ∙ take_all 63 rest (omega arith))),
        ap (λ (ys : List Entry). length ys) is ∙ long,
      )

  -- and one in front of all others, without the one put longest ago
  pub entered_new : (es zs : List Entry) → place_from 0 e.at es ≡ None → zs ≡ e ∷ take 63 es → zs ≡ entered e es
  entered_new es zs h is = is ∙ ap (λ (ys : List Entry). e ∷ take 63 ys) (sym (without_none es (nowhere 0 es h)))

-- and from entries before and after a point each by themselves
pub without-++ : (e : Entry) (xs ys : List Entry) → without e (xs ++ ys) ≡ without e xs ++ without e ys
without-++ e [] ys = refl
without-++ e (x ∷ xs) ys =
    elim (cases_Bool (names x e.at.rule e.at.place e.at.mode)) [
      | inl t ↦ rw (t) (without-++ e xs ys)
      | inr f ↦ rw (f) (ap (λ (zs : List Entry). x ∷ zs) (without-++ e xs ys))
    ]

-- what `retain` leaves of entries that move
kept_first : (b : Bool) (y : Entry) (zs : List Entry) → cond b (y ∷ zs) zs ≡ cond b (y ∷ []) [] ++ zs
kept_first true y zs = refl
kept_first false y zs = refl

module _ (p k m : ℕ) where
  at_place-++ : (e : Entry) (o : Option ℕ) (xs ys : List Entry) → at_place e o (xs ++ ys) ≡ at_place e o xs ++ ys
  at_place-++ e None xs ys = refl
  at_place-++ e (Some i) xs ys = refl

  -- entries before and after a point shift each by themselves
  shifted-++ : (xs ys : List Entry) → shifted p k m (xs ++ ys) ≡ shifted p k m xs ++ shifted p k m ys
  shifted-++ [] ys = refl
  shifted-++ (x ∷ xs) ys =
      let to = rehomed p k m x.at.place x.row.reach in
      ap (λ (zs : List Entry). at_place x to zs) (shifted-++ xs ys) ∙ at_place-++ x to (shifted p k m xs) (shifted p k m ys)

pub shifted_retained : {F : Type 0} (R : F → Entry → Bool → F → Entry → Type 0) (f : F) (p k m : ℕ)
    → ((x : Entry) (b : Bool) (f' : F) (y : Entry) → R f x b f' y → (cond b (y ∷ []) [] ≡ at_place x (rehomed p k m x.at.place x.row.reach) []) × (f' ≡ f))
    → (xs ys : List Entry) → RetainsInTurn R f xs ys → ys ≡ shifted p k m xs
shifted_retained R f p k m says [] ys h = h
shifted_retained R f p k m says (x ∷ xs) ys h =
    let said = says x h.0 h.1 h.2 h.3 in
    let to = rehomed p k m x.at.place x.row.reach in
    let rest = shifted_retained R f p k m says xs h.4 (subst (λ g. RetainsInTurn R g xs h.4) said.1 h.5) in
    h.6 ∙ kept_first h.0 h.2 h.4 ∙ ap (λ (zs : List Entry). zs ++ h.4) said.0 ∙ sym (at_place-++ p k m x to [] h.4) ∙ ap (λ (zs : List Entry). at_place x to zs) rest
