-- The ring's entries as a table: a put is a put, a shift a shift, and the entries stay lawful.
use Rattle.std.proofs.Common.{◌≡◌, ℕ, zero, suc, ◌+◌, ◌-◌, ◌<◌, ◌≤◌, true, false, ◌&&◌, ltb, leb, ◌⊎◌, List, [], ◌∷◌, length, take, is_some, Some, None, Option, sym, refl, ap, ◌∙◌, subst, inl, inr, arith}
use Rattle.std.proofs.lemmas.Option.{none-some, same_Some, cond_some}
use Rattle.std.proofs.lemmas.Bool.{both_ways, cases_Bool, and_parts, and_from, ltb-true, leb-true, lt-ltb, le-ltb, le-leb, cond-true, cond-false}
use Rattle.std.proofs.lemmas.List.{take_all}
use Rattle.grammar.specs.declared.expr.Mode.{Mode}
use Rattle.memo.specs.declared.row.Row.{Row}
use Rattle.memo.specs.declared.entries.Entry.{Entry}
use Rattle.memo.specs.Tables.{Table, Within, Puts, Shifts}
use Rattle.memo.specs.Entries.{names, found, holds, lawful, without, entered, RoomyFor, put_in, rehomed, at_place, shifted}
use Rattle.memo.proofs.Ordered.{Lawful, lawful_is, lawful_made, names_is, names_same, found_first, found_next, found_behind, found_within, found_take, found_without, gone_without, same_key}

none_from : (a b : Option Row) → ((x : Row) → a ≡ Some x → b ≡ Some x) → b ≡ None → a ≡ None
none_from None b f h = refl
none_from (Some x) b f h = absurd (none-some x (sym h ∙ f x refl))

sub_without : (e : Entry) (es : List Entry) (r i : ℕ) (o : Mode) (x : Row) → found (without e es) r i o ≡ Some x → found es r i o ≡ Some x
sub_without e es r i o x h =
    elim (same_key r i o e.at.rule e.at.place e.at.mode) [
      | inl s ↦
          let none : found (without e es) r i o ≡ None = rw (s.0, s.1, s.2) (gone_without e es) in
          absurd (none-some x (sym none ∙ h))
      | inr d ↦ sym (found_without e es r i o d) ∙ h
    ]

lawful_take : (n : ℕ) (es : List Entry) → lawful es ≡ true → lawful (take n es) ≡ true
lawful_take zero es h = refl
lawful_take (suc n) [] h = refl
lawful_take (suc n) (e ∷ es) h =
    let l = lawful_is e es h in
    lawful_made e (take n es) (record {
      rule = l.rule;
      place = l.place;
      alone = none_from _ _ (λ x. found_take n es e.at.rule e.at.place e.at.mode x) l.alone;
      rest = lawful_take n es l.rest;
    })

lawful_without : (e : Entry) (es : List Entry) → lawful es ≡ true → lawful (without e es) ≡ true
lawful_without e [] h = refl
lawful_without e (f ∷ fs) h =
    let l = lawful_is f fs h in
    let rest = lawful_without e fs l.rest in
    elim (cases_Bool (names f e.at.rule e.at.place e.at.mode)) [
      | inl t ↦ ap (λ (zs : List Entry). lawful zs) (cond-true _ _ _ t) ∙ rest
      | inr n ↦ ap (λ (zs : List Entry). lawful zs) (cond-false _ _ _ n)
          ∙ lawful_made f (without e fs) (record {
            rule = l.rule;
            place = l.place;
            alone = none_from _ _ (λ x. sub_without e fs f.at.rule f.at.place f.at.mode x) l.alone;
            rest = rest;
          })
    ]

lawful_entered : (e : Entry) (es : List Entry) → e.at.rule < 64 → e.at.place < 65536 → lawful es ≡ true → lawful (entered e es) ≡ true
lawful_entered e es h l law =
    lawful_made e (take 63 (without e es)) (record {
      rule = h;
      place = l;
      alone = none_from _ _ (λ x. found_take 63 (without e es) e.at.rule e.at.place e.at.mode x) (gone_without e es);
      rest = lawful_take 63 (without e es) (lawful_without e es law);
    })

pub found_bounds : (es : List Entry) → lawful es ≡ true → Within 65536 64 (found es)
found_bounds es law r i o out =
    none_from (found es r i o) None (λ x h. let w = found_within es r i o x law h in absurd (elim out [ inl a ↦ omega (arith, w.0) | inr b ↦ omega (arith, w.1) ])) refl

-- entering a row is a put
puts_entered : (es : List Entry) (r i : ℕ) (o : Mode) (x : Row) → r < 64 → i < 65536
    → Puts false 65536 64 (found es) r i o x (found (entered (record { at = record { rule = r; place = i; mode = o }; row = x }) es))
puts_entered es r i o x h l =
    let e : Entry = record { at = record { rule = r; place = i; mode = o }; row = x } in
    record {
      stands = λ _ _. found_first e (take 63 (without e es)) r i o (refl, refl, refl);
      others = λ r' i' o' y f. elim (same_key r' i' o' r i o) [
        | inl s ↦ inl s
        | inr d ↦
            let miss : names e r' i' o' ≡ false = elim (cases_Bool (names e r' i' o')) [
              | inl t ↦ let s = names_is e r' i' o' t in absurd (d (sym s.0, sym s.1, sym s.2))
              | inr n ↦ n
            ] in
            inr (sub_without e es r' i' o' y (found_take 63 (without e es) r' i' o' y (sym (found_next e (take 63 (without e es)) r' i' o' miss) ∙ f)))
      ];
      outside = λ out r' i' o'. absurd (elim out [ inl a ↦ omega arith | inr b ↦ omega arith ]);
      all = λ t r' i' o' d. absurd (both_ways false refl t);
    }

-- others go no further back than there were entries
length_without : (e : Entry) (es : List Entry) → length (without e es) ≤ length es
length_without e [] = omega arith
length_without e (f ∷ fs) =
    let rest = length_without e fs in
    elim (cases_Bool (names f e.at.rule e.at.place e.at.mode)) [
      | inl t ↦ subst (λ (zs : List Entry). length zs ≤ suc (length fs)) (sym (cond-true _ _ _ t)) (omega arith)
      | inr n ↦ subst (λ (zs : List Entry). length zs ≤ suc (length fs)) (sym (cond-false _ _ _ n)) (omega arith)
    ]

-- and one less where the key is held
length_held : (e : Entry) (es : List Entry) → holds es e ≡ true → length (without e es) < length es
length_held e [] h = absurd (both_ways false refl h)
length_held e (f ∷ fs) h =
    elim (cases_Bool (names f e.at.rule e.at.place e.at.mode)) [
      | inl t ↦
          let rest = length_without e fs in
          subst (λ (zs : List Entry). length zs < suc (length fs)) (sym (cond-true _ _ _ t)) (omega arith)
      | inr n ↦
          let rest = length_held e fs (sym (ap (λ (x : Option Row). is_some x) (found_next f fs e.at.rule e.at.place e.at.mode n)) ∙ h) in
          subst (λ (zs : List Entry). length zs < suc (length fs)) (sym (cond-false _ _ _ n)) (omega arith)
    ]

-- a put of a held key, or with room for one more, drops no other row
puts_kept : (es : List Entry) (r i : ℕ) (o : Mode) (x : Row) → r < 64 → i < 65536 → length es ≤ 64
    → RoomyFor es (record { at = record { rule = r; place = i; mode = o }; row = x })
    → Puts true 65536 64 (found es) r i o x (found (entered (record { at = record { rule = r; place = i; mode = o }; row = x }) es))
puts_kept es r i o x h l few room =
    let e : Entry = record { at = record { rule = r; place = i; mode = o }; row = x } in
    let some = puts_entered es r i o x h l in
    let rest = length_without e es in
    let short : length (without e es) ≤ 63 = elim room [ inl t ↦ omega (arith, length_held e es t) | inr n ↦ omega arith ] in
    record {
      stands = some.stands;
      others = some.others;
      outside = some.outside;
      all = λ _ r' i' o' d.
          let miss : names e r' i' o' ≡ false = elim (cases_Bool (names e r' i' o')) [
            | inl t ↦ let s = names_is e r' i' o' t in absurd (d (sym s.0, sym s.1, sym s.2))
            | inr n ↦ n
          ] in
          found_next e (take 63 (without e es)) r' i' o' miss
          ∙ ap (λ (zs : List Entry). found zs r' i' o') (take_all 63 (without e es) short)
          ∙ found_without e es r' i' o' d;
    }

-- the entries zs after a put
pub record Put (es zs : List Entry) (r i : ℕ) (o : Mode) (x : Row) : Type 0 where
  pub lawful : lawful zs ≡ true
  pub puts : Puts false 65536 64 (found es) r i o x (found zs)
  pub order : zs ≡ put_in r i o x es
  pub keeps : length es ≤ 64 → RoomyFor es (record { at = record { rule = r; place = i; mode = o }; row = x }) → Puts true 65536 64 (found es) r i o x (found zs)

pub ring_puts : (es zs : List Entry) (r i : ℕ) (o : Mode) (x : Row) → r < 64 → i < 65536 → lawful es ≡ true
    → zs ≡ entered (record { at = record { rule = r; place = i; mode = o }; row = x }) es → Put es zs r i o x
ring_puts es zs r i o x h l law is =
    let e : Entry = record { at = record { rule = r; place = i; mode = o }; row = x } in
    subst (λ (ys : List Entry). Put es ys r i o x) (sym is) (record {
      lawful = lawful_entered e es h l law;
      puts = puts_entered es r i o x h l;
      order = sym (cond-true _ _ _ (and_from _ _ (lt-ltb r 64 h) (lt-ltb i 65536 l)));
      keeps = λ few room. puts_kept es r i o x h l few room;
    })

-- what a memory that keeps does, one that need not may do
pub shifts_weak : (P p k m : ℕ) (T U : Table) → Shifts true P p k m T U → Shifts false P p k m T U
shifts_weak P p k m T U s = record { only = s.only; all = λ t r i o x may. absurd (both_ways false refl t) }

module _ (p k m : ℕ) where
  -- the two ways to a new place
  pub record Stays (j reach i : ℕ) : Type 0 where
    pub before : j < p
    pub untouched : j + reach ≤ p
    pub same : i ≡ j

  pub record Goes (j i : ℕ) : Type 0 where
    pub after : p + k ≤ j
    pub within : i < 65536
    pub to : i ≡ j - k + m

  ways : (j reach i : ℕ) → rehomed p k m j reach ≡ Some i → Stays j reach i ⊎ Goes j i
  ways j reach i h =
      elim (cases_Bool (ltb j p)) [
        | inl t ↦
            let s = cond_some (leb (j + reach) p) j i (sym (cond-true _ _ _ t) ∙ h) in
            inl (record { before = ltb-true j p t; untouched = leb-true (j + reach) p s.0; same = sym s.1 })
        | inr f ↦
            let s = cond_some (leb (p + k) j && ltb (j - k + m) 65536) (j - k + m) i (sym (cond-false _ _ _ f) ∙ h) in
            let both = and_parts (leb (p + k) j) (ltb (j - k + m) 65536) s.0 in
            inr (record { after = leb-true (p + k) j both.0; within = omega (arith, ltb-true (j - k + m) 65536 both.1, s.1); to = sym s.1 })
      ]

  -- two rows do not come to one place from two
  one_home : (j reach j' reach' i : ℕ) → rehomed p k m j reach ≡ Some i → rehomed p k m j' reach' ≡ Some i → j ≡ j'
  one_home j reach j' reach' i h h' =
      elim (ways j reach i h) [
        | inl a ↦ elim (ways j' reach' i h') [ inl b ↦ omega (arith, a.same, b.same) | inr b ↦ absurd (omega (arith, a.same, a.before, b.after, b.to)) ]
        | inr a ↦ elim (ways j' reach' i h') [
          | inl b ↦ absurd (omega (arith, b.same, b.before, a.after, a.to))
          | inr b ↦ omega (arith, a.after, a.to, b.after, b.to)
        ]
      ]

  -- a row held after a shift was held before it, where it came from
  abbrev Came : List Entry → ℕ → ℕ → Mode → Row → Type 0
  Came es r i o x = (j : ℕ) × (found es r j o ≡ Some x) × (rehomed p k m j x.reach ≡ Some i)

  came_behind : (e : Entry) (es : List Entry) (r i : ℕ) (o : Mode) (x : Row) → Lawful e es → Came es r i o x → Came (e ∷ es) r i o x
  came_behind e es r i o x l got = (got.0, found_behind e es r got.0 o x l got.1, got.2)

  came_first : (e : Entry) (es : List Entry) (to : Option ℕ) (r i : ℕ) (o : Mode) (x : Row) → Lawful e es → rehomed p k m e.at.place e.row.reach ≡ to
      → (found (shifted p k m es) r i o ≡ Some x → Came es r i o x) → found (at_place e to (shifted p k m es)) r i o ≡ Some x → Came (e ∷ es) r i o x
  came_first e es None r i o x l q rest h = came_behind e es r i o x l (rest h)
  came_first e es (Some t) r i o x l q rest h =
      let f : Entry = record { at = record { rule = e.at.rule; place = t; mode = e.at.mode }; row = e.row } in
      elim (cases_Bool (names f r i o)) [
        | inl u ↦
            let s = names_is f r i o u in
            let is : e.row ≡ x = same_Some e.row x (sym (cond-true _ _ _ u) ∙ h) in (
              e.at.place,
              found_first e es r e.at.place o (s.0, refl, s.2) ∙ ap Some is,
              ap (λ (z : Row). rehomed p k m e.at.place z.reach) (sym is) ∙ q ∙ ap Some s.1,
            )
        | inr u ↦ came_behind e es r i o x l (rest (sym (found_next f (shifted p k m es) r i o u) ∙ h))
      ]

  came : (es : List Entry) (r i : ℕ) (o : Mode) (x : Row) → lawful es ≡ true → found (shifted p k m es) r i o ≡ Some x → Came es r i o x
  came [] r i o x law h = absurd (none-some x h)
  came (e ∷ es) r i o x law h =
      let l = lawful_is e es law in
      came_first e es (rehomed p k m e.at.place e.row.reach) r i o x l refl (came es r i o x l.rest) h

  -- a row that may stay or move does
  home_before : (j reach : ℕ) → j < p → j + reach ≤ p → rehomed p k m j reach ≡ Some j
  home_before j reach h l = cond-true _ _ _ (lt-ltb j p h) ∙ cond-true _ _ _ (le-leb (j + reach) p l)

  home_after : (j reach i : ℕ) → p + k ≤ j → i + k ≡ j + m → i < 65536 → rehomed p k m j reach ≡ Some i
  home_after j reach i h e l =
      let is : j - k + m ≡ i = omega arith in
      cond-false _ _ _ (le-ltb j p (omega arith))
      ∙ cond-true _ _ _ (and_from _ _ (le-leb (p + k) j h) (lt-ltb (j - k + m) 65536 (omega arith)))
      ∙ ap Some is

  goes_first : (e : Entry) (es : List Entry) (to : Option ℕ) (r j i : ℕ) (o : Mode) (x : Row) → rehomed p k m e.at.place e.row.reach ≡ to
      → rehomed p k m j x.reach ≡ Some i → names e r j o ≡ false → found (shifted p k m es) r i o ≡ Some x
      → found (at_place e to (shifted p k m es)) r i o ≡ Some x
  goes_first e es None r j i o x q h f rest = rest
  goes_first e es (Some t) r j i o x q h f rest =
      let g : Entry = record { at = record { rule = e.at.rule; place = t; mode = e.at.mode }; row = e.row } in
      elim (cases_Bool (names g r i o)) [
        | inl u ↦
            let s = names_is g r i o u in
            let same : e.at.place ≡ j = one_home e.at.place e.row.reach j x.reach i (q ∙ ap Some s.1) h in
            absurd (both_ways _ f (names_same e r j o (s.0, same, s.2)))
        | inr u ↦ found_next g (shifted p k m es) r i o u ∙ rest
      ]

  goes : (es : List Entry) (r j i : ℕ) (o : Mode) (x : Row) → found es r j o ≡ Some x → rehomed p k m j x.reach ≡ Some i
      → found (shifted p k m es) r i o ≡ Some x
  goes [] r j i o x f h = absurd (none-some x f)
  goes (e ∷ es) r j i o x f h =
      elim (cases_Bool (names e r j o)) [
        | inl t ↦
            let s = names_is e r j o t in
            let is : e.row ≡ x = same_Some e.row x (sym (cond-true _ _ _ t) ∙ f) in
            let to : rehomed p k m e.at.place e.row.reach ≡ Some i =
            ap (λ (n : ℕ). rehomed p k m n e.row.reach) s.1 ∙ ap (λ (z : Row). rehomed p k m j z.reach) is ∙ h in
            ap (λ (w : Option ℕ). found (at_place e w (shifted p k m es)) r i o) to
            ∙ found_first (record { at = record { rule = e.at.rule; place = i; mode = e.at.mode }; row = e.row }) (shifted p k m es) r i o (s.0, refl, s.2)
            ∙ ap Some is
        | inr n ↦ goes_first e es (rehomed p k m e.at.place e.row.reach) r j i o x refl h n (goes es r j i o x (sym (found_next e es r j o n) ∙ f) h)
      ]

  -- the entries' shift is a shift that drops only what it must
  shifts_entries : (es : List Entry) → lawful es ≡ true → Shifts true 65536 p k m (found es) (found (shifted p k m es))
  shifts_entries es law =
      record {
        only = λ r i o x h.
            let got = came es r i o x law h in
            let j = got.0 in
            elim (ways j x.reach i got.2) [
              | inl a ↦ inl (record {
                before = omega (arith, a.same, a.before);
                untouched = omega (arith, a.same, a.untouched);
                held = ap (λ (n : ℕ). found es r n o) a.same ∙ got.1;
              })
              | inr a ↦ inr (record { from = j; after = a.after; along = omega (arith, a.after, a.to); within = a.within; held = got.1 })
            ];
        all = λ _ r i o x may. elim may [
          | inl y ↦ goes es r i i o x y.held (home_before i x.reach y.before y.untouched)
          | inr y ↦ goes es r y.from i o x y.held (home_after y.from x.reach i y.after y.along y.within)
        ];
      }

  lawful_at : (e : Entry) (es : List Entry) (to : Option ℕ) → Lawful e es → rehomed p k m e.at.place e.row.reach ≡ to → lawful (shifted p k m es) ≡ true
      → lawful (at_place e to (shifted p k m es)) ≡ true
  lawful_at e es None l q rest = rest
  lawful_at e es (Some i) l q rest =
      let low : i < 65536 = elim (ways e.at.place e.row.reach i q) [ inl a ↦ omega (arith, a.same, l.place) | inr a ↦ a.within ] in
      lawful_made (record { at = record { rule = e.at.rule; place = i; mode = e.at.mode }; row = e.row }) (shifted p k m es) (record {
        rule = l.rule;
        place = low;
        alone = none_from (found (shifted p k m es) e.at.rule i e.at.mode) None (λ x h.
            let got = came es e.at.rule i e.at.mode x l.rest h in
            let same : got.0 ≡ e.at.place = one_home got.0 x.reach e.at.place e.row.reach i got.2 q in
            absurd (none-some x (sym l.alone ∙ ap (λ (n : ℕ). found es e.at.rule n e.at.mode) (sym same) ∙ got.1))) refl;
        rest = rest;
      })

  lawful_shifted : (es : List Entry) → lawful es ≡ true → lawful (shifted p k m es) ≡ true
  lawful_shifted [] law = refl
  lawful_shifted (e ∷ es) law =
      let l = lawful_is e es law in
      lawful_at e es (rehomed p k m e.at.place e.row.reach) l refl (lawful_shifted es l.rest)

-- the entries zs after a shift
pub record Shift (p k m : ℕ) (es zs : List Entry) : Type 0 where
  pub lawful : lawful zs ≡ true
  pub shifts : Shifts false 65536 p k m (found es) (found zs)
  pub order : zs ≡ shifted p k m es
  pub keeps : Shifts true 65536 p k m (found es) (found zs)

pub ring_shifts : (p k m : ℕ) (es zs : List Entry) → lawful es ≡ true → zs ≡ shifted p k m es → Shift p k m es zs
ring_shifts p k m es zs law is =
    let all = shifts_entries p k m es law in
    subst (λ (ys : List Entry). Shift p k m es ys) (sym is) (record {
      lawful = lawful_shifted p k m es law;
      shifts = shifts_weak 65536 p k m (found es) (found (shifted p k m es)) all;
      order = refl;
      keeps = all;
    })
