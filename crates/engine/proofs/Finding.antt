-- What a row found comes to: the test is the definition.
use Rattle.std.proofs.Common.{◌≡◌, ℕ, ◌+◌, ◌<◌, ◌≤◌, Bool, true, false, cond, not, ◌&&◌, ◌||◌, leb, ◌⊎◌, Some, None, Ok, Err, Option, sym, refl, ap, ◌∙◌, subst, inl, inr, arith}
use Rattle.std.proofs.lemmas.Bool.{and_parts, and_from, leb-true, le-leb, both_ways, cases_Bool, eqb-true, eq-eqb}
use Rattle.grammar.specs.declared.expr.Mode.{Mode}
use Rattle.grammar.specs.Marks.{NullableRule}
use Rattle.grammar.specs.Questions.{Tells}
use Rattle.peg.specs.declared.results.Outcome.{Outcome}
use Rattle.peg.specs.declared.results.Outcome.TheVariants.{Match, Failure}
use Rattle.peg.specs.declared.results.Note.{Note}
use Rattle.peg.specs.declared.results.Reading.{Reading}
use Rattle.memo.specs.declared.row.Row.{Row}
use Rattle.memo.specs.Rows.{told_from}
use Rattle.reading.specs.declared.refusal.Refusal.TheVariants.{Unfit, TooDeep}
use Rattle.grammar.specs.Words.{Peg}
use Rattle.reading.specs.Reads.{Setting, Store, rule, OutcomeWithin, NoteWithin, Fits, Reads}
use Rattle.engine.specs.Finding.{outcome_fits, note_fits_lem, places_fit_lem, is_nothing_lem, Found, unfit, too_deep, stands}
use Rattle.engine.specs.Machine.{Ahead}

outcome_so : (n L : ℕ) (o : Outcome) → outcome_fits n L o ≡ true → OutcomeWithin n L o
outcome_so n L (Match j) t = leb-true j n t
outcome_so n L (Failure l p) t = let h = and_parts (leb l L) (leb p n) t in (leb-true l L h.0, leb-true p n h.1)

so_outcome : (n L : ℕ) (o : Outcome) → OutcomeWithin n L o → outcome_fits n L o ≡ true
so_outcome n L (Match j) h = le-leb j n h
so_outcome n L (Failure l p) h = and_from _ _ (le-leb l L h.0) (le-leb p n h.1)

note_so : (n : ℕ) (x : Option Note) → note_fits_lem n x ≡ true → NoteWithin n x
note_so n None t = tt
note_so n (Some x) t = leb-true x.place n t

so_note : (n : ℕ) (x : Option Note) → NoteWithin n x → note_fits_lem n x ≡ true
so_note n None h = refl
so_note n (Some x) h = le-leb x.place n h

nothing_so : (i : ℕ) (o : Outcome) → o ≡ Match i → is_nothing_lem i o ≡ true
nothing_so i o p = ap (is_nothing_lem i) p ∙ eq-eqb i i refl

so_nothing : (i : ℕ) (o : Outcome) → is_nothing_lem i o ≡ true → o ≡ Match i
so_nothing i (Match j) t = ap Match (eqb-true j i t)
so_nothing i (Failure l p) t = absurd (both_ways false refl t)

-- the test of a row found is question 9
pub fits_tells : (G : Setting) (k i : ℕ) (m : Mode) (v : Reading) (a b : Bool) → a ≡ places_fit_lem G.size G.grammar.L v → Tells b (NullableRule G.grammar m k)
    → (r : Bool) → r ≡ (a && (not (is_nothing_lem i v.outcome) || b)) → Tells r (Fits G k i m v)
fits_tells G k i m v a b p t r q = (so (cases_Bool (is_nothing_lem i v.outcome)), no)
  where
    n : ℕ
    n = G.size

    L : ℕ
    L = G.grammar.L

    built : places_fit_lem G.size G.grammar.L v ≡ true → (v.outcome ≡ Match i → NullableRule G.grammar m k) → Fits G k i m v
    built h none =
        let x = and_parts (outcome_fits G.size G.grammar.L v.outcome) _ h in
        let y = and_parts (note_fits_lem G.size v.note) _ x.1 in
        let z = and_parts (leb v.recoveries.place G.size && leb v.recoveries.label G.grammar.L) (leb v.reach (G.size + 1)) y.1 in
        let u = and_parts (leb v.recoveries.place G.size) (leb v.recoveries.label G.grammar.L) z.0 in
        record {
          outcome = outcome_so G.size G.grammar.L v.outcome x.0;
          note = note_so G.size v.note y.0;
          first = (leb-true _ _ u.0, leb-true _ _ u.1);
          reach = leb-true _ _ z.1;
          nothing = none;
        }

    so : (is_nothing_lem i v.outcome ≡ true) ⊎ (is_nothing_lem i v.outcome ≡ false) → r ≡ true → Fits G k i m v
    so (inl e) h =
        let x = and_parts a _ (sym q ∙ h) in
        let y : b ≡ true = sym (ap (λ (w : Bool). not w || b) e) ∙ x.1 in
        built (sym p ∙ x.0) (λ s. t.0 y)
    so (inr e) h =
        let x = and_parts a _ (sym q ∙ h) in
        built (sym p ∙ x.0) (λ s. absurd (both_ways (is_nothing_lem i v.outcome) e (nothing_so i v.outcome s)))

    all : Fits G k i m v → places_fit_lem G.size G.grammar.L v ≡ true
    all f =
        and_from _ _ (so_outcome G.size G.grammar.L v.outcome f.outcome)
        (and_from _ _ (so_note G.size v.note f.note)
        (and_from _ _ (and_from _ _ (le-leb _ _ f.first.0) (le-leb _ _ f.first.1)) (le-leb _ _ f.reach)))

    either : Fits G k i m v → (is_nothing_lem i v.outcome ≡ true) ⊎ (is_nothing_lem i v.outcome ≡ false) → (not (is_nothing_lem i v.outcome) || b) ≡ true
    either f (inl e) = elim (cases_Bool b) [
      | inl y ↦ ap (λ (w : Bool). not w || b) e ∙ y
      | inr y ↦ absurd (t.1 y (f.nothing (so_nothing i v.outcome e)))
    ]
    either f (inr e) = ap (λ (w : Bool). not w || b) e

    no : r ≡ false → Fits G k i m v → ⊥
    no h f = both_ways r h (q ∙ and_from _ _ (p ∙ all f) (either f (cases_Bool (is_nothing_lem i v.outcome))))

-- a row found is read as the rules of reading say
pub found_reads : (G : Setting) (T : Store) (h k i : ℕ) (m : Mode) (x : Row) (r : _) → T.rows k i m ≡ Some x → Found G h k i m x r → Reads G h T (rule k) i m r T
found_reads G T h k i m x r p (unfit f) = Reads.row_unfit p f
found_reads G T h k i m x r p (too_deep f d) = Reads.row_too_deep p f d
found_reads G T h k i m x r p (stands f d) = Reads.row_stands p f d

ahead_as : (i n L : ℕ) (b : Bool) (l d : ℕ) → OutcomeWithin n L (cond b (Match (i + d)) (Failure l (i + d))) → Ahead i n (cond b (Match (i + d)) (Failure l (i + d)))
ahead_as i n L true l d h = (omega arith, h)
ahead_as i n L false l d h = h.1

pub found_ahead : (G : Setting) (k i : ℕ) (m : Mode) (x : Row) → Fits G k i m (told_from x i) → Ahead i G.size (told_from x i).outcome
found_ahead G k i m x f = ahead_as i G.size G.grammar.L x.matched x.label x.end f.outcome

-- the same for a setting of this grammar and size
pub stand_tells : (G : Setting) (g : Peg) (n k i : ℕ) (m : Mode) (v : Reading) (a b c r : Bool) → G.grammar ≡ g → G.size ≡ n
    → a ≡ places_fit_lem n g.L v → c ≡ is_nothing_lem i v.outcome → Tells b (NullableRule g m k) → r ≡ (a && (not c || b)) → Tells r (Fits G k i m v)
stand_tells G g n k i m v a b c r p q s t u w =
    fits_tells G k i m v a b (s ∙ sym (ap (λ (x : ℕ). places_fit_lem x g.L v) q) ∙ sym (ap (λ (x : Peg). places_fit_lem G.size x.L v) p))
    (subst (λ (x : Peg). Tells b (NullableRule x m k)) (sym p) u) r (w ∙ ap (λ (x : Bool). a && (not x || b)) t)

module _ (G : Setting) (h left k i : ℕ) (m : Mode) (x : Row) (v : Reading) (b : Bool) (room : h + left ≡ G.frames) (p : v ≡ told_from x i) (t : Tells b (Fits G k i m v)) where
  fit : b ≡ true → Fits G k i m (told_from x i)
  fit e = subst (Fits G k i m) p (t.0 e)

  deep : v.depth ≡ x.depth
  deep = ap (λ (y : Reading). y.depth) p

  pub found_unfit : b ≡ false → Found G h k i m x (Err Unfit)
  found_unfit e = unfit (λ f. t.1 e (subst (Fits G k i m) (sym p) f))

  pub found_deep : b ≡ true → left < v.depth → Found G h k i m x (Err TooDeep)
  found_deep e l = let d = deep in too_deep (fit e) (omega arith)

  pub found_stands : b ≡ true → v.depth ≤ left → Found G h k i m x (Ok v)
  found_stands e l = let d = deep in subst (λ (y : Reading). Found G h k i m x (Ok y)) (sym p) (stands (fit e) (omega arith))

-- a row that stands: where it lies, that it fits, and that the frames suffice
pub found_gives : (G : Setting) (h k i : ℕ) (m : Mode) (x : Row) (v : Reading) → Found G h k i m x (Ok v) → Ahead i G.size v.outcome × Fits G k i m v × (h + v.depth ≤ G.frames)
found_gives G h k i m x v (stands f d) = (found_ahead G k i m x f, f, d)
