-- A shift of a memory with the text's change: rows stay true, and held stays what the settle rule keeps.
use Rattle.std.proofs.Common.{◌≡◌, ℕ, ◌+◌, ◌-◌, ◌<◌, ◌≤◌, Bool, true, false, cond, ◌&&◌, ltb, ◌⊎◌, List, length, Some, None, sym, refl, ap, ◌∙◌, subst, inl, inr, arith}
use Rattle.std.proofs.lemmas.Bool.{ltb-true}
use Rattle.grammar.specs.declared.expr.Mode.{Mode}
use Rattle.grammar.specs.Words.{Peg}
use Rattle.text.specs.Meaning.{accepted, replaced}
use Rattle.text.proofs.Laws.{length_replaced}
use Rattle.peg.specs.declared.results.Outcome.TheVariants.{Match, Failure}
use Rattle.peg.specs.Members.{In}
use Rattle.peg.specs.declared.results.RulePlace.{RulePlace}
use Rattle.peg.specs.Results.{Given}
use Rattle.peg.specs.Rules.{Text, RuleGives}
use Rattle.peg.specs.Moves.{moved_outcome, moved_note, moved_rule_place}
use Rattle.peg.specs.Summaries.{moved_recoveries}
use Rattle.peg.specs.Rows.{from, RowOf}
use Rattle.peg.specs.Edits.{along, Edited}
use Rattle.peg.specs.Settling.{Remains, kept, moves, Settles}
use Rattle.peg.proofs.Rules.{one_rule}
use Rattle.peg.proofs.Summaries.{moved_some}
use Rattle.peg.proofs.Rows.{told_back, told_by}
use Rattle.peg.proofs.Edits.{edits, along_is, along_behind}
use Rattle.memo.specs.declared.row.Row.{Row}
use Rattle.memo.specs.Tables.{Table, Shifts, Kept, Moved}
use Rattle.memo.specs.Rows.{told_from}
use Rattle.reading.specs.Putting.{at, Held}
use Rattle.reading.specs.Truth.{TrueRow, TrueRows}
use Rattle.reading.specs.Counts.{HeldIn, HeldAre}
use Rattle.reading.specs.Runs.{AllAmong, Shifted}
use Rattle.reading.proofs.Once.{none}

-- a row's distances, told from place 0, are told from place i
module _ (i : ℕ) where
  far : (d : ℕ) → i + (0 + d) ≡ i + d
  far d = omega arith

  from_outcome : (b : Bool) (l d : ℕ) → moved_outcome (λ p. i + p) (cond b (Match (0 + d)) (Failure l (0 + d))) ≡ cond b (Match (i + d)) (Failure l (i + d))
  from_outcome true l d = ap Match (far d)
  from_outcome false l d = ap (λ p. Failure l p) (far d)

  from_note : (b : Bool) (d marks : ℕ) → moved_note (λ p. i + p) (cond b (Some (record { place = 0 + d; marks = marks })) None) ≡ cond b (Some (record { place = i + d; marks = marks })) None
  from_note true d marks = λ j. Some (record { place = far d j; marks = marks })
  from_note false d marks = refl

  from_recoveries : (b : Bool) (n l d : ℕ) → (b ≡ true → 1 ≤ n)
      → moved_recoveries (λ p. i + p) (cond b (record { count = n; label = l; place = 0 + d }) (record { count = 0; label = 0; place = 0 }))
      ≡ cond b (record { count = n; label = l; place = i + d }) (record { count = 0; label = 0; place = 0 })
  from_recoveries true n l d h = moved_some (λ p. i + p) (record { count = n; label = l; place = 0 + d }) (h refl) ∙ (λ j. record { count = n; label = l; place = far d j })
  from_recoveries false n l d h = refl

  and_right : (a b : Bool) → (a && b) ≡ true → b ≡ true
  and_right true b e = e
  and_right false b e = none (cc)

  from_zero : (x : Row) → from i (told_from x 0) ≡ told_from x i
  from_zero x = λ j. record {
    outcome = from_outcome x.matched x.label x.end j;
    note = from_note x.noted x.note x.marks j;
    recoveries = from_recoveries (x.matched && ltb 0 x.recoveries) x.recoveries x.first_label x.first
        (λ e. ltb-true 0 x.recoveries (and_right x.matched (ltb 0 x.recoveries) e)) j;
    depth = x.depth;
    reach = far x.reach j;
  }

-- a true row is the row of its rule-place
module _ (g : Peg) (t : Text) (k i : ℕ) (m : Mode) (x : Row) where
  true_row_of : TrueRow g t k i m x → RowOf g t k i m (told_from x 0)
  true_row_of (v, d, e) = told_by g t d (from_zero i x ∙ e)

  row_of_true : RowOf g t k i m (told_from x 0) → TrueRow g t k i m x
  row_of_true (v, d, e) = (v, d, sym (from_zero i x) ∙ told_back g t (v, d, e) d)

  -- its reach is that of every derivation
  true_reach : TrueRow g t k i m x → (w : Given) → RuleGives g t k i m w → i + x.reach ≡ w.reach
  true_reach (v, d, e) w d' = ap (λ o. o.reach) e ∙ ap (λ o. o.reach) (one_rule g t d d')

module _ {E : Type 0} (g : Peg) (fits : ℕ → ℕ → E → Bool) (xs : List E) (p k : ℕ) (ys : List E) (le : p + k ≤ length xs) where
  abbrev old : Text
  old = accepted fits xs

  abbrev new : Text
  new = accepted fits (replaced xs p k ys)

  long : length (replaced xs p k ys) ≡ length xs - k + length ys
  long = length_replaced xs p k ys le

  edited : Edited old new p k (length ys)
  edited = edits E fits xs p k ys le

  pub shift_true : (keeps : Bool) (P : ℕ) (T U : Table) → Shifts keeps P p k (length ys) T U → TrueRows g old (length xs) T → TrueRows g new (length (replaced xs p k ys)) U
  shift_true keeps P T U s tr r i o x rr il e = go (s.only r i o x e)
    where
      go : Kept p T r i o x ⊎ Moved P p k (length ys) T r i o x → TrueRow g new r i o x
      go (inl a) =
          row_of_true g new r i o x (edited.row_kept g r i o (told_from x 0) (omega (arith, a.untouched)) (true_row_of g old r i o x (tr r i o x rr (omega (arith, a.before)) a.held)))
      go (inr a) =
          let b : a.from ≤ length xs = omega (arith, a.after, a.along, long) in
          row_of_true g new r i o x (edited.row_moves g r a.from i o (told_from x 0) a.after a.along (true_row_of g old r a.from o x (tr r a.from o x rr b a.held)))

  module _ (P : ℕ) (T U : Table) (tr : TrueRows g old (length xs) T) (ks ls : List RulePlace) (among : AllAmong g (length xs) ks) (settles : Settles g old p k (length ys) ks ls) where
    -- a row held for a known rule-place
    known_true : (z : RulePlace) (x : Row) → In z ks → T z.rule z.place z.mode ≡ Some x → TrueRow g old z.rule z.place z.mode x
    known_true z x i e = tr z.rule z.place z.mode x (among z i).0 (among z i).1 e

    pub shift_held : (keeps : Bool) → Shifts keeps P p k (length ys) T U → HeldIn T ks → HeldIn U ls
    shift_held keeps s h z (x, e) = (settles z).1 (go (s.only z.rule z.place z.mode x e))
      where
        go : Kept p T z.rule z.place z.mode x ⊎ Moved P p k (length ys) T z.rule z.place z.mode x → Remains g old p k (length ys) ks z
        go (inl a) =
            let i = h z (x, a.held) in
            let y = known_true z x i a.held in
            kept i a.before y.1 (omega (arith, a.untouched, ap (λ o. o.reach) y.2))
        go (inr a) =
            let y : RulePlace = at z.rule a.from z.mode in
            let q : along p k (length ys) a.from ≡ z.place = along_is p k (length ys) a.from z.place a.after a.along in
            subst (Remains g old p k (length ys) ks) {x = moved_rule_place (along p k (length ys)) y} {y = z} (λ j. record { rule = z.rule; place = q j; mode = z.mode }) (moves (h y (x, a.held)) a.after)

    pub shift_exactly : length (replaced xs p k ys) < P → Shifts true P p k (length ys) T U → HeldAre T ks → HeldAre U ls
    shift_exactly l s h z = (shift_held true s (λ y. (h y).0) z, λ i. go z ((settles z).0 i))
      where
        go : (z : RulePlace) → Remains g old p k (length ys) ks z → Held U z
        go z (kept {v = v} i b d c) =
            let a = (h z).1 i in
            let q = true_reach g old z.rule z.place z.mode a.0 (known_true z a.0 i a.1) v d in
            (a.0, s.all refl z.rule z.place z.mode a.0 (inl (record { before = b; untouched = omega arith; held = a.1 })))
        go z (moves {z = y} i b) =
            let a = (h y).1 i in
            let q = along_behind p k (length ys) y.place b in (
              a.0,
              s.all refl y.rule (along p k (length ys) y.place) y.mode a.0
                  (inr (record { from = y.place; after = b; along = q; within = omega (arith, (among y i).1, long); held = a.1 })),
            )

pub shifted : (E : Type 0) → Shifted E
shifted E = record {
  rows = λ g fits xs p k ys le keeps P T U s tr. shift_true g fits xs p k ys le keeps P T U s tr;
  held = λ g fits xs p k ys le keeps P T U s tr ks ls a c h. shift_held g fits xs p k ys le P T U tr ks ls a c keeps s h;
  exactly = λ g fits xs p k ys le P T U l s tr ks ls a c h. shift_exactly g fits xs p k ys le P T U tr ks ls a c l s h;
}
