-- A row of what was derived tells it again, and fits the text and the grammar.
use Rattle.std.proofs.Common.{◌≡◌, ℕ, ◌+◌, ◌-◌, ◌<◌, ◌≤◌, cond, ◌&&◌, ltb, List, [], ◌∷◌, ◌++◌, Some, None, Option, sym, refl, ap, subst, arith}
use Rattle.std.proofs.lemmas.Bool.{lt-ltb}
use Rattle.grammar.specs.declared.expr.Mode.{Mode}
use Rattle.grammar.specs.declared.expr.Expr.{Expr}
use Rattle.grammar.specs.Words.{Peg}
use Rattle.peg.specs.declared.results.Outcome.{Outcome}
use Rattle.peg.specs.declared.results.Outcome.TheVariants.{Match, Failure}
use Rattle.peg.specs.declared.results.Note.{Note}
use Rattle.peg.specs.declared.results.Recoveries.{Recoveries}
use Rattle.peg.specs.Results.{Recovery, Given, told, summary}
use Rattle.peg.specs.Rules.{Text, Gives, RuleGives, if_matched, recovered}
use Rattle.peg.specs.Rules.{empty_matches, terminal_matches, terminal_fails, call_gives, sequence_goes_on, sequence_fails, choice_stays, choice_turns, repetition_ends, repetition_fails, repetition_goes_on, predicate_denies, throw_fails, throw_recovers, as_its_body}
use Rattle.peg.specs.Fitting.{OutcomeFits, NoteFits}
use Rattle.peg.proofs.Places.{OutFrom, NoteFrom, AllFrom}
use Rattle.peg.proofs.Rows.{rule_placed}
use Rattle.peg.proofs.Fitting.{rule_fits, rule_idle}
use Rattle.memo.specs.declared.row.Row.{Row}
use Rattle.memo.specs.Rows.{told_from}
use Rattle.reading.specs.Reads.{Setting, Fits, OutcomeWithin, NoteWithin, matches, label_of, place_of, noted, noted_place, noted_marks, row_of}
use Rattle.reading.specs.Truth.{TrueRow, Proper}

-- failures have no recoveries
abbrev Plain : Outcome → List Recovery → Type 0
Plain (Match j) rs = Unit {0}
Plain (Failure l p) rs = rs ≡ []

plain_none : (o : Outcome) → Plain o []
plain_none (Match j) = tt
plain_none (Failure l p) = refl

plain_matched : (o : Outcome) (rs : List Recovery) → Plain o (if_matched o rs)
plain_matched (Match j) rs = tt
plain_matched (Failure l p) rs = refl

plain_recovered : (l i : ℕ) (o : Outcome) (rs : List Recovery) → Plain o (recovered l i o rs)
plain_recovered l i (Match j) rs = tt
plain_recovered l i (Failure k p) rs = refl

module _ (g : Peg) (t : Text) where
  plain : {x : Expr} {i : ℕ} {m : Mode} {v : Given} → Gives g t x i m v → Plain v.outcome v.recoveries
  plain empty_matches = tt
  plain (terminal_matches p) = tt
  plain (terminal_fails p) = refl
  plain (call_gives d) = plain d
  plain (sequence_goes_on {v = v} {w = w} d p e) = plain_matched w.outcome (v.recoveries ++ w.recoveries)
  plain (sequence_fails d p) = plain d
  plain (choice_stays d p) = plain d
  plain (choice_turns d p e) = plain e
  plain (repetition_ends d p) = tt
  plain (repetition_fails d p) = plain d
  plain (repetition_goes_on {v = v} {w = w} d p e) = plain_matched w.outcome (v.recoveries ++ w.recoveries)
  plain {v = v} (predicate_denies d) = plain_none v.outcome
  plain (throw_fails p) = refl
  plain {i} (throw_recovers {l = l} {v = v} p d) = plain_recovered l i v.outcome v.recoveries

  rule_plain : {r i : ℕ} {m : Mode} {v : Given} → RuleGives g t r i m v → Plain v.outcome v.recoveries
  rule_plain (as_its_body d) = plain d

-- each part told again, from a place that nothing lies before
module _ (i : ℕ) where
  there : (p : ℕ) → i ≤ p → i + (p - i) ≡ p
  there p h = omega arith

  outcome_again : (o : Outcome) → OutFrom i o → cond (matches o) (Match (i + (place_of o - i))) (Failure (label_of o) (i + (place_of o - i))) ≡ o
  outcome_again (Match j) h = ap Match (there j h)
  outcome_again (Failure l p) h = ap (λ q. Failure l q) (there p h)

  note_again : (n : Option Note) → NoteFrom i n → cond (noted n) (Some (record { place = i + noted_place n i; marks = noted_marks n })) None ≡ n
  note_again None h = refl
  note_again (Some n) h = λ k. Some (record { place = there n.place h k; marks = n.marks })

  abbrev recoveries_again_of : Outcome → Recoveries → Recoveries
  recoveries_again_of o s = cond (matches o && ltb 0 s.count) (record { count = s.count; label = s.label; place = i + (s.place - i) }) (record { count = 0; label = 0; place = 0 })

  recoveries_again : (o : Outcome) (rs : List Recovery) → Plain o rs → AllFrom i rs → recoveries_again_of o (summary rs) ≡ summary rs
  recoveries_again (Match j) [] p h = refl
  recoveries_again (Match j) (r ∷ rs) p h =
      rw (lt-ltb 0 (summary (r ∷ rs)).count (omega arith)) (λ k. record { count = (summary (r ∷ rs)).count; label = r.label; place = there r.place h.0 k })
  recoveries_again (Failure l q) rs p h = sym (ap summary p)

-- the row of what was derived tells it again
pub told_again : (g : Peg) (t : Text) {r i : ℕ} {m : Mode} {v : Given} → RuleGives g t r i m v → told_from (row_of i (told v)) i ≡ told v
told_again g t {r} {i} {m} {v} d =
    let h = rule_placed g t d in
    λ k. record {
      outcome = outcome_again i v.outcome h.out k;
      note = note_again i v.note h.noted k;
      recoveries = recoveries_again i v.outcome v.recoveries (rule_plain g t d) h.rest k;
      depth = v.depth;
      reach = there i v.reach (omega (arith, h.far)) k;
    }

outcome_fits : (n L : ℕ) (o : Outcome) → OutcomeFits L n o → OutcomeWithin n L o
outcome_fits n L (Match j) h = h
outcome_fits n L (Failure l p) h = h

note_fits_lem : (n : ℕ) (x : Option Note) → NoteFits n x → NoteWithin n x
note_fits_lem n None h = tt
note_fits_lem n (Some x) h = h.0

-- a true row may stand
pub true_fits : (G : Setting) → Proper G → (k i : ℕ) (m : Mode) (x : Row) → k < G.grammar.R → i ≤ G.size → TrueRow G.grammar G.text k i m x → Fits G k i m (told_from x i)
true_fits G p k i m x h le (v, d, e) =
    let f = rule_fits G.grammar p.whole p.labelled p.marked G.text G.size p.ends h le d in
    subst (Fits G k i m) (sym e) (record {
      outcome = outcome_fits G.size G.grammar.L v.outcome f.outcome;
      note = note_fits_lem G.size v.note f.note;
      first = (f.first_place, f.first_label);
      reach = f.reach;
      nothing = λ q. (h, ∣ rule_idle G.grammar G.text d q ∣₁);
    })
