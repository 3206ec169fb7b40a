-- What a reader tells of a whole, from what it told of the parts: it keeps no lists.
use Rattle.std.specs.Prelude.{◌≡◌, ℕ, suc, ◌≤◌, max, None, Option}
use Rattle.grammar.specs.declared.expr.Mode.{Mode}
use Rattle.peg.specs.declared.results.Outcome.{Outcome}
use Rattle.peg.specs.declared.results.Outcome.TheVariants.{Match, Failure}
use Rattle.peg.specs.declared.results.Note.{Note}
use Rattle.peg.specs.declared.results.Recoveries.{Recoveries}
use Rattle.peg.specs.declared.results.Reading.{Reading}
use Rattle.peg.specs.Results.{Given, told, most_recoveries}
use Rattle.peg.specs.Rules.{looked_at, unmarked, join, denied, denied_note, alone, one_deeper, of_rule, of_sequence, of_other, of_end, of_round, of_predicate, of_recovery}
use Rattle.peg.specs.Summaries.{added}

abbrev pub no_recoveries : Recoveries
no_recoveries = record { count = 0; label = 0; place = 0 }

-- one recovery, of label l at place i
abbrev pub one_recovery : ℕ → ℕ → Recoveries
one_recovery l i = record { count = 1; label = l; place = i }

-- failures have no recoveries
abbrev pub matched_only : Outcome → Recoveries → Recoveries
matched_only (Match j) s = s
matched_only (Failure l p) s = no_recoveries

abbrev pub read_alone : ℕ → Outcome → Option Note → Reading
read_alone i o n = record { outcome = o; note = n; recoveries = no_recoveries; depth = 1; reach = looked_at i }

abbrev pub read_deeper : Reading → Reading
read_deeper v = record {
  outcome = v.outcome;
  note = v.note;
  recoveries = v.recoveries;
  depth = suc v.depth;
  reach = v.reach;
}

abbrev pub read_sequence : Reading → Reading → Reading
read_sequence v w = record {
  outcome = w.outcome;
  note = join v.note w.note;
  recoveries = matched_only w.outcome (added v.recoveries w.recoveries);
  depth = suc (max v.depth w.depth);
  reach = max v.reach w.reach;
}

abbrev pub read_other : Reading → Reading → Reading
read_other v w = record {
  outcome = w.outcome;
  note = join v.note w.note;
  recoveries = w.recoveries;
  depth = suc (max v.depth w.depth);
  reach = max v.reach w.reach;
}

abbrev pub read_end : ℕ → Reading → Reading
read_end i v = record { outcome = Match i; note = v.note; recoveries = no_recoveries; depth = suc v.depth; reach = v.reach }

abbrev pub read_round : Reading → Reading → Reading
read_round v w = record {
  outcome = w.outcome;
  note = join v.note w.note;
  recoveries = matched_only w.outcome (added v.recoveries w.recoveries);
  depth = max (suc v.depth) w.depth;
  reach = max v.reach w.reach;
}

abbrev pub read_predicate : ℕ → Reading → Reading
read_predicate i v = record {
  outcome = denied i v.outcome;
  note = denied_note i v.outcome;
  recoveries = no_recoveries;
  depth = suc v.depth;
  reach = v.reach;
}

abbrev pub read_recovery : ℕ → ℕ → Reading → Reading
read_recovery l i v = record {
  outcome = v.outcome;
  note = join (unmarked i) v.note;
  recoveries = matched_only v.outcome (added (one_recovery l i) v.recoveries);
  depth = suc v.depth;
  reach = v.reach;
}

-- what is told of the whole is read from what is told of the parts
pub record Readings : Type 0 where
  pub of_alone : (i : ℕ) (o : Outcome) (n : Option Note) → told (alone i o n) ≡ read_alone i o n
  pub of_deeper : (v : Given) → told (one_deeper v) ≡ read_deeper (told v)
  pub of_a_rule : (r i : ℕ) (m : Mode) (v : Given) → told (of_rule r i m v) ≡ told v
  pub of_sequences : (v w : Given) → told (of_sequence v w) ≡ read_sequence (told v) (told w)
  pub of_others : (v w : Given) → told (of_other v w) ≡ read_other (told v) (told w)
  pub of_ends : (i : ℕ) (v : Given) → told (of_end i v) ≡ read_end i (told v)
  pub of_rounds : (v w : Given) → told (of_round v w) ≡ read_round (told v) (told w)
  pub of_predicates : (i : ℕ) (v : Given) → told (of_predicate i v) ≡ read_predicate i (told v)
  pub of_recoveries : (l i : ℕ) (v : Given) → told (of_recovery l i v) ≡ read_recovery l i (told v)
  -- notes and recoveries may be put together as they come
  pub joins : (a b c : Option Note) → join (join a b) c ≡ join a (join b c)
  pub joins_none : (a : Option Note) → join a None ≡ a
  pub adds : (a b c : Recoveries) → added (added a b) c ≡ added a (added b c)
  pub adds_none : (a : Recoveries) → 1 ≤ a.count → a.count ≤ most_recoveries → added a no_recoveries ≡ a
