-- Nothing is ended, failed, noted, recovered or reached before the place of the evaluation.
use Rattle.std.proofs.Common.{◌≡◌, ℕ, zero, suc, ◌<◌, ◌≤◌, List, [], ◌∷◌, ◌++◌, Some, None, Option, subst, arith}
use Prim.Native.Nat.{compare, Ordering}
use Rattle.grammar.specs.declared.expr.Mode.{Mode}
use Rattle.grammar.specs.declared.expr.Expr.{Expr}
use Rattle.grammar.specs.Words.{Peg}
use Rattle.peg.specs.declared.results.Outcome.{Outcome}
use Rattle.peg.specs.declared.results.Outcome.TheVariants.{Match, Failure}
use Rattle.peg.specs.declared.results.Note.{Note}
use Rattle.peg.specs.Results.{Recovery, Given}
use Rattle.peg.specs.Rules.{Text, Gives, unmarked, farther, join, if_matched, denied, denied_note, recovered, one_deeper, of_sequence}
use Rattle.peg.specs.Rules.{empty_matches, terminal_matches, terminal_fails, call_gives, sequence_goes_on, sequence_fails, choice_stays, choice_turns, repetition_ends, repetition_fails, repetition_goes_on, predicate_denies, throw_fails, throw_recovers}

abbrev pub OutFrom : ℕ → Outcome → Type 0
OutFrom i (Match j) = i ≤ j
OutFrom i (Failure l p) = i ≤ p

abbrev pub NoteFrom : ℕ → Option Note → Type 0
NoteFrom i None = Unit {0}
NoteFrom i (Some n) = i ≤ n.place

abbrev pub AllFrom : ℕ → List Recovery → Type 0
AllFrom i [] = Unit {0}
AllFrom i (r ∷ rs) = (i ≤ r.place) × (i ≤ r.end) × AllFrom i rs

pub record Placed (i : ℕ) (v : Given) : Type 0 where
  pub out : OutFrom i v.outcome
  pub noted : NoteFrom i v.note
  pub rest : AllFrom i v.recoveries
  pub far : i < v.reach

out_up : (i j : ℕ) (o : Outcome) → i ≤ j → OutFrom j o → OutFrom i o
out_up i j (Match k) h e = omega arith
out_up i j (Failure l p) h e = omega arith

note_up : (i j : ℕ) (n : Option Note) → i ≤ j → NoteFrom j n → NoteFrom i n
note_up i j None h e = tt
note_up i j (Some n) h e = omega arith

all_up : (i j : ℕ) (rs : List Recovery) → i ≤ j → AllFrom j rs → AllFrom i rs
all_up i j [] h e = tt
all_up i j (r ∷ rs) h e = (omega (arith, e.0), omega (arith, e.1), all_up i j rs h e.2)

all_both : (i : ℕ) (rs ss : List Recovery) → AllFrom i rs → AllFrom i ss → AllFrom i (rs ++ ss)
all_both i [] ss f h = h
all_both i (r ∷ rs) ss f h = (f.0, f.1, all_both i rs ss f.2 h)

all_kept : (i : ℕ) (o : Outcome) (rs : List Recovery) → AllFrom i rs → AllFrom i (if_matched o rs)
all_kept i (Match j) rs h = h
all_kept i (Failure l p) rs h = tt

all_recovered : (l i : ℕ) (o : Outcome) (rs : List Recovery) → OutFrom i o → AllFrom i rs → AllFrom i (recovered l i o rs)
all_recovered l i (Match j) rs q h = (omega arith, q, h)
all_recovered l i (Failure k p) rs q h = tt

join_from : (i : ℕ) (n k : Option Note) → NoteFrom i n → NoteFrom i k → NoteFrom i (join n k)
join_from i None k a b = b
join_from i (Some x) None a b = a
join_from i (Some x) (Some y) a b = go (compare x.place y.place)
  where
    go : (o : Ordering) → NoteFrom i (Some (farther o x y))
    go Ordering.lt = b
    go Ordering.eq = a
    go Ordering.gt = a

denied_from : (i : ℕ) (o : Outcome) → OutFrom i o → OutFrom i (denied i o)
denied_from i (Match j) h = omega arith
denied_from i (Failure zero p) h = omega arith
denied_from i (Failure (suc l) p) h = h

denied_note_from : (i : ℕ) (o : Outcome) → NoteFrom i (denied_note i o)
denied_note_from i (Match j) = omega arith
denied_note_from i (Failure zero p) = tt
denied_note_from i (Failure (suc l) p) = omega arith

-- a place that is not greater does as well
pub placed_up : (i j : ℕ) (v : Given) → i ≤ j → Placed j v → Placed i v
placed_up i j v h f = record {
  out = out_up i j v.outcome h f.out;
  noted = note_up i j v.note h f.noted;
  rest = all_up i j v.recoveries h f.rest;
  far = omega (arith, f.far);
}

two_placed : (i : ℕ) (v w : Given) → Placed i v → Placed i w → Placed i (of_sequence v w)
two_placed i v w h k = record {
  out = k.out;
  noted = join_from i v.note w.note h.noted k.noted;
  rest = all_kept i w.outcome (v.recoveries ++ w.recoveries) (all_both i v.recoveries w.recoveries h.rest k.rest);
  far = omega (arith, h.far);
}

module _ (g : Peg) (t : Text) where
  same_place : {i : ℕ} {v : Given} → Placed i v → Placed i (one_deeper v)
  same_place h = record { out = h.out; noted = h.noted; rest = h.rest; far = h.far }

  pub placed : {x : Expr} {i : ℕ} {m : Mode} {v : Given} → Gives g t x i m v → Placed i v
  placed empty_matches = record { out = omega arith; noted = tt; rest = tt; far = omega arith }
  placed (terminal_matches p) = record { out = omega arith; noted = tt; rest = tt; far = omega arith }
  placed (terminal_fails p) = record { out = omega arith; noted = omega arith; rest = tt; far = omega arith }
  placed (call_gives d) = let h = placed d in record { out = h.out; noted = h.noted; rest = h.rest; far = h.far }
  placed {i} (sequence_goes_on {j = j} {v = v} {w = w} d p e) =
      let h = placed d in two_placed i v w h (placed_up i j w (subst (OutFrom i) p h.out) (placed e))
  placed (sequence_fails d p) = same_place (placed d)
  placed (choice_stays d p) = same_place (placed d)
  placed {i} (choice_turns {v = v} {w = w} d p e) =
      let h = placed d in let k = placed e in
      record { out = k.out; noted = join_from i v.note w.note h.noted k.noted; rest = k.rest; far = omega (arith, h.far) }
  placed (repetition_ends d p) = let h = placed d in record { out = omega arith; noted = h.noted; rest = tt; far = h.far }
  placed (repetition_fails d p) = same_place (placed d)
  placed {i} (repetition_goes_on {j = j} {v = v} {w = w} d p e) =
      let h = placed d in let q = two_placed i v w h (placed_up i j w (subst (OutFrom i) p h.out) (placed e)) in
      record { out = q.out; noted = q.noted; rest = q.rest; far = q.far }
  placed {i} (predicate_denies {v = v} d) =
      let h = placed d in record { out = denied_from i v.outcome h.out; noted = denied_note_from i v.outcome; rest = tt; far = h.far }
  placed (throw_fails p) = record { out = omega arith; noted = omega arith; rest = tt; far = omega arith }
  placed {i} (throw_recovers {l = l} {v = v} p d) =
      let h = placed d in
      record { out = h.out; noted = join_from i (unmarked i) v.note (omega arith) h.noted; rest = all_recovered l i v.outcome v.recoveries h.out h.rest; far = h.far }

  -- a match ends where it began or later
  pub end_from : {x : Expr} {i : ℕ} {m : Mode} {v : Given} → Gives g t x i m v → (j : ℕ) → v.outcome ≡ Match j → i ≤ j
  end_from {i = i} d j p = subst (OutFrom i) p (placed d).out
