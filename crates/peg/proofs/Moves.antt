-- What is given rests on the elements below its reach alone, and moves with them.
use Rattle.std.proofs.Common.{◌≡◌, ℕ, zero, suc, ◌+◌, ◌-◌, ◌<◌, ◌≤◌, max, List, [], ◌∷◌, ◌++◌, map, Some, None, Option, sym, refl, ap, ◌∙◌, subst, add-zero, add-suc, arith}
use mathlib.Core.List.{map-append}
use Prim.Native.Nat.compare
use Prim.Native.Nat.{compare, Ordering}
use Rattle.grammar.specs.declared.expr.Mode.{Mode}
use Rattle.grammar.specs.declared.expr.Expr.{Expr}
use Rattle.grammar.specs.Words.{Peg}
use Rattle.peg.specs.declared.results.Outcome.{Outcome}
use Rattle.peg.specs.declared.results.Outcome.TheVariants.{Match, Failure}
use Rattle.peg.specs.declared.results.Note.{Note}
use Rattle.peg.specs.declared.results.RulePlace.{RulePlace}
use Rattle.peg.specs.Results.{Recovery, Given}
use Rattle.peg.specs.Rules.{Text, Gives, RuleGives, unmarked, farther, join, caught, if_matched, denied, denied_note, recovered, one_deeper, of_rule, of_sequence, of_other, of_round, of_predicate, of_recovery}
use Rattle.peg.specs.Rules.{empty_matches, terminal_matches, terminal_fails, call_gives, sequence_goes_on, sequence_fails, choice_stays, choice_turns, repetition_ends, repetition_fails, repetition_goes_on, predicate_denies, throw_fails, throw_recovers, as_its_body}
use Rattle.peg.specs.Moves.{moved_outcome, moved_note, moved_recovery, moved_rule_place, moved, shift, Agree, Local}
use Rattle.peg.proofs.Places.{NoteFrom, Placed, placed, placed_up, end_from}

compare_add : (d p q : ℕ) → compare (p + d) (q + d) ≡ compare p q
compare_add zero p q = simp add-zero
compare_add (suc d) p q = simp (add-suc, compare.suc-suc) (compare_add d p q)

module _ (a b : ℕ) where
  shift_looked : (p : ℕ) → a ≤ p → shift a b (p + 1) ≡ shift a b p + 1
  unfolding shift
  shift_looked p h = omega arith

  shift_max : (p q : ℕ) → a ≤ p → a ≤ q → max (shift a b p) (shift a b q) ≡ shift a b (max p q)
  unfolding shift
  shift_max p q h k = omega arith

  shift_compare : (p q : ℕ) → a ≤ p → a ≤ q → compare (shift a b p) (shift a b q) ≡ compare p q
  unfolding shift
  shift_compare p q h k =
      let e : (p - a) + a ≡ p = omega arith in
      let f : (q - a) + a ≡ q = omega arith in
      let l = compare_add b (p - a) (q - a) in
      let r = compare_add a (p - a) (q - a) in
      cc

  shift_join : (n k : Option Note) → NoteFrom a n → NoteFrom a k → join (moved_note (shift a b) n) (moved_note (shift a b) k) ≡ moved_note (shift a b) (join n k)
  shift_join None k f h = refl
  shift_join (Some x) None f h = refl
  shift_join (Some x) (Some y) f h = rw (shift_compare x.place y.place f h) (go (compare x.place y.place))
    where
      go : (o : Ordering) → Some (farther o (record { place = shift a b x.place; marks = x.marks }) (record { place = shift a b y.place; marks = y.marks }))
          ≡ moved_note (shift a b) (Some (farther o x y))
      go Ordering.lt = refl
      go Ordering.eq = refl
      go Ordering.gt = refl

  shift_kept : (o : Outcome) (rs : List Recovery) → if_matched (moved_outcome (shift a b) o) (map (moved_recovery (shift a b)) rs) ≡ map (moved_recovery (shift a b)) (if_matched o rs)
  shift_kept (Match j) rs = refl
  shift_kept (Failure l p) rs = refl

  shift_recovered : (l i : ℕ) (o : Outcome) (rs : List Recovery)
      → recovered l (shift a b i) (moved_outcome (shift a b) o) (map (moved_recovery (shift a b)) rs) ≡ map (moved_recovery (shift a b)) (recovered l i o rs)
  shift_recovered l i (Match j) rs = refl
  shift_recovered l i (Failure k p) rs = refl

  shift_denied : (i : ℕ) (o : Outcome) → denied (shift a b i) (moved_outcome (shift a b) o) ≡ moved_outcome (shift a b) (denied i o)
  shift_denied i (Match j) = refl
  shift_denied i (Failure zero p) = refl
  shift_denied i (Failure (suc l) p) = refl

  shift_denied_note : (i : ℕ) (o : Outcome) → denied_note (shift a b i) (moved_outcome (shift a b) o) ≡ moved_note (shift a b) (denied_note i o)
  shift_denied_note i (Match j) = refl
  shift_denied_note i (Failure zero p) = refl
  shift_denied_note i (Failure (suc l) p) = refl

  shift_caught : (g : Peg) (s : ℕ) (o : Outcome) → caught g s (moved_outcome (shift a b) o) ≡ caught g s o
  shift_caught g s (Match j) = refl
  shift_caught g s (Failure l p) = refl

  shift_reach : (v w : Given) → Placed a v → Placed a w → max (shift a b v.reach) (shift a b w.reach) ≡ shift a b (max v.reach w.reach)
  shift_reach v w f e = shift_max v.reach w.reach (omega (arith, f.far)) (omega (arith, e.far))

  shift_rounds : (o : Outcome) (rs ss : List Recovery)
      → if_matched (moved_outcome (shift a b) o) (map (moved_recovery (shift a b)) rs ++ map (moved_recovery (shift a b)) ss) ≡ map (moved_recovery (shift a b)) (if_matched o (rs ++ ss))
  shift_rounds o rs ss = rw (← map-append (moved_recovery (shift a b)) rs ss) (shift_kept o (rs ++ ss))

  moved_sequence : (v w : Given) → Placed a v → Placed a w → of_sequence (moved (shift a b) v) (moved (shift a b) w) ≡ moved (shift a b) (of_sequence v w)
  moved_sequence v w f e = λ k. record {
    outcome = moved_outcome (shift a b) w.outcome;
    note = shift_join v.note w.note f.noted e.noted k;
    recoveries = shift_rounds w.outcome v.recoveries w.recoveries k;
    depth = suc (max v.depth w.depth);
    reach = shift_reach v w f e k;
    completed = sym (map-append (moved_rule_place (shift a b)) v.completed w.completed) k;
  }

  moved_other : (v w : Given) → Placed a v → Placed a w → of_other (moved (shift a b) v) (moved (shift a b) w) ≡ moved (shift a b) (of_other v w)
  moved_other v w f e = λ k. record {
    outcome = moved_outcome (shift a b) w.outcome;
    note = shift_join v.note w.note f.noted e.noted k;
    recoveries = map (moved_recovery (shift a b)) w.recoveries;
    depth = suc (max v.depth w.depth);
    reach = shift_reach v w f e k;
    completed = sym (map-append (moved_rule_place (shift a b)) v.completed w.completed) k;
  }

  moved_round : (v w : Given) → Placed a v → Placed a w → of_round (moved (shift a b) v) (moved (shift a b) w) ≡ moved (shift a b) (of_round v w)
  moved_round v w f e = λ k. record {
    outcome = moved_outcome (shift a b) w.outcome;
    note = shift_join v.note w.note f.noted e.noted k;
    recoveries = shift_rounds w.outcome v.recoveries w.recoveries k;
    depth = max (suc v.depth) w.depth;
    reach = shift_reach v w f e k;
    completed = sym (map-append (moved_rule_place (shift a b)) v.completed w.completed) k;
  }

  moved_rule : (r i : ℕ) (m : Mode) (v : Given) → of_rule r (shift a b i) m (moved (shift a b) v) ≡ moved (shift a b) (of_rule r i m v)
  moved_rule r i m v = λ k. record {
    outcome = moved_outcome (shift a b) v.outcome;
    note = moved_note (shift a b) v.note;
    recoveries = map (moved_recovery (shift a b)) v.recoveries;
    depth = v.depth;
    reach = shift a b v.reach;
    completed = sym (map-append (moved_rule_place (shift a b)) v.completed (record { rule = r; place = i; mode = m } ∷ [])) k;
  }

  moved_predicate : (i : ℕ) (v : Given) → of_predicate (shift a b i) (moved (shift a b) v) ≡ moved (shift a b) (of_predicate i v)
  moved_predicate i v = λ k. record {
    outcome = shift_denied i v.outcome k;
    note = shift_denied_note i v.outcome k;
    recoveries = [];
    depth = suc v.depth;
    reach = shift a b v.reach;
    completed = map (moved_rule_place (shift a b)) v.completed;
  }

  moved_recovered : (l i : ℕ) (v : Given) → a ≤ i → Placed a v → of_recovery l (shift a b i) (moved (shift a b) v) ≡ moved (shift a b) (of_recovery l i v)
  moved_recovered l i v h f = λ k. record {
    outcome = moved_outcome (shift a b) v.outcome;
    note = shift_join (unmarked i) v.note h f.noted k;
    recoveries = shift_recovered l i v.outcome v.recoveries k;
    depth = suc v.depth;
    reach = shift a b v.reach;
    completed = map (moved_rule_place (shift a b)) v.completed;
  }

module _ (g : Peg) (t u : Text) (a b : ℕ) where
  narrow : (i i' r r' : ℕ) → i ≤ i' → r' ≤ r → Agree t u a b i r → Agree t u a b i' r'
  narrow i i' r r' h k f p l q c d = f p (omega arith) (omega arith) c d

  -- what is given, under another name of its value
  renamed : {x : Expr} {i : ℕ} {m : Mode} {v w : Given} → v ≡ w → Gives g u x i m v → Gives g u x i m w
  renamed {x} {i} {m} e d = subst (λ w. Gives g u x i m w) e d

  outcome_moved : (v : Given) (o : Outcome) → v.outcome ≡ o → (moved (shift a b) v).outcome ≡ moved_outcome (shift a b) o
  outcome_moved v o e = ap (moved_outcome (shift a b)) e

  pub local : {x : Expr} {i : ℕ} {m : Mode} {v : Given} → a ≤ i → Gives g t x i m v → Agree t u a b i v.reach → Gives g u x (shift a b i) m (moved (shift a b) v)
  local {i} h empty_matches w = rw (shift_looked a b i h) empty_matches
  local {i} h (terminal_matches {a = c} {b = d} p) w = rw (shift_looked a b i h) (terminal_matches (sym (w i (omega arith) (omega arith) c d) ∙ p))
  local {i} h (terminal_fails {a = c} {b = d} p) w = rw (shift_looked a b i h) (terminal_fails (sym (w i (omega arith) (omega arith) c d) ∙ p))
  local {i} {m} h (call_gives {r = r} {v = v} d) w = renamed (ap one_deeper (moved_rule a b r i m v)) (call_gives (local h d w))
  local {i} h (sequence_goes_on {j = j} {v = v} {w = v'} d p e) w =
      let l : i ≤ j = end_from g t d j p in
      renamed (moved_sequence a b v v' (placed_up a i v h (placed g t d)) (placed_up a j v' (omega arith) (placed g t e)))
      (sequence_goes_on (local h d (narrow i i _ v.reach (omega arith) (omega arith) w)) (outcome_moved v (Match j) p)
      (local (omega arith) e (narrow i j _ v'.reach (omega arith) (omega arith) w)))
  local h (sequence_fails {l = l} {p = q} {v = v} d p) w = sequence_fails (local h d w) (outcome_moved v (Failure l q) p)
  local h (choice_stays {s = s} {v = v} d p) w = choice_stays (local h d w) (shift_caught a b g s v.outcome ∙ p)
  local {i} h (choice_turns {s = s} {v = v} {w = v'} d p e) w =
      renamed (moved_other a b v v' (placed_up a i v h (placed g t d)) (placed_up a i v' h (placed g t e)))
      (choice_turns (local h d (narrow i i _ v.reach (omega arith) (omega arith) w)) (shift_caught a b g s v.outcome ∙ p)
      (local h e (narrow i i _ v'.reach (omega arith) (omega arith) w)))
  local h (repetition_ends {p = q} {v = v} d p) w = repetition_ends (local h d w) (outcome_moved v (Failure 0 q) p)
  local h (repetition_fails {l = l} {p = q} {v = v} d p) w = repetition_fails (local h d w) (outcome_moved v (Failure (suc l) q) p)
  local {i} h (repetition_goes_on {j = j} {v = v} {w = v'} d p e) w =
      let l : i ≤ j = end_from g t d j p in
      renamed (moved_round a b v v' (placed_up a i v h (placed g t d)) (placed_up a j v' (omega arith) (placed g t e)))
      (repetition_goes_on (local h d (narrow i i _ v.reach (omega arith) (omega arith) w)) (outcome_moved v (Match j) p)
      (local (omega arith) e (narrow i j _ v'.reach (omega arith) (omega arith) w)))
  local {i} h (predicate_denies {v = v} d) w = renamed (moved_predicate a b i v) (predicate_denies (local h d w))
  local {i} h (throw_fails p) w = rw (shift_looked a b i h) (throw_fails p)
  local {i} h (throw_recovers {l = l} {v = v} p d) w =
      renamed (moved_recovered a b l i v h (placed_up a i v h (placed g t d))) (throw_recovers p (local h d w))

  pub rule_local : {r i : ℕ} {m : Mode} {v : Given} → a ≤ i → RuleGives g t r i m v → Agree t u a b i v.reach → RuleGives g u r (shift a b i) m (moved (shift a b) v)
  rule_local {r} {i} {m} h (as_its_body {v = v} d) w = subst (λ z. RuleGives g u r (shift a b i) m z) (moved_rule a b r i m v) (as_its_body (local h d w))

-- a move that leaves all where it is
pub shift_none : (p : ℕ) → shift 0 0 p ≡ p
unfolding shift
shift_none p = omega arith

none_outcome : (o : Outcome) → moved_outcome (shift 0 0) o ≡ o
none_outcome (Match j) = ap Match (shift_none j)
none_outcome (Failure l p) = ap (λ q. Failure l q) (shift_none p)

none_note : (n : Option Note) → moved_note (shift 0 0) n ≡ n
none_note None = refl
none_note (Some n) = λ k. Some (record { place = shift_none n.place k; marks = n.marks })

none_recoveries : (rs : List Recovery) → map (moved_recovery (shift 0 0)) rs ≡ rs
none_recoveries [] = refl
none_recoveries (r ∷ rs) = λ k. record { label = r.label; place = shift_none r.place k; end = shift_none r.end k } ∷ none_recoveries rs k

none_places : (zs : List RulePlace) → map (moved_rule_place (shift 0 0)) zs ≡ zs
none_places [] = refl
none_places (z ∷ zs) = λ k. record { rule = z.rule; place = shift_none z.place k; mode = z.mode } ∷ none_places zs k

moved_none : (v : Given) → moved (shift 0 0) v ≡ v
moved_none v = λ k. record {
  outcome = none_outcome v.outcome k;
  note = none_note v.note k;
  recoveries = none_recoveries v.recoveries k;
  depth = v.depth;
  reach = shift_none v.reach k;
  completed = none_places v.completed k;
}

pub in_place : (g : Peg) (t u : Text) {x : Expr} {i : ℕ} {m : Mode} {v : Given} → Gives g t x i m v → ((a b p : ℕ) → p < v.reach → t a b p ≡ u a b p) → Gives g u x i m v
in_place g t u {x} {i} {m} {v} d f =
    let r = local g t u 0 0 (omega arith) d (λ p h l a b. rw shift_none (f a b p l)) in
    subst (λ z. Gives g u x i m z) (moved_none v) (subst (λ j. Gives g u x j m (moved (shift 0 0) v)) (shift_none i) r)

pub locally : Local
locally = record {
  in_place = λ g t u x i m v f d. in_place g t u d f;
  of_an_expression = λ g t u a b x i m v h w d. local g t u a b h d w;
  of_a_rule = λ g t u a b r i m v h w d. rule_local g t u a b h d w;
}
