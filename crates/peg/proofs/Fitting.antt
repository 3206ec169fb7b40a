-- What is given fits the text and the grammar.
use Rattle.std.proofs.Common.{◌≡◌, ℕ, zero, suc, ◌+◌, ◌<◌, ◌≤◌, List, [], ◌∷◌, ◌++◌, Some, None, Option, subst, arith, lit<}
use Prim.Native.Nat.{compare, Ordering}
use Rattle.std.proofs.lemmas.Nat.{or_lt, pow_below}
use Rattle.grammar.specs.declared.expr.Mode.{Mode}
use Rattle.grammar.specs.declared.expr.Expr.{Expr}
use Rattle.grammar.specs.declared.expr.Expr.TheVariants.{Terminal, Throw}
use Rattle.grammar.specs.Words.{Peg, meaning}
use Rattle.grammar.proofs.Referring.{accepted_whole, accepted_labels, accepted_marks}
use Rattle.peg.specs.declared.results.Outcome.{Outcome}
use Rattle.peg.specs.declared.results.Outcome.TheVariants.{Match, Failure}
use Rattle.peg.specs.declared.results.Note.{Note}
use Rattle.peg.specs.Results.{Recovery, Given}
use Rattle.peg.specs.Rules.{Text, Gives, RuleGives, expected, unmarked, farther, join, if_matched, denied, denied_note, recovered, one_deeper, of_sequence}
use Rattle.peg.specs.Rules.{empty_matches, terminal_matches, terminal_fails, call_gives, sequence_goes_on, sequence_fails, choice_stays, choice_turns, repetition_ends, repetition_fails, repetition_goes_on, predicate_denies, throw_fails, throw_recovers, as_its_body}
use Rattle.grammar.specs.Form.{Whole, Nullable}
use Rattle.peg.specs.Results.{summary, told}
use Rattle.peg.specs.Totality.{Ends}
use Rattle.peg.specs.Fitting.{Labelled, Marked, OutcomeFits, NoteFits, Fits, AllFit, Fitting}
use Rattle.peg.proofs.Totality.{idle, Of, numbered, body_of, first_of, second_of, one_of, other_of, part_of, inside_of, recovery_of}

module _ (L n : ℕ) where
  abbrev EachFits : List Recovery → Type 0
  EachFits [] = Unit {0}
  EachFits (r ∷ rs) = (r.label ≤ L) × (r.place ≤ n) × (r.end ≤ n) × EachFits rs

  -- the same of the whole list of recoveries
  record Inside (v : Given) : Type 0 where
    out : OutcomeFits L n v.outcome
    noted : NoteFits n v.note
    rest : EachFits v.recoveries
    far : v.reach ≤ n + 1

  unmarked_fits : (i : ℕ) → i ≤ n → NoteFits n (unmarked i)
  unmarked_fits i h = (h, lit< tt)

  join_fits : (a b : Option Note) → NoteFits n a → NoteFits n b → NoteFits n (join a b)
  join_fits None b p q = q
  join_fits (Some x) None p q = p
  join_fits (Some x) (Some y) p q = go (compare x.place y.place)
    where
      go : (o : Ordering) → NoteFits n (Some (farther o x y))
      go Ordering.lt = q
      go Ordering.eq = (p.0, or_lt 32 x.marks y.marks p.1 q.1)
      go Ordering.gt = p

  both_fit : (rs ss : List Recovery) → EachFits rs → EachFits ss → EachFits (rs ++ ss)
  both_fit [] ss f h = h
  both_fit (r ∷ rs) ss f h = (f.0, f.1, f.2, both_fit rs ss f.3 h)

  matched_fit : (o : Outcome) (rs : List Recovery) → EachFits rs → EachFits (if_matched o rs)
  matched_fit (Match j) rs h = h
  matched_fit (Failure l p) rs h = tt

  recovered_fit : (l i : ℕ) (o : Outcome) (rs : List Recovery) → l ≤ L → i ≤ n → OutcomeFits L n o → EachFits rs → EachFits (recovered l i o rs)
  recovered_fit l i (Match j) rs a b c h = (a, b, c, h)
  recovered_fit l i (Failure k p) rs a b c h = tt

  denied_fits : (i : ℕ) (o : Outcome) → i ≤ n → OutcomeFits L n o → OutcomeFits L n (denied i o)
  denied_fits i (Match j) h q = (omega arith, h)
  denied_fits i (Failure zero p) h q = h
  denied_fits i (Failure (suc l) p) h q = q

  denied_note_fits : (i : ℕ) (o : Outcome) → i ≤ n → NoteFits n (denied_note i o)
  denied_note_fits i (Match j) h = unmarked_fits i h
  denied_note_fits i (Failure zero p) h = tt
  denied_note_fits i (Failure (suc l) p) h = unmarked_fits i h

  deeper_inside : (v : Given) → Inside v → Inside (one_deeper v)
  deeper_inside v h = record { out = h.out; noted = h.noted; rest = h.rest; far = h.far }

  sequence_inside : (v w : Given) → Inside v → Inside w → Inside (of_sequence v w)
  sequence_inside v w h k = record {
    out = k.out;
    noted = join_fits v.note w.note h.noted k.noted;
    rest = matched_fit w.outcome (v.recoveries ++ w.recoveries) (both_fit v.recoveries w.recoveries h.rest k.rest);
    far = omega (arith, h.far, k.far);
  }

  summary_label : (rs : List Recovery) → EachFits rs → (summary rs).label ≤ L
  summary_label [] h = omega arith
  summary_label (r ∷ rs) h = h.0

  summary_place : (rs : List Recovery) → EachFits rs → (summary rs).place ≤ n
  summary_place [] h = omega arith
  summary_place (r ∷ rs) h = h.1

  told_fits : (v : Given) → Inside v → Fits L n (told v)
  told_fits v h = record {
    outcome = h.out;
    note = h.noted;
    first_label = summary_label v.recoveries h.rest;
    first_place = summary_place v.recoveries h.rest;
    reach = h.far;
  }

module _ (g : Peg) (whole : Whole g) (labelled : Labelled g) (marked : Marked g) (t : Text) (n : ℕ) (ends : Ends t n) where
  abbrev InText : Given → Type 0
  InText v = Inside g.L n v

  label_low : (l : ℕ) → Of g (Throw l) → l ≤ g.L
  label_low l o = labelled o.number l o.low o.is

  expected_fits : (a b c i : ℕ) → Of g (Terminal a b c) → i ≤ n → NoteFits n (expected i c)
  expected_fits a b c i o h = let k = marked o.number a b c o.low o.is in (h, pow_below c 32 (omega arith))

  -- where a part that matched ends
  next : (v : Given) (j : ℕ) → InText v → v.outcome ≡ Match j → j ≤ n
  next v j h p = subst (OutcomeFits g.L n) p h.out

  inside : {x : Expr} {i : ℕ} {m : Mode} {v : Given} → Gives g t x i m v → Of g x → i ≤ n → InText v
  inside empty_matches o h = record { out = h; noted = tt; rest = tt; far = omega arith }
  inside {i} (terminal_matches {a = a} {b = b} p) o h = record { out = omega (arith, ends a b i p); noted = tt; rest = tt; far = omega arith }
  inside {i} (terminal_fails {a = a} {b = b} {c = c} p) o h = record { out = (omega arith, h); noted = expected_fits a b c i o h; rest = tt; far = omega arith }
  inside (call_gives {r = r} d) o h = let k = inside d (body_of g whole r o) h in record { out = k.out; noted = k.noted; rest = k.rest; far = k.far }
  inside (sequence_goes_on {a = a} {b = b} {j = j} {v = v} {w = w} d p e) o h =
      let k = inside d (first_of g whole a b o) h in sequence_inside g.L n v w k (inside e (second_of g whole a b o) (next v j k p))
  inside (sequence_fails {a = a} {b = b} {v = v} d p) o h = deeper_inside g.L n v (inside d (first_of g whole a b o) h)
  inside (choice_stays {a = a} {b = b} {s = s} {v = v} d p) o h = deeper_inside g.L n v (inside d (one_of g whole a b s o) h)
  inside (choice_turns {a = a} {b = b} {s = s} {v = v} {w = w} d p e) o h =
      let k = inside d (one_of g whole a b s o) h in let l = inside e (other_of g whole a b s o) h in
      record { out = l.out; noted = join_fits g.L n v.note w.note k.noted l.noted; rest = l.rest; far = omega (arith, k.far, l.far) }
  inside (repetition_ends {a = a} d p) o h = let k = inside d (part_of g whole a o) h in record { out = h; noted = k.noted; rest = tt; far = k.far }
  inside (repetition_fails {a = a} {v = v} d p) o h = deeper_inside g.L n v (inside d (part_of g whole a o) h)
  inside (repetition_goes_on {a = a} {j = j} {v = v} {w = w} d p e) o h =
      let k = inside d (part_of g whole a o) h in let q = sequence_inside g.L n v w k (inside e o (next v j k p)) in
      record { out = q.out; noted = q.noted; rest = q.rest; far = q.far }
  inside {i} (predicate_denies {a = a} {v = v} d) o h =
      let k = inside d (inside_of g whole a o) h in
      record { out = denied_fits g.L n i v.outcome h k.out; noted = denied_note_fits g.L n i v.outcome h; rest = tt; far = k.far }
  inside {i} (throw_fails {l = l} p) o h = record { out = (label_low l o, h); noted = unmarked_fits g.L n i h; rest = tt; far = omega arith }
  inside {i} {m} (throw_recovers {l = l} {e = e} {v = v} p d) o h =
      let k = inside d (recovery_of g whole l m e o p) h in
      record {
        out = k.out;
        noted = join_fits g.L n (unmarked i) v.note (unmarked_fits g.L n i h) k.noted;
        rest = recovered_fit g.L n l i v.outcome v.recoveries (label_low l o) h k.out k.rest;
        far = k.far;
      }

  pub fits : {e i : ℕ} {m : Mode} {v : Given} → e < g.N → i ≤ n → Gives g t (g.expr e) i m v → Fits g.L n (told v)
  fits {e} {i} {m} {v} h le d = told_fits g.L n v (inside d (numbered g e h) le)

  pub rule_fits : {r i : ℕ} {m : Mode} {v : Given} → r < g.R → i ≤ n → RuleGives g t r i m v → Fits g.L n (told v)
  rule_fits {r} {i} {m} h le (as_its_body {v = v} d) = told_fits g.L n v (inside d (numbered g (g.body r) (whole.0 r h)) le)

pub rule_idle : (g : Peg) (t : Text) {r i : ℕ} {m : Mode} {v : Given} → RuleGives g t r i m v → v.outcome ≡ Match i → Nullable g m (g.expr (g.body r))
rule_idle g t {r} {i} {m} (as_its_body d) e = idle g t d i e (omega arith)

pub all_fit : (g : Peg) → Whole g → Labelled g → Marked g → (t : Text) (n : ℕ) → Ends t n → AllFit g t n
all_fit g whole labelled marked t n ends = record {
  expression = λ e i m h le v d. fits g whole labelled marked t n ends {e = e} h le d;
  rule = λ r i m h le v d. rule_fits g whole labelled marked t n ends h le d;
}

pub fitting : Fitting
fitting = record {
  of_a_grammar = all_fit;
  of_an_accepted_row = λ ws a. all_fit (meaning ws) (accepted_whole ws a) (λ e l h p. (accepted_labels ws a e l h p).1) (accepted_marks ws a);
  nothing = λ g t x i m v d e. idle g t d i e (omega arith);
  rule_nothing = λ g t r i m v d e. rule_idle g t d e;
}
