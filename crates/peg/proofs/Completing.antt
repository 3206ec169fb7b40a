-- What was completed: where, how deep, how far, and with all that is inside it.
use Rattle.std.proofs.Common.{◌≡◌, ℕ, suc, ◌+◌, ◌<◌, ◌≤◌, max, ◌⊎◌, List, [], ◌∷◌, ◌++◌, sym, ap, subst, inl, inr, arith}
use Rattle.grammar.specs.Form.{Whole}
use Rattle.grammar.specs.declared.expr.Mode.{Mode}
use Rattle.grammar.specs.declared.expr.Expr.{Expr}
use Rattle.grammar.specs.declared.expr.Expr.TheVariants.{Call}
use Rattle.grammar.specs.Words.{Peg, meaning}
use Rattle.grammar.proofs.Referring.{accepted_whole}
use Rattle.peg.specs.declared.results.RulePlace.{RulePlace}
use Rattle.peg.specs.Results.{Given}
use Rattle.peg.specs.Rules.{Text, Gives, RuleGives, of_rule}
use Rattle.peg.specs.Rules.{empty_matches, terminal_matches, terminal_fails, call_gives, sequence_goes_on, sequence_fails, choice_stays, choice_turns, repetition_ends, repetition_fails, repetition_goes_on, predicate_denies, throw_fails, throw_recovers, as_its_body}
use Rattle.peg.specs.Halting.{Halts, RuleHalts}
use Rattle.peg.specs.Halting.{too_deep, in_body, in_first, in_second, in_one, in_other, in_round, in_later_round, in_predicate, in_recovery}
use Rattle.peg.specs.Members.{In}
use Rattle.peg.specs.Totality.{Ends}
use Rattle.peg.specs.Completing.{PlaceGives, Completed, Completes, Among, AllAmong, CompletesAmong}
use Rattle.peg.proofs.Rules.{one_rule}
use Rattle.peg.proofs.Halting.{apart}
use Rattle.peg.proofs.Places.{end_from}
use Rattle.peg.proofs.Members.{in_append, in_left, in_right}
use Rattle.peg.proofs.Totality.{within, Of, numbered, refers, body_of, first_of, second_of, one_of, other_of, part_of, inside_of, recovery_of}

-- something holds of each completed rule-place, where it holds of each part's
module _ (P : RulePlace → Type 0) where
  abbrev Each : List RulePlace → Type 0
  Each zs = (z : RulePlace) → In z zs → P z

  each_none : Each []
  each_none z h = absurd h

  each_both : (xs ys : List RulePlace) → Each xs → Each ys → Each (xs ++ ys)
  each_both xs ys f h z p = elim (in_append z xs ys p) [ inl q ↦ f z q | inr q ↦ h z q ]

  each_last : (xs : List RulePlace) (y : RulePlace) → Each xs → P y → Each (xs ++ (y ∷ []))
  each_last xs y f h z p = go (in_append z xs (y ∷ []) p)
    where
      go : In z xs ⊎ In z (y ∷ []) → P z
      go (inl q) = f z q
      go (inr (inl e)) = subst P (sym e) h
      go (inr (inr q)) = absurd q

module _ (g : Peg) (t : Text) where
  -- from a later place, a smaller depth and a part of the list
  wider : {i j d e : ℕ} {ys zs : List RulePlace} → i ≤ j → e ≤ d → ((y : RulePlace) → In y ys → In y zs)
      → (z : RulePlace) → Completed g t j e ys z → Completed g t i d zs z
  wider {i} {j} {d} {e} h l f z q = record {
    result = q.result;
    gives = q.gives;
    not_before = omega (arith, q.not_before);
    shallower = omega (arith, q.shallower);
    inside = λ y p. f y (q.inside y p);
  }

  abbrev All : ℕ → ℕ → List RulePlace → Type 0
  All i d zs = (z : RulePlace) → In z zs → Completed g t i d zs z

  all_both : (i j d e c : ℕ) (xs ys : List RulePlace) → i ≤ j → d ≤ c → e ≤ c → All i d xs → All j e ys → All i c (xs ++ ys)
  all_both i j d e c xs ys h l n f k = each_both (Completed g t i c (xs ++ ys)) xs ys
      (λ z p. wider (omega arith) l (λ y. in_left y xs ys) z (f z p))
      (λ z p. wider h n (λ y. in_right y xs ys) z (k z p))

  pub all_rule : (r i : ℕ) (m : Mode) (v : Given) → Gives g t (g.expr (g.body r)) i m v → All i v.depth v.completed → All i (suc v.depth) (of_rule r i m v).completed
  all_rule r i m v d f = each_last (Completed g t i (suc v.depth) (of_rule r i m v).completed) v.completed (record { rule = r; place = i; mode = m })
      (λ z p. wider (omega arith) (omega arith) (λ y. in_left y v.completed (record { rule = r; place = i; mode = m } ∷ [])) z (f z p))
      (record { result = of_rule r i m v; gives = as_its_body d; not_before = omega arith; shallower = omega arith; inside = λ y p. p })

  deeper_all : {i d e : ℕ} {zs : List RulePlace} → e ≤ d → All i e zs → All i d zs
  deeper_all l f z p = wider (omega arith) l (λ y q. q) z (f z p)

  pub completed : {x : Expr} {i : ℕ} {m : Mode} {v : Given} → Gives g t x i m v → All i v.depth v.completed
  completed {i} empty_matches = each_none (Completed g t i 1 [])
  completed {i} (terminal_matches p) = each_none (Completed g t i 1 [])
  completed {i} (terminal_fails p) = each_none (Completed g t i 1 [])
  completed {i} {m} (call_gives {r = r} {v = v} d) = all_rule r i m v d (completed d)
  completed {i} (sequence_goes_on {j = j} {v = v} {w = w} d p e) =
      all_both i j v.depth w.depth (suc (max v.depth w.depth)) v.completed w.completed (end_from g t d j p) (omega arith) (omega arith) (completed d) (completed e)
  completed (sequence_fails d p) = deeper_all (omega arith) (completed d)
  completed (choice_stays d p) = deeper_all (omega arith) (completed d)
  completed {i} (choice_turns {v = v} {w = w} d p e) =
      all_both i i v.depth w.depth (suc (max v.depth w.depth)) v.completed w.completed (omega arith) (omega arith) (omega arith) (completed d) (completed e)
  completed (repetition_ends d p) = deeper_all (omega arith) (completed d)
  completed (repetition_fails d p) = deeper_all (omega arith) (completed d)
  completed {i} (repetition_goes_on {j = j} {v = v} {w = w} d p e) =
      all_both i j v.depth w.depth (max (suc v.depth) w.depth) v.completed w.completed (end_from g t d j p) (omega arith) (omega arith) (completed d) (completed e)
  completed (predicate_denies d) = deeper_all (omega arith) (completed d)
  completed {i} (throw_fails p) = each_none (Completed g t i 1 [])
  completed (throw_recovers p d) = deeper_all (omega arith) (completed d)

  pub completed_halted : {x : Expr} {i : ℕ} {m : Mode} {k : ℕ} {zs : List RulePlace} → Halts g t k x i m zs → All i k zs
  completed_halted {i} too_deep = each_none (Completed g t i 0 [])
  completed_halted (in_body a) = deeper_all (omega arith) (completed_halted a)
  completed_halted (in_first a) = deeper_all (omega arith) (completed_halted a)
  completed_halted {i} (in_second {k = k} {j = j} {v = v} {zs = zs} d l p a) =
      all_both i j v.depth k (suc k) v.completed zs (end_from g t d j p) (omega arith) (omega arith) (completed d) (completed_halted a)
  completed_halted (in_one a) = deeper_all (omega arith) (completed_halted a)
  completed_halted {i} (in_other {k = k} {v = v} {zs = zs} d l p a) =
      all_both i i v.depth k (suc k) v.completed zs (omega arith) (omega arith) (omega arith) (completed d) (completed_halted a)
  completed_halted (in_round a) = deeper_all (omega arith) (completed_halted a)
  completed_halted {i} (in_later_round {k = k} {j = j} {v = v} {zs = zs} d l p a) =
      all_both i j v.depth (suc k) (suc k) v.completed zs (end_from g t d j p) (omega arith) (omega arith) (completed d) (completed_halted a)
  completed_halted (in_predicate a) = deeper_all (omega arith) (completed_halted a)
  completed_halted (in_recovery p a) = deeper_all (omega arith) (completed_halted a)

  -- the reach of what is completed
  abbrev Near : ℕ → RulePlace → Type 0
  Near r z = (w : Given) → PlaceGives g t z w → w.reach ≤ r

  near_both : (r s c : ℕ) (xs ys : List RulePlace) → r ≤ c → s ≤ c → Each (Near r) xs → Each (Near s) ys → Each (Near c) (xs ++ ys)
  near_both r s c xs ys h l f k = each_both (Near c) xs ys (λ z p w d. omega (arith, f z p w d)) (λ z p w d. omega (arith, k z p w d))

  pub near : {x : Expr} {i : ℕ} {m : Mode} {v : Given} → Gives g t x i m v → Each (Near v.reach) v.completed
  near {i} empty_matches = each_none (Near (i + 1))
  near {i} (terminal_matches p) = each_none (Near (i + 1))
  near {i} (terminal_fails p) = each_none (Near (i + 1))
  near {i} {m} (call_gives {r = r} {v = v} d) = each_last (Near v.reach) v.completed (record { rule = r; place = i; mode = m }) (near d)
      (λ w e. let q : (of_rule r i m v).reach ≡ w.reach = ap (λ y. y.reach) (one_rule g t (as_its_body d) e) in omega arith)
  near (sequence_goes_on {v = v} {w = w} d p e) =
      near_both v.reach w.reach (max v.reach w.reach) v.completed w.completed (omega arith) (omega arith) (near d) (near e)
  near (sequence_fails d p) = near d
  near (choice_stays d p) = near d
  near (choice_turns {v = v} {w = w} d p e) =
      near_both v.reach w.reach (max v.reach w.reach) v.completed w.completed (omega arith) (omega arith) (near d) (near e)
  near (repetition_ends d p) = near d
  near (repetition_fails d p) = near d
  near (repetition_goes_on {v = v} {w = w} d p e) =
      near_both v.reach w.reach (max v.reach w.reach) v.completed w.completed (omega arith) (omega arith) (near d) (near e)
  near (predicate_denies d) = near d
  near {i} (throw_fails p) = each_none (Near (i + 1))
  near (throw_recovers p d) = near d

  -- a rule-place inside itself would be shallower than itself
  pub not_itself : {r i : ℕ} {m : Mode} {v : Given} → Gives g t (g.expr (g.body r)) i m v → In (record { rule = r; place = i; mode = m }) v.completed → ⊥
  not_itself {r} {i} {m} {v} d p =
      let q = completed d (record { rule = r; place = i; mode = m }) p in
      let e : q.result.depth ≡ v.depth = ap (λ y. y.depth) (one_rule g t q.gives (as_its_body d)) in
      omega (arith, q.shallower)

  pub not_itself_halted : {k r i : ℕ} {m : Mode} {zs : List RulePlace} → RuleHalts g t k r i m zs → In (record { rule = r; place = i; mode = m }) zs → ⊥
  not_itself_halted {k} {r} {i} {m} {zs} a p = go q.result q.gives q.shallower
    where
      q : Completed g t i k zs (record { rule = r; place = i; mode = m })
      q = completed_halted a (record { rule = r; place = i; mode = m }) p

      go : (w : Given) → RuleGives g t r i m w → w.depth < k → ⊥
      go w (as_its_body d) l = apart g t a d (omega arith)

-- what a rule-place completed, itself among it
module _ (g : Peg) (t : Text) where
  pub rule_completed : {r i : ℕ} {m : Mode} {v : Given} → RuleGives g t r i m v → (z : RulePlace) → In z v.completed → Completed g t i (suc v.depth) v.completed z
  rule_completed {r} {i} {m} (as_its_body {v = v} d) z p = all_rule g t r i m v d (completed g t d) z p

  pub rule_near : {r i : ℕ} {m : Mode} {v : Given} → RuleGives g t r i m v → (z : RulePlace) → In z v.completed → (w : Given) → PlaceGives g t z w → w.reach ≤ v.reach
  rule_near {r} {i} {m} (as_its_body {v = v} d) = near g t (call_gives {r = r} d)

pub completes : Completes
completes = record {
  given = λ g t x i m v d. completed g t d;
  reach = λ g t x i m v d. near g t d;
  halted = λ g t k x i m zs a. completed_halted g t a;
  rule = λ g t r i m v d. rule_completed g t d;
  rule_reach = λ g t r i m v d. rule_near g t d;
  never_inside_itself = λ g t r i m v d p. not_itself g t d p;
  never_inside_itself_halted = λ g t k r i m zs a p. not_itself_halted g t a p;
}

-- all completed are rule-places of the grammar and the text
module _ (g : Peg) (whole : Whole g) (t : Text) (n : ℕ) (ends : Ends t n) where
  abbrev Here : RulePlace → Type 0
  Here z = Among g.R n z

  pub among : {x : Expr} {i : ℕ} {m : Mode} {v : Given} → Gives g t x i m v → Of g x → i ≤ n → Each Here v.completed
  among empty_matches o h = each_none Here
  among (terminal_matches p) o h = each_none Here
  among (terminal_fails p) o h = each_none Here
  among {i} {m} (call_gives {r = r} {v = v} d) o h =
      each_last Here v.completed (record { rule = r; place = i; mode = m }) (among d (body_of g whole r o) h) (refers g whole (Call r) o, h)
  among (sequence_goes_on {a = a} {b = b} {j = j} {v = v} {w = w} d p e) o h =
      each_both Here v.completed w.completed (among d (first_of g whole a b o) h) (among e (second_of g whole a b o) (within g t n ends d h j p))
  among (sequence_fails {a = a} {b = b} d p) o h = among d (first_of g whole a b o) h
  among (choice_stays {a = a} {b = b} {s = s} d p) o h = among d (one_of g whole a b s o) h
  among (choice_turns {a = a} {b = b} {s = s} {v = v} {w = w} d p e) o h =
      each_both Here v.completed w.completed (among d (one_of g whole a b s o) h) (among e (other_of g whole a b s o) h)
  among (repetition_ends {a = a} d p) o h = among d (part_of g whole a o) h
  among (repetition_fails {a = a} d p) o h = among d (part_of g whole a o) h
  among (repetition_goes_on {a = a} {j = j} {v = v} {w = w} d p e) o h =
      each_both Here v.completed w.completed (among d (part_of g whole a o) h) (among e o (within g t n ends d h j p))
  among (predicate_denies {a = a} d) o h = among d (inside_of g whole a o) h
  among (throw_fails p) o h = each_none Here
  among {m = m} (throw_recovers {l = l} {e = e} p d) o h = among d (recovery_of g whole l m e o p) h

  pub among_halted : {x : Expr} {i : ℕ} {m : Mode} {k : ℕ} {zs : List RulePlace} → Halts g t k x i m zs → Of g x → i ≤ n → Each Here zs
  among_halted too_deep o h = each_none Here
  among_halted (in_body {r = r} a) o h = among_halted a (body_of g whole r o) h
  among_halted (in_first {a = a} {b = b} c) o h = among_halted c (first_of g whole a b o) h
  among_halted (in_second {a = a} {b = b} {j = j} {v = v} {zs = zs} d l p c) o h =
      each_both Here v.completed zs (among d (first_of g whole a b o) h) (among_halted c (second_of g whole a b o) (within g t n ends d h j p))
  among_halted (in_one {a = a} {b = b} {s = s} c) o h = among_halted c (one_of g whole a b s o) h
  among_halted (in_other {a = a} {b = b} {s = s} {v = v} {zs = zs} d l p c) o h =
      each_both Here v.completed zs (among d (one_of g whole a b s o) h) (among_halted c (other_of g whole a b s o) h)
  among_halted (in_round {a = a} c) o h = among_halted c (part_of g whole a o) h
  among_halted (in_later_round {a = a} {j = j} {v = v} {zs = zs} d l p c) o h =
      each_both Here v.completed zs (among d (part_of g whole a o) h) (among_halted c o (within g t n ends d h j p))
  among_halted (in_predicate {a = a} c) o h = among_halted c (inside_of g whole a o) h
  among_halted {m = m} (in_recovery {l = l} {e = e} p c) o h = among_halted c (recovery_of g whole l m e o p) h

  pub rule_among : {r i : ℕ} {m : Mode} {v : Given} → RuleGives g t r i m v → r < g.R → i ≤ n → Each Here v.completed
  rule_among {r} {i} {m} (as_its_body {v = v} d) h le =
      each_last Here v.completed (record { rule = r; place = i; mode = m }) (among d (numbered g (g.body r) (whole.0 r h)) le) (h, le)

pub all_among : (g : Peg) → Whole g → (t : Text) (n : ℕ) → Ends t n → AllAmong g t n
all_among g whole t n ends = record {
  given = λ e i m h le v d. among g whole t n ends d (numbered g e h) le;
  rule = λ r i m h le v d. rule_among g whole t n ends d h le;
  halted = λ k e i m h le zs a. among_halted g whole t n ends a (numbered g e h) le;
  rule_halted = λ k r i m h le zs a. among_halted g whole t n ends a (numbered g (g.body r) (whole.0 r h)) le;
}

pub completes_among : CompletesAmong
completes_among = record { of_a_grammar = all_among; of_an_accepted_row = λ ws a. all_among (meaning ws) (accepted_whole ws a) }
