-- A reading has at most one answer: where two readings part, the same part of them would have to differ.
use Rattle.std.proofs.Common.{◌≡◌, ℕ, zero, suc, ◌+◌, ◌<◌, ◌≤◌, Bool, true, false, cond, not, ◌⊎◌, List, [], ◌∷◌, ◌++◌, length, is_some, Some, None, Ok, Err, Option, sym, refl, ap, ◌∙◌, subst, ap₂, inl, inr, zero-add, arith, length-append}
use native.Mathlib.Decide.{dec_lt}
use Rattle.grammar.specs.declared.expr.Mode.{Mode}
use Rattle.grammar.specs.declared.expr.Mode.TheVariants.{On, Off}
use Rattle.grammar.specs.declared.expr.Expr.{Expr}
use Rattle.grammar.specs.declared.expr.Expr.TheVariants.{Empty, Terminal, Call, Sequence, Choice, Repetition, Predicate, Throw}
use Rattle.grammar.specs.Form.{recovers_lem}
use Rattle.peg.specs.declared.results.Outcome.TheVariants.{Match, Failure}
use Rattle.peg.specs.declared.results.Reading.{Reading}
use Rattle.peg.specs.declared.results.RulePlace.{RulePlace}
use Rattle.peg.specs.Rules.{unmarked, caught}
use Rattle.peg.specs.Members.{In}
use Rattle.peg.specs.Readings.{read_alone, read_deeper, read_sequence, read_other, read_end, read_round, read_predicate, read_recovery}
use Rattle.peg.proofs.Counting.{by_known}
use Rattle.memo.specs.declared.row.Row.{Row}
use Rattle.memo.specs.Tables.{Table, Same, Puts}
use Rattle.memo.specs.Rows.{told_from}
use Rattle.reading.specs.declared.refusal.Refusal.{Refusal}
use Rattle.reading.specs.declared.refusal.Refusal.TheVariants.{Unfit, TooDeep}
use Rattle.reading.specs.declared.reply.Reply.{Reply}
use Rattle.reading.specs.Reads.{Setting, Store, Res, Asked, expression, rule, Reads, Stores, Fits, each, read_terminal, row_of}
use Rattle.reading.specs.Replies.{Replies, uncovered, covered, answer_of}
use Rattle.reading.specs.Putting.{at, put, Gone, Leaves, Drops}
use Rattle.reading.specs.Once.{ReplyDrops, AtMostOne}

-- from two numbers that differ
pub none : {A : Type 0} → ◌≡◌ {A = ℕ} 0 1 → A
none e = let b : ⊥ = omega arith in absurd b

-- one key is another, or not
pub same_key : (k i : ℕ) (m : Mode) (k' i' : ℕ) (m' : Mode) → Same k i m k' i' m' ⊎ (Same k i m k' i' m' → ⊥)
same_key k i m k' i' m' = go (by_known (at k' i' m' ∷ []) (at k i m))
  where
    go : In (at k i m) (at k' i' m' ∷ []) ⊎ (In (at k i m) (at k' i' m' ∷ []) → ⊥) → Same k i m k' i' m' ⊎ (Same k i m k' i' m' → ⊥)
    go (inl (inl e)) = inl (ap (λ z. z.rule) e, ap (λ z. z.place) e, ap (λ z. z.mode) e)
    go (inl (inr e)) = absurd e
    go (inr f) = inr (λ s. f (inl (λ j. record { rule = s.0 j; place = s.1 j; mode = s.2 j })))

-- tables that hold the same rows are the same
pub same_table : (T U : Table) → ((k i : ℕ) (m : Mode) → T k i m ≡ U k i m) → T ≡ U
same_table T U h = λ j k i m. h k i m j

same_store : (T U : Store) → ((k i : ℕ) (m : Mode) → T.rows k i m ≡ U.rows k i m) → T.fresh ≡ U.fresh → T ≡ U
same_store T U h e = λ j. record { rows = λ k i m. h k i m j; fresh = e j }

module _ (G : Setting) where
  -- a put whose dropped rows are given leaves one store
  store_once : (gone : Gone) (T U W : Store) (k i : ℕ) (m : Mode) (x : Row) → Stores G T k i m x U → Stores G T k i m x W
      → Leaves gone T.rows k i m U.rows → Leaves gone T.rows k i m W.rows → U ≡ W
  store_once gone T U W k i m x s s' l l' = same_store U W (λ k' i' m'. go k' i' m' (same_key k' i' m' k i m) (dec_lt k G.Q) (dec_lt i G.P)) (s.counts ∙ sym s'.counts)
    where
      out : (Q≤ : (G.Q ≤ k) ⊎ (G.P ≤ i)) (k' i' : ℕ) (m' : Mode) → U.rows k' i' m' ≡ W.rows k' i' m'
      out o k' i' m' = s.puts.outside o k' i' m' ∙ sym (s'.puts.outside o k' i' m')

      here : (k' i' : ℕ) (m' : Mode) → Same k' i' m' k i m → U.rows k i m ≡ W.rows k i m → U.rows k' i' m' ≡ W.rows k' i' m'
      here k' i' m' q e = cc (q.0, q.1, q.2)

      go : (k' i' : ℕ) (m' : Mode) → Same k' i' m' k i m ⊎ (Same k' i' m' k i m → ⊥) → Dec (k < G.Q) → Dec (i < G.P) → U.rows k' i' m' ≡ W.rows k' i' m'
      go k' i' m' (inr f) a b = l k' i' m' f ∙ sym (l' k' i' m' f)
      go k' i' m' (inl q) (yes a) (yes b) = here k' i' m' q (s.puts.stands a b ∙ sym (s'.puts.stands a b))
      go k' i' m' (inl q) (no a) b = out (inl (omega arith)) k' i' m'
      go k' i' m' (inl q) (yes a) (no b) = out (inr (omega arith)) k' i' m'

module _ (G : Setting) where
  -- a reading whose puts drop what the list gs gives, and leave gs' of it
  abbrev Run : List Gone → ℕ → Store → Asked → ℕ → Mode → Res → Store → List Gone → Type 0
  Run gs h T a i m r U gs' = (d : Reads G h T a i m r U) × Drops d gs gs'

  abbrev Agree : Res → Res → Store → Store → List Gone → List Gone → Type 0
  Agree r s U W gs gs' = (r ≡ s) × (U ≡ W) × (gs ≡ gs')

  -- no other such reading comes to anything else
  abbrev Alone : List Gone → ℕ → Store → Asked → ℕ → Mode → Res → Store → List Gone → Type 0
  Alone gs h T a i m r U gs' = (s : Res) (W : Store) (gs'' : List Gone) → Run gs h T a i m s W gs'' → Agree r s U W gs' gs''

  -- the same reading, by the kind of its expression
  data Step (gs : List Gone) (h : ℕ) (T : Store) (e i : ℕ) (m : Mode) : Expr → Res → Store → List Gone → Type 0 where
    empties : Step gs h T e i m Empty (Ok (read_alone i (Match i) None)) T gs
    tries : {a b c : ℕ} → Step gs h T e i m (Terminal a b c) (Ok (read_terminal (G.text a b i) c i)) T gs
    calls : {k : ℕ} {gs' : List Gone} {U : Store} {r : Res} → Run gs (h + 1) T (rule k) i m r U gs' → Step gs h T e i m (Call k) (each read_deeper r) U gs'
    first_refused : {a b : ℕ} {gs' : List Gone} {U : Store} {z : Refusal} → Run gs (h + 1) T (expression a) i m (Err z) U gs' → Step gs h T e i m (Sequence a b) (Err z) U gs'
    first_fails : {a b l p : ℕ} {gs' : List Gone} {U : Store} {v : Reading} → Run gs (h + 1) T (expression a) i m (Ok v) U gs' → v.outcome ≡ Failure l p
        → Step gs h T e i m (Sequence a b) (Ok (read_deeper v)) U gs'
    both : {a b j : ℕ} {c gs' : List Gone} {U W : Store} {v : Reading} {r : Res} → Run gs (h + 1) T (expression a) i m (Ok v) U c → v.outcome ≡ Match j
        → Run c (h + 1) U (expression b) j m r W gs' → Step gs h T e i m (Sequence a b) (each (read_sequence v) r) W gs'
    one_refused : {a b s : ℕ} {gs' : List Gone} {U : Store} {z : Refusal} → Run gs (h + 1) T (expression a) i m (Err z) U gs' → Step gs h T e i m (Choice a b s) (Err z) U gs'
    stays : {a b s : ℕ} {gs' : List Gone} {U : Store} {v : Reading} → Run gs (h + 1) T (expression a) i m (Ok v) U gs' → caught G.grammar s v.outcome ≡ false
        → Step gs h T e i m (Choice a b s) (Ok (read_deeper v)) U gs'
    turns : {a b s : ℕ} {c gs' : List Gone} {U W : Store} {v : Reading} {r : Res} → Run gs (h + 1) T (expression a) i m (Ok v) U c → caught G.grammar s v.outcome ≡ true
        → Run c (h + 1) U (expression b) i m r W gs' → Step gs h T e i m (Choice a b s) (each (read_other v) r) W gs'
    part_refused : {a : ℕ} {gs' : List Gone} {U : Store} {z : Refusal} → Run gs (h + 1) T (expression a) i m (Err z) U gs' → Step gs h T e i m (Repetition a) (Err z) U gs'
    ends : {a p : ℕ} {gs' : List Gone} {U : Store} {v : Reading} → Run gs (h + 1) T (expression a) i m (Ok v) U gs' → v.outcome ≡ Failure 0 p
        → Step gs h T e i m (Repetition a) (Ok (read_end i v)) U gs'
    part_fails : {a l p : ℕ} {gs' : List Gone} {U : Store} {v : Reading} → Run gs (h + 1) T (expression a) i m (Ok v) U gs' → v.outcome ≡ Failure (suc l) p
        → Step gs h T e i m (Repetition a) (Ok (read_deeper v)) U gs'
    again : {a j : ℕ} {c gs' : List Gone} {U W : Store} {v : Reading} {r : Res} → Run gs (h + 1) T (expression a) i m (Ok v) U c → v.outcome ≡ Match j
        → Run c h U (expression e) j m r W gs' → Step gs h T e i m (Repetition a) (each (read_round v) r) W gs'
    denies : {a : ℕ} {gs' : List Gone} {U : Store} {r : Res} → Run gs (h + 1) T (expression a) i Off r U gs' → Step gs h T e i m (Predicate a) (each (read_predicate i) r) U gs'
    throws : {l : ℕ} → recovers_lem G.grammar l m ≡ None → Step gs h T e i m (Throw l) (Ok (read_alone i (Failure l i) (unmarked i))) T gs
    recovers : {l a : ℕ} {gs' : List Gone} {U : Store} {r : Res} → recovers_lem G.grammar l m ≡ Some a → Run gs (h + 1) T (expression a) i On r U gs'
        → Step gs h T e i m (Throw l) (each (read_recovery l i) r) U gs'

  -- either the expression would stand too deep, or it is read by its kind
  data Opened (gs : List Gone) (h : ℕ) (T : Store) (e i : ℕ) (m : Mode) (r : Res) (U : Store) (gs' : List Gone) : Type 0 where
    deep : G.frames ≤ h → r ≡ Err TooDeep → U ≡ T → gs' ≡ gs → Opened gs h T e i m r U gs'
    steps : {x : Expr} → h < G.frames → G.grammar.expr e ≡ x → Step gs h T e i m x r U gs' → Opened gs h T e i m r U gs'

  ending : {gs gs' : List Gone} {h e i : ℕ} {m : Mode} {x : Expr} {r : Res} {T : Store} → gs' ≡ gs → Step gs h T e i m x r T gs → Step gs h T e i m x r T gs'
  ending {gs} {gs'} {h} {e} {i} {m} {x} {r} {T} p s = subst (λ c. Step gs h T e i m x r T c) (sym p) s

  opened : {gs gs' : List Gone} {h e i : ℕ} {m : Mode} {r : Res} {T U : Store} → (d : Reads G h T (expression e) i m r U) → Drops d gs gs' → Opened gs h T e i m r U gs'
  opened (Reads.too_deep l) x = deep l refl refl x
  opened (Reads.empty l q) x = steps l q (ending x empties)
  opened (Reads.terminal l q) x = steps l q (ending x tries)
  opened (Reads.call l q d) x = steps l q (calls (d, x))
  opened (Reads.sequence_refused l q d) x = steps l q (first_refused (d, x))
  opened (Reads.sequence_fails l q d o) x = steps l q (first_fails (d, x) o)
  opened (Reads.sequence_goes_on l q d o e) x = steps l q (both (d, x.1) o (e, x.2))
  opened (Reads.choice_refused l q d) x = steps l q (one_refused (d, x))
  opened (Reads.choice_stays l q d o) x = steps l q (stays (d, x) o)
  opened (Reads.choice_turns l q d o e) x = steps l q (turns (d, x.1) o (e, x.2))
  opened (Reads.repetition_refused l q d) x = steps l q (part_refused (d, x))
  opened (Reads.repetition_ends l q d o) x = steps l q (ends (d, x) o)
  opened (Reads.repetition_fails l q d o) x = steps l q (part_fails (d, x) o)
  opened (Reads.repetition_goes_on l q d o e) x = steps l q (again (d, x.1) o (e, x.2))
  opened (Reads.predicate l q d) x = steps l q (denies (d, x))
  opened (Reads.throw_fails l q p) x = steps l q (ending x (throws p))
  opened (Reads.throw_recovers l q p d) x = steps l q (recovers p (d, x))

  -- by the kind that the expression has
  as_kind : {gs : List Gone} {h e i : ℕ} {m : Mode} {s : Res} {T W : Store} {gs'' : List Gone} (x : Expr) → h < G.frames → G.grammar.expr e ≡ x
      → Run gs h T (expression e) i m s W gs'' → Step gs h T e i m x s W gs''
  as_kind {gs} {h} {e} {i} {m} {s} {T} {W} {gs''} x l q (d, y) = go (opened d y)
    where
      go : Opened gs h T e i m s W gs'' → Step gs h T e i m x s W gs''
      go (deep f a b c) = let o : ⊥ = omega arith in absurd o
      go (steps {x = x'} f q' st) = subst (λ o. Step gs h T e i m o s W gs'') (sym q' ∙ q) st

  -- a run that goes on where another one does
  onward : {gs c : List Gone} {h i j : ℕ} {T U : Store} {a : Asked} {m : Mode} {r : Res} {W : Store} {gs' : List Gone} → gs ≡ c → T ≡ U → i ≡ j
      → Run c h U a j m r W gs' → Run gs h T a i m r W gs'
  onward {gs} {c} {h} {i} {j} {T} {U} {a} {m} {r} {W} {gs'} p q o x =
      subst (λ y. Run y h T a i m r W gs') (sym p) (subst (λ y. Run c h y a i m r W gs') (sym q) (subst (λ y. Run c h U a y m r W gs') (sym o) x))

  is_ok : {v w : Reading} → ◌≡◌ {A = Res} (Ok v) (Ok w) → v ≡ w
  is_ok e = cc

  ok_err : {A : Type 0} {v : Reading} {z : Refusal} → ◌≡◌ {A = Res} (Ok v) (Err z) → A
  ok_err e = none (cc)

  err_ok : {A : Type 0} {v : Reading} {z : Refusal} → ◌≡◌ {A = Res} (Err z) (Ok v) → A
  err_ok e = none (cc)

  module _ (gs : List Gone) (h : ℕ) (T : Store) (e i : ℕ) (m : Mode) where
    empty_once : {s : Res} {W : Store} {gs'' : List Gone} → Step gs h T e i m Empty s W gs'' → Agree (Ok (read_alone i (Match i) None)) s T W gs gs''
    empty_once empties = (refl, refl, refl)

    terminal_once : (a b c : ℕ) {s : Res} {W : Store} {gs'' : List Gone} → Step gs h T e i m (Terminal a b c) s W gs'' → Agree (Ok (read_terminal (G.text a b i) c i)) s T W gs gs''
    terminal_once a b c tries = (refl, refl, refl)

    module _ (r : Res) (U : Store) (gs' : List Gone) where
      call_once : (k : ℕ) {s : Res} {W : Store} {gs'' : List Gone} → Alone gs (h + 1) T (rule k) i m r U gs' → Step gs h T e i m (Call k) s W gs'' → Agree (each read_deeper r) s U W gs' gs''
      call_once k f (calls x) = let o = f _ _ _ x in (ap (each read_deeper) o.0, o.1, o.2)

      predicate_once : {s : Res} {W : Store} {gs'' : List Gone} → (a : ℕ) → Alone gs (h + 1) T (expression a) i Off r U gs' → Step gs h T e i m (Predicate a) s W gs'' → Agree (each (read_predicate i) r) s U W gs' gs''
      predicate_once a f (denies x) = let o = f _ _ _ x in (ap (each (read_predicate i)) o.0, o.1, o.2)

      recovers_once : (l a : ℕ) {s : Res} {W : Store} {gs'' : List Gone} → recovers_lem G.grammar l m ≡ Some a → Alone gs (h + 1) T (expression a) i On r U gs'
          → Step gs h T e i m (Throw l) s W gs'' → Agree (each (read_recovery l i) r) s U W gs' gs''
      recovers_once l a p f (throws p') = none (cc)
      recovers_once l a p f (recovers {a = a'} {gs' = c} {U = V} {r = r'} p' x) =
          let o = f _ _ _ (subst (λ b. Run gs (h + 1) T (expression b) i On r' V c) (cc) x) in (ap (each (read_recovery l i)) o.0, o.1, o.2)

    throw_once : (l : ℕ) {s : Res} {W : Store} {gs'' : List Gone} → recovers_lem G.grammar l m ≡ None → Step gs h T e i m (Throw l) s W gs'' → Agree (Ok (read_alone i (Failure l i) (unmarked i))) s T W gs gs''
    throw_once l p (throws p') = (refl, refl, refl)
    throw_once l p (recovers p' x) = none (cc)

    -- where the first part is refused
    module _ (z : Refusal) (U : Store) (gs' : List Gone) (a : ℕ) (f : Alone gs (h + 1) T (expression a) i m (Err z) U gs') where
      sequence_refused_once : {s : Res} {W : Store} {gs'' : List Gone} → (b : ℕ) → Step gs h T e i m (Sequence a b) s W gs'' → Agree (Err z) s U W gs' gs''
      sequence_refused_once b (first_refused x) = f _ _ _ x
      sequence_refused_once b (first_fails x o) = err_ok (f _ _ _ x).0
      sequence_refused_once b (both x o y) = err_ok (f _ _ _ x).0

      choice_refused_once : {s : Res} {W : Store} {gs'' : List Gone} → (b c : ℕ) → Step gs h T e i m (Choice a b c) s W gs'' → Agree (Err z) s U W gs' gs''
      choice_refused_once b c (one_refused x) = f _ _ _ x
      choice_refused_once b c (stays x o) = err_ok (f _ _ _ x).0
      choice_refused_once b c (turns x o y) = err_ok (f _ _ _ x).0

      repetition_refused_once : {s : Res} {W : Store} {gs'' : List Gone} → Step gs h T e i m (Repetition a) s W gs'' → Agree (Err z) s U W gs' gs''
      repetition_refused_once (part_refused x) = f _ _ _ x
      repetition_refused_once (ends x o) = err_ok (f _ _ _ x).0
      repetition_refused_once (part_fails x o) = err_ok (f _ _ _ x).0
      repetition_refused_once (again x o y) = err_ok (f _ _ _ x).0

    -- where it gives v
    module _ (v : Reading) (U : Store) (c : List Gone) (a : ℕ) (f : Alone gs (h + 1) T (expression a) i m (Ok v) U c) where
      sequence_fails_once : {s : Res} {W : Store} {gs'' : List Gone} → (b l p : ℕ) → v.outcome ≡ Failure l p → Step gs h T e i m (Sequence a b) s W gs'' → Agree (Ok (read_deeper v)) s U W c gs''
      sequence_fails_once b l p o (first_refused x) = ok_err (f _ _ _ x).0
      sequence_fails_once b l p o (first_fails x o') = let y = f _ _ _ x in (ap (each read_deeper) y.0, y.1, y.2)
      sequence_fails_once b l p o (both x o' y) = let q = is_ok (f _ _ _ x).0 in none (cc)

      sequence_both_once : {s : Res} {W : Store} {gs'' : List Gone} → (b j : ℕ) (r : Res) (V : Store) (gs' : List Gone) → v.outcome ≡ Match j → Alone c (h + 1) U (expression b) j m r V gs'
          → Step gs h T e i m (Sequence a b) s W gs'' → Agree (each (read_sequence v) r) s V W gs' gs''
      sequence_both_once b j r V gs' o k (first_refused x) = ok_err (f _ _ _ x).0
      sequence_both_once b j r V gs' o k (first_fails x o') = let q = is_ok (f _ _ _ x).0 in none (cc)
      sequence_both_once b j r V gs' o k (both x o' y) =
          let u = f _ _ _ x in let q = is_ok u.0 in
          let w = k _ _ _ (onward u.2 u.1 (cc) y) in
          (ap₂ (λ (a : Reading) (b : Res). each (read_sequence a) b) q w.0, w.1, w.2)

      choice_stays_once : {s : Res} {W : Store} {gs'' : List Gone} → (b g : ℕ) → caught G.grammar g v.outcome ≡ false → Step gs h T e i m (Choice a b g) s W gs'' → Agree (Ok (read_deeper v)) s U W c gs''
      choice_stays_once b g o (one_refused x) = ok_err (f _ _ _ x).0
      choice_stays_once b g o (stays x o') = let y = f _ _ _ x in (ap (each read_deeper) y.0, y.1, y.2)
      choice_stays_once b g o (turns x o' y) = let q = is_ok (f _ _ _ x).0 in none (cc)

      choice_turns_once : {s : Res} {W : Store} {gs'' : List Gone} → (b g : ℕ) (r : Res) (V : Store) (gs' : List Gone) → caught G.grammar g v.outcome ≡ true → Alone c (h + 1) U (expression b) i m r V gs'
          → Step gs h T e i m (Choice a b g) s W gs'' → Agree (each (read_other v) r) s V W gs' gs''
      choice_turns_once b g r V gs' o k (one_refused x) = ok_err (f _ _ _ x).0
      choice_turns_once b g r V gs' o k (stays x o') = let q = is_ok (f _ _ _ x).0 in none (cc)
      choice_turns_once b g r V gs' o k (turns x o' y) =
          let u = f _ _ _ x in
          let w = k _ _ _ (onward u.2 u.1 refl y) in
          (ap₂ (λ (a : Reading) (b : Res). each (read_other a) b) (is_ok u.0) w.0, w.1, w.2)

      repetition_ends_once : {s : Res} {W : Store} {gs'' : List Gone} → (p : ℕ) → v.outcome ≡ Failure 0 p → Step gs h T e i m (Repetition a) s W gs'' → Agree (Ok (read_end i v)) s U W c gs''
      repetition_ends_once p o (part_refused x) = ok_err (f _ _ _ x).0
      repetition_ends_once p o (ends x o') = let y = f _ _ _ x in (ap (each (read_end i)) y.0, y.1, y.2)
      repetition_ends_once p o (part_fails x o') = let q = is_ok (f _ _ _ x).0 in none (cc)
      repetition_ends_once p o (again x o' y) = let q = is_ok (f _ _ _ x).0 in none (cc)

      repetition_fails_once : {s : Res} {W : Store} {gs'' : List Gone} → (l p : ℕ) → v.outcome ≡ Failure (suc l) p → Step gs h T e i m (Repetition a) s W gs'' → Agree (Ok (read_deeper v)) s U W c gs''
      repetition_fails_once l p o (part_refused x) = ok_err (f _ _ _ x).0
      repetition_fails_once l p o (ends x o') = let q = is_ok (f _ _ _ x).0 in none (cc)
      repetition_fails_once l p o (part_fails x o') = let y = f _ _ _ x in (ap (each read_deeper) y.0, y.1, y.2)
      repetition_fails_once l p o (again x o' y) = let q = is_ok (f _ _ _ x).0 in none (cc)

      repetition_again_once : {s : Res} {W : Store} {gs'' : List Gone} → (j : ℕ) (r : Res) (V : Store) (gs' : List Gone) → v.outcome ≡ Match j → Alone c h U (expression e) j m r V gs'
          → Step gs h T e i m (Repetition a) s W gs'' → Agree (each (read_round v) r) s V W gs' gs''
      repetition_again_once j r V gs' o k (part_refused x) = ok_err (f _ _ _ x).0
      repetition_again_once j r V gs' o k (ends x o') = let q = is_ok (f _ _ _ x).0 in none (cc)
      repetition_again_once j r V gs' o k (part_fails x o') = let q = is_ok (f _ _ _ x).0 in none (cc)
      repetition_again_once j r V gs' o k (again x o' y) =
          let u = f _ _ _ x in let q = is_ok u.0 in
          let w = k _ _ _ (onward u.2 u.1 (cc) y) in
          (ap₂ (λ (a : Reading) (b : Res). each (read_round a) b) q w.0, w.1, w.2)

    -- where there would be no frame
    deep_once : {s : Res} {W : Store} {gs'' : List Gone} → G.frames ≤ h → Run gs h T (expression e) i m s W gs'' → Agree (Err TooDeep) s T W gs gs''
    deep_once {s} {W} {gs''} l (d, y) = go (opened d y)
      where
        go : Opened gs h T e i m s W gs'' → Agree (Err TooDeep) s T W gs gs''
        go (deep f a b c) = (sym a, sym b, sym c)
        go (steps f q st) = let o : ⊥ = omega arith in absurd o

  -- a row that is there, and one that is not
  found_twice : {A : Type 0} {x : Row} {o : Option Row} → o ≡ Some x → o ≡ None → A
  found_twice p q = none (cc)

  same_row : {x y : Row} {o : Option Row} → o ≡ Some x → o ≡ Some y → x ≡ y
  same_row p q = cc

  module _ (gs : List Gone) (h : ℕ) (T : Store) (k i : ℕ) (m : Mode) where
    unfit_once : {s : Res} {W : Store} {gs'' : List Gone} (x : Row) → T.rows k i m ≡ Some x → (Fits G k i m (told_from x i) → ⊥)
        → (d : Reads G h T (rule k) i m s W) → Drops d gs gs'' → Agree (Err Unfit) s T W gs gs''
    unfit_once x f u (Reads.row_unfit f' u') y = (refl, refl, sym y)
    unfit_once x f u (Reads.row_too_deep f' u' l) y = absurd (u (subst (λ w. Fits G k i m (told_from w i)) (same_row f' f) u'))
    unfit_once x f u (Reads.row_stands f' u' l) y = absurd (u (subst (λ w. Fits G k i m (told_from w i)) (same_row f' f) u'))
    unfit_once x f u (Reads.body_refused f' d) y = found_twice f f'
    unfit_once x f u (Reads.body_gives f' d s) y = found_twice f f'

    deeper_once : {s : Res} {W : Store} {gs'' : List Gone} (x : Row) → T.rows k i m ≡ Some x → Fits G k i m (told_from x i) → G.frames < h + x.depth
        → (d : Reads G h T (rule k) i m s W) → Drops d gs gs'' → Agree (Err TooDeep) s T W gs gs''
    deeper_once x f u l (Reads.row_unfit f' u') y = absurd (u' (subst (λ w. Fits G k i m (told_from w i)) (same_row f f') u))
    deeper_once x f u l (Reads.row_too_deep f' u' l') y = (refl, refl, sym y)
    deeper_once x f u l (Reads.row_stands f' u' l') y = let e = ap (λ w. w.depth) (same_row f f') in let b : ⊥ = omega arith in absurd b
    deeper_once x f u l (Reads.body_refused f' d) y = found_twice f f'
    deeper_once x f u l (Reads.body_gives f' d s) y = found_twice f f'

    stands_once : {s : Res} {W : Store} {gs'' : List Gone} (x : Row) → T.rows k i m ≡ Some x → Fits G k i m (told_from x i) → h + x.depth ≤ G.frames
        → (d : Reads G h T (rule k) i m s W) → Drops d gs gs'' → Agree (Ok (told_from x i)) s T W gs gs''
    stands_once x f u l (Reads.row_unfit f' u') y = absurd (u' (subst (λ w. Fits G k i m (told_from w i)) (same_row f f') u))
    stands_once x f u l (Reads.row_too_deep f' u' l') y = let e = ap (λ w. w.depth) (same_row f f') in let b : ⊥ = omega arith in absurd b
    stands_once x f u l (Reads.row_stands f' u' l') y = (ap (λ w. Ok (told_from w i)) (same_row f f'), refl, sym y)
    stands_once x f u l (Reads.body_refused f' d) y = found_twice f f'
    stands_once x f u l (Reads.body_gives f' d s) y = found_twice f f'

    refused_once : {s : Res} {W : Store} {gs'' : List Gone} (z : Refusal) (U : Store) (gs' : List Gone) → T.rows k i m ≡ None → Alone gs h T (expression (G.grammar.body k)) i m (Err z) U gs'
        → (d : Reads G h T (rule k) i m s W) → Drops d gs gs'' → Agree (Err z) s U W gs' gs''
    refused_once z U gs' f g (Reads.row_unfit f' u') y = found_twice f' f
    refused_once z U gs' f g (Reads.row_too_deep f' u' l') y = found_twice f' f
    refused_once z U gs' f g (Reads.row_stands f' u' l') y = found_twice f' f
    refused_once z U gs' f g (Reads.body_refused f' d) y = g _ _ _ (d, y)
    refused_once z U gs' f g (Reads.body_gives f' d s) y = err_ok (g _ _ _ (d, y.1)).0

    gives_once : {s : Res} {W : Store} {gs'' : List Gone} (v : Reading) (U V : Store) (gone : Gone) (c : List Gone) → T.rows k i m ≡ None → Alone gs h T (expression (G.grammar.body k)) i m (Ok v) U (gone ∷ c)
        → Stores G U k i m (row_of i v) V → Leaves gone U.rows k i m V.rows
        → (d : Reads G h T (rule k) i m s W) → Drops d gs gs'' → Agree (Ok v) s V W c gs''
    gives_once v U V gone c f g p l (Reads.row_unfit f' u') y = found_twice f' f
    gives_once v U V gone c f g p l (Reads.row_too_deep f' u' l') y = found_twice f' f
    gives_once v U V gone c f g p l (Reads.row_stands f' u' l') y = found_twice f' f
    gives_once v U V gone c f g p l (Reads.body_refused f' d) y = ok_err (g _ _ _ (d, y)).0
    gives_once {gs'' = gs''} v U V gone c f g p l (Reads.body_gives {U = U'} {W = W} {v = v'} f' d p') y =
        let o = g _ _ _ (d, y.1) in
        let at-v : Stores G U k i m (row_of i v) W = subst (λ w. Stores G U k i m (row_of i w) W) (sym (is_ok o.0)) (subst (λ X. Stores G X k i m (row_of i v') W) (sym o.1) p') in
        let first : gone ≡ y.0 = let e = o.2 in cc in
        let rest : c ≡ gs'' = let e = o.2 in cc in
        let at_c : Leaves gone U.rows k i m W.rows = subst (λ b. Leaves b U.rows k i m W.rows) (sym first) (subst (λ X. Leaves y.0 X.rows k i m W.rows) (sym o.1) y.2) in
        (o.0, store_once G gone U V W k i m (row_of i v) p at-v l at_c, rest)

  once : {h i : ℕ} {T U : Store} {a : Asked} {m : Mode} {r : Res} → (d : Reads G h T a i m r U) → {gs gs' : List Gone} → Drops d gs gs' → Alone gs h T a i m r U gs'
  once {h} {i} {T} {m = m} (Reads.too_deep {e = e} l) {gs} {gs'} x s W gs'' y = let o = deep_once gs h T e i m l y in (o.0, o.1, x ∙ o.2)
  once {h} {i} {T} {m = m} (Reads.empty {e = e} l q) {gs} {gs'} x s W gs'' y = let o = empty_once gs h T e i m (as_kind Empty l q y) in (o.0, o.1, x ∙ o.2)
  once {h} {i} {T} {m = m} (Reads.terminal {e = e} {a = a} {b = b} {c = c} l q) {gs} {gs'} x s W gs'' y =
      let o = terminal_once gs h T e i m a b c (as_kind (Terminal a b c) l q y) in (o.0, o.1, x ∙ o.2)
  once {h} {i} {T} {U} {m = m} (Reads.call {e = e} {k = k} {r = r} l q d) {gs} {gs'} x s W gs'' y = call_once gs h T e i m r U gs' k (once d x) (as_kind (Call k) l q y)
  once {h} {i} {T} {U} {m = m} (Reads.sequence_refused {e = e} {a = a} {b = b} {z = z} l q d) {gs} {gs'} x s W gs'' y =
      sequence_refused_once gs h T e i m z U gs' a (once d x) b (as_kind (Sequence a b) l q y)
  once {h} {i} {T} {U} {m = m} (Reads.sequence_fails {e = e} {a = a} {b = b} {l = l} {p = p} {v = v} f q d o) {gs} {gs'} x s W gs'' y =
      sequence_fails_once gs h T e i m v U gs' a (once d x) b l p o (as_kind (Sequence a b) f q y)
  once {h} {i} {T} {m = m} (Reads.sequence_goes_on {e = e} {a = a} {b = b} {j = j} {U = U} {W = V} {v = v} {r = r} l q d o d') {gs} {gs'} x s W gs'' y =
      sequence_both_once gs h T e i m v U x.0 a (once d x.1) b j r V gs' o (once d' x.2) (as_kind (Sequence a b) l q y)
  once {h} {i} {T} {U} {m = m} (Reads.choice_refused {e = e} {a = a} {b = b} {s = g} {z = z} l q d) {gs} {gs'} x s W gs'' y =
      choice_refused_once gs h T e i m z U gs' a (once d x) b g (as_kind (Choice a b g) l q y)
  once {h} {i} {T} {U} {m = m} (Reads.choice_stays {e = e} {a = a} {b = b} {s = g} {v = v} l q d o) {gs} {gs'} x s W gs'' y =
      choice_stays_once gs h T e i m v U gs' a (once d x) b g o (as_kind (Choice a b g) l q y)
  once {h} {i} {T} {m = m} (Reads.choice_turns {e = e} {a = a} {b = b} {s = g} {U = U} {W = V} {v = v} {r = r} l q d o d') {gs} {gs'} x s W gs'' y =
      choice_turns_once gs h T e i m v U x.0 a (once d x.1) b g r V gs' o (once d' x.2) (as_kind (Choice a b g) l q y)
  once {h} {i} {T} {U} {m = m} (Reads.repetition_refused {e = e} {a = a} {z = z} l q d) {gs} {gs'} x s W gs'' y =
      repetition_refused_once gs h T e i m z U gs' a (once d x) (as_kind (Repetition a) l q y)
  once {h} {i} {T} {U} {m = m} (Reads.repetition_ends {e = e} {a = a} {p = p} {v = v} l q d o) {gs} {gs'} x s W gs'' y =
      repetition_ends_once gs h T e i m v U gs' a (once d x) p o (as_kind (Repetition a) l q y)
  once {h} {i} {T} {U} {m = m} (Reads.repetition_fails {e = e} {a = a} {l = l} {p = p} {v = v} f q d o) {gs} {gs'} x s W gs'' y =
      repetition_fails_once gs h T e i m v U gs' a (once d x) l p o (as_kind (Repetition a) f q y)
  once {h} {i} {T} {m = m} (Reads.repetition_goes_on {e = e} {a = a} {j = j} {U = U} {W = V} {v = v} {r = r} l q d o d') {gs} {gs'} x s W gs'' y =
      repetition_again_once gs h T e i m v U x.0 a (once d x.1) j r V gs' o (once d' x.2) (as_kind (Repetition a) l q y)
  once {h} {i} {T} {U} {m = m} (Reads.predicate {e = e} {a = a} {r = r} l q d) {gs} {gs'} x s W gs'' y = predicate_once gs h T e i m r U gs' a (once d x) (as_kind (Predicate a) l q y)
  once {h} {i} {T} {m = m} (Reads.throw_fails {e = e} {l = l} f q p) {gs} {gs'} x s W gs'' y = let o = throw_once gs h T e i m l p (as_kind (Throw l) f q y) in (o.0, o.1, x ∙ o.2)
  once {h} {i} {T} {U} {m = m} (Reads.throw_recovers {e = e} {l = l} {a = a} {r = r} f q p d) {gs} {gs'} x s W gs'' y =
      recovers_once gs h T e i m r U gs' l a p (once d x) (as_kind (Throw l) f q y)
  once {h} {i} {T} {m = m} (Reads.row_unfit {k = k} {x = w} f u) {gs} {gs'} x s W gs'' y = let o = unfit_once gs h T k i m w f u y.0 y.1 in (o.0, o.1, x ∙ o.2)
  once {h} {i} {T} {m = m} (Reads.row_too_deep {k = k} {x = w} f u l) {gs} {gs'} x s W gs'' y = let o = deeper_once gs h T k i m w f u l y.0 y.1 in (o.0, o.1, x ∙ o.2)
  once {h} {i} {T} {m = m} (Reads.row_stands {k = k} {x = w} f u l) {gs} {gs'} x s W gs'' y = let o = stands_once gs h T k i m w f u l y.0 y.1 in (o.0, o.1, x ∙ o.2)
  once {h} {i} {T} {U} {m = m} (Reads.body_refused {k = k} {z = z} f d) {gs} {gs'} x s W gs'' y = refused_once gs h T k i m z U gs' f (once d x) y.0 y.1
  once {h} {i} {T} {m = m} (Reads.body_gives {k = k} {U = U} {W = V} {v = v} f d p) {gs} {gs'} x s W gs'' y =
      gives_once gs h T k i m v U V x.0 gs' f (once d x.1) p x.2 y.0 y.1

-- what a put drops can be given: every key that holds nothing afterwards
abbrev emptied_keys : Table → Gone
emptied_keys U k i m = not (is_some (U k i m))

left : (o t : Option Row) → ((y : Row) → o ≡ Some y → Some y ≡ t) → o ≡ cond (not (is_some o)) None t
left None t f = refl
left (Some y) t f = f y refl

put_leaves : (keeps : Bool) (P Q : ℕ) (T U : Table) (k i : ℕ) (m : Mode) (x : Row) → Puts keeps P Q T k i m x U → Leaves (emptied_keys U) T k i m U
put_leaves keeps P Q T U k i m x p k' i' m' n = left (U k' i' m') (T k' i' m') (λ y e. held y (p.others k' i' m' y e))
  where
    held : (y : Row) → Same k' i' m' k i m ⊎ (T k' i' m' ≡ Some y) → Some y ≡ T k' i' m'
    held y (inl q) = absurd (n q)
    held y (inr q) = sym q

module _ (G : Setting) where
  some_drops : {h i : ℕ} {T U : Store} {a : Asked} {m : Mode} {r : Res} → (d : Reads G h T a i m r U) (gs : List Gone) → (hs : List Gone) × Drops d hs gs
  some_drops (Reads.too_deep l) gs = (gs, refl)
  some_drops (Reads.empty l q) gs = (gs, refl)
  some_drops (Reads.terminal l q) gs = (gs, refl)
  some_drops (Reads.call l q d) gs = some_drops d gs
  some_drops (Reads.sequence_refused l q d) gs = some_drops d gs
  some_drops (Reads.sequence_fails l q d o) gs = some_drops d gs
  some_drops (Reads.sequence_goes_on l q d o e) gs = let y = some_drops e gs in let x = some_drops d y.0 in (x.0, (y.0, x.1, y.1))
  some_drops (Reads.choice_refused l q d) gs = some_drops d gs
  some_drops (Reads.choice_stays l q d o) gs = some_drops d gs
  some_drops (Reads.choice_turns l q d o e) gs = let y = some_drops e gs in let x = some_drops d y.0 in (x.0, (y.0, x.1, y.1))
  some_drops (Reads.repetition_refused l q d) gs = some_drops d gs
  some_drops (Reads.repetition_ends l q d o) gs = some_drops d gs
  some_drops (Reads.repetition_fails l q d o) gs = some_drops d gs
  some_drops (Reads.repetition_goes_on l q d o e) gs = let y = some_drops e gs in let x = some_drops d y.0 in (x.0, (y.0, x.1, y.1))
  some_drops (Reads.predicate l q d) gs = some_drops d gs
  some_drops (Reads.throw_fails l q p) gs = (gs, refl)
  some_drops (Reads.throw_recovers l q p d) gs = some_drops d gs
  some_drops (Reads.row_unfit f u) gs = (gs, refl)
  some_drops (Reads.row_too_deep f u l) gs = (gs, refl)
  some_drops (Reads.row_stands f u l) gs = (gs, refl)
  some_drops (Reads.body_refused f d) gs = some_drops d gs
  some_drops {i = i} {m = m} (Reads.body_gives {k = k} {U = U} {W = W} {v = v} f d s) gs =
      let x = some_drops d (emptied_keys W.rows ∷ gs) in
      (x.0, (emptied_keys W.rows, x.1, put_leaves G.keeps G.P G.Q U.rows W.rows k i m (row_of i v) s.puts))

-- a memory that forgets nothing drops nothing, at as many puts as there are
abbrev nothing_gone : Gone
nothing_gone k i m = false

abbrev nothings : ℕ → List Gone
nothings zero = []
nothings (suc n) = nothing_gone ∷ nothings n

module _ (G : Setting) (keeps : G.keeps ≡ true) where
  -- the number of entries, said in another way
  as_many : {h i : ℕ} {T U : Store} {a : Asked} {m : Mode} {r : Res} (d : Reads G h T a i m r U) (n c : ℕ) (gs : List Gone) → n ≡ c → Drops d (nothings c) gs → Drops d (nothings n) gs
  as_many d n c gs e x = subst (λ b. Drops d (nothings b) gs) (sym e) x

  two_drop : (ps qs : List RulePlace) (n : ℕ) → length (ps ++ qs) + n ≡ length ps + (length qs + n)
  two_drop ps qs n = omega (arith, length-append ps qs)

  drops_none : {h i : ℕ} {T U : Store} {a : Asked} {m : Mode} {r : Res} → (d : Reads G h T a i m r U) (n : ℕ) → Drops d (nothings (length (put d) + n)) (nothings n)
  drops_none (Reads.too_deep l) n = ap nothings (sym (zero-add n))
  drops_none (Reads.empty l q) n = ap nothings (sym (zero-add n))
  drops_none (Reads.terminal l q) n = ap nothings (sym (zero-add n))
  drops_none (Reads.call l q d) n = drops_none d n
  drops_none (Reads.sequence_refused l q d) n = drops_none d n
  drops_none (Reads.sequence_fails l q d o) n = drops_none d n
  drops_none (Reads.sequence_goes_on l q d o e) n =
      (nothings (length (put e) + n), as_many d _ _ _ (two_drop (put d) (put e) n) (drops_none d (length (put e) + n)), drops_none e n)
  drops_none (Reads.choice_refused l q d) n = drops_none d n
  drops_none (Reads.choice_stays l q d o) n = drops_none d n
  drops_none (Reads.choice_turns l q d o e) n =
      (nothings (length (put e) + n), as_many d _ _ _ (two_drop (put d) (put e) n) (drops_none d (length (put e) + n)), drops_none e n)
  drops_none (Reads.repetition_refused l q d) n = drops_none d n
  drops_none (Reads.repetition_ends l q d o) n = drops_none d n
  drops_none (Reads.repetition_fails l q d o) n = drops_none d n
  drops_none (Reads.repetition_goes_on l q d o e) n =
      (nothings (length (put e) + n), as_many d _ _ _ (two_drop (put d) (put e) n) (drops_none d (length (put e) + n)), drops_none e n)
  drops_none (Reads.predicate l q d) n = drops_none d n
  drops_none (Reads.throw_fails l q p) n = ap nothings (sym (zero-add n))
  drops_none (Reads.throw_recovers l q p d) n = drops_none d n
  drops_none (Reads.row_unfit f u) n = ap nothings (sym (zero-add n))
  drops_none (Reads.row_too_deep f u l) n = ap nothings (sym (zero-add n))
  drops_none (Reads.row_stands f u l) n = ap nothings (sym (zero-add n))
  drops_none (Reads.body_refused f d) n = drops_none d n
  drops_none {i = i} {m = m} (Reads.body_gives {k = k} f d s) n =
      (nothing_gone, as_many d _ _ _ (omega (arith, two_drop (put d) (at k i m ∷ []) n)) (drops_none d (suc n)), λ k' i' m' o. s.puts.all keeps k' i' m' o)

  keeps_once : {h i : ℕ} {T U W : Store} {a : Asked} {m : Mode} {r s : Res} → Reads G h T a i m r U → Reads G h T a i m s W → (r ≡ s) × (U ≡ W)
  keeps_once d e =
      let x = drops_none d (length (put e)) in
      let y = as_many e (length (put d) + length (put e)) (length (put e) + length (put d)) _ (omega arith) (drops_none e (length (put d))) in
      let o = once G d x _ _ _ (e, y) in (o.0, o.1)

module _ (G : Setting) where
  same_reply : {r s : Res} {U W : Store} → r ≡ s → U ≡ W
      → ◌≡◌ {A = Reply} (record { result = answer_of r; fresh = U.fresh }) (record { result = answer_of s; fresh = W.fresh }) × (U.rows ≡ W.rows)
  same_reply e f = ((λ j. record { result = answer_of (e j); fresh = (f j).fresh }), ap (λ X. X.rows) f)

  reply_once : {capacity : ℕ} {T U W : Table} {p q : Reply} (gs : List Gone) → (d : Replies G capacity T p U) (e : Replies G capacity T q W)
      → ReplyDrops d gs → ReplyDrops e gs → (p ≡ q) × (U ≡ W)
  reply_once gs (uncovered u) (uncovered w) x y = (refl, refl)
  reply_once gs (uncovered u) (covered c e) x y = absurd (u c)
  reply_once gs (covered c d) (uncovered w) x y = absurd (w c)
  reply_once gs (covered c d) (covered c' e) x y = let o = once G d x.1 _ _ _ (e, y.1) in same_reply o.0 o.1

  reply_keeps : G.keeps ≡ true → {capacity : ℕ} {T U W : Table} {p q : Reply} → Replies G capacity T p U → Replies G capacity T q W → (p ≡ q) × (U ≡ W)
  reply_keeps k (uncovered u) (uncovered w) = (refl, refl)
  reply_keeps k (uncovered u) (covered c e) = absurd (u c)
  reply_keeps k (covered c d) (uncovered w) = absurd (w c)
  reply_keeps k (covered c d) (covered c' e) = let o = keeps_once G k d e in same_reply o.0 o.1

pub at_most_one : AtMostOne
at_most_one = record {
  given_drops = λ G h i T U W a m r s gs hs ks d e x y. let o = once G d x _ _ _ (e, y) in (o.0, o.1);
  some_drops = λ G h i T U a m r d. some_drops G d [];
  keeping = λ G k h i T U W a m r s d e. keeps_once G k d e;
  reply_given_drops = λ G capacity T U W p q gs d e x y. reply_once G gs d e x y;
  reply_keeping = λ G k capacity T U W p q d e. reply_keeps G k d e;
  same_rows = same_table;
}
