-- An expression is entered: it gives at once, or is opened with its first part; each kind by one rule of `Reads`.
use Rattle.std.proofs.Common.{◌≡◌, ℕ, ◌+◌, ◌<◌, ◌≤◌, Bool, true, false, Some, None, Ok, Err, sym, refl, subst, subst₂, arith}
use mathlib.Core.Logic.{∥∥₁_map}
use Rattle.grammar.specs.declared.expr.Mode.{Mode}
use Rattle.grammar.specs.declared.expr.Mode.TheVariants.{On, Off}
use Rattle.grammar.specs.declared.expr.Expr.{Expr}
use Rattle.grammar.specs.declared.expr.Expr.TheVariants.{Empty, Terminal, Call, Sequence, Choice, Repetition, Predicate, Throw}
use Rattle.grammar.specs.Words.{Peg}
use Rattle.grammar.specs.Form.{recovers_lem, Nullable, Refers, by_empty, by_call}
use Rattle.peg.specs.declared.results.Outcome.TheVariants.{Match, Failure}
use Rattle.peg.specs.declared.results.Reading.{Reading}
use Rattle.peg.specs.Rules.{unmarked}
use Rattle.peg.specs.Readings.{read_alone, read_deeper, read_predicate, read_recovery}
use Rattle.reading.specs.declared.refusal.Refusal.{Refusal}
use Rattle.engine.specs.declared.step.Ask.{Ask}
use Rattle.engine.specs.Frames.{mode_by, mode_number, fresh_frame}
use Rattle.reading.specs.Reads.{Setting, Store, Res, expression, each, read_terminal, Fits, Reads}
use Rattle.memo.specs.declared.row.Row.{Row}
use Rattle.engine.specs.Finding.{Found}
use Rattle.engine.proofs.Finding.{found_reads, found_gives}
use Rattle.engine.specs.Machine.{Sane, Called, First, One, Round, Last, ResumeAs, AwaitsAs, digit_as, Ahead, Sound, Opened, Entered, opens_with}

pub mode_back : (m : Mode) → mode_by (mode_number m) ≡ m
mode_back On = refl
mode_back Off = refl

recovers_on : (g : Peg) (l e : ℕ) (m : Mode) → recovers_lem g l m ≡ Some e → g.recovery l ≡ Some e
recovers_on g l e On p = p
recovers_on g l e Off p = cc

-- what is asked may be begun below h open expressions: the setting is sane, and has a frame left
pub record Begins (G : Setting) (h : ℕ) (ask : Ask) : Type 0 where
  pub sane : Sane G
  pub level : h < G.frames
  pub known : ask.expression < G.grammar.N
  pub place : ask.place ≤ G.size

module _ {G : Setting} {h : ℕ} {ask : Ask} (here : Begins G h ask) (T : Store) where
  abbrev e : ℕ
  e = ask.expression

  abbrev i : ℕ
  i = ask.place

  abbrev m : Mode
  m = ask.mode

  refers : (x : Expr) → G.grammar.expr e ≡ x → Refers G.grammar x
  refers x p = subst (Refers G.grammar) p (here.sane.whole.1 e here.known)

  -- the expression x is opened with its part a in mode o
  opens : (x : Expr) (a : ℕ) (o : Mode) → G.grammar.expr e ≡ x → a < G.grammar.N → AwaitsAs G (fresh_frame e i m) m x 0 a i o → digit_as G.size x 0 i ≤ G.size + 2
      → ((r : Res) (U : Store) (r2 : Res) (W : Store) → Reads G (h + 1) T (expression a) i o r U → ResumeAs G h (fresh_frame e i m) m x 0 r U r2 W → Reads G h T (expression e) i m r2 W)
      → Opened G T h e i m (fresh_frame e i m) a i o
  opens x a o p low part small back = record {
    level = here.level;
    known = low;
    place = here.place;
    of = (refl, refl, mode_back m);
    awaits = record {
      known = here.known;
      start = omega arith;
      within = here.place;
      note = tt;
      first = omega arith;
      reach = omega arith;
      level = omega arith;
      part = subst₂ (λ (k : Mode) (y : Expr). AwaitsAs G (fresh_frame e i m) k y 0 a i o) (sym (mode_back m)) (sym p) part;
    };
    small = subst (λ (y : Expr). digit_as G.size y 0 i ≤ G.size + 2) (sym p) small;
    back = λ r U r2 W reads resume. back r U r2 W reads (subst₂ (λ (k : Mode) (y : Expr). ResumeAs G h (fresh_frame e i m) k y 0 r U r2 W) (mode_back m) p resume);
  }

  sequence_back : {a b : ℕ} {r r2 : Res} {U W : Store} → G.grammar.expr e ≡ Sequence a b → Reads G (h + 1) T (expression a) i m r U → First G h b m r U r2 W → Reads G h T (expression e) i m r2 W
  sequence_back p reads First.refused = Reads.sequence_refused here.level p reads
  sequence_back p reads (First.fails q) = Reads.sequence_fails here.level p reads q
  sequence_back p reads (First.goes q rest) = Reads.sequence_goes_on here.level p reads q rest

  pub open_sequence : {a b : ℕ} → G.grammar.expr e ≡ Sequence a b → Entered G T h e i m (Ok (opens_with ask a m))
  open_sequence {a} {b} p = opens (Sequence a b) a m p (refers (Sequence a b) p).0 (refl, refl, refl) (omega arith) (λ r U r2 W reads o. sequence_back p reads o)

  choice_back : {a b s : ℕ} {r r2 : Res} {U W : Store} → G.grammar.expr e ≡ Choice a b s → Reads G (h + 1) T (expression a) i m r U → One G h b s i m r U r2 W → Reads G h T (expression e) i m r2 W
  choice_back p reads One.refused = Reads.choice_refused here.level p reads
  choice_back p reads (One.stays q) = Reads.choice_stays here.level p reads q
  choice_back p reads (One.turns q rest) = Reads.choice_turns here.level p reads q rest

  pub open_choice : {a b s : ℕ} → G.grammar.expr e ≡ Choice a b s → Entered G T h e i m (Ok (opens_with ask a m))
  open_choice {a} {b} {s} p = opens (Choice a b s) a m p (refers (Choice a b s) p).0 (refl, refl, refl) (omega arith) (λ r U r2 W reads o. choice_back p reads o)

  each_same : (r : Res) → each (λ v. v) r ≡ r
  each_same (Ok v) = refl
  each_same (Err z) = refl

  repetition_back : {a : ℕ} {r r2 : Res} {U W : Store} → G.grammar.expr e ≡ Repetition a → Reads G (h + 1) T (expression a) i m r U → Round G h e i m (λ v. v) r U r2 W → Reads G h T (expression e) i m r2 W
  repetition_back p reads Round.refused = Reads.repetition_refused here.level p reads
  repetition_back p reads (Round.ends q) = Reads.repetition_ends here.level p reads q
  repetition_back p reads (Round.fails q) = Reads.repetition_fails here.level p reads q
  repetition_back p reads (Round.goes {U = W} {r = r} q rest) =
      subst (λ (x : Res). Reads G h T (expression e) i m x W) (sym (each_same _)) (Reads.repetition_goes_on here.level p reads q rest)

  pub open_repetition : {a : ℕ} → G.grammar.expr e ≡ Repetition a → Entered G T h e i m (Ok (opens_with ask a m))
  open_repetition {a} p = opens (Repetition a) a m p (refers (Repetition a) p) (refl, refl, refl) (omega arith) (λ r U r2 W reads o. repetition_back p reads o)

  predicate_back : {a : ℕ} {r r2 : Res} {U W : Store} → G.grammar.expr e ≡ Predicate a → Reads G (h + 1) T (expression a) i Off r U → Last (read_predicate i) r U r2 W → Reads G h T (expression e) i m r2 W
  predicate_back p reads Last.gives = Reads.predicate here.level p reads

  pub open_predicate : {a : ℕ} → G.grammar.expr e ≡ Predicate a → Entered G T h e i m (Ok (opens_with ask a Off))
  open_predicate {a} p = opens (Predicate a) a Off p (refers (Predicate a) p) (refl, refl, refl) (omega arith) (λ r U r2 W reads o. predicate_back p reads o)

  throw_back : {l a : ℕ} {r r2 : Res} {U W : Store} → G.grammar.expr e ≡ Throw l → recovers_lem G.grammar l m ≡ Some a → Reads G (h + 1) T (expression a) i On r U → Last (read_recovery l i) r U r2 W → Reads G h T (expression e) i m r2 W
  throw_back p q reads Last.gives = Reads.throw_recovers here.level p q reads

  pub open_throw : {l a : ℕ} → G.grammar.expr e ≡ Throw l → recovers_lem G.grammar l m ≡ Some a → Entered G T h e i m (Ok (opens_with ask a On))
  open_throw {l} {a} p q = opens (Throw l) a On p (refers (Throw l) p a (recovers_on G.grammar l a m q)) (q, refl, refl) (omega arith) (λ r U r2 W reads o. throw_back p q reads o)

  call_back : {k : ℕ} {r r2 : Res} {U W : Store} → G.grammar.expr e ≡ Call k → T.rows k i m ≡ None → Reads G (h + 1) T (expression (G.grammar.body k)) i m r U → Called G k i m r U r2 W → Reads G h T (expression e) i m r2 W
  call_back p none reads Called.refused = Reads.call here.level p (Reads.body_refused none reads)
  call_back p none reads (Called.gives stores) = Reads.call here.level p (Reads.body_gives none reads stores)

  pub open_call : {k : ℕ} → G.grammar.expr e ≡ Call k → T.rows k i m ≡ None → Entered G T h e i m (Ok (opens_with ask (G.grammar.body k) m))
  open_call {k} p none =
      opens (Call k) (G.grammar.body k) m p (here.sane.whole.0 k (refers (Call k) p)) (refl, refl, refl) (omega arith) (λ r U r2 W reads o. call_back p none reads o)

  pub give_empty : G.grammar.expr e ≡ Empty → Sound G h e i m (read_alone i (Match i) None) × Reads G h T (expression e) i m (Ok (read_alone i (Match i) None)) T
  give_empty p = (
    record {
      outcome = (omega arith, here.place);
      nothing = λ q. ∣ subst (Nullable G.grammar m) (sym p) by_empty ∣₁;
      note = tt;
      first = omega arith;
      reach = omega arith;
      level = omega arith;
    },
    Reads.empty here.level p,
  )

  never_equal : {A : Type 0} (x : ℕ) → Match (x + 1) ≡ Match x → A
  never_equal x q = let z : x + 1 ≡ x = cc in absurd (omega arith)

  terminal_sound : (b : Bool) (c : ℕ) → (b ≡ true → i < G.size) → Sound G h e i m (read_terminal b c i)
  terminal_sound true c inside =
      let low : i < G.size = inside refl in
      record { outcome = (omega arith, omega arith); nothing = λ q. never_equal i q; note = tt; first = omega arith; reach = omega arith; level = omega arith }
  terminal_sound false c inside =
      record { outcome = here.place; nothing = λ q. cc; note = here.place; first = omega arith; reach = omega arith; level = omega arith }

  pub give_terminal : {a b c : ℕ} → G.grammar.expr e ≡ Terminal a b c
      → Sound G h e i m (read_terminal (G.text a b i) c i) × Reads G h T (expression e) i m (Ok (read_terminal (G.text a b i) c i)) T
  give_terminal {a} {b} {c} p = (terminal_sound (G.text a b i) c (here.sane.inside a b i), Reads.terminal here.level p)

  pub give_throw : {l : ℕ} → G.grammar.expr e ≡ Throw l → recovers_lem G.grammar l m ≡ None
      → Sound G h e i m (read_alone i (Failure l i) (unmarked i)) × Reads G h T (expression e) i m (Ok (read_alone i (Failure l i) (unmarked i))) T
  give_throw p q = (
    record { outcome = here.place; nothing = λ s. cc; note = here.place; first = omega arith; reach = omega arith; level = omega arith },
    Reads.throw_fails here.level p q,
  )

  found_sound : {k : ℕ} {v : Reading} → G.grammar.expr e ≡ Call k → Ahead i G.size v.outcome → Fits G k i m v → h + 1 + v.depth ≤ G.frames → Sound G h e i m (read_deeper v)
  found_sound p ahead fit deep = record {
    outcome = ahead;
    nothing = λ q. ∥∥₁_map (fit.nothing q).1 (λ d. subst (Nullable G.grammar m) (sym p) (by_call d));
    note = fit.note;
    first = fit.first.0;
    reach = fit.reach;
    level = omega arith;
  }

  -- a call whose rule is found in the memory gives what the row tells, or is refused with it
  pub give_found : {k : ℕ} {x : Row} {v : Reading} → G.grammar.expr e ≡ Call k → T.rows k i m ≡ Some x → Found G (h + 1) k i m x (Ok v)
      → Sound G h e i m (read_deeper v) × Reads G h T (expression e) i m (Ok (read_deeper v)) T
  give_found {k} {x} {v} p q found =
      let f = found_gives G (h + 1) k i m x v found in
      (found_sound p f.0 f.1 f.2, Reads.call here.level p (found_reads G T (h + 1) k i m x (Ok v) q found))

  pub refuse_found : {k : ℕ} {x : Row} {z : Refusal} → G.grammar.expr e ≡ Call k → T.rows k i m ≡ Some x → Found G (h + 1) k i m x (Err z) → Reads G h T (expression e) i m (Err z) T
  refuse_found {k} {x} {z} p q found = Reads.call here.level p (found_reads G T (h + 1) k i m x (Err z) q found)
