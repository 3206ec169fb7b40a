-- A frame is handed what its part gave: each kind goes on as its relation says.
use Rattle.std.proofs.Common.{◌≡◌, ℕ, zero, suc, ◌+◌, ◌<◌, ◌≤◌, max, Bool, true, false, cond, eqb, Some, None, Ok, Err, Option, sym, refl, ap, ◌∙◌, subst, subst₂, arith}
use mathlib.Core.HLevel.{⊥_prop}
use mathlib.Core.Logic.{∥∥₁_map, ∥∥₁_map₂, ∥∥₁_elim}
use Prim.Native.Nat.{compare, Ordering}
use Rattle.grammar.specs.declared.expr.Mode.{Mode}
use Rattle.grammar.specs.declared.expr.Mode.TheVariants.{On}
use Rattle.grammar.specs.declared.expr.Expr.{Expr}
use Rattle.grammar.specs.declared.expr.Expr.TheVariants.{Call, Sequence, Choice, Repetition, Predicate, Throw}
use Rattle.grammar.specs.Words.{Peg}
use Rattle.grammar.specs.Form.{Nullable, Refers, by_repetition, by_predicate, by_call, by_sequence, by_first, by_second, by_recovery}
use Rattle.peg.specs.declared.results.Outcome.{Outcome}
use Rattle.peg.specs.declared.results.Outcome.TheVariants.{Match, Failure}
use Rattle.peg.specs.declared.results.Note.{Note}
use Rattle.peg.specs.declared.results.Recoveries.{Recoveries}
use Rattle.peg.specs.declared.results.Reading.{Reading}
use Rattle.peg.specs.Rules.{join, farther, caught, denied, denied_note, unmarked}
use Rattle.peg.specs.Summaries.{added}
use Rattle.peg.specs.Readings.{matched_only, read_deeper, read_sequence, read_other, read_end, read_round, read_predicate, read_recovery}
use Rattle.peg.proofs.Readings.{readings}
use Rattle.engine.specs.declared.frame.Frame.{Frame}
use Rattle.engine.specs.Frames.{mode_by, note_by, noted_number, noted_at, so_far, going_on}
use Rattle.reading.specs.Reads.{noted_marks, Setting, Store, Res, expression, each, row_of, NoteWithin, Stores, Reads}
use Rattle.engine.specs.Machine.{Sane, joined, rounds, read_unmatched, finish, Called, First, One, Round, Last, ResumeAs, Resume, Ahead, Sound, AwaitsAs, digit_as, Continued, Awaiting}

-- what a frame keeps of its finished parts

note_back : (x : Option Note) → note_by (noted_number x) (noted_at x) (noted_marks x) ≡ x
note_back None = refl
note_back (Some x) = refl

pub so_far_back : (f : Frame) (j : ℕ) (v : Reading) → v.outcome ≡ Match j → so_far (going_on f j v) ≡ v
so_far_back f j v p = λ k. record {
  outcome = sym p k;
  note = note_back v.note k;
  recoveries = v.recoveries;
  depth = v.depth;
  reach = v.reach;
}

other_same : (f : Frame) (j : ℕ) (v w : Reading) → read_other (so_far (going_on f j v)) w ≡ read_other v w
other_same f j v w = λ k. record {
  outcome = w.outcome;
  note = join (note_back v.note k) w.note;
  recoveries = w.recoveries;
  depth = suc (max v.depth w.depth);
  reach = max v.reach w.reach;
}

each_same : (a b : Reading → Reading) → ((w : Reading) → a w ≡ b w) → (r : Res) → each a r ≡ each b r
each_same a b p (Ok w) = ap Ok (p w)
each_same a b p (Err z) = refl

each_each : (a b c : Reading → Reading) → ((w : Reading) → a w ≡ b (c w)) → (r : Res) → each a r ≡ each b (each c r)
each_each a b c p (Ok w) = ap Ok (p w)
each_each a b c p (Err z) = refl

-- rounds of a repetition may be put together as they come
only_added : (o : Outcome) (a b c : Recoveries) → matched_only o (added (added a b) c) ≡ matched_only o (added a (matched_only o (added b c)))
only_added (Match j) a b c = readings.adds a b c
only_added (Failure l p) a b c = refl

round_round : (s v w : Reading) → read_round (joined s v) w ≡ read_round s (read_round v w)
round_round s v w =
    let d : max (suc (max s.depth v.depth)) w.depth ≡ max (suc s.depth) (max (suc v.depth) w.depth) = omega arith in
    let r : max (max s.reach v.reach) w.reach ≡ max s.reach (max v.reach w.reach) = omega arith in
    λ k. record {
      outcome = w.outcome;
      note = readings.joins s.note v.note w.note k;
      recoveries = only_added w.outcome s.recoveries v.recoveries w.recoveries k;
      depth = d k;
      reach = r k;
    }

finish_next : (f : Frame) (s j : ℕ) (v w : Reading) → v.outcome ≡ Match j → read_round (so_far (going_on f j (rounds f s v))) w ≡ finish f s (read_round v w)
finish_next f zero j v w p = ap (λ (x : Reading). read_round x w) (so_far_back f j v p)
finish_next f (suc s) j v w p = ap (λ (x : Reading). read_round x w) (so_far_back f j (joined (so_far f) v) p) ∙ round_round (so_far f) v w

-- bounds

join_farther : (n : ℕ) (o : Ordering) (x y : Note) → x.place ≤ n → y.place ≤ n → (farther o x y).place ≤ n
join_farther n Ordering.lt x y a b = b
join_farther n Ordering.eq x y a b = a
join_farther n Ordering.gt x y a b = a

join_within : (n : ℕ) (x y : Option Note) → NoteWithin n x → NoteWithin n y → NoteWithin n (join x y)
join_within n None y a b = b
join_within n (Some x) None a b = a
join_within n (Some x) (Some y) a b = join_farther n (compare x.place y.place) x y a b

cond_within : (n : ℕ) (b : Bool) (x y : Recoveries) → x.place ≤ n → y.place ≤ n → (cond b x y).place ≤ n
cond_within n true x y p q = p
cond_within n false x y p q = q

added_within : (n : ℕ) (a b : Recoveries) → a.place ≤ n → b.place ≤ n → (added a b).place ≤ n
added_within n a b p q = cond_within n (eqb a.count 0) b _ q p

only_within : (n : ℕ) (o : Outcome) (a : Recoveries) → a.place ≤ n → (matched_only o a).place ≤ n
only_within n (Match j) a p = p
only_within n (Failure l q) a p = omega arith

ahead_from : (i k n : ℕ) (o : Outcome) → k ≤ i → Ahead i n o → Ahead k n o
ahead_from i k n (Match j) le a = (omega (arith, a.0), a.1)
ahead_from i k n (Failure l p) le a = a

ahead_end : (i n j : ℕ) (o : Outcome) → o ≡ Match j → Ahead i n o → (i ≤ j) × (j ≤ n)
ahead_end i n j o p a = subst (Ahead i n) p a

note_at : (G : Setting) (f : Frame) (j : ℕ) (v : Reading) → NoteWithin G.size v.note → NoteWithin G.size (so_far (going_on f j v)).note
note_at G f j v h = subst (NoteWithin G.size) (sym (note_back v.note)) h

module _ {G : Setting} (sane : Sane G) (T : Store) {h : ℕ} {f : Frame} {v : Reading} (w : Awaiting G h f v) where
  waits : (x : Expr) (s : ℕ) → G.grammar.expr f.expression ≡ x → f.stage ≡ s → AwaitsAs G f (mode_by f.mode) x s w.part w.place w.mode
  waits x s p q = subst₂ (λ (y : Expr) (t : ℕ). AwaitsAs G f (mode_by f.mode) y t w.part w.place w.mode) p q w.awaits.part

  resumes : (x : Expr) (s : ℕ) (r r2 : Res) (U W : Store) → G.grammar.expr f.expression ≡ x → f.stage ≡ s
      → ResumeAs G h f (mode_by f.mode) x s r U r2 W → Resume G h f r U r2 W
  resumes x s r r2 U W p q o = subst₂ (λ (y : Expr) (t : ℕ). ResumeAs G h f (mode_by f.mode) y t r U r2 W) (sym p) (sym q) o

  refers : (x : Expr) → G.grammar.expr f.expression ≡ x → Refers G.grammar x
  refers x p = subst (Refers G.grammar) p (sane.whole.1 f.expression w.awaits.known)

  level : h < G.frames
  level = let l = w.sound.level in omega arith

  -- what may match nothing, at the frame's own mode and expression
  as_own : (x : Expr) → G.grammar.expr f.expression ≡ x → {A : Type 0} → ∥ A ∥₁ → (A → Nullable G.grammar (mode_by f.mode) x)
      → ∥ Nullable G.grammar (mode_by f.mode) (G.grammar.expr f.expression) ∥₁
  as_own x p a g = ∥∥₁_map a (λ d. subst (Nullable G.grammar (mode_by f.mode)) (sym p) (g d))

  -- the part matched nothing, so it may
  part_nothing : (e : ℕ) (o : Mode) → w.part ≡ e → w.mode ≡ o → v.outcome ≡ Match w.place → ∥ Nullable G.grammar o (G.grammar.expr e) ∥₁
  part_nothing e o p q s =
      subst₂ (λ (k : Mode) (y : ℕ). ∥ Nullable G.grammar k (G.grammar.expr y) ∥₁) q p (w.sound.nothing s)

  -- the reading one deeper, of a part at the frame's own place
  deeper_sound : w.place ≡ f.place → (v.outcome ≡ Match f.place → ∥ Nullable G.grammar (mode_by f.mode) (G.grammar.expr f.expression) ∥₁)
      → Sound G h f.expression f.place (mode_by f.mode) (read_deeper v)
  deeper_sound p none = record {
    outcome = ahead_from w.place f.place G.size v.outcome (omega (arith, p)) w.sound.outcome;
    nothing = none;
    note = w.sound.note;
    first = w.sound.first;
    reach = w.sound.reach;
    level = omega (arith, w.sound.level);
  }

  -- calls

  pub call_gives : {k : ℕ} {U : Store} → G.grammar.expr f.expression ≡ Call k → Stores G T k f.place (mode_by f.mode) (row_of f.place v) U
      → Sound G h f.expression f.place (mode_by f.mode) (read_deeper v) × Resume G h f (Ok v) T (Ok (read_deeper v)) U
  call_gives {k} {U} p stores =
      let at = waits (Call k) f.stage p refl in (
        deeper_sound at.1 (λ q. as_own (Call k) p (part_nothing (G.grammar.body k) (mode_by f.mode) at.0 at.2 (q ∙ ap Match (sym at.1))) by_call),
        resumes (Call k) f.stage (Ok v) (Ok (read_deeper v)) T U p refl (Called.gives stores),
      )

  -- sequences

  pub first_fails : {a b l p : ℕ} → G.grammar.expr f.expression ≡ Sequence a b → f.stage ≡ 0 → v.outcome ≡ Failure l p
      → Sound G h f.expression f.place (mode_by f.mode) (read_deeper v) × Resume G h f (Ok v) T (Ok (read_deeper v)) T
  first_fails {a} {b} {l} {p} e s q =
      let at = waits (Sequence a b) 0 e s in
      (deeper_sound at.1 (λ t. cc), resumes (Sequence a b) 0 (Ok v) (Ok (read_deeper v)) T T e s (First.fails q))

  last_as : (a b : Reading → Reading) → ((x : Reading) → a x ≡ b x) → (P : Res → Store → Type 0) {r r2 : Res} {U W : Store} → Last a r U r2 W → P (each b r) U → P r2 W
  last_as a b same P {r} {U = U} Last.gives x = subst (λ (y : Res). P y U) (sym (each_same a b same r)) x

  pub first_goes : {a b j : ℕ} → G.grammar.expr f.expression ≡ Sequence a b → f.stage ≡ 0 → v.outcome ≡ Match j
      → Continued G T T h f v (going_on f j v) b j (mode_by f.mode)
  first_goes {a} {b} {j} e s q =
      let at = waits (Sequence a b) 0 e s in
      let end = ahead_end w.place G.size j v.outcome q w.sound.outcome in
      let same = so_far_back f j v q in
      record {
        known = (refers (Sequence a b) e).1;
        place = end.1;
        of = (refl, refl, refl);
        awaits = record {
          known = w.awaits.known;
          start = omega (arith, at.1, end.0);
          within = end.1;
          note = note_at G f j v w.sound.note;
          first = w.sound.first;
          reach = w.sound.reach;
          level = w.sound.level;
          part = subst (λ (x : Expr). AwaitsAs G (going_on f j v) (mode_by f.mode) x 1 b j (mode_by f.mode)) (sym e)
              (refl, refl, (refl, λ t. part_nothing a (mode_by f.mode) at.0 at.2 (q ∙ ap Match (t ∙ sym at.1))));
        };
        less = subst₂ (λ (x : Expr) (t : ℕ). digit_as G.size x 1 j < digit_as G.size x t f.at) (sym e) (sym s) (omega arith);
        back = λ r W r2 X reads o. resumes (Sequence a b) 0 (Ok v) r2 T X e s
            (last_as (read_sequence (so_far (going_on f j v))) (read_sequence v) (λ x. ap (λ (y : Reading). read_sequence y x) same) (First G h b (mode_by f.mode) (Ok v) T)
            (subst (λ (x : Expr). ResumeAs G h (going_on f j v) (mode_by f.mode) x 1 r W r2 X) e o) (First.goes q reads));
      }

  second_as : (a b s : ℕ) → G.grammar.expr f.expression ≡ Sequence a b → f.stage ≡ suc s
      → Sound G h f.expression f.place (mode_by f.mode) (read_sequence (so_far f) v) × Resume G h f (Ok v) T (Ok (read_sequence (so_far f) v)) T
  second_as a b s e q =
      let at = waits (Sequence a b) (suc s) e q in (
        record {
          outcome = ahead_from w.place f.place G.size v.outcome (omega (arith, at.1, w.awaits.start)) w.sound.outcome;
          nothing = λ t.
              let end = ahead_end w.place G.size f.place v.outcome t w.sound.outcome in
              let here : f.at ≡ f.place = omega (arith, at.1, end.0, w.awaits.start) in
              ∥∥₁_map₂ (at.2.1 here) (part_nothing b (mode_by f.mode) at.0 at.2.0 (t ∙ ap Match (sym here ∙ sym at.1)))
              (λ x y. subst (Nullable G.grammar (mode_by f.mode)) (sym e) (by_sequence x y));
          note = join_within G.size (so_far f).note v.note w.awaits.note w.sound.note;
          first = only_within G.size v.outcome (added (so_far f).recoveries v.recoveries) (added_within G.size (so_far f).recoveries v.recoveries w.awaits.first w.sound.first);
          reach = omega (arith, w.awaits.reach, w.sound.reach);
          level = omega (arith, w.awaits.level, w.sound.level);
        },
        resumes (Sequence a b) (suc s) (Ok v) (Ok (read_sequence (so_far f) v)) T T e q Last.gives,
      )

  pub second_gives : {a b : ℕ} → G.grammar.expr f.expression ≡ Sequence a b → (f.stage ≡ 0 → ⊥)
      → Sound G h f.expression f.place (mode_by f.mode) (read_sequence (so_far f) v) × Resume G h f (Ok v) T (Ok (read_sequence (so_far f) v)) T
  second_gives {a} {b} e q = go f.stage refl
    where
      go : (s : ℕ) → f.stage ≡ s → Sound G h f.expression f.place (mode_by f.mode) (read_sequence (so_far f) v) × Resume G h f (Ok v) T (Ok (read_sequence (so_far f) v)) T
      go zero t = absurd (q t)
      go (suc s) t = second_as a b s e t

  -- choices

  pub one_stays : {a b c : ℕ} → G.grammar.expr f.expression ≡ Choice a b c → f.stage ≡ 0 → caught G.grammar c v.outcome ≡ false
      → Sound G h f.expression f.place (mode_by f.mode) (read_deeper v) × Resume G h f (Ok v) T (Ok (read_deeper v)) T
  one_stays {a} {b} {c} e s q =
      let at = waits (Choice a b c) 0 e s in (
        deeper_sound at.1 (λ t. as_own (Choice a b c) e (part_nothing a (mode_by f.mode) at.0 at.2 (t ∙ ap Match (sym at.1))) by_first),
        resumes (Choice a b c) 0 (Ok v) (Ok (read_deeper v)) T T e s (One.stays q),
      )

  pub one_turns : {a b c : ℕ} → G.grammar.expr f.expression ≡ Choice a b c → f.stage ≡ 0 → caught G.grammar c v.outcome ≡ true
      → Continued G T T h f v (going_on f f.place v) b f.place (mode_by f.mode)
  one_turns {a} {b} {c} e s q =
      let start = w.awaits.start in
      let within = w.awaits.within in
      record {
        known = (refers (Choice a b c) e).1;
        place = omega arith;
        of = (refl, refl, refl);
        awaits = record {
          known = w.awaits.known;
          start = omega arith;
          within = omega arith;
          note = note_at G f f.place v w.sound.note;
          first = w.sound.first;
          reach = w.sound.reach;
          level = w.sound.level;
          part = subst (λ (x : Expr). AwaitsAs G (going_on f f.place v) (mode_by f.mode) x 1 b f.place (mode_by f.mode)) (sym e) (refl, refl, refl);
        };
        less = subst₂ (λ (x : Expr) (t : ℕ). digit_as G.size x 1 f.place < digit_as G.size x t f.at) (sym e) (sym s) (omega arith);
        back = λ r W r2 X reads o. resumes (Choice a b c) 0 (Ok v) r2 T X e s
            (last_as (read_other (so_far (going_on f f.place v))) (read_other v) (other_same f f.place v) (One G h b c f.place (mode_by f.mode) (Ok v) T)
            (subst (λ (x : Expr). ResumeAs G h (going_on f f.place v) (mode_by f.mode) x 1 r W r2 X) e o) (One.turns q reads));
      }

  other_as : (a b c s : ℕ) → G.grammar.expr f.expression ≡ Choice a b c → f.stage ≡ suc s
      → Sound G h f.expression f.place (mode_by f.mode) (read_other (so_far f) v) × Resume G h f (Ok v) T (Ok (read_other (so_far f) v)) T
  other_as a b c s e q =
      let at = waits (Choice a b c) (suc s) e q in (
        record {
          outcome = ahead_from w.place f.place G.size v.outcome (omega (arith, at.1)) w.sound.outcome;
          nothing = λ t. as_own (Choice a b c) e (part_nothing b (mode_by f.mode) at.0 at.2 (t ∙ ap Match (sym at.1))) by_second;
          note = join_within G.size (so_far f).note v.note w.awaits.note w.sound.note;
          first = w.sound.first;
          reach = omega (arith, w.awaits.reach, w.sound.reach);
          level = omega (arith, w.awaits.level, w.sound.level);
        },
        resumes (Choice a b c) (suc s) (Ok v) (Ok (read_other (so_far f) v)) T T e q Last.gives,
      )

  pub other_gives : {a b c : ℕ} → G.grammar.expr f.expression ≡ Choice a b c → (f.stage ≡ 0 → ⊥)
      → Sound G h f.expression f.place (mode_by f.mode) (read_other (so_far f) v) × Resume G h f (Ok v) T (Ok (read_other (so_far f) v)) T
  other_gives {a} {b} {c} e q = go f.stage refl
    where
      go : (s : ℕ) → f.stage ≡ s → Sound G h f.expression f.place (mode_by f.mode) (read_other (so_far f) v) × Resume G h f (Ok v) T (Ok (read_other (so_far f) v)) T
      go zero t = absurd (q t)
      go (suc s) t = other_as a b c s e t

  -- predicates and throws

  denied_ahead : (o : Outcome) → f.place ≤ G.size → Ahead w.place G.size o → Ahead f.place G.size (denied f.place o)
  denied_ahead (Match j) l a = l
  denied_ahead (Failure zero p) l a = (omega arith, l)
  denied_ahead (Failure (suc k) p) l a = a

  denied_within : (o : Outcome) → f.place ≤ G.size → NoteWithin G.size (denied_note f.place o)
  denied_within (Match j) l = l
  denied_within (Failure zero p) l = tt
  denied_within (Failure (suc k) p) l = l

  own_place : f.place ≤ G.size
  own_place = let a = w.awaits.start in let b = w.awaits.within in omega arith

  pub predicate_gives : {a : ℕ} → G.grammar.expr f.expression ≡ Predicate a
      → Sound G h f.expression f.place (mode_by f.mode) (read_predicate f.place v) × Resume G h f (Ok v) T (Ok (read_predicate f.place v)) T
  predicate_gives {a} e = (
    record {
      outcome = denied_ahead v.outcome own_place w.sound.outcome;
      nothing = λ t. ∣ subst (Nullable G.grammar (mode_by f.mode)) (sym e) by_predicate ∣₁;
      note = denied_within v.outcome own_place;
      first = omega arith;
      reach = w.sound.reach;
      level = omega (arith, w.sound.level);
    },
    resumes (Predicate a) f.stage (Ok v) (Ok (read_predicate f.place v)) T T e refl Last.gives,
  )

  pub throw_gives : {l : ℕ} → G.grammar.expr f.expression ≡ Throw l
      → Sound G h f.expression f.place (mode_by f.mode) (read_recovery l f.place v) × Resume G h f (Ok v) T (Ok (read_recovery l f.place v)) T
  throw_gives {l} e =
      let at = waits (Throw l) f.stage e refl in (
        record {
          outcome = ahead_from w.place f.place G.size v.outcome (omega (arith, at.1)) w.sound.outcome;
          nothing = λ t. as_own (Throw l) e (part_nothing w.part On refl at.2 (t ∙ ap Match (sym at.1))) (λ d. by_recovery at.0 d);
          note = join_within G.size (unmarked f.place) v.note own_place w.sound.note;
          first = only_within G.size v.outcome _ (added_within G.size (record { count = 1; label = l; place = f.place }) v.recoveries own_place w.sound.first);
          reach = w.sound.reach;
          level = omega (arith, w.sound.level);
        },
        resumes (Throw l) f.stage (Ok v) (Ok (read_recovery l f.place v)) T T e refl Last.gives,
      )

  -- repetitions

  round_nothing : (a : ℕ) → G.grammar.expr f.expression ≡ Repetition a → ∥ Nullable G.grammar (mode_by f.mode) (G.grammar.expr f.expression) ∥₁
  round_nothing a e = ∣ subst (Nullable G.grammar (mode_by f.mode)) (sym e) by_repetition ∣₁

  finish_sound : (a s : ℕ) (x : Reading) → G.grammar.expr f.expression ≡ Repetition a → Ahead f.place G.size x.outcome
      → NoteWithin G.size x.note → x.recoveries.place ≤ G.size → x.reach ≤ G.size + 1 → h + x.depth ≤ G.frames
      → Sound G h f.expression f.place (mode_by f.mode) (finish f s x)
  finish_sound a zero x e ahead note first reach deep =
      record { outcome = ahead; nothing = λ t. round_nothing a e; note = note; first = first; reach = reach; level = deep }
  finish_sound a (suc s) x e ahead note first reach deep =
      record {
        outcome = ahead;
        nothing = λ t. round_nothing a e;
        note = join_within G.size (so_far f).note x.note w.awaits.note note;
        first = only_within G.size x.outcome _ (added_within G.size (so_far f).recoveries x.recoveries w.awaits.first first);
        reach = omega (arith, w.awaits.reach, reach);
        level = omega (arith, w.awaits.level, deep);
      }

  round_ends : (a p : ℕ) → G.grammar.expr f.expression ≡ Repetition a → v.outcome ≡ Failure 0 p
      → Sound G h f.expression f.place (mode_by f.mode) (finish f f.stage (read_end f.at v)) × Resume G h f (Ok v) T (Ok (finish f f.stage (read_end f.at v))) T
  round_ends a p e q = (
    finish_sound a f.stage (read_end f.at v) e (w.awaits.start, w.awaits.within) w.sound.note (omega arith) w.sound.reach (omega (arith, w.sound.level)),
    resumes (Repetition a) f.stage (Ok v) (Ok (finish f f.stage (read_end f.at v))) T T e refl (Round.ends q),
  )

  round_fails : (a l p : ℕ) → G.grammar.expr f.expression ≡ Repetition a → v.outcome ≡ Failure (suc l) p
      → Sound G h f.expression f.place (mode_by f.mode) (finish f f.stage (read_deeper v)) × Resume G h f (Ok v) T (Ok (finish f f.stage (read_deeper v))) T
  round_fails a l p e q = (
    finish_sound a f.stage (read_deeper v) e (ahead_from w.place f.place G.size v.outcome (omega (arith, (waits (Repetition a) f.stage e refl).1, w.awaits.start)) w.sound.outcome)
        w.sound.note w.sound.first w.sound.reach (omega (arith, w.sound.level)),
    resumes (Repetition a) f.stage (Ok v) (Ok (finish f f.stage (read_deeper v))) T T e refl (Round.fails q),
  )

  pub round_gives : {a l p : ℕ} → G.grammar.expr f.expression ≡ Repetition a → v.outcome ≡ Failure l p
      → Sound G h f.expression f.place (mode_by f.mode) (finish f f.stage (read_unmatched f.at l v)) × Resume G h f (Ok v) T (Ok (finish f f.stage (read_unmatched f.at l v))) T
  round_gives {a} {l = zero} {p} e q = round_ends a p e q
  round_gives {a} {l = suc l} {p} e q = round_fails a l p e q

  round_back : (a j : ℕ) (fin : Reading → Reading) → G.grammar.expr f.expression ≡ Repetition a → v.outcome ≡ Match j
      → ((x : Reading) → fin x ≡ finish f f.stage (read_round v x)) → {r r2 : Res} {W X : Store}
      → Reads G (h + 1) T (expression a) j (mode_by f.mode) r W → Round G h f.expression j (mode_by f.mode) fin r W r2 X
      → Round G h f.expression f.at (mode_by f.mode) (finish f f.stage) (Ok v) T r2 X
  round_back a j fin e q law reads Round.refused = Round.goes q (Reads.repetition_refused level e reads)
  round_back a j fin e q law reads (Round.ends {v = u} {T = W} s) =
      subst (λ (y : Reading). Round G h f.expression f.at (mode_by f.mode) (finish f f.stage) (Ok v) T (Ok y) W) (sym (law (read_end j u))) (Round.goes q (Reads.repetition_ends level e reads s))
  round_back a j fin e q law reads (Round.fails {v = u} {T = W} s) =
      subst (λ (y : Reading). Round G h f.expression f.at (mode_by f.mode) (finish f f.stage) (Ok v) T (Ok y) W) (sym (law (read_deeper u))) (Round.goes q (Reads.repetition_fails level e reads s))
  round_back a j fin e q law reads (Round.goes {v = u} {U = X} {r = r} s rest) =
      subst (λ (y : Res). Round G h f.expression f.at (mode_by f.mode) (finish f f.stage) (Ok v) T y X) (sym (each_each fin (finish f f.stage) (read_round v) law (each (read_round u) r)))
      (Round.goes q (Reads.repetition_goes_on level e reads s rest))

  rounds_within : (s : ℕ) → NoteWithin G.size (rounds f s v).note
  rounds_within zero = w.sound.note
  rounds_within (suc s) = join_within G.size (so_far f).note v.note w.awaits.note w.sound.note

  rounds_first : (s : ℕ) → (rounds f s v).recoveries.place ≤ G.size
  rounds_first zero = w.sound.first
  rounds_first (suc s) = added_within G.size (so_far f).recoveries v.recoveries w.awaits.first w.sound.first

  rounds_reach : (s : ℕ) → (rounds f s v).reach ≤ G.size + 1
  rounds_reach zero = w.sound.reach
  rounds_reach (suc s) = omega (arith, w.awaits.reach, w.sound.reach)

  rounds_level : (s : ℕ) → h + 1 + (rounds f s v).depth ≤ G.frames
  rounds_level zero = w.sound.level
  rounds_level (suc s) = omega (arith, w.awaits.level, w.sound.level)

  pub round_goes : {a j : ℕ} → G.grammar.expr f.expression ≡ Repetition a → v.outcome ≡ Match j
      → Continued G T T h f v (going_on f j (rounds f f.stage v)) a j (mode_by f.mode)
  round_goes {a} {j} e q =
      let at = waits (Repetition a) f.stage e refl in
      let end = ahead_end w.place G.size j v.outcome q w.sound.outcome in
      let moved : j ≡ w.place → ⊥ = λ t. ∥∥₁_elim (part_nothing a (mode_by f.mode) at.0 at.2 (q ∙ ap Match t)) ⊥_prop
      (sane.solid f.expression a (mode_by f.mode) w.awaits.known e) in
      let more : f.at < j = omega (arith, at.1, end.0) in
      record {
        known = refers (Repetition a) e;
        place = end.1;
        of = (refl, refl, refl);
        awaits = record {
          known = w.awaits.known;
          start = omega (arith, w.awaits.start);
          within = end.1;
          note = note_at G f j (rounds f f.stage v) (rounds_within f.stage);
          first = rounds_first f.stage;
          reach = rounds_reach f.stage;
          level = rounds_level f.stage;
          part = subst (λ (x : Expr). AwaitsAs G (going_on f j (rounds f f.stage v)) (mode_by f.mode) x 1 a j (mode_by f.mode)) (sym e) (refl, refl, refl);
        };
        less = subst (λ (x : Expr). digit_as G.size x 1 j < digit_as G.size x f.stage f.at) (sym e) (omega (arith, end.1));
        back = λ r W r2 X reads o. resumes (Repetition a) f.stage (Ok v) r2 T X e refl
            (round_back a j (finish (going_on f j (rounds f f.stage v)) 1) e q (λ x. finish_next f f.stage j v x q) reads
            (subst (λ (x : Expr). ResumeAs G h (going_on f j (rounds f f.stage v)) (mode_by f.mode) x 1 r W r2 X) e o));
      }

pub expr_in : (G : Setting) (g : Peg) (e : ℕ) (x : Expr) → G.grammar ≡ g → x ≡ g.expr e → G.grammar.expr e ≡ x
expr_in G g e x p q = ap (λ (y : Peg). y.expr e) p ∙ sym q
