-- Each turn of the engine keeps what has to be kept, and its measure falls. No kind of expression is looked at here.
use Rattle.std.proofs.Common.{◌≡◌, ℕ, zero, suc, ◌+◌, ◌-◌, ◌*◌, ◌^◌, ◌<◌, ◌≤◌, Bool, ◌≢◌, List, [], ◌∷◌, length, get_or, set, Ok, Err, Result, sym, refl, ap, ◌∙◌, subst, ap₂, subst₂, mul-le-mul_right, add-mul, one-mul, add-one, arith, get_or-set_other, get_or-set_same, length-set}
use Rattle.grammar.specs.Words.{Peg}
use native.Mathlib.Nat.{pow-succ', one-le-pow}
use Rattle.grammar.specs.declared.expr.Mode.{Mode}
use Rattle.grammar.specs.declared.expr.Mode.TheVariants.{On}
use Rattle.grammar.specs.declared.expr.Expr.{Expr}
use Rattle.grammar.specs.declared.expr.Expr.TheVariants.{Empty, Terminal, Call, Sequence, Choice, Repetition, Predicate, Throw}
use Rattle.peg.specs.declared.results.Reading.{Reading}
use Rattle.reading.specs.declared.refusal.Refusal.{Refusal}
use Rattle.engine.specs.declared.frame.Frame.{Frame}
use Rattle.engine.specs.declared.step.Ask.{Ask}
use Rattle.engine.specs.declared.step.Move.{Move}
use Rattle.engine.specs.declared.step.Move.TheVariants.{Open, Give}
use Rattle.engine.specs.declared.step.Control.{Control}
use Rattle.engine.specs.declared.step.Control.TheVariants.{Evaluate, Return}
use Rattle.engine.specs.Frames.{blank, mode_by, stack}
use Rattle.reading.specs.Reads.{Setting, setting, Store, Res, expression, Reads}
use Rattle.engine.specs.Machine.{Called, First, One, Round, Last, ResumeAs, Resume, digit_as, digit, Sound, Opened, Entered, Continued, Awaiting, Answers, Chain, In, Out, Resumed, Going, weight, left, Room, frames_after, open_after, comes_next}

-- the stack of frames

stack_set : (fs : List Frame) (k j : ℕ) (f : Frame) → k ≤ j → stack (set fs j f) k ≡ stack fs k
stack_set fs zero j f h = refl
stack_set fs (suc k) j f h =
    let ne : k ≢ j = omega arith in
    ap₂ ◌∷◌ (get_or-set_other fs j k f blank ne) (stack_set fs k j f (omega arith))

pub stack_push : (fs : List Frame) (k : ℕ) (f : Frame) → k < length fs → stack (set fs k f) (k + 1) ≡ f ∷ stack fs k
stack_push fs k f h = ap (stack (set fs k f)) (add-one k) ∙ ap₂ ◌∷◌ (get_or-set_same fs k f blank h) (stack_set fs k k f (omega arith))

pub stack_top : (fs : List Frame) (k : ℕ) → 0 < k → stack fs k ≡ get_or fs (k - 1) blank ∷ stack fs (k - 1)
stack_top fs k h =
    let e : k ≡ suc (k - 1) = omega arith in
    ap (stack fs) e

pub length_stack : (fs : List Frame) (k : ℕ) → length (stack fs k) ≡ k
length_stack fs zero = refl
length_stack fs (suc k) = ap suc (length_stack fs k)

-- what is kept

module _ (G : Setting) (h : ℕ) (f : Frame) (z : Refusal) (T : Store) where
  passes : (m : Mode) (x : Expr) (s : ℕ) → ResumeAs G h f m x s (Err z) T (Err z) T
  passes m Empty s = Last.gives
  passes m (Terminal a b c) s = Last.gives
  passes m (Call k) s = Called.refused
  passes m (Sequence a b) zero = First.refused
  passes m (Sequence a b) (suc s) = Last.gives
  passes m (Choice a b c) zero = One.refused
  passes m (Choice a b c) (suc s) = Last.gives
  passes m (Repetition a) s = Round.refused
  passes m (Predicate a) s = Last.gives
  passes m (Throw l) s = Last.gives

chain_at : (G : Setting) (fs : List Frame) {e e2 i i2 : ℕ} {m m2 : Mode} → e2 ≡ e → i2 ≡ i → m2 ≡ m → Chain G fs e i m → Chain G fs e2 i2 m2
chain_at G fs {e} {e2} {i} {i2} {m} {m2} p q s c =
    subst (λ (x : ℕ). Chain G fs x i2 m2) (sym p) (subst (λ (x : ℕ). Chain G fs e x m2) (sym q) (subst (λ (x : Mode). Chain G fs e i x) (sym s) c))

module _ (G : Setting) (Goal : Res → Store → Type 0) where
  refused_up : (fs : List Frame) (z : Refusal) (T : Store) → Answers G Goal fs (Err z) T → Goal (Err z) T
  refused_up [] z T a = a
  refused_up (f ∷ fs) z T a = refused_up fs z T (a (Err z) T (passes G (length fs) f z T (mode_by f.mode) (G.grammar.expr f.expression) f.stage))

  pub in_refused : {T : Store} {fs : List Frame} {e i : ℕ} {m : Mode} {z : Refusal} → In G Goal T fs e i m → Reads G (length fs) T (expression e) i m (Err z) T → Goal (Err z) T
  in_refused {T} {fs} {z = z} n reads = refused_up fs z T (n.next (Err z) T reads)

  pub in_give : {T : Store} {fs : List Frame} {e i : ℕ} {m : Mode} {v : Reading} → In G Goal T fs e i m
      → Sound G (length fs) e i m v × Reads G (length fs) T (expression e) i m (Ok v) T → Out G Goal T fs v
  in_give {T} {fs} {e} {i} {m} {v} n o = record { e = e; i = i; m = m; sound = o.0; chain = n.chain; next = n.next (Ok v) T o.1 }

  pub in_open : {T : Store} {fs : List Frame} {e i a j : ℕ} {m o : Mode} {f : Frame} → In G Goal T fs e i m → Opened G T (length fs) e i m f a j o → In G Goal T (f ∷ fs) a j o
  in_open {T} {fs} {a = a} {j = j} {o = o} n w = record {
    known = w.known;
    place = w.place;
    chain = (w.awaits, chain_at G fs w.of.0 w.of.1 w.of.2 n.chain);
    next = λ r U reads r2 W resume. n.next r2 W (w.back r U r2 W (subst (λ (k : ℕ). Reads G k T (expression a) j o r U) (sym (add-one (length fs))) reads) resume);
  }

  pub out_awaiting : {T : Store} {fs : List Frame} {f : Frame} {v : Reading} → Out G Goal T (f ∷ fs) v → Awaiting G (length fs) f v
  out_awaiting {fs = fs} {v = v} n = record {
    part = n.e;
    place = n.i;
    mode = n.m;
    awaits = n.chain.0;
    sound = subst (λ (k : ℕ). Sound G k n.e n.i n.m v) (sym (add-one (length fs))) n.sound;
  }

  pub out_give : {T U : Store} {fs : List Frame} {f : Frame} {v w : Reading} → Out G Goal T (f ∷ fs) v
      → Sound G (length fs) f.expression f.place (mode_by f.mode) w × Resume G (length fs) f (Ok v) T (Ok w) U → Out G Goal U fs w
  out_give {U = U} {f = f} {w = w} n o =
      record { e = f.expression; i = f.place; m = mode_by f.mode; sound = o.0; chain = n.chain.1; next = n.next (Ok w) U o.1 }

  pub out_open : {T U : Store} {fs : List Frame} {f f2 : Frame} {v : Reading} {a j : ℕ} {o : Mode} → Out G Goal T (f ∷ fs) v → Continued G T U (length fs) f v f2 a j o → In G Goal U (f2 ∷ fs) a j o
  out_open {U = U} {fs = fs} {a = a} {j = j} {o = o} n w = record {
    known = w.known;
    place = w.place;
    chain = (w.awaits, chain_at G fs w.of.0 w.of.1 (ap mode_by w.of.2) n.chain.1);
    next = λ r W reads r2 X resume. n.next r2 X (w.back r W r2 X (subst (λ (k : ℕ). Reads G k U (expression a) j o r W) (sym (add-one (length fs))) reads) resume);
  }

-- the measure

digit_pos : (n : ℕ) (x : Expr) (s at : ℕ) → 1 ≤ digit_as n x s at
digit_pos n Empty s at = omega arith
digit_pos n (Terminal a b c) s at = omega arith
digit_pos n (Call k) s at = omega arith
digit_pos n (Sequence a b) zero at = omega arith
digit_pos n (Sequence a b) (suc s) at = omega arith
digit_pos n (Choice a b c) zero at = omega arith
digit_pos n (Choice a b c) (suc s) at = omega arith
digit_pos n (Repetition a) s at = omega arith
digit_pos n (Predicate a) s at = omega arith
digit_pos n (Throw l) s at = omega arith

module _ (n d h : ℕ) where
  power_pos : 1 ≤ (n + 4) ^ (d - h)
  power_pos = one-le-pow (d - h) (n + 4) (omega arith)

  -- one level further up is worth n + 4 times as much
  power_up : h < d → (n + 4) ^ (d - h) ≡ (n + 3) * (n + 4) ^ (d - suc h) + (n + 4) ^ (d - suc h)
  power_up lt =
      let e : d - h ≡ suc (d - suc h) = omega arith in
      let P : ℕ = (n + 4) ^ (d - suc h) in
      let q : (n + 4) * P ≡ ((n + 3) + 1) * P = ap (λ (x : ℕ). x * P) (omega arith) in
      ap (λ (x : ℕ). (n + 4) ^ x) e ∙ pow-succ' (n + 4) (d - suc h) ∙ q ∙ add-mul (n + 3) 1 P ∙ ap (λ (x : ℕ). (n + 3) * P + x) (one-mul P)

  -- a digit less pays for what begins one level further down
  pays : (x y w : ℕ) → h < d → x < y → (n + 3) * (n + 4) ^ (d - suc h) + (x * (n + 4) ^ (d - h) + w) < y * (n + 4) ^ (d - h) + w
  pays x y w lt less =
      let Q : ℕ = (n + 4) ^ (d - h) in
      let a : (x + 1) * Q ≤ y * Q = mul-le-mul_right Q (omega arith) in
      let b : (x + 1) * Q ≡ x * Q + Q = add-mul x 1 Q ∙ ap (λ (u : ℕ). x * Q + u) (one-mul Q) in
      let c : 1 ≤ (n + 4) ^ (d - suc h) = one-le-pow (d - suc h) (n + 4) (omega arith) in
      omega (arith, power_up lt, a, b, c)

module _ (G : Setting) (fs : List Frame) where
  falls_in_give : weight G fs < (G.size + 3) * (G.size + 4) ^ (G.frames - length fs) + weight G fs
  falls_in_give =
      let Q : ℕ = (G.size + 4) ^ (G.frames - length fs) in
      let a : 1 * Q ≤ (G.size + 3) * Q = mul-le-mul_right Q (omega arith) in
      omega (arith, a, one-mul Q, power_pos G.size G.frames (length fs))

  falls_in_open : (f : Frame) → length fs < G.frames → digit G f ≤ G.size + 2
      → (G.size + 3) * (G.size + 4) ^ (G.frames - length (f ∷ fs)) + weight G (f ∷ fs) < (G.size + 3) * (G.size + 4) ^ (G.frames - length fs) + weight G fs
  falls_in_open f lt small = pays G.size G.frames (length fs) (digit G f) (G.size + 3) (weight G fs) lt (omega arith)

  falls_out_give : (f : Frame) → weight G fs < weight G (f ∷ fs)
  falls_out_give f =
      let Q : ℕ = (G.size + 4) ^ (G.frames - length fs) in
      let a : 1 * Q ≤ digit G f * Q = mul-le-mul_right Q (digit_pos G.size (G.grammar.expr f.expression) f.stage f.at) in
      omega (arith, a, one-mul Q, power_pos G.size G.frames (length fs))

  falls_out_open : (f f2 : Frame) → length fs < G.frames → digit G f2 < digit G f
      → (G.size + 3) * (G.size + 4) ^ (G.frames - length (f2 ∷ fs)) + weight G (f2 ∷ fs) < weight G (f ∷ fs)
  falls_out_open f f2 lt less = pays G.size G.frames (length fs) (digit G f2) (digit G f) (weight G fs) lt less

-- a turn, over the slice and the height
pub record Turn (G : Setting) (Goal : Res → Store → Type 0) (T : Store) (fs : List Frame) (h : ℕ) (x : Control) : Type 0 where
  pub fit : length fs ≡ G.frames
  pub within : h ≤ G.frames
  pub going : Going G Goal T (stack fs h) x

length_after : (fs : List Frame) (k : ℕ) (s : Move) → length (frames_after fs k s) ≡ length fs
length_after fs k (Open f a) = length-set fs k f
length_after fs k (Give v) = refl

-- what the code makes of a step is what the lemmas speak of
module _ (G : Setting) {fs gs : List Frame} {k : ℕ} {x : Control} {z : ℕ × Control} (p : z ≡ (k, x)) (q : gs ≡ fs) where
  taken_goes : {Goal : Res → Store → Type 0} {T : Store} → Turn G Goal T fs k x → Turn G Goal T gs z.0 z.1
  taken_goes {Goal} {T} o = subst₂ (λ (y : ℕ × Control) (ys : List Frame). Turn G Goal T ys y.0 y.1) (sym p) (sym q) o

  taken_less : {n : ℕ} → left G (stack fs k) x < n → left G (stack gs z.0) z.1 < n
  taken_less {n} o = subst₂ (λ (y : ℕ × Control) (ys : List Frame). left G (stack ys y.0) y.1 < n) (sym p) (sym q) o

module _ {G : Setting} {Goal : Res → Store → Type 0} {T : Store} {fs : List Frame} {h : ℕ} {x : Control} (turn : Turn G Goal T fs h x) where
  long : length (stack fs h) ≡ h
  long = length_stack fs h

  -- an expression is entered

  module _ {q : Ask} (p : x ≡ Evaluate q) where
    entering : In G Goal T (stack fs h) q.expression q.place q.mode
    entering = subst (Going G Goal T (stack fs h)) p turn.going

    pub entered_refused : (z : Refusal) → Entered G T h q.expression q.place q.mode (Err z) → Goal (Err z) T
    entered_refused z reads = in_refused G Goal entering (subst (λ (k : ℕ). Reads G k T (expression q.expression) q.place q.mode (Err z) T) (sym long) reads)

    goes_as : (s : Move) → Entered G T h q.expression q.place q.mode (Ok s) → (open_after h s ≤ G.frames) × Going G Goal T (stack (frames_after fs h s) (open_after h s)) (comes_next s)
    goes_as (Open f a) w =
        let fit = turn.fit in (
          omega (arith, w.level),
          subst (λ (st : List Frame). In G Goal T st a.expression a.place a.mode) (sym (stack_push fs h f (omega (arith, w.level))))
              (in_open G Goal entering (subst (λ (k : ℕ). Opened G T k q.expression q.place q.mode f a.expression a.place a.mode) (sym long) w)),
        )
    goes_as (Give v) o = (
      turn.within,
      in_give G Goal entering (subst (λ (k : ℕ). Sound G k q.expression q.place q.mode v × Reads G k T (expression q.expression) q.place q.mode (Ok v) T) (sym long) o),
    )

    less_as : (s : Move) → Entered G T h q.expression q.place q.mode (Ok s) → left G (stack (frames_after fs h s) (open_after h s)) (comes_next s) < left G (stack fs h) x
    less_as (Open f a) w =
        let fit = turn.fit in
        subst₂ (λ (st : List Frame) (y : Control). left G st (Evaluate a) < left G (stack fs h) y) (sym (stack_push fs h f (omega (arith, w.level)))) (sym p)
        (falls_in_open G (stack fs h) f (omega (arith, long, w.level)) w.small)
    less_as (Give v) o = subst (λ (y : Control). weight G (stack fs h) < left G (stack fs h) y) (sym p) (falls_in_give G (stack fs h))

    pub entered_room : (s : Move) → Entered G T h q.expression q.place q.mode (Ok s) → Room (length fs) h s
    entered_room (Open f a) w = let fit = turn.fit in omega (arith, w.level)
    entered_room (Give v) o = tt

    module _ (s : Move) (w : Entered G T h q.expression q.place q.mode (Ok s)) {z : ℕ × Control} {gs : List Frame} (e : z ≡ (open_after h s, comes_next s)) (held : gs ≡ frames_after fs h s) where
      pub entered_goes : Turn G Goal T gs z.0 z.1
      entered_goes = taken_goes G e held (record { fit = length_after fs h s ∙ turn.fit; within = (goes_as s w).0; going = (goes_as s w).1 })

      pub entered_less : left G (stack gs z.0) z.1 < left G (stack fs h) x
      entered_less = taken_less G e held (less_as s w)

  -- a frame is resumed

  abbrev top : Frame
  top = get_or fs (h - 1) blank

  module _ {v : Reading} (p : x ≡ Return v) (some : 0 < h) where
    leaving : Out G Goal T (top ∷ stack fs (h - 1)) v
    leaving = subst (λ (st : List Frame). Out G Goal T st v) (stack_top fs h some) (subst (Going G Goal T (stack fs h)) p turn.going)

    below : length (stack fs (h - 1)) ≡ h - 1
    below = length_stack fs (h - 1)

    pub resumed_awaiting : Awaiting G (h - 1) top v
    resumed_awaiting = subst (λ (k : ℕ). Awaiting G k top v) below (out_awaiting G Goal leaving)

    on_as : (U : Store) (s : Move) → Resumed G T U (h - 1) top v s → (open_after (h - 1) s ≤ G.frames) × Going G Goal U (stack (frames_after fs (h - 1) s) (open_after (h - 1) s)) (comes_next s)
    on_as U (Open f a) w =
        let fit = turn.fit in
        let within = turn.within in (
          omega arith,
          subst (λ (st : List Frame). In G Goal U st a.expression a.place a.mode) (sym (stack_push fs (h - 1) f (omega arith)))
              (out_open G Goal leaving (subst (λ (k : ℕ). Continued G T U k top v f a.expression a.place a.mode) (sym below) w)),
        )
    on_as U (Give w) o =
        let within = turn.within in (
          omega arith,
          out_give G Goal leaving (subst (λ (k : ℕ). Sound G k top.expression top.place (mode_by top.mode) w × Resume G k top (Ok v) T (Ok w) U) (sym below) o),
        )

    down_as : (U : Store) (s : Move) → Resumed G T U (h - 1) top v s → left G (stack (frames_after fs (h - 1) s) (open_after (h - 1) s)) (comes_next s) < left G (stack fs h) x
    down_as U (Open f a) w =
        let fit = turn.fit in
        let within = turn.within in
        let less : left G (f ∷ stack fs (h - 1)) (Evaluate a) < weight G (top ∷ stack fs (h - 1)) = falls_out_open G (stack fs (h - 1)) top f (omega (arith, below)) w.less in
        let one : left G (f ∷ stack fs (h - 1)) (Evaluate a) < left G (stack fs h) x =
        subst₂ (λ (st : List Frame) (y : Control). left G (f ∷ stack fs (h - 1)) (Evaluate a) < left G st y) (sym (stack_top fs h some)) (sym p) less in
        subst (λ (st : List Frame). left G st (Evaluate a) < left G (stack fs h) x) (sym (stack_push fs (h - 1) f (omega arith))) one
    down_as U (Give w) o =
        subst₂ (λ (st : List Frame) (y : Control). weight G (stack fs (h - 1)) < left G st y) (sym (stack_top fs h some)) (sym p) (falls_out_give G (stack fs (h - 1)) top)

    module _ (U : Store) (s : Move) (w : Resumed G T U (h - 1) top v s) {z : ℕ × Control} {gs : List Frame} (e : z ≡ (open_after (h - 1) s, comes_next s)) (held : gs ≡ frames_after fs (h - 1) s) where
      pub resumed_goes : Turn G Goal U gs z.0 z.1
      resumed_goes = taken_goes G e held (record { fit = length_after fs (h - 1) s ∙ turn.fit; within = (on_as U s w).0; going = (on_as U s w).1 })

      pub resumed_less : left G (stack gs z.0) z.1 < left G (stack fs h) x
      resumed_less = taken_less G e held (down_as U s w)

  pub resumed_room : (s : Move) → 0 < h → Room (length fs) (h - 1) s
  resumed_room (Open f a) some = let fit = turn.fit in let within = turn.within in omega arith
  resumed_room (Give w) some = tt

-- the whole question: expression e at place 0 in mode on, with none other open
abbrev pub Goal : Setting → Store → ℕ → Res → Store → Type 0
Goal G T e r U = Reads G 0 T (expression e) 0 On r U

-- the memory's places and rules are as they were
pub entered_in : {E : Type 0} (g : Peg) (fits : ℕ → ℕ → E → Bool) (xs : List E) (k : ℕ) (keeps : Bool) {P P2 Q Q2 : ℕ} → P2 ≡ P → Q2 ≡ Q → (T : Store) (h : ℕ) (q : Ask) (r : Result Move Refusal)
    → Entered (setting g fits xs k keeps P2 Q2) T h q.expression q.place q.mode r → Entered (setting g fits xs k keeps P Q) T h q.expression q.place q.mode r
entered_in g fits xs k keeps p q T h ask r o =
    subst₂ (λ (a b : ℕ). Entered (setting g fits xs k keeps a b) T h ask.expression ask.place ask.mode r) p q o
