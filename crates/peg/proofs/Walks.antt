-- No walk to leading parts goes on for ever: then each is at most 2 × N long.
use Rattle.std.proofs.Common.{◌≡◌, ℕ, zero, suc, ◌+◌, ◌*◌, ◌<◌, ◌≤◌, ◌⊎◌, List, [], ◌∷◌, length, Some, sym, refl, ap, subst, inl, inr, le_of_suc-le-suc, not-suc-le-zero, eq-or-lt_of_le, arith}
use native.Mathlib.Decide.{ℕ_discrete}
use Rattle.grammar.specs.declared.expr.Mode.{Mode}
use Rattle.grammar.specs.declared.expr.Mode.TheVariants.{On, Off}
use Rattle.grammar.specs.declared.expr.Expr.{Expr}
use Rattle.grammar.specs.declared.expr.Expr.TheVariants.{Throw}
use Rattle.grammar.specs.Words.{Peg}
use Rattle.grammar.specs.Form.{recovers_lem}
use Rattle.grammar.specs.Form.{Leads, Endless, Refers, Whole, Ending}
use Rattle.grammar.specs.Form.{to_body, to_first, past_first, to_one, to_other, to_part, to_inside, to_recovery}
use Rattle.peg.specs.Members.{In}
use Rattle.peg.proofs.Members.{without, length_without, in_without}

-- what is led to exists
pub recovery_low : (g : Peg) (l : ℕ) (m : Mode) (e : ℕ) → Refers g (Throw l) → recovers_lem g l m ≡ Some e → e < g.N
recovery_low g l On e h p = h e p
recovery_low g l Off e h p = let z : ◌≡◌ {A = ℕ} 0 1 = cc in let b : ⊥ = omega arith in absurd b

pub leads_low : {g : Peg} {x : Expr} {m : Mode} {e : ℕ} {m' : Mode} → Leads g x m e m' → Whole g → Refers g x → e < g.N
leads_low (to_body {r = r}) w h = w.0 r h
leads_low to_first w h = h.0
leads_low (past_first z) w h = h.1
leads_low to_one w h = h.0
leads_low to_other w h = h.1
leads_low to_part w h = h
leads_low to_inside w h = h
leads_low {g} {m = m} {e = e} (to_recovery {l = l} p) w h = recovery_low g l m e h p

-- every walk from here has k expressions at most
abbrev pub Short : Peg → ℕ → Expr → Mode → Type 0
Short g zero x m = ⊥
Short g (suc k) x m = (e : ℕ) (m' : Mode) → Leads g x m e m' → Short g k (g.expr e) m'

record Node : Type 0 where
  number : ℕ
  mode : Mode

abbrev Step : Peg → Node → Node → Type 0
Step g x y = Leads g (g.expr x.number) x.mode y.number y.mode

-- a walk of one step or more
data Walk (g : Peg) : Node → Node → Type 0 where
  last : {x y : Node} → Step g x y → Walk g x y
  and_on : {x y z : Node} → Step g x y → Walk g y z → Walk g x z

along : {g : Peg} {x y z : Node} → Walk g x y → Step g y z → Walk g x z
along (last s) r = and_on s (last r)
along (and_on s w) r = and_on s (along w r)

-- a closed walk goes on for ever
module _ (g : Peg) (x : Node) (w : Walk g x x) where
  abbrev State : Type 0
  State = (y : Node) × Walk g y x

  next : {y : Node} → Walk g y x → State
  next (last s) = (x, w)
  next (and_on {y = z} s v) = (z, v)

  next_step : {y : Node} (v : Walk g y x) → Step g y (next v).0
  unfolding next
  next_step (last s) = s
  next_step (and_on s v) = s

  stream : ℕ → State
  stream zero = (x, w)
  stream (suc k) = next (stream k).1

  closed : Endless g x.number x.mode
  unfolding stream
  closed = record {
    place = λ k. (stream k).0.number;
    mode = λ k. (stream k).0.mode;
    starts = refl;
    starts_in = refl;
    goes = λ k. next_step (stream k).1;
  }

-- the numbers below c
range : ℕ → List ℕ
range zero = []
range (suc c) = c ∷ range c

length_range : (c : ℕ) → length (range c) ≡ c
unfolding range
length_range zero = refl
length_range (suc c) = ap suc (length_range c)

in_range : (c d : ℕ) → d < c → In d (range c)
unfolding range
in_range zero d h = absurd (not-suc-le-zero h)
in_range (suc c) d h = go (in_range c d) (eq-or-lt_of_le (le_of_suc-le-suc h))
  where
    go : (d < c → In d (range c)) → (d ≡ c) ⊎ (d < c) → (d ≡ c) ⊎ In d (range c)
    go f (inl e) = inl e
    go f (inr k) = inr (f k)

-- a node's number among 2 × N
abbrev half : Mode → ℕ
half On = 0
half Off = 1

abbrev code : Node → ℕ
code x = 2 * x.number + half x.mode

half_low : (m : Mode) → half m ≤ 1
half_low On = omega arith
half_low Off = omega arith

code_one : (e f : ℕ) (m m' : Mode) → 2 * e + half m ≡ 2 * f + half m' → (e ≡ f) × (m ≡ m')
code_one e f On On h = (omega arith, refl)
code_one e f On Off h = let b : ⊥ = omega arith in absurd b
code_one e f Off On h = let b : ⊥ = omega arith in absurd b
code_one e f Off Off h = (omega arith, refl)

code_same : (x y : Node) → code x ≡ code y → x ≡ y
code_same x y h = let p = code_one x.number y.number x.mode y.mode h in λ k. record { number = p.0 k; mode = p.1 k }

module _ (g : Peg) (whole : Whole g) (ending : Ending g) where
  abbrev Behind : Node → ℕ → Type 0
  Behind x c = (y : Node) × (code y ≡ c) × Walk g y x

  here : (u : List ℕ) (x : Node) → x.number < g.N → In (code x) u ⊎ Behind x (code x) → In (code x) u
  here u x h (inl k) = k
  here u x h (inr (y, e, w)) = absurd (ending x.number x.mode h (closed g x (subst (λ z. Walk g z x) (code_same y x e) w)))

  extend : (u : List ℕ) (x y : Node) (q : In (code x) u) → Step g x y → (c : ℕ) → Dec (c ≡ code x) → In c u ⊎ Behind x c → In c (without (code x) u q) ⊎ Behind y c
  extend u x y q s c (yes e) o = inr (x, sym e, last s)
  extend u x y q s c (no n) (inl h) = inl (in_without (code x) c u q n h)
  extend u x y q s c (no n) (inr (z, e, w)) = inr (z, e, along w s)

  short_from : (k : ℕ) (u : List ℕ) (x : Node) → x.number < g.N → length u ≤ k → ((c : ℕ) → c < 2 * g.N → In c u ⊎ Behind x c)
      → Short g k (g.expr x.number) x.mode
  short_from zero u x h l f =
      let q = here u x h (f (code x) (omega (arith, half_low x.mode))) in
      omega (arith, length_without (code x) u q)
  short_from (suc k) u x h l f = λ e m s.
      let q = here u x h (f (code x) (omega (arith, half_low x.mode))) in
      let y : Node = record { number = e; mode = m } in
      short_from k (without (code x) u q) y (leads_low s whole (whole.1 x.number h)) (omega (arith, length_without (code x) u q)) (λ c z. extend u x y q s c (ℕ_discrete c (code x)) (f c z))

  pub short : (e : ℕ) (m : Mode) → e < g.N → Short g (2 * g.N) (g.expr e) m
  short e m h = short_from (2 * g.N) (range (2 * g.N)) (record { number = e; mode = m }) h (omega (arith, length_range (2 * g.N))) (λ c z. inl (in_range (2 * g.N) c z))
