-- Known rule-places stay derived and closed, after a parse and after a halt.
use Rattle.std.proofs.Common.{◌≡◌, ℕ, suc, ◌≤◌, List, subst, inl, inr, arith}
use native.Mathlib.Decide.{dec_le}
use Rattle.grammar.specs.declared.expr.Mode.{Mode}
use Rattle.grammar.specs.Words.{Peg}
use Rattle.peg.specs.declared.results.RulePlace.{RulePlace}
use Rattle.peg.specs.Results.{Given}
use Rattle.peg.specs.Rules.{Text, RuleGives}
use Rattle.peg.specs.Rules.{as_its_body}
use Rattle.peg.specs.Halting.{RuleHalts}
use Rattle.peg.specs.Members.{In}
use Rattle.peg.specs.Completing.{PlaceGives, Completed}
use Rattle.peg.specs.Counting.{learned, fresh}
use Rattle.peg.specs.Known.{Known, Learns}
use Rattle.peg.proofs.Rules.{one_rule}
use Rattle.peg.proofs.Halting.{apart, one_halt, rule_deeper}
use Rattle.peg.proofs.Members.{in_left}
use Rattle.peg.proofs.Completing.{completed_halted, rule_completed}
use Rattle.peg.proofs.Counting.{learned_old, learned_new, learned_only, learned_none, fresh_none}

module _ (g : Peg) (t : Text) where
  -- known with all that was completed
  pub closes : (i d : ℕ) (ks zs : List RulePlace) → Known g t ks → ((z : RulePlace) → In z zs → Completed g t i d zs z) → Known g t (learned ks zs)
  closes i d ks zs h f = record {
    derived = λ z p. elim (learned_only ks zs z p) [ inl q ↦ h.derived z q | inr q ↦ ((f z q).result, (f z q).gives) ];
    closed = λ z p v a y q. elim (learned_only ks zs z p) [
      | inl s ↦ learned_old ks zs y (h.closed z s v a y q)
      | inr s ↦ learned_new ks zs y ((f z s).inside y (subst (λ w. In y w.completed) (one_rule g t a (f z s).gives) q))
    ];
  }

  pub known_given : {r i : ℕ} {m : Mode} {v : Given} → (ks : List RulePlace) → Known g t ks → RuleGives g t r i m v → Known g t (learned ks v.completed)
  known_given {i = i} {v = v} ks h d = closes i (suc v.depth) ks v.completed h (rule_completed g t d)

  pub known_halted : {k r i : ℕ} {m : Mode} {zs : List RulePlace} → (ks : List RulePlace) → Known g t ks → RuleHalts g t k r i m zs → Known g t (learned ks zs)
  known_halted {k} {r} {i} {m} {zs} ks h a = closes i k ks zs h (completed_halted g t a)

  pub nothing_fresh : (z : RulePlace) (v : Given) (ks : List RulePlace) → Known g t ks → In z ks → PlaceGives g t z v
      → (learned ks v.completed ≡ ks) × (fresh ks v.completed ≡ 0)
  nothing_fresh z v ks h p d = (learned_none ks v.completed (h.closed z p v d), fresh_none ks v.completed (h.closed z p v d))

  -- what was completed before the halt of a known rule-place
  halted_known : (k : ℕ) (z : RulePlace) (zs ks : List RulePlace) → Known g t ks → In z ks → RuleHalts g t k z.rule z.place z.mode zs
      → (y : RulePlace) → In y zs → In y ks
  halted_known k z zs ks h p a y q = let s = h.derived z p in h.closed z p s.0 s.1 y (go s.0 s.1 (dec_le s.0.depth k))
    where
      not_within : (v : Given) → PlaceGives g t z v → v.depth ≤ k → ⊥
      not_within v (as_its_body d) l = apart g t a d l

      go : (v : Given) → PlaceGives g t z v → Dec (v.depth ≤ k) → In y v.completed
      go v d (yes l) = absurd (not_within v d l)
      go v d (no l) =
          let b = rule_deeper g t d k (omega arith) in
          let e : zs ≡ b.0 = one_halt g t a b.1 in
          subst (λ o. In y o) b.2.1 (in_left y b.0 b.2.0 (subst (λ o. In y o) e q))

  pub nothing_fresh_halted : (k : ℕ) (z : RulePlace) (zs ks : List RulePlace) → Known g t ks → In z ks → RuleHalts g t k z.rule z.place z.mode zs
      → (learned ks zs ≡ ks) × (fresh ks zs ≡ 0)
  nothing_fresh_halted k z zs ks h p a = let f = halted_known k z zs ks h p a in (learned_none ks zs f, fresh_none ks zs f)

pub learns : Learns
learns = record {
  none = λ g t. record { derived = λ z p. absurd p; closed = λ z p. absurd p };
  given = λ g t r i m v ks h d. known_given g t ks h d;
  halted = λ g t k r i m zs ks h a. known_halted g t ks h a;
  nothing_fresh = nothing_fresh;
  nothing_fresh_halted = nothing_fresh_halted;
}
