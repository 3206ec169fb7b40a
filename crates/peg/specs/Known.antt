-- Known rule-places: derived, and each with all that is completed inside it.
use Rattle.std.specs.Prelude.{◌≡◌, ℕ, List, []}
use Rattle.grammar.specs.declared.expr.Mode.{Mode}
use Rattle.grammar.specs.Words.{Peg}
use Rattle.peg.specs.Members.{In}
use Rattle.peg.specs.declared.results.RulePlace.{RulePlace}
use Rattle.peg.specs.Results.{Given}
use Rattle.peg.specs.Rules.{Text, RuleGives}
use Rattle.peg.specs.Halting.{RuleHalts}
use Rattle.peg.specs.Completing.{PlaceGives}
use Rattle.peg.specs.Counting.{learned, fresh}

-- known rule-places that were derived, each with all that is completed inside it
pub record Known (g : Peg) (t : Text) (ks : List RulePlace) : Type 0 where
  pub derived : (z : RulePlace) → In z ks → (v : Given) × PlaceGives g t z v
  pub closed : (z : RulePlace) → In z ks → (v : Given) → PlaceGives g t z v → (y : RulePlace) → In y v.completed → In y ks

-- after a parse they are so again, whether it gave a result or halted; and what is known brings nothing fresh
pub record Learns : Type 0 where
  pub none : (g : Peg) (t : Text) → Known g t []
  pub given : (g : Peg) (t : Text) (r i : ℕ) (m : Mode) (v : Given) (ks : List RulePlace)
      → Known g t ks → RuleGives g t r i m v → Known g t (learned ks v.completed)
  pub halted : (g : Peg) (t : Text) (k r i : ℕ) (m : Mode) (zs ks : List RulePlace)
      → Known g t ks → RuleHalts g t k r i m zs → Known g t (learned ks zs)
  pub nothing_fresh : (g : Peg) (t : Text) (z : RulePlace) (v : Given) (ks : List RulePlace)
      → Known g t ks → In z ks → PlaceGives g t z v → (learned ks v.completed ≡ ks) × (fresh ks v.completed ≡ 0)
  pub nothing_fresh_halted : (g : Peg) (t : Text) (k : ℕ) (z : RulePlace) (zs ks : List RulePlace)
      → Known g t ks → In z ks → RuleHalts g t k z.rule z.place z.mode zs → (learned ks zs ≡ ks) × (fresh ks zs ≡ 0)
