-- What an edit leaves of the known rule-places.
use Rattle.std.specs.Prelude.{ℕ, ◌+◌, ◌<◌, ◌≤◌, Bool, ◌↔◌, List, length}
use Rattle.grammar.specs.Words.{Peg}
use Rattle.text.specs.Meaning.{accepted, replaced}
use Rattle.peg.specs.Members.{In}
use Rattle.peg.specs.declared.results.RulePlace.{RulePlace}
use Rattle.peg.specs.Results.{Given}
use Rattle.peg.specs.Rules.{Text}
use Rattle.peg.specs.Moves.{moved_rule_place}
use Rattle.peg.specs.Edits.{along}
use Rattle.peg.specs.Completing.{PlaceGives}
use Rattle.peg.specs.Known.{Known}

-- what remains known when k elements at p become m: all others end
pub data Remains (g : Peg) (t : Text) (p k m : ℕ) (ks : List RulePlace) : RulePlace → Type 0 where
  -- a rule-place before p, whose reach as derived before the edit is at most p, is kept
  kept : {z : RulePlace} {v : Given} → In z ks → z.place < p → PlaceGives g t z v → v.reach ≤ p → Remains g t p k m ks z
  -- a rule-place at p + k or later is moved by m − k
  moves : {z : RulePlace} → In z ks → p + k ≤ z.place → Remains g t p k m ks (moved_rule_place (along p k m) z)

-- ls are the rule-places known after the edit, where ks were known before
abbrev pub Settles : Peg → Text → ℕ → ℕ → ℕ → List RulePlace → List RulePlace → Type 0
Settles g t p k m ks ls = (z : RulePlace) → In z ls ↔ Remains g t p k m ks z

pub record Settling (E : Type 0) : Type 0 where
  -- kept and moved known rule-places are derived, and closed, over the new text
  pub known : (g : Peg) (fits : ℕ → ℕ → E → Bool) (xs : List E) (p k : ℕ) (ys : List E) → p + k ≤ length xs
      → (ks ls : List RulePlace) → Known g (accepted fits xs) ks → Settles g (accepted fits xs) p k (length ys) ks ls
      → Known g (accepted fits (replaced xs p k ys)) ls
  -- and for all that were known before there are such
  pub exist : (g : Peg) (t : Text) (p k m : ℕ) (ks : List RulePlace) → Known g t ks
      → (ls : List RulePlace) × Settles g t p k m ks ls
