-- How many rule-places were completed and not known before, and how many there can be.
use Rattle.std.specs.Prelude.{◌≡◌, ℕ, suc, ◌+◌, ◌*◌, ◌≤◌, Bool, true, false, cond, ◌⊎◌, ◌↔◌, List, [], ◌∷◌, ◌++◌, length, ◌==◌}
use Rattle.grammar.specs.declared.expr.Mode.{Mode}
use Rattle.grammar.specs.declared.expr.Mode.TheVariants.{On, Off}
use Rattle.peg.specs.Members.{In, Distinct}
use Rattle.peg.specs.declared.results.RulePlace.{RulePlace}
use Rattle.peg.specs.Completing.{Among}

-- no more rule-places than this, of R rules over a text of n elements
abbrev pub most_places : ℕ → ℕ → ℕ
most_places R n = 2 * R * (n + 1)

abbrev pub same_mode : Mode → Mode → Bool
same_mode On On = true
same_mode On Off = false
same_mode Off On = false
same_mode Off Off = true

-- whether two rule-places are the same
abbrev pub same : RulePlace → RulePlace → Bool
same a b = cond (a.rule == b.rule) (cond (a.place == b.place) (same_mode a.mode b.mode) false) false

-- whether a rule-place is in the list
abbrev pub holds : List RulePlace → RulePlace → Bool
holds [] z = false
holds (x ∷ xs) z = cond (same z x) true (holds xs z)

-- the known rule-places, after zs were completed
abbrev pub learned : List RulePlace → List RulePlace → List RulePlace
learned ks [] = ks
learned ks (z ∷ zs) = cond (holds ks z) (learned ks zs) (learned (z ∷ ks) zs)

-- how many rule-places were completed and not known before, each counted once
abbrev pub fresh : List RulePlace → List RulePlace → ℕ
fresh ks [] = 0
fresh ks (z ∷ zs) = cond (holds ks z) (fresh ks zs) (suc (fresh (z ∷ ks) zs))

-- how many rule-places a list holds, each counted once
abbrev pub number : List RulePlace → ℕ
number zs = fresh [] zs

pub record Counting : Type 0 where
  -- known afterwards are those known before and those completed
  pub learns : (ks zs : List RulePlace) (z : RulePlace) → In z (learned ks zs) ↔ (In z ks ⊎ In z zs)
  pub stays_distinct : (ks zs : List RulePlace) → Distinct ks → Distinct (learned ks zs)
  pub grows : (ks zs : List RulePlace) → length (learned ks zs) ≡ length ks + fresh ks zs
  -- the fresh ones are those completed and not known before, each once: any list of just these is that long
  pub counts : (ks zs ns : List RulePlace) → Distinct ns → ((z : RulePlace) → In z ns ↔ (In z zs × (In z ks → ⊥))) → length ns ≡ fresh ks zs
  pub counted : (ks zs : List RulePlace)
      → (ns : List RulePlace) × Distinct ns × ((z : RulePlace) → In z ns ↔ (In z zs × (In z ks → ⊥))) × (length ns ≡ fresh ks zs)
  -- it matters only which rule-places were known and completed; the more were known, the fewer are fresh
  pub same_count : (ks ls xs ys : List RulePlace) → ((z : RulePlace) → In z ks ↔ In z ls) → ((z : RulePlace) → In z xs ↔ In z ys) → fresh ks xs ≡ fresh ls ys
  pub fewer : (ks ls zs : List RulePlace) → ((z : RulePlace) → In z ks → In z ls) → fresh ls zs ≤ fresh ks zs
  -- one after another
  pub learns_on : (ks xs ys : List RulePlace) → learned ks (xs ++ ys) ≡ learned (learned ks xs) ys
  pub counts_on : (ks xs ys : List RulePlace) → fresh ks (xs ++ ys) ≡ fresh ks xs + fresh (learned ks xs) ys
  -- distinct rule-places of R rules at places 0 to n in two modes are at most 2 × R × (n + 1)
  pub most : (R n : ℕ) (zs : List RulePlace) → Distinct zs → ((z : RulePlace) → In z zs → Among R n z) → length zs ≤ most_places R n
  pub most_fresh : (R n : ℕ) (ks zs : List RulePlace) → ((z : RulePlace) → In z zs → Among R n z) → fresh ks zs ≤ most_places R n
