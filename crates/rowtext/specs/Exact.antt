-- The one thing of which a statement holds.
use Rattle.std.specs.Prelude.{◌≡◌, ◌↔◌}

abbrev pub Exactly : {A : Type 0} → A → (A → Type 0) → Type 0
Exactly {A} a P = (b : A) → (a ≡ b) ↔ P b
