-- The refusals: each by its number, and exactly when it comes.
use Rattle.std.specs.Prelude.{◌≡◌, ℕ, ◌+◌, ◌-◌, ◌<◌, ◌≤◌, Ok, Err, Result}
use Rattle.text.specs.declared.EditRefusal.{EditRefusal}
use Rattle.text.specs.declared.EditRefusal.TheVariants.{Range, Room}
use Rattle.text.specs.declared.MakeRefusal.{MakeRefusal}
use Rattle.text.specs.declared.MakeRefusal.TheVariants.{Buffer, Count}

-- an answer to a change, by its number; 0 is yes
abbrev pub edit_number : Result (Unit {0}) EditRefusal → ℕ
edit_number (Ok x) = 0
edit_number (Err Range) = 11
edit_number (Err Room) = 12

-- an answer to a making, by its number; 0 is yes
abbrev pub make_number : Result (Unit {0}) MakeRefusal → ℕ
make_number (Ok x) = 0
make_number (Err Buffer) = 13
make_number (Err Count) = 14

-- each of the two implies the other
abbrev pub Iff : Type 0 → Type 0 → Type 0
Iff P Q = (P → Q) × (Q → P)

-- 11 exactly if the k elements from p on pass the end of a text of n elements
abbrev pub RangeExactly : Result (Unit {0}) EditRefusal → ℕ → ℕ → ℕ → Type 0
RangeExactly r n p k = Iff (edit_number r ≡ 11) (n < p + k)

-- 12 exactly if they do not, and the text with m in their place would pass its capacity
abbrev pub RoomExactly : Result (Unit {0}) EditRefusal → ℕ → ℕ → ℕ → ℕ → ℕ → Type 0
RoomExactly r n room p k m = Iff (edit_number r ≡ 12) ((p + k ≤ n) × (room < n - k + m))

-- 13 exactly if a buffer of n elements has more than 65,535
abbrev pub BufferExactly : Result (Unit {0}) MakeRefusal → ℕ → Type 0
BufferExactly r n = Iff (make_number r ≡ 13) (65535 < n)

-- 14 exactly if it has not, and the count does not fit it
abbrev pub CountExactly : Result (Unit {0}) MakeRefusal → ℕ → ℕ → Type 0
CountExactly r n count = Iff (make_number r ≡ 14) ((n ≤ 65535) × (n < count))
