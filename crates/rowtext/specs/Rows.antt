-- A line that writes a row of words: in hexadecimal, apart by one space or more, with spaces at its ends or none.
use Rattle.std.specs.Prelude.{◌≡◌, ℕ, List, [], ◌∷◌, ◌++◌, Some, Option, MatchOption}
use Rattle.rowtext.specs.Exact.{Exactly}
use Rattle.rowtext.specs.Hex.{word}

abbrev pub space : ℕ
space = 32

-- what follows a word is nothing, or a space
abbrev pub Apart : List ℕ → Type 0
Apart [] = Unit {0}
Apart (b ∷ bs) = b ≡ space

-- the line writes the row
pub data Writes : List ℕ → List ℕ → Type 0 where
  ends : Writes [] []
  spaced : {line ws : List ℕ} → Writes line ws → Writes (space ∷ line) ws
  worded : (text : List ℕ) {line ws : List ℕ} {w : ℕ} → word text ≡ Some w → Apart line → Writes line ws → Writes (text ++ line) (w ∷ ws)

-- the line is no row
abbrev pub IsNotRow : List ℕ → Type 0
IsNotRow line = (ws : List ℕ) → Writes line ws → ⊥

-- the row that the line writes, or none where it writes none
abbrev pub RowOf : List ℕ → Option (List ℕ) → Type 0
RowOf line row = MatchOption row (IsNotRow line) (λ ws. Exactly ws (Writes line))
