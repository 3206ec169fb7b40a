-- A text cut into pieces: a piece ends at a separator, and a last one without it counts if it has a byte.
use Rattle.std.specs.Prelude.{ℕ, cond, List, [], ◌∷◌, Some, None, Option, ◌==◌}

-- a byte before the first piece, or as a piece of its own
abbrev pub onto : ℕ → List (List ℕ) → List (List ℕ)
onto b [] = (b ∷ []) ∷ []
onto b (p ∷ ps) = (b ∷ p) ∷ ps

abbrev pub pieces : ℕ → List ℕ → List (List ℕ)
pieces separator [] = []
pieces separator (b ∷ bs) = cond (b == separator) ([] ∷ pieces separator bs) (onto b (pieces separator bs))

-- the bytes before the first separator; all of them, where there is none
abbrev pub first : ℕ → List ℕ → List ℕ
first separator [] = []
first separator (b ∷ bs) = cond (b == separator) [] (b ∷ first separator bs)

-- the bytes after the first separator; none, where there is none
abbrev pub after : ℕ → List ℕ → List ℕ
after separator [] = []
after separator (b ∷ bs) = cond (b == separator) bs (after separator bs)

-- the first piece and what follows it, if there is a piece
abbrev pub cut : ℕ → List ℕ → Option (List ℕ × List ℕ)
cut separator [] = None
cut separator (b ∷ bs) = Some (first separator (b ∷ bs), after separator (b ∷ bs))
