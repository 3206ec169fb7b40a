-- Marks as text: 8 hexadecimal digits, the highest first, with capital letters.
use Rattle.std.specs.Prelude.{ℕ, zero, suc, ◌/◌, ◌%◌, ◌^◌, true, List, [], ◌∷◌}
use Rattle.std.specs.Fmt.{digit_glyph}

-- the lowest k hexadecimal digits of a number
abbrev pub lowest_digits : ℕ → ℕ → List ℕ
lowest_digits zero n = []
lowest_digits (suc k) n = digit_glyph true (n / 16 ^ k % 16) ∷ lowest_digits k n

abbrev pub marks_text : ℕ → List ℕ
marks_text s = lowest_digits 8 s
