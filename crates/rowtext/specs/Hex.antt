-- Words in hexadecimal: 1 to 8 digits, in either case.
use Rattle.std.specs.Prelude.{ℕ, Bool, true, cond, ◌&&◌, List, [], ◌∷◌, length, Some, None, Option, nat_le, nat_lt}
use Rattle.std.specs.Char.{digit_value}
use Rattle.std.specs.Str.Parse.{digits_value}

abbrev pub most_digits : ℕ
most_digits = 8

-- each byte is 0 to 9, A to F or a to f
abbrev pub hexadecimal : List ℕ → Bool
hexadecimal [] = true
hexadecimal (b ∷ bs) = nat_lt (digit_value b) 16 && hexadecimal bs

-- the word that a text writes, if it is one
abbrev pub word : List ℕ → Option ℕ
word bs = cond (nat_le 1 (length bs) && (nat_le (length bs) most_digits && hexadecimal bs)) (Some (digits_value 16 bs)) None
