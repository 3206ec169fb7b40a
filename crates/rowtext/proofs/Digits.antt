-- One more hexadecimal digit.
use Rattle.std.proofs.Common.{ℕ, ◌^◌, ◌<◌, ◌≤◌, cond, List, Some, None, Option, arith}
use native.Mathlib.Nat.{pow-le-pow_right}
use Rattle.std.specs.Str.Parse.{digits_value_after}
use Rattle.rowtext.specs.Hex.{hexadecimal}

-- the number w, and then the digits of bs
abbrev pub word_after : ℕ → List ℕ → Option ℕ
word_after w bs = cond (hexadecimal bs) (Some (digits_value_after 16 w bs)) None

pub room : (w i : ℕ) → w < 16 ^ i → i < 8 → w < 2 ^ 28
room w i small few =
    let least : i ≤ 7 = omega arith in
    let most : 16 ^ i ≤ 16 ^ 7 = pow-le-pow_right (omega arith) least in
    omega arith
