-- What a hole with the options `:08X` writes of a word: its eight digits.
use Rattle.std.proofs.Common.{◌≡◌, ℕ, zero, suc, ◌+◌, ◌-◌, ◌<◌, ◌≤◌, ◌/◌, ◌%◌, ◌^◌, Bool, true, false, cond, List, [], ◌∷◌, ◌++◌, length, replicate, refl, sym, ap, ◌∙◌, append_assoc, arith}
use native.Mathlib.Nat.{pow-suc, mul_comm, zero-div, div-one, sub-zero, div-div-eq-div-mul}
use Rattle.std.proofs.lemmas.Bool.{eqb-true, eqb-false}
use Rattle.std.proofs.lemmas.List.{append-nil}
use Rattle.std.specs.Bool.{◌==◌}
use Rattle.std.specs.Fmt.{digit_glyph, digits, digits_onto, format_spec, padded_integral, char_count}
use Rattle.replytext.specs.Marks.{lowest_digits, marks_text}

-- a number's digit k + 1 is digit k of the number without its last
next_digit : (k n : ℕ) → n / 16 ^ suc k ≡ n / 16 / 16 ^ k
next_digit k n = ap (λ m. n / m) (pow-suc 16 k ∙ mul_comm (16 ^ k) 16) ∙ sym (div-div-eq-div-mul n 16 (16 ^ k))

-- the lowest digit stands last
lowest_last : (k n : ℕ) → lowest_digits (suc k) n ≡ lowest_digits k (n / 16) ++ (digit_glyph true (n % 16) ∷ [])
lowest_last zero n = ap (λ m. digit_glyph true (m % 16) ∷ []) (div-one n)
lowest_last (suc k) n = ap (λ m. digit_glyph true (m % 16) ∷ lowest_digits (suc k) n) (next_digit k n) ∙ ap (λ ds. digit_glyph true (n / 16 / 16 ^ k % 16) ∷ ds) (lowest_last k n)

-- 0 has zeros for digits
lowest_zero : (k : ℕ) → lowest_digits k 0 ≡ replicate k 48
lowest_zero zero = refl
lowest_zero (suc k) = ap (λ m. digit_glyph true (m % 16) ∷ lowest_digits k 0) (zero-div (16 ^ k)) ∙ ap (λ ds. 48 ∷ ds) (lowest_zero k)

-- ds are the digits of n before acc: with zeros before them there are k + 1
abbrev Spelled : ℕ → ℕ → List ℕ → List ℕ → Type 0
Spelled k n acc ds = (m : ℕ) × (m ≤ k) × (length ds ≡ m + 1 + length acc) × (replicate (k - m) 48 ++ ds ≡ lowest_digits (suc k) n ++ acc)

spelled_last : (k n : ℕ) (acc : List ℕ) → n / 16 ≡ 0 → Spelled k n acc (digit_glyph true (n % 16) ∷ acc)
spelled_last k n acc high =
    let last = digit_glyph true (n % 16) ∷ [] in
    let zeros = lowest_last k n ∙ ap (λ m. lowest_digits k m ++ last) high ∙ ap (λ ds. ds ++ last) (lowest_zero k) in
    (0, omega arith, omega arith, rw (sub-zero k) (sym (ap (λ ds. ds ++ acc) zeros ∙ append_assoc (replicate k 48) last acc)))

spelled_more : (k n : ℕ) (acc ds : List ℕ) → Spelled k (n / 16) (digit_glyph true (n % 16) ∷ acc) ds → Spelled (suc k) n acc ds
spelled_more k n acc ds (m, le, long, is) =
    let last = digit_glyph true (n % 16) ∷ [] in
    let less : suc k - (m + 1) ≡ k - m = omega arith in
    (m + 1, omega arith, omega arith, rw less (is ∙ sym (ap (λ xs. xs ++ acc) (lowest_last (suc k) n) ∙ append_assoc (lowest_digits (suc k) (n / 16)) last acc)))

by_test : (P : List ℕ → Type 0) (b : Bool) (xs ys : List ℕ) → (b ≡ true → P xs) → (b ≡ false → P ys) → P (cond b xs ys)
by_test P true xs ys so otherwise = so refl
by_test P false xs ys so otherwise = otherwise refl

spelled : (k fuel n : ℕ) (acc : List ℕ) → n < 16 ^ suc k → k < fuel → Spelled k n acc (digits_onto fuel 16 true n acc)
spelled k zero n acc small deep = absurd (omega arith)
spelled zero (suc f) n acc small deep = by_test (Spelled 0 n acc) (n / 16 == 0) _ _
    (λ e. spelled_last 0 n acc (eqb-true _ _ e))
    (λ e. absurd (eqb-false _ _ e (omega arith)))
spelled (suc k) (suc f) n acc small deep = by_test (Spelled (suc k) n acc) (n / 16 == 0) _ _
    (λ e. spelled_last (suc k) n acc (eqb-true _ _ e))
    (λ e. spelled_more k n acc _ (spelled k f (n / 16) (digit_glyph true (n % 16) ∷ acc) (omega (arith, pow-suc 16 (suc k))) (omega arith)))

-- zeros before the digits make eight
padded : (n m : ℕ) (ds : List ℕ) → m ≤ 7 → length ds ≡ m + 1 + 0 → replicate (7 - m) 48 ++ ds ≡ lowest_digits 8 n ++ []
    → padded_integral (format_spec 32 0 4 8 (2 ^ 64 - 1)) false [] ds ≡ marks_text n
unfolding padded_integral char_count
padded n m ds le long is =
    let short : 8 - length ds - 0 - 0 ≡ 7 - m = omega arith in
    rw (short, append-nil) (is ∙ append-nil (lowest_digits 8 n))

digits_on : (n : ℕ) → digits 16 true n ≡ digits_onto 64 16 true n []
unfolding digits
digits_on n = refl

pub eight_digits : (n : ℕ) → n < 2 ^ 32 → padded_integral (format_spec 32 0 4 8 (2 ^ 64 - 1)) false [] (digits 16 true n) ≡ marks_text n
eight_digits n small =
    let (m, le, long, is) = spelled 7 64 n [] small (omega arith) in
    rw (digits_on n) (padded n m _ le long is)

pub marks_shown : (m n : ℕ) → n ≡ m → m < 2 ^ 32 → padded_integral (format_spec 32 0 4 8 (2 ^ 64 - 1)) false [] (digits 16 true n) ≡ marks_text m
marks_shown m n is small = rw is (eight_digits m small)
