-- What a text means: which elements a pair accepts, and what a change makes of a list.
use Rattle.std.specs.Prelude.{ℕ, zero, suc, ◌+◌, ◌/◌, ◌%◌, ◌^◌, Bool, false, ◌&&◌, ◌||◌, List, [], ◌∷◌, ◌++◌, take, drop, ◌==◌, nat_le}

-- whether the pair a, b accepts the element at place i: no at and beyond the end
abbrev pub accepted : {E : Type 0} → (ℕ → ℕ → E → Bool) → List E → ℕ → ℕ → ℕ → Bool
accepted fits [] a b i = false
accepted fits (x ∷ xs) a b zero = fits a b x
accepted fits (x ∷ xs) a b (suc i) = accepted fits xs a b i

-- xs with ys in the place of the k elements from p on
abbrev pub replaced : {E : Type 0} → List E → ℕ → ℕ → List E → List E
replaced xs p k ys = take p xs ++ (ys ++ drop (p + k) xs)

-- a byte is accepted if it is at least a and at most b
abbrev pub byte_in : ℕ → ℕ → ℕ → Bool
byte_in a b x = nat_le a x && nat_le x b

-- the kind of an event: bits 31 to 28 of its word
abbrev pub event_kind : ℕ → ℕ
event_kind x = x / 2 ^ 28

-- its loop: bits 27 to 24
abbrev pub event_loop : ℕ → ℕ
event_loop x = x / 2 ^ 24 % 2 ^ 4

-- an event is accepted where a is its kind and b is its loop or 16, which stands for any loop
abbrev pub event_in : ℕ → ℕ → ℕ → Bool
event_in a b x = event_kind x == a && (b == 16 || event_loop x == b)
