-- How rows lie in words, eight to a slot. The layout is left undecided, and stands by these names alone:
-- all that a user of the whole memory knows of it is that a row is handed back as it was put, and that no key's words are another's.
use Rattle.std.specs.Prelude.{◌≡◌, ℕ, ◌+◌, ◌-◌, ◌*◌, ◌/◌, ◌%◌, ◌^◌, ◌<◌, ◌≤◌, cond, ◌&&◌, ◌⊎◌, List, length, Some, None, Option, ◌==◌, nat_le, nat_lt, slice_index}
use Rattle.grammar.specs.declared.expr.Mode.{Mode}
use Rattle.grammar.specs.Marks.{mode_bit}
use Rattle.memo.specs.declared.row.Row.{Row}
use Rattle.memo.specs.Tables.{Table}

-- the lower and the upper 16 bits of a word
abbrev pub lower : ℕ → ℕ
lower w = w % 65536

abbrev pub upper : ℕ → ℕ
upper w = w / 65536

-- the row in a slot's eight words
abbrev pub row_in : (ℕ → ℕ) → Row
row_in w =
    record {
      matched = (lower (w 0) == 2);
      label = upper (w 0) % 256;
      end = lower (w 1);
      noted = (upper (w 4) == 1);
      note = upper (w 1);
      marks = w 2;
      recoveries = lower (w 3);
      first_label = lower (w 4) % 256;
      first = upper (w 3);
      depth = w 6 * 2 ^ 32 + w 5;
      reach = w 7;
    }

-- the same, if the slot holds one
unfoldable pub unpacked : (ℕ → ℕ) → Option Row
unpacked w = cond (lower (w 0) == 0) None (Some (row_in w))

-- the row in slot s
abbrev pub slot_row : List ℕ → ℕ → Option Row
slot_row ws s = unpacked (λ j. slice_index ws (8 * s + j))

-- a write of slot s leaves every other slot, and every word that is not the slot's
pub record Written (ws : List ℕ) (s : ℕ) (x : Option Row) (vs : List ℕ) : Type 0 where
  pub there : slot_row vs s ≡ x
  pub others : (u : ℕ) → (u < s) ⊎ (s < u) → slot_row vs u ≡ slot_row ws u
  pub rest : (u : ℕ) → (u < 8 * s) ⊎ (8 * s + 8 ≤ u) → slice_index vs u ≡ slice_index ws u

-- the two modes of a rule lie side by side
abbrev pub lane : ℕ → Mode → ℕ
lane r o = 2 * r + mode_bit o

-- the slot of a key, where there are Q rules: a place's slots lie side by side
abbrev pub slot : ℕ → ℕ → ℕ → Mode → ℕ
slot Q r i o = i * (2 * Q) + lane r o

-- the slot of a key within P and Q, and none of another
abbrev pub Slotted : ℕ → ℕ → ℕ → ℕ → Mode → Option ℕ → Type 0
Slotted P Q r i o None = (Q ≤ r) ⊎ (P ≤ i)
Slotted P Q r i o (Some s) = (r < Q) × (i < P) × (s ≡ slot Q r i o)

-- the table that words hold for P places and Q rules
abbrev pub rows : List ℕ → ℕ → ℕ → Table
rows ws P Q r i o = cond (nat_lt r Q && nat_lt i P) (slot_row ws (slot Q r i o)) None

-- every word from the n-th on is as it was
pub record Beyond (n : ℕ) (ws vs : List ℕ) : Type 0 where
  pub long : length vs ≡ length ws
  pub same : (u : ℕ) → n ≤ u → slice_index vs u ≡ slice_index ws u

-- a row at place i under a change at p: it stays if its reach is at most p
abbrev pub stays : ℕ → ℕ → Option Row → Option Row
stays p i None = None
stays p i (Some x) = cond (nat_le (i + x.reach) p) (Some x) None

-- the place, if any below P, whose row comes to place i as k elements at p become m
abbrev pub Comes : ℕ → ℕ → ℕ → ℕ → ℕ → Option ℕ → Type 0
Comes P p k m i None = (j : ℕ) → p + k ≤ j → i + k ≡ j + m → P ≤ j
Comes P p k m i (Some j) = (p + k ≤ j) × (i + k ≡ j + m) × (j < P)

-- what slot s holds after a shift, from what the slots F held before it; w slots to a place
pub record After (F : ℕ → Option Row) (w P p k m s : ℕ) (x : Option Row) : Type 0 where
  pub before : s / w < p → x ≡ stays p (s / w) (F s)
  pub moved : (j : ℕ) → p ≤ s / w → Comes P p k m (s / w) (Some j) → x ≡ F (j * w + s % w)
  pub gone : p ≤ s / w → Comes P p k m (s / w) None → x ≡ None

-- the slot of turn t of n: downward where the text grows, else upward, so that no slot is written before it is read
abbrev pub turn : ℕ → ℕ → ℕ → ℕ → ℕ
turn k m n t = cond (nat_lt k m) (n - 1 - t) t
