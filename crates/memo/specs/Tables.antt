-- What a memory means, a table of rows, and what its calls may do to it: every statement goes key by key.
use Rattle.std.specs.Prelude.{◌≡◌, ℕ, ◌+◌, ◌<◌, ◌≤◌, Bool, true, ◌⊎◌, Some, None, Option}
use Rattle.grammar.specs.declared.expr.Mode.{Mode}
use Rattle.memo.specs.declared.row.Row.{Row}

-- the row, if any, of a rule at a place in a mode
abbrev pub Table : Type 0
Table = ℕ → ℕ → Mode → Option Row

-- one key is the other
abbrev pub Same : ℕ → ℕ → Mode → ℕ → ℕ → Mode → Type 0
Same r i o r' i' o' = (r ≡ r') × (i ≡ i') × (o ≡ o')

-- outside P places and Q rules the table holds nothing
abbrev pub Within : ℕ → ℕ → Table → Type 0
Within P Q T = (r i : ℕ) (o : Mode) → (Q ≤ r) ⊎ (P ≤ i) → T r i o ≡ None

-- no row is held
abbrev pub Empty : Table → Type 0
Empty T = (r i : ℕ) (o : Mode) → T r i o ≡ None

-- a put of a row at the key r, i, o turns T into U; a memory that keeps drops nothing
pub record Puts (keeps : Bool) (P Q : ℕ) (T : Table) (r i : ℕ) (o : Mode) (x : Row) (U : Table) : Type 0 where
  -- within P and Q the row stands at its key
  pub stands : r < Q → i < P → U r i o ≡ Some x
  -- no other key gets a row that it did not have
  pub others : (r' i' : ℕ) (o' : Mode) (y : Row) → U r' i' o' ≡ Some y → Same r' i' o' r i o ⊎ (T r' i' o' ≡ Some y)
  -- outside P and Q nothing happens
  pub outside : (Q ≤ r) ⊎ (P ≤ i) → (r' i' : ℕ) (o' : Mode) → U r' i' o' ≡ T r' i' o'
  -- where the memory keeps, every other key is as before
  pub all : keeps ≡ true → (r' i' : ℕ) (o' : Mode) → (Same r' i' o' r i o → ⊥) → U r' i' o' ≡ T r' i' o'

-- a row that may stay at its place under a change at p: it is placed before p, and its reach is at most p
pub record Kept (p : ℕ) (T : Table) (r i : ℕ) (o : Mode) (x : Row) : Type 0 where
  pub before : i < p
  pub untouched : i + x.reach ≤ p
  pub held : T r i o ≡ Some x

-- a row that may move to i as k elements at p become m: it was placed at p + k or later
pub record Moved (P p k m : ℕ) (T : Table) (r i : ℕ) (o : Mode) (x : Row) : Type 0 where
  pub from : ℕ
  pub after : p + k ≤ from
  pub along : i + k ≡ from + m
  pub within : i < P
  pub held : T r from o ≡ Some x

-- a shift for the change of k elements at p into m turns T into U
pub record Shifts (keeps : Bool) (P p k m : ℕ) (T U : Table) : Type 0 where
  -- a row held after stayed or moved
  pub only : (r i : ℕ) (o : Mode) (x : Row) → U r i o ≡ Some x → Kept p T r i o x ⊎ Moved P p k m T r i o x
  -- where the memory keeps, what may stay or move does
  pub all : keeps ≡ true → (r i : ℕ) (o : Mode) (x : Row) → Kept p T r i o x ⊎ Moved P p k m T r i o x → U r i o ≡ Some x
