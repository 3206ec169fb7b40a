-- What a ring means: the list of its entries, the one put last first, and the table that follows from it.
use Rattle.std.specs.Prelude.{ℕ, List}
use Rattle.memo.specs.declared.entries.Entry.{Entry}
use Rattle.memo.specs.declared.ring.state.Ring.{Ring}
use Rattle.memo.specs.Tables.{Table}
use Rattle.memo.specs.Entries.{found}

-- its entries, in the order put
abbrev pub model : Ring → List Entry
model s = s.entries.items

-- the row of a key is that of its entry
abbrev pub ring_table : Ring → Table
ring_table s = found (model s)

-- P and Q of every ring
abbrev pub ring_P : Ring → ℕ
ring_P s = 65536

abbrev pub ring_Q : Ring → ℕ
ring_Q s = 64
