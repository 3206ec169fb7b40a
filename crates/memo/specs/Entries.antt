-- The ring by its entries, the one put last first: what a put and a shift make of them, and the table that follows from them.
use Rattle.std.specs.Prelude.{◌≡◌, ℕ, ◌+◌, ◌-◌, ◌<◌, Bool, true, false, cond, not, ◌&&◌, ◌⊎◌, List, [], ◌∷◌, length, take, is_some, Some, None, Option, ◌==◌, nat_le, nat_lt}
use Rattle.grammar.specs.declared.expr.Mode.{Mode}
use Rattle.grammar.specs.declared.expr.Mode.TheVariants.{On, Off}
use Rattle.memo.specs.declared.row.Row.{Row}
use Rattle.memo.specs.declared.entries.Entry.{Entry}
use Rattle.memo.specs.Tables.{Table}

abbrev pub same_mode : Mode → Mode → Bool
same_mode On On = true
same_mode On Off = false
same_mode Off On = false
same_mode Off Off = true

-- the entry is of this key
abbrev pub names : Entry → ℕ → ℕ → Mode → Bool
names e r i o = e.at.rule == r && (e.at.place == i && same_mode e.at.mode o)

-- the row of the newest entry of a key
abbrev pub found : List Entry → Table
found [] r i o = None
found (e ∷ es) r i o = cond (names e r i o) (Some e.row) (found es r i o)

-- an entry of that key is among them
abbrev pub holds : List Entry → Entry → Bool
holds es e = is_some (found es e.at.rule e.at.place e.at.mode)

-- rules are below 64, places below 65,536, and no two entries have one key
abbrev pub lawful : List Entry → Bool
lawful [] = true
lawful (e ∷ es) = (nat_lt e.at.rule 64 && nat_lt e.at.place 65536) && (not (holds es e) && lawful es)

-- the entries of other keys, in their order
abbrev pub without : Entry → List Entry → List Entry
without e [] = []
without e (f ∷ fs) = cond (names f e.at.rule e.at.place e.at.mode) (without e fs) (f ∷ without e fs)

-- a put: the entry is the one put last, its key's old one goes, and of a 64th other the one put longest ago
abbrev pub entered : Entry → List Entry → List Entry
entered e es = e ∷ take 63 (without e es)

-- a put of the entry drops no other: its key is held, or fewer than 64 entries are
abbrev pub RoomyFor : List Entry → Entry → Type 0
RoomyFor es e = (holds es e ≡ true) ⊎ (length es < 64)

-- a put of a row: nothing happens outside
abbrev pub put_in : ℕ → ℕ → Mode → Row → List Entry → List Entry
put_in r i o x es = cond (nat_lt r 64 && nat_lt i 65536) (entered (record { at = record { rule = r; place = i; mode = o }; row = x }) es) es

-- where a row at place i with this reach stands once k elements at p have become m
abbrev pub rehomed : ℕ → ℕ → ℕ → ℕ → ℕ → Option ℕ
rehomed p k m i reach =
    cond (nat_lt i p) (cond (nat_le (i + reach) p) (Some i) None) (cond (nat_le (p + k) i && nat_lt (i - k + m) 65536) (Some (i - k + m)) None)

-- an entry at its new place in front of the others, or gone
abbrev pub at_place : Entry → Option ℕ → List Entry → List Entry
at_place e None es = es
at_place e (Some i) es = record { at = record { rule = e.at.rule; place = i; mode = e.at.mode }; row = e.row } ∷ es

-- a shift keeps the order
abbrev pub shifted : ℕ → ℕ → ℕ → List Entry → List Entry
shifted p k m [] = []
shifted p k m (e ∷ es) = at_place e (rehomed p k m e.at.place e.row.reach) (shifted p k m es)
