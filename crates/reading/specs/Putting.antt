-- Which rows a table holds, which rows a reading puts, and which rows its puts drop.
use Rattle.std.specs.Prelude.{◌≡◌, ℕ, Bool, cond, List, [], ◌∷◌, ◌++◌, Some, None}
use Rattle.grammar.specs.declared.expr.Mode.{Mode}
use Rattle.peg.specs.declared.results.RulePlace.{RulePlace}
use Rattle.memo.specs.declared.row.Row.{Row}
use Rattle.memo.specs.Tables.{Table, Same}
use Rattle.reading.specs.Reads.{Setting, Store, Res, Asked, Reads}

-- the rule-place of a rule at a place in a mode
abbrev pub at : ℕ → ℕ → Mode → RulePlace
at k i m = record { rule = k; place = i; mode = m }

-- the table holds a row of the rule-place
abbrev pub Held : Table → RulePlace → Type 0
Held T z = (x : Row) × (T z.rule z.place z.mode ≡ Some x)

-- the rule-places whose rows a reading puts, in the order of the puts
abbrev pub put : {G : Setting} {h i : ℕ} {T U : Store} {a : Asked} {m : Mode} {r : Res} → Reads G h T a i m r U → List RulePlace
put (Reads.too_deep l) = []
put (Reads.empty l q) = []
put (Reads.terminal l q) = []
put (Reads.call l q d) = put d
put (Reads.sequence_refused l q d) = put d
put (Reads.sequence_fails l q d o) = put d
put (Reads.sequence_goes_on l q d o e) = put d ++ put e
put (Reads.choice_refused l q d) = put d
put (Reads.choice_stays l q d o) = put d
put (Reads.choice_turns l q d o e) = put d ++ put e
put (Reads.repetition_refused l q d) = put d
put (Reads.repetition_ends l q d o) = put d
put (Reads.repetition_fails l q d o) = put d
put (Reads.repetition_goes_on l q d o e) = put d ++ put e
put (Reads.predicate l q d) = put d
put (Reads.throw_fails l q p) = []
put (Reads.throw_recovers l q p d) = put d
put (Reads.row_unfit f u) = []
put (Reads.row_too_deep f u l) = []
put (Reads.row_stands f u l) = []
put (Reads.body_refused f d) = put d
put (Reads.body_gives {k = k} {i = i} {m = m} f d s) = put d ++ (at k i m ∷ [])

-- the keys whose rows a put drops
abbrev pub Gone : Type 0
Gone = ℕ → ℕ → Mode → Bool

-- a put at the key k, i, m that turns T into U drops the rows of the keys given, and no other key's
abbrev pub Leaves : Gone → Table → ℕ → ℕ → Mode → Table → Type 0
Leaves gone T k i m U = (k' i' : ℕ) (m' : Mode) → (Same k' i' m' k i m → ⊥) → U k' i' m' ≡ cond (gone k' i' m') None (T k' i' m')

-- the puts of a reading, in their order, drop the rows of the keys that the list gs gives for them, one entry a put; gs' is the rest of it
abbrev pub Drops : {G : Setting} {h i : ℕ} {T U : Store} {a : Asked} {m : Mode} {r : Res} → Reads G h T a i m r U → List Gone → List Gone → Type 0
Drops (Reads.too_deep l) gs gs' = gs' ≡ gs
Drops (Reads.empty l q) gs gs' = gs' ≡ gs
Drops (Reads.terminal l q) gs gs' = gs' ≡ gs
Drops (Reads.call l q d) gs gs' = Drops d gs gs'
Drops (Reads.sequence_refused l q d) gs gs' = Drops d gs gs'
Drops (Reads.sequence_fails l q d o) gs gs' = Drops d gs gs'
Drops (Reads.sequence_goes_on l q d o e) gs gs' = (hs : List Gone) × Drops d gs hs × Drops e hs gs'
Drops (Reads.choice_refused l q d) gs gs' = Drops d gs gs'
Drops (Reads.choice_stays l q d o) gs gs' = Drops d gs gs'
Drops (Reads.choice_turns l q d o e) gs gs' = (hs : List Gone) × Drops d gs hs × Drops e hs gs'
Drops (Reads.repetition_refused l q d) gs gs' = Drops d gs gs'
Drops (Reads.repetition_ends l q d o) gs gs' = Drops d gs gs'
Drops (Reads.repetition_fails l q d o) gs gs' = Drops d gs gs'
Drops (Reads.repetition_goes_on l q d o e) gs gs' = (hs : List Gone) × Drops d gs hs × Drops e hs gs'
Drops (Reads.predicate l q d) gs gs' = Drops d gs gs'
Drops (Reads.throw_fails l q p) gs gs' = gs' ≡ gs
Drops (Reads.throw_recovers l q p d) gs gs' = Drops d gs gs'
Drops (Reads.row_unfit f u) gs gs' = gs' ≡ gs
Drops (Reads.row_too_deep f u l) gs gs' = gs' ≡ gs
Drops (Reads.row_stands f u l) gs gs' = gs' ≡ gs
Drops (Reads.body_refused f d) gs gs' = Drops d gs gs'
Drops (Reads.body_gives {k = k} {i = i} {U = U} {W = W} {m = m} f d s) gs gs' =
    (gone : Gone) × Drops d gs (gone ∷ gs') × Leaves gone U.rows k i m W.rows
