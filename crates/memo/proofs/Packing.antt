-- The round trip of the layout: eight words that are made of a row hold it.
use Rattle.std.proofs.Common.{◌≡◌, ℕ, ◌<◌, Bool, true, false, cond, eqb, Some, None, arith}
use mir.Val.{bool_byte}
use Rattle.memo.specs.declared.row.Row.{Row}
use Rattle.memo.specs.Layout.{lower, row_in, unpacked}

pub unpacked_none : (w : ℕ → ℕ) → lower (w 0) ≡ 0 → unpacked w ≡ None
unfolding unpacked
unpacked_none w e = rw e

pub unpacked_some : (w : ℕ → ℕ) → eqb (lower (w 0)) 0 ≡ false → unpacked w ≡ Some (row_in w)
unfolding unpacked
unpacked_some w e = rw e

-- a slot is what its eight words say
pub unpacked_same : (f g : ℕ → ℕ) → ((j : ℕ) → j < 8 → f j ≡ g j) → unpacked f ≡ unpacked g
unfolding unpacked
unpacked_same f g h =
    rw (h 0 (omega arith), h 1 (omega arith), h 2 (omega arith), h 3 (omega arith), h 4 (omega arith), h 5 (omega arith), h 6 (omega arith), h 7 (omega arith))

-- a row is its fields
pub row_of : (y : Row) (matched : Bool) (label end : ℕ) (noted : Bool) (note marks recoveries recovered_label first depth reach : ℕ)
    → matched ≡ y.matched → label ≡ y.label → end ≡ y.end → noted ≡ y.noted → note ≡ y.note → marks ≡ y.marks
    → recoveries ≡ y.recoveries → recovered_label ≡ y.first_label → first ≡ y.first → depth ≡ y.depth → reach ≡ y.reach
    → ◌≡◌ {A = Row} (record {
      matched = matched;
      label = label;
      end = end;
      noted = noted;
      note = note;
      marks = marks;
      recoveries = recoveries;
      first_label = recovered_label;
      first = first;
      depth = depth;
      reach = reach;
    }) y
row_of y m l e n o k r f i d c a₀ a₁ a₂ a₃ a₄ a₅ a₆ a₇ a₈ a₉ a₁₀ = rw (a₀, a₁, a₂, a₃, a₄, a₅, a₆, a₇, a₈, a₉, a₁₀)

pub two_or_one : (b : Bool) (k : ℕ) → k ≡ cond b 2 1 → (eqb k 2 ≡ b) × (eqb k 0 ≡ false)
two_or_one true k e = (rw e, rw e)
two_or_one false k e = (rw e, rw e)

pub one_or_none : (b : Bool) (k : ℕ) → k ≡ bool_byte b → eqb k 1 ≡ b
one_or_none true k e = rw e
one_or_none false k e = rw e
