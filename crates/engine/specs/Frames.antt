-- Frames: what a blank one is, and what an open one says of its finished parts.
use Rattle.std.specs.Prelude.{ℕ, zero, suc, List, [], ◌∷◌, length, replicate, Some, None, Option, slice_index_or}
use Rattle.grammar.specs.declared.expr.Mode.{Mode}
use Rattle.grammar.specs.Marks.{mode_bit, bit_mode}
use Rattle.peg.specs.declared.results.Outcome.TheVariants.{Match}
use Rattle.peg.specs.declared.results.Note.{Note}
use Rattle.peg.specs.declared.results.Reading.{Reading}
use Rattle.reading.specs.Reads.{noted_marks}
use Rattle.engine.specs.declared.frame.Frame.{Frame}

-- blank is all zero
abbrev pub blank : Frame
blank = record { expression = 0; place = 0; mode = 0; stage = 0; at = 0; noted = 0; note = 0; marks = 0; count = 0; label = 0; first = 0; depth = 0; reach = 0 }

-- as many frames, each blank
abbrev pub blanked : List Frame → List Frame
blanked fs = replicate (length fs) blank

abbrev pub mode_by : ℕ → Mode
mode_by = bit_mode

abbrev pub note_by : ℕ → ℕ → ℕ → Option Note
note_by zero p s = None
note_by (suc n) p s = Some (record { place = p; marks = s })

-- what the finished parts came to, the last of which ended where the open one began
abbrev pub so_far : Frame → Reading
so_far f = record {
  outcome = Match f.at;
  note = note_by f.noted f.note f.marks;
  recoveries = record { count = f.count; label = f.label; place = f.first };
  depth = f.depth;
  reach = f.reach;
}

-- the open frames, the last opened first
abbrev pub stack : List Frame → ℕ → List Frame
stack fs zero = []
stack fs (suc k) = slice_index_or fs k blank ∷ stack fs k

abbrev pub mode_number : Mode → ℕ
mode_number = mode_bit

-- the frame of an expression that begins at place i in mode m
abbrev pub fresh_frame : ℕ → ℕ → Mode → Frame
fresh_frame e i m =
    record { expression = e; place = i; mode = mode_number m; stage = 0; at = i; noted = 0; note = 0; marks = 0; count = 0; label = 0; first = 0; depth = 0; reach = 0 }

abbrev pub noted_number : Option Note → ℕ
noted_number None = 0
noted_number (Some x) = 1

abbrev pub noted_at : Option Note → ℕ
noted_at None = 0
noted_at (Some x) = x.place

-- the same frame, with a part finished: its parts came to v, and the next one begins at place j
abbrev pub going_on : Frame → ℕ → Reading → Frame
going_on f j v = record {
  expression = f.expression;
  place = f.place;
  mode = f.mode;
  stage = 1;
  at = j;
  noted = noted_number v.note;
  note = noted_at v.note;
  marks = noted_marks v.note;
  count = v.recoveries.count;
  label = v.recoveries.label;
  first = v.recoveries.place;
  depth = v.depth;
  reach = v.reach;
}
