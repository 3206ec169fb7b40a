-- Worked runs: the rules, over the meaning of the very words.
use Rattle.std.specs.Prelude.{◌≡◌, ℕ, ◌*◌, ◌≤◌, List, [], ◌∷◌, Some, codes, Option}
use Rattle.grammar.specs.declared.fault.Layer.TheVariants.{Form}
use Rattle.grammar.specs.Words.{meaning}
use Rattle.grammar.specs.Faults.{Report, right, wrong}
use Rattle.grammar.specs.Questions.{Reported, Accepted}
use Rattle.text.specs.Meaning.{accepted, replaced, byte_in}
use Rattle.peg.specs.declared.results.Outcome.{Outcome}
use Rattle.peg.specs.declared.results.Outcome.TheVariants.{Match, Failure}
use Rattle.peg.specs.declared.results.Note.{Note}
use Rattle.peg.specs.declared.results.Recoveries.{Recoveries}
use Rattle.peg.specs.declared.results.RulePlace.{RulePlace}
use Rattle.peg.specs.Results.{Given, summary}
use Rattle.peg.specs.Rules.{Text, Parses}
use Rattle.peg.specs.Halting.{ParseHalts}
use Rattle.peg.specs.Readings.{no_recoveries, one_recovery}
use Rattle.peg.specs.Counting.{learned, fresh, number}
use Rattle.peg.specs.Settling.{Settles}

-- the grammar of site files: lines of "L", digits and ";", where a missing ";" is label 1, which skips to the next "L"
abbrev pub site_words : List ℕ
site_words = 0x80440301 ∷ 0x90340000 ∷ 0x90240000 ∷ 0x90040000 ∷ 0xA0400100 ∷ 0xB0000001 ∷ 0x11304C00 ∷ 0x10C03901 ∷ 0x10EC3B02 ∷ 0x1000FF03 ∷ 0x20080000 ∷ 0x50100000 ∷ 0x70040000 ∷ 0x40080600 ∷ 0x30140700 ∷ 0x30000800 ∷ 0x20040000 ∷ 0x50280000 ∷ 0x600C0000 ∷ 0x302C0C00 ∷ 0x60000000 ∷ 0x30380300 ∷ 0x503C0000 ∷ []

-- bytes as a text
abbrev pub bytes : List ℕ → Text
bytes xs = accepted byte_in xs

-- the farthest failure: its place and marks
abbrev pub far : ℕ → ℕ → Option Note
far i s = Some (record { place = i; marks = s })

-- a parse of the bytes xs under the grammar of site files, where ks is known: what it tells, and how many rule-places it completes that were not known
pub record Run (xs : List ℕ) (ks : List RulePlace) (o : Outcome) (n : Option Note) (rs : Recoveries) (f : ℕ) : Type 0 where
  pub result : Given
  pub parses : Parses (meaning site_words) (bytes xs) result
  pub outcome : result.outcome ≡ o
  pub note : result.note ≡ n
  pub recoveries : summary result.recoveries ≡ rs
  pub count : fresh ks result.completed ≡ f

-- what the check of a row reports, with enough work words lent
abbrev pub Checked : List ℕ → Report → Type 0
Checked ws t = (lent : ℕ) → 2 * (meaning ws).N ≤ lent → Reported ws lent t

-- the row is accepted, and its check reports nothing wrong
abbrev pub Passes : List ℕ → Type 0
Passes ws = Accepted ws × Checked ws right

-- expression 0 calls the rule whose body it is
abbrev pub calls_itself : List ℕ
calls_itself = 0x80040100 ∷ 0x90000000 ∷ 0x20000000 ∷ []

-- expression 1 repeats expression 0, which is empty
abbrev pub repeats_nothing : List ℕ
repeats_nothing = 0x80080100 ∷ 0x90040000 ∷ 0x00000000 ∷ 0x50000000 ∷ []

-- expression 0 throws label 1, which recovers by expression 0
abbrev pub recovers_by_itself : List ℕ
recovers_by_itself = 0x80040101 ∷ 0x90000000 ∷ 0xA0000100 ∷ 0x70040000 ∷ []

-- the same without the recovery expression
abbrev pub recovers_by_nothing : List ℕ
recovers_by_nothing = 0x80040101 ∷ 0x90000000 ∷ 0xA0000000 ∷ 0x70040000 ∷ []

-- expression 0 throws label 1, which recovers by expression 1, the predicate "not 0"
abbrev pub throws_in_a_predicate : List ℕ
throws_in_a_predicate = 0x80080101 ∷ 0x90040000 ∷ 0xA0040100 ∷ 0x70040000 ∷ 0x60000000 ∷ []

pub record Worked : Type 0 where
  pub no_bytes : Run [] [] (Match 0) (far 0 0x00000001) no_recoveries 2
  pub a_line : Run (codes "L1;") [] (Match 3) (far 3 0x00000001) no_recoveries 5
  -- 8 frames do; 7 halt with nothing completed
  pub with_8_frames : a_line.result.depth ≤ 8
  pub with_7_frames : ParseHalts (meaning site_words) (bytes (codes "L1;")) 7 []
  pub an_open_line : Run (codes "L1") [] (Match 2) (far 2 0x0000000F) (one_recovery 1 2) 5
  pub two_lines : Run (codes "L1L2;") [] (Match 5) (far 5 0x00000001) (one_recovery 1 2) 8
  -- then ";" is inserted at 2: of the 8 known rule-places 6 remain, and the next parse completes 3 others
  pub known_before : number (learned [] two_lines.result.completed) ≡ 8
  pub known_after : (ls : List RulePlace) → Settles (meaning site_words) (bytes (codes "L1L2;")) 2 0 1 (learned [] two_lines.result.completed) ls → number ls ≡ 6
  pub inserted : (ls : List RulePlace) → Settles (meaning site_words) (bytes (codes "L1L2;")) 2 0 1 (learned [] two_lines.result.completed) ls
      → Run (replaced (codes "L1L2;") 2 0 (codes ";")) ls (Match 6) (far 6 0x00000001) no_recoveries 3
  -- the grammar of site files passes its check
  pub site_row : Passes site_words
  -- a walk that goes on for ever can start at word 2
  pub first_row : Checked calls_itself (wrong 7 Form 2)
  -- word 3 is a repetition whose part may match nothing
  pub second_row : Checked repeats_nothing (wrong 6 Form 3)
  -- a walk that goes on for ever can start at word 3
  pub third_row : Checked recovers_by_itself (wrong 7 Form 3)
  pub fourth_row : Passes recovers_by_nothing
  pub fifth_row : Passes throws_in_a_predicate
  -- under the fifth row every text, of any elements and size, gives label 1 at 0
  pub every_text : (t : Text) → (v : Given) × Parses (meaning throws_in_a_predicate) t v × (v.outcome ≡ Failure 1 0)
