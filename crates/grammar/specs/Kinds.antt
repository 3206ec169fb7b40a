-- The kinds of words, by bits 31 to 28.
use Rattle.std.specs.Prelude.{ℕ}
use Rattle.grammar.specs.declared.word.Kind.{Kind}
use Rattle.grammar.specs.declared.word.Kind.TheVariants.{Empty, Terminal, Call, Sequence, Choice, Repetition, Predicate, Throw, Header, Rule, Label, Set}

-- how many there are
abbrev pub kinds : ℕ
kinds = 12

abbrev pub kind_number : Kind → ℕ
kind_number Empty = 0
kind_number Terminal = 1
kind_number Call = 2
kind_number Sequence = 3
kind_number Choice = 4
kind_number Repetition = 5
kind_number Predicate = 6
kind_number Throw = 7
kind_number Header = 8
kind_number Rule = 9
kind_number Label = 10
kind_number Set = 11
