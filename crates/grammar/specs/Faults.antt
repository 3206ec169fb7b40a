-- What a check reports: nothing wrong, or a number with its layer and word; the report of each fault, and how a place is written.
use Rattle.std.specs.Prelude.{ℕ, List, ◌++◌, Ok, Err, Result, codes, decimal}
use Rattle.grammar.specs.declared.fault.Layer.{Layer}
use Rattle.grammar.specs.declared.fault.Layer.TheVariants.{Words, References, Work, Form}
use Rattle.grammar.specs.declared.fault.Place.{Place}
use Rattle.grammar.specs.declared.fault.WordFault.{WordFault}
use Rattle.grammar.specs.declared.fault.WordFault.TheVariants.{Count, Header, Word}
use Rattle.grammar.specs.declared.fault.ReferenceFault.{ReferenceFault}
use Rattle.grammar.specs.declared.fault.ReferenceFault.TheVariants.{Words as ofWords, Missing}
use Rattle.grammar.specs.declared.fault.WorkFault.{WorkFault}
use Rattle.grammar.specs.declared.fault.WorkFault.TheVariants.{References as ofReferences, Short}
use Rattle.grammar.specs.declared.fault.FormFault.{FormFault}
use Rattle.grammar.specs.declared.fault.FormFault.TheVariants.{Work as ofWork, EmptyRepetition, EndlessWalk}

pub data Report : Type 0 where
  right : Report
  wrong : ℕ → Layer → ℕ → Report

abbrev pub word_report : WordFault → Report
word_report Count = wrong 1 Words 0
word_report Header = wrong 2 Words 0
word_report (Word w) = wrong 3 Words w

abbrev pub reference_report : ReferenceFault → Report
reference_report (ofWords f) = word_report f
reference_report (Missing w) = wrong 4 References w

abbrev pub work_report : WorkFault → Report
work_report (ofReferences f) = reference_report f
work_report Short = wrong 5 Work 0

abbrev pub form_report : FormFault → Report
form_report (ofWork f) = work_report f
form_report (EmptyRepetition w) = wrong 6 Form w
form_report (EndlessWalk w) = wrong 7 Form w

-- the report of a check's answer
abbrev pub report : {A : Type 0} → Result A FormFault → Report
report (Ok x) = right
report (Err f) = form_report f

abbrev pub layer_name : Layer → List ℕ
layer_name Words = codes "words"
layer_name References = codes "references"
layer_name Work = codes "work"
layer_name Form = codes "form"

-- how a place is written
abbrev pub place_text : Place → List ℕ
place_text p = codes "refused " ++ (decimal p.number ++ (codes " layer " ++ (layer_name p.layer ++ (codes " word " ++ decimal p.word))))
