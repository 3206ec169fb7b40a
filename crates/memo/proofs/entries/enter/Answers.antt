use Rattle.std.proofs.Common.{◌≡◌, ◌≤◌, ◌+◌, List, ◌∷◌, ◌++◌, length, take, drop, ap, sym, ◌∙◌, inl, inr, rules, tests, arith}
use Rattle.std.proofs.lemmas.Bool.{cases_lt, eqb-false}
use Rattle.std.proofs.lemmas.List.{take_all}
use Rattle.std.proofs.lemmas.Iterator.{YieldsList-from_slice}
use Rattle.std.proofs.lemmas.Iterator.Search.{position_from_yields_List}
use Rattle.std.proofs.lemmas.Iterator.Adapters.{position_from-zero}
use Rattle.arrayvec.specs.ArrayVec.{ArrayVec}
use Rattle.arrayvec.proofs.ArrayVecLemmas.{items-with_items}
use Rattle.memo.specs.declared.entries.Entry.{Entry}
use Rattle.memo.proofs.Ordered.{of_rule_place, place_from, entered_at, entered_new}
use Rattle.memo.proofs.entries.enter.Goals as goal
use Rattle.memo.proofs.entries.enter.Goals.{then-is_full, else-is_full}

pub returns-in-Some-clause-entered : goal.returns-in-Some-clause-entered
returns-in-Some-clause-entered c =
    let es = c.args.entries.now.items in
    let zs = c.renew.new.entries in
    let at : c.position.result ≡ place_from 0 c.args.new.at es =
    position_from_yields_List (λ x. of_rule_place x c.args.new.at) _ _ c.position.result c.position.ensures.ran (YieldsList-from_slice es cc) (λ x b q k. search (rules, tests))
    ∙ position_from-zero (λ x. of_rule_place x c.args.new.at) es in
    let slice = c.as_mut_slice.ensures in
    let is : zs ≡ c.args.new ∷ (take c.in-Some.i es ++ drop (c.in-Some.i + 1) es) = rw slice.value at c.renew.ensures in
    let few : length es ≤ 64 = rw slice.value at slice.fits in
    let done = entered_at c.args.new es zs c.in-Some.i c.requires.lawful few (sym at ∙ c.in-Some.is) is in
    items-with_items c.args.entries.now zs done.1 ∙ done.0

pub returns-after-is_full-clause-entered : goal.returns-after-is_full-clause-entered
returns-after-is_full-clause-entered c =
    let es = c.args.entries.now.items in
    let at : c.position.result ≡ place_from 0 c.args.new.at es =
    position_from_yields_List (λ x. of_rule_place x c.args.new.at) _ _ c.position.result c.position.ensures.ran (YieldsList-from_slice es cc) (λ x b q k. search (rules, tests))
    ∙ position_from-zero (λ x. of_rule_place x c.args.new.at) es in
    let rest : c.if-is_full.entries.items ≡ take 63 es = elim c.if-is_full.branch [
      | then-is_full w ↦ search rules
      | else-is_full w ↦
          let short : length es ≤ 63 = elim (cases_lt (length es) 64) [
            | inl h ↦ omega arith
            | inr h ↦ absurd (eqb-false (length es) 64 (sym w.if-is_full.ensures.value) (omega (arith, c.is_full.ensures.fits)))
          ] in
          ap (λ (v : ArrayVec Entry). v.items) w.entries-is ∙ sym (take_all 63 es short)
    ] in
    entered_new c.args.new es _ (sym at ∙ c.in-None.is) (c.insert.ensures.items ∙ ap (λ (zs : List Entry). c.args.new ∷ zs) rest)
