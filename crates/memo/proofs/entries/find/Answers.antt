use Rattle.std.proofs.Common.{◌≡◌, Option, Bor, ap, ◌∙◌, rules}
use borrow.Author.Tests.{tests}
use Rattle.std.specs.List.{find}
use Rattle.std.specs.Option.{option_map}
use Rattle.std.proofs.lemmas.Iterator.{YieldsList-from_slice}
use Rattle.std.proofs.lemmas.Iterator.Search.{find_from_yields_List}
use Rattle.memo.specs.declared.entries.Entry.{Entry}
use Rattle.memo.proofs.Ordered.{of_rule_place, found_find}
use Rattle.memo.proofs.entries.find.Goals as goal

pub returns : goal.returns
returns c =
    let es = c.args.entries.now in
    let first : option_map (λ (x : Bor Entry). x.now) c.find.result ≡ find (λ e. of_rule_place e c.args.at) es =
    find_from_yields_List (λ e. of_rule_place e c.args.at) _ _ c.find.result c.find.ensures.ran (YieldsList-from_slice es cc) (λ x b q k. search (rules, tests)) in
    let row : c.map.result ≡ option_map (λ (e : Entry). e.row) (option_map (λ (x : Bor Entry). x.now) c.find.result) = search rules in
    row ∙ ap (λ (x : Option Entry). option_map (λ (e : Entry). e.row) x) first ∙ found_find es c.args.at
