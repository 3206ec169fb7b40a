use Rattle.std.proofs.Common.{◌≡◌, Result, Ok, Err, IfOk, sym, ◌∙◌, refl, rules, arith}
use Rattle.std.proofs.lemmas.List.Sums.{AllPass-from_list_all, list_all-from_AllPass}
use Rattle.hex.specs.Hex.{is_hex_digit}
use Rattle.hex.proofs.HexLemmas.{decode_of-digits, decode_of-ok}
use Rattle.replay.proofs.fields.decode_field.Goals as goal
use Rattle.replay.proofs.fields.decode_field.Goals.{then-field-ne0-via-then-field-ne0, then-field-ne0-via-else-field-ne0+then-not-are_digits}

never_ok : {T E : Type 0} (r : Result T E) (P : T → Type 0) → ((x : T) → r ≡ Ok x → ⊥) → IfOk r P
never_ok (Ok x) P never = absurd (never x refl)
never_ok (Err e) P never = tt

-- digits, and an even number of them, write bytes
pub returns-in_err-decode-clause-malformed : goal.returns-in_err-decode-clause-malformed
returns-in_err-decode-clause-malformed c =
    let digits = AllPass-from_list_all is_hex_digit c.args.field.now (search rules) in
    let bytes = decode_of-digits c.args.field.now (search rules) digits in
    rw bytes.1 tt

-- and nothing else does
pub returns-then-field-ne0-clause-short : goal.returns-then-field-ne0-clause-short
returns-then-field-ne0-clause-short c =
    never_ok _ _ (λ bytes is.
    let written = decode_of-ok c.args.field.now bytes is in
    elim c.then-field-ne0.branch [
      | then-field-ne0-via-then-field-ne0 w ↦ search (rules, arith)
      | then-field-ne0-via-else-field-ne0+then-not-are_digits w ↦
          let all = list_all-from_AllPass is_hex_digit c.args.field.now written.1 in
          search (rules, arith)
    ])
