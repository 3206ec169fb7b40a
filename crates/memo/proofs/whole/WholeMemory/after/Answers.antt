use Rattle.std.proofs.Common.{◌≡◌, ℕ, ◌+◌, ◌*◌, ◌%◌, ap, ◌∙◌, arith}
use Rattle.memo.specs.Layout.{slot_row}
use Rattle.memo.proofs.whole.WholeMemory.after.Goals as goal

pub returns-in_err-from : goal.returns-in_err-from
returns-in_err-from c =
    record {
      before = λ h. absurd (omega arith);
      moved = λ j h comes. absurd (omega (arith, comes.2, c.in_err-from.ensures j comes.0 comes.1));
      gone = λ h none. c.from_residual.ensures;
    }

pub returns : goal.returns
returns c =
    let w = 2 * c.args.self.now.rules in
    record {
      before = λ h. absurd (omega arith);
      moved = λ j h comes.
          let one : c.in_ok-from.from ≡ j = omega (arith, comes.1, c.in_ok-from.ensures.1) in
          c.read-2.ensures ∙ ap (λ (i : ℕ). slot_row c.args.self.now.words.now (i * w + c.args.s % w)) one;
      gone = λ h none. absurd (omega (arith, c.in_ok-from.ensures.2, none c.in_ok-from.from c.in_ok-from.ensures.0 c.in_ok-from.ensures.1));
    }
