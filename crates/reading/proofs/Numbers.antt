-- A reply is refused by a number exactly if its result is the refusal of that number.
use Rattle.std.proofs.Common.{◌≡◌, ℕ, ◌↔◌, Ok, Err, Result, refl, ap, arith}
use Rattle.reading.specs.declared.refusal.Refusal.{Refusal}
use Rattle.reading.specs.declared.refusal.Refusal.TheVariants.{Uncovered, Unfit, TooDeep}
use Rattle.reading.specs.declared.reply.Answer.{Answer}
use Rattle.reading.specs.declared.reply.Reply.{Reply}
use Rattle.reading.specs.Replies.{number, result_number, RefusedBy}

same_number : (y z : Refusal) → number y ≡ number z → y ≡ z
same_number Uncovered Uncovered e = refl
same_number Uncovered Unfit e = absurd (omega arith)
same_number Uncovered TooDeep e = absurd (omega arith)
same_number Unfit Uncovered e = absurd (omega arith)
same_number Unfit Unfit e = refl
same_number Unfit TooDeep e = absurd (omega arith)
same_number TooDeep Uncovered e = absurd (omega arith)
same_number TooDeep Unfit e = absurd (omega arith)
same_number TooDeep TooDeep e = refl

some_number : (z : Refusal) → ◌≡◌ {A = ℕ} 0 (number z) → ⊥
some_number Uncovered e = omega arith
some_number Unfit e = omega arith
some_number TooDeep e = omega arith

pub of_number : (x : Result Answer Refusal) (z : Refusal) → result_number x ≡ number z → x ≡ Err z
of_number (Ok x) z e = absurd (some_number z e)
of_number (Err y) z e = ap Err (same_number y z e)

pub by_number : {A : Type 0} (q : Reply) (z : Refusal) → (q.result ≡ Err z) ↔ A → RefusedBy (number z) q ↔ A
by_number q z w = ((λ e. w.0 (of_number q.result z e)), (λ a. ap result_number (w.1 a)))
