-- What holds of one thing, and of no other.
use Rattle.std.proofs.Common.{◌≡◌, subst}
use Rattle.rowtext.specs.Exact.{Exactly}

pub exact : {A : Type 0} (P : A → Type 0) (a : A) → P a → ((b : A) → P b → a ≡ b) → Exactly a P
exact P a h one b = (λ e. subst P e h, one b)
