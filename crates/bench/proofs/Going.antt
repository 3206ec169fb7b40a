-- Each call carries a run on.
use Rattle.std.proofs.Common.{◌≡◌, ℕ, ◌+◌, ◌-◌, ◌<◌, ◌≤◌, Bool, List, [], ◌∷◌, length, sym, refl, subst, arith}
use native.Mathlib.Decide.{dec_le}
use Rattle.grammar.specs.Words.{meaning}
use Rattle.grammar.specs.Questions.{Accepted}
use Rattle.text.specs.Meaning.{accepted, replaced}
use Rattle.text.specs.Refusals.{Iff}
use Rattle.peg.specs.declared.results.RulePlace.{RulePlace}
use Rattle.peg.specs.Counting.{learned}
use Rattle.peg.specs.Settling.{Settles}
use Rattle.peg.proofs.Settling.{settling}
use Rattle.memo.specs.Tables.{Table, Empty, Shifts}
use Rattle.reading.specs.declared.reply.Reply.{Reply}
use Rattle.reading.specs.Replies.{Replies, uncovered, covered}
use Rattle.reading.specs.Runs.{Bounds, parse_of}
use Rattle.bench.specs.Runs.{State, settled, slip_out, Change, Changeable, Run, changed, change_refused, shifted, parsed, parse_uncovered, cleared}
use Rattle.bench.specs.Calls.{bounds, Runs, GoesOn, RunsKnowing, GoesOnKnowing, EndsKnown, StaysKnown, Learns, learns, learns_nothing, ParsesOn, Obeys}
use Rattle.bench.proofs.Law.{stays, law}

module _ {E : Type 0} (fits : ℕ → ℕ → E → Bool) (keeps : Bool) {P P' Q Q' C C' : ℕ} (eP : P' ≡ P) (eQ : Q' ≡ Q) (eC : C' ≡ C) (ws : List ℕ) where
  -- the bounds stay
  same_run : {first xs : List E} {cs : List (Change E)} {T : Table} {ks : List RulePlace} {s : State}
      → Run fits (bounds keeps P Q C) ws first cs xs T ks s → Run fits (bounds keeps P' Q' C') ws first cs xs T ks s
  same_run {first} {xs} {cs} {T} {ks} {s} r = subst (λ (b : Bounds). Run fits b ws first cs xs T ks s) (λ i. bounds keeps (sym eP i) (sym eQ i) (sym eC i)) r

  -- just these rule-places are known
  just : {first xs : List E} {cs : List (Change E)} {T : Table} {s : State} (ks : List RulePlace)
      → Run fits (bounds keeps P Q C) ws first cs xs T ks s → RunsKnowing fits (bounds keeps P' Q' C') ws first cs xs T s (λ ls. ls ≡ ks)
  just {first} {xs} {cs} {T} {s} ks r = ((ks, refl), λ ls q. subst (λ (l : List RulePlace). Run fits (bounds keeps P' Q' C') ws first cs xs T l s) (sym q) (same_run r))

  pub knows_cleared : (xs : List E) (T U : Table) → Empty U → GoesOnKnowing fits (bounds keeps P Q C) (bounds keeps P' Q' C') ws xs xs T U settled settled EndsKnown
  knows_cleared xs T U e first cs ks r = just [] (cleared r e)

  pub knows_shifted : (xs : List E) (T U : Table) (p k m : ℕ) → Shifts keeps P p k m T U → GoesOnKnowing fits (bounds keeps P Q C) (bounds keeps P' Q' C') ws xs xs T U (slip_out p k m) settled StaysKnown
  knows_shifted xs T U p k m s first cs ks r = just ks (shifted r s)

  pub knows_refused : (xs : List E) (T : Table) (p k m : ℕ) → (Changeable (length xs) C p k m → ⊥) → GoesOnKnowing fits (bounds keeps P Q C) (bounds keeps P' Q' C') ws xs xs T T settled settled StaysKnown
  knows_refused xs T p k m n first cs ks r = just ks (change_refused p k m r n)

  module _ (ok : Accepted ws) where
    pub knows_changed : (xs ys zs : List E) (T : Table) (p k : ℕ) → Changeable (length xs) C p k (length ys) → zs ≡ replaced xs p k ys
        → (first : List E) (cs : List (Change E)) (ks : List RulePlace) → Run fits (bounds keeps P Q C) ws first cs xs T ks settled
        → RunsKnowing fits (bounds keeps P' Q' C') ws first (record { place = p; removed = k; inserted = ys } ∷ cs) zs T (slip_out p k (length ys)) (Settles (meaning ws) (accepted fits xs) p k (length ys) ks)
    knows_changed xs ys zs T p k c e first cs ks r =
        ((settling E).exist (meaning ws) (accepted fits xs) p k (length ys) ks (stays fits (bounds keeps P Q C) ws ok r).known, λ ls s. same_run (changed r c e s))

    module _ (xs : List E) (T : Table) (frames : ℕ) {first : List E} {cs : List (Change E)} {ks : List RulePlace} (r : Run fits (bounds keeps P Q C) ws first cs xs T ks settled) where
      some_learned : {U : Table} {q : Reply} → Replies (parse_of (meaning ws) fits xs frames (bounds keeps P Q C)) C T q U
          → (ls : List RulePlace) × Learns fits (bounds keeps P Q C) ws xs frames ks ls
      some_learned (uncovered u) = (ks, learns_nothing u)
      some_learned {U} {q} (covered c d) =
          let x = (law E fits (bounds keeps P Q C) ws ok first cs xs T ks r frames q U (covered c d)).completes in
          (learned ks x.1, learns c x.2)

      each_learned : {U : Table} {q : Reply} → Replies (parse_of (meaning ws) fits xs frames (bounds keeps P Q C)) C T q U
          → (ls : List RulePlace) → Learns fits (bounds keeps P Q C) ws xs frames ks ls → Run fits (bounds keeps P' Q' C') ws first cs xs U ls settled
      each_learned d ls (learns c e) = same_run (parsed {frames = frames} r c d e)
      each_learned d ls (learns_nothing n) = same_run (parse_uncovered {frames = frames} r n d)

    pub knows_parsed : (xs : List E) (T U : Table) (frames : ℕ) (q : Reply) → Replies (parse_of (meaning ws) fits xs frames (bounds keeps P Q C)) C T q U
        → ParsesOn fits (bounds keeps P Q C) (bounds keeps P' Q' C') ws xs T U frames
    knows_parsed xs T U frames q d first cs ks r = (some_learned xs T frames r d, each_learned xs T frames r d)

-- where it is told which rule-places are known after a call, there is a run after it
pub some_run : {E : Type 0} {fits : ℕ → ℕ → E → Bool} {b : Bounds} {ws : List ℕ} {first xs : List E} {cs : List (Change E)} {T : Table} {s : State} {After : List RulePlace → Type 0}
    → RunsKnowing fits b ws first cs xs T s After → Runs fits b ws first cs xs T s
some_run x = (x.0.0, x.1 x.0.0 x.0.1)

pub goes : {E : Type 0} {fits : ℕ → ℕ → E → Bool} {b b' : Bounds} {ws : List ℕ} {xs ys : List E} {T U : Table} {s s' : State} {After : List RulePlace → List RulePlace → Type 0}
    → GoesOnKnowing fits b b' ws xs ys T U s s' After → GoesOn fits b b' ws xs ys T U s s'
goes h first cs (ks, r) = some_run (h first cs ks r)

module _ {E : Type 0} (fits : ℕ → ℕ → E → Bool) (keeps : Bool) {P P' Q Q' C C' : ℕ} (eP : P' ≡ P) (eQ : Q' ≡ Q) (eC : C' ≡ C) (ws : List ℕ) where
  pub goes_cleared : (xs : List E) (T U : Table) → Empty U → GoesOn fits (bounds keeps P Q C) (bounds keeps P' Q' C') ws xs xs T U settled settled
  goes_cleared xs T U e = goes (knows_cleared fits keeps eP eQ eC ws xs T U e)

  pub goes_shifted : (xs : List E) (T U : Table) (p k m : ℕ) → Shifts keeps P p k m T U → GoesOn fits (bounds keeps P Q C) (bounds keeps P' Q' C') ws xs xs T U (slip_out p k m) settled
  goes_shifted xs T U p k m s = goes (knows_shifted fits keeps eP eQ eC ws xs T U p k m s)

  pub goes_refused : (xs : List E) (T : Table) (p k m : ℕ) → (Changeable (length xs) C p k m → ⊥) → GoesOn fits (bounds keeps P Q C) (bounds keeps P' Q' C') ws xs xs T T settled settled
  goes_refused xs T p k m n = goes (knows_refused fits keeps eP eQ eC ws xs T p k m n)

  module _ (ok : Accepted ws) where
    pub goes_changed : (xs ys zs : List E) (T : Table) (p k : ℕ) → Changeable (length xs) C p k (length ys) → zs ≡ replaced xs p k ys
        → (first : List E) (cs : List (Change E)) → Runs fits (bounds keeps P Q C) ws first cs xs T settled
        → Runs fits (bounds keeps P' Q' C') ws first (record { place = p; removed = k; inserted = ys } ∷ cs) zs T (slip_out p k (length ys))
    goes_changed xs ys zs T p k c e first cs (ks, r) = some_run (knows_changed fits keeps eP eQ eC ws ok xs ys zs T p k c e first cs ks r)

    pub goes_parsed : (xs : List E) (T U : Table) (frames : ℕ) (q : Reply) → Replies (parse_of (meaning ws) fits xs frames (bounds keeps P Q C)) C T q U
        → GoesOn fits (bounds keeps P Q C) (bounds keeps P' Q' C') ws xs xs T U settled settled
    goes_parsed xs T U frames q d = goes (knows_parsed fits keeps eP eQ eC ws ok xs T U frames q d)

pub obeys : {E : Type 0} (fits : ℕ → ℕ → E → Bool) (keeps : Bool) (P Q C : ℕ) (ws : List ℕ) → Accepted ws → (xs : List E) (T U : Table) (frames : ℕ) (q : Reply)
    → Replies (parse_of (meaning ws) fits xs frames (bounds keeps P Q C)) C T q U → Obeys fits (bounds keeps P Q C) ws xs T frames q U
obeys {E} fits keeps P Q C ws ok xs T U frames q d first cs ks r = law E fits (bounds keeps P Q C) ws ok first cs xs T ks r frames q U d

-- a change that is not refused passed both questions
pub changeable : (n C p k m : ℕ) → Iff (◌≡◌ {A = ℕ} 0 11) (n < p + k) → Iff (◌≡◌ {A = ℕ} 0 12) ((p + k ≤ n) × (C < n - k + m)) → Changeable n C p k m
changeable n C p k m eleven twelve = go (dec_le (p + k) n) (dec_le (n - k + m) C)
  where
    go : Dec (p + k ≤ n) → Dec (n - k + m ≤ C) → Changeable n C p k m
    go (yes a) (yes b) = (a, b)
    go (yes a) (no b) = let q = twelve.1 (a, omega arith) in absurd (omega arith)
    go (no a) b = let q = eleven.1 (omega arith) in absurd (omega arith)
