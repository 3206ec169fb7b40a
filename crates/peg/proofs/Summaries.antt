-- Summaries add up and move as their lists do.
use Rattle.std.proofs.Common.{◌≡◌, ℕ, zero, suc, ◌+◌, ◌≤◌, min, false, eqb, List, [], ◌∷◌, ◌++◌, map, length, sym, refl, ap, ◌∙◌, not-suc-le-zero, arith, length-append}
use Prim.Native.Nat.compare
use Rattle.peg.specs.declared.results.Recoveries.{Recoveries}
use Rattle.peg.specs.Results.{Recovery, summary, most_recoveries}
use Rattle.peg.specs.Moves.{moved_recovery}
use Rattle.peg.specs.Summaries.{added, moved_recoveries, Summaries}

some : (c : ℕ) → 1 ≤ c → eqb c 0 ≡ false
some zero h = absurd (not-suc-le-zero h)
some (suc c) h = rw compare.suc-zero

pub added_some : (a b : Recoveries) → 1 ≤ a.count → added a b ≡ record { count = min (a.count + b.count) most_recoveries; label = a.label; place = a.place }
added_some a b h = rw (some a.count h)

pub moved_some : (f : ℕ → ℕ) (a : Recoveries) → 1 ≤ a.count → moved_recoveries f a ≡ record { count = a.count; label = a.label; place = f a.place }
moved_some f a h = rw (some a.count h)

stopped : (n c : ℕ) → min (n + c) most_recoveries ≡ min (min n most_recoveries + min c most_recoveries) most_recoveries
stopped n c = omega arith

length_map : {A B : Type 0} (f : A → B) (xs : List A) → length (map f xs) ≡ length xs
length_map f [] = refl
length_map f (x ∷ xs) = ap suc (length_map f xs)

counted : (ys : List Recovery) → (summary ys).count ≡ min (length ys) most_recoveries
counted [] = refl
counted (y ∷ ys) = refl

pub summary_add : (xs ys : List Recovery) → summary (xs ++ ys) ≡ added (summary xs) (summary ys)
summary_add [] ys = refl
summary_add (x ∷ xs) ys =
    let s = summary (x ∷ xs) in
    let h : 1 ≤ s.count = omega arith in
    let e : min (length (x ∷ (xs ++ ys))) most_recoveries ≡ min (s.count + (summary ys).count) most_recoveries = omega (arith, length-append xs ys, counted ys) in
    (λ k. record { count = e k; label = x.label; place = x.place }) ∙ sym (added_some s (summary ys) h)

pub summary_move : (f : ℕ → ℕ) (xs : List Recovery) → summary (map (moved_recovery f) xs) ≡ moved_recoveries f (summary xs)
summary_move f [] = refl
summary_move f (x ∷ xs) =
    let s = summary (x ∷ xs) in
    let h : 1 ≤ s.count = omega arith in
    let e : min (length (x ∷ map (moved_recovery f) xs)) most_recoveries ≡ s.count = omega (arith, length_map (moved_recovery f) xs) in
    (λ k. record { count = e k; label = x.label; place = f x.place }) ∙ sym (moved_some f s h)

pub summaries : Summaries
summaries = record { add = summary_add; move = summary_move }
