-- What a change in place leaves in the places that neither the old nor the new text uses.
use Rattle.std.proofs.Common.{◌≡◌, ℕ, ◌+◌, ◌-◌, ◌≤◌, max, List, ◌++◌, length, take, drop, ap, ◌∙◌, arith, length-append, length-drop, length-take}
use Rattle.std.proofs.lemmas.Slice.{drop-append-drop}
use Rattle.text.specs.Meaning.{replaced}
use Rattle.text.proofs.Laws.{length_replaced}

-- xs and zs are the places before and after, n the size before, new the size after
pub unused : {E : Type 0} (xs zs : List E) (n p k : ℕ) (ys : List E) → n ≤ length xs → p + k ≤ n → n - k + length ys ≤ length xs
    → zs ≡ replaced (take n xs) p k ys ++ drop (n - k + length ys) xs
    → (length zs ≡ length xs) × (drop (max (length (take n xs)) (length (take (n - k + length ys) zs))) zs ≡ drop (max (length (take n xs)) (length (take (n - k + length ys) zs))) xs)
unused xs zs n p k ys used range room after =
    let new = n - k + length ys in
    let fits : length (replaced (take n xs) p k ys) ≡ new =
    let e : length (take n xs) ≡ n = omega (arith, length-take n xs) in
    length_replaced (take n xs) p k ys (omega arith) ∙ ap (λ i. i - k + length ys) e in
    let long : length zs ≡ length xs =
    omega (arith, ap length after, length-append (replaced (take n xs) p k ys) (drop new xs), length-drop new xs, fits) in
    let i = max (length (take n xs)) (length (take new zs)) in
    let beyond : new ≤ i = omega (arith, long, length-take new zs) in
    (long, ap (drop i) after ∙ drop-append-drop new xs (replaced (take n xs) p k ys) i beyond fits)
