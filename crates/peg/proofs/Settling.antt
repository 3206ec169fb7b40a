-- What an edit leaves of the known rule-places is derived and closed over the new text.
use Rattle.std.proofs.Common.{◌≡◌, ℕ, suc, ◌+◌, ◌<◌, ◌≤◌, Bool, true, false, cond, ltb, leb, ◌⊎◌, List, [], ◌∷◌, ◌++◌, map, length, sym, refl, ap, subst, inl, inr, arith}
use Rattle.grammar.specs.Words.{Peg}
use Rattle.peg.specs.declared.results.RulePlace.{RulePlace}
use Rattle.peg.specs.Results.{Given}
use Rattle.peg.specs.Rules.{Text}
use Rattle.std.proofs.lemmas.Bool.{leb-true, le-leb, lt-leb}
use Rattle.text.specs.Meaning.{accepted, replaced}
use Rattle.peg.specs.Members.{In}
use Rattle.peg.specs.Moves.{moved_rule_place, moved}
use Rattle.peg.specs.Edits.{along, Replaces}
use Rattle.peg.specs.Completing.{PlaceGives}
use Rattle.peg.specs.Known.{Known}
use Rattle.peg.proofs.Rules.{one_rule}
use Rattle.peg.proofs.Rows.{rule_placed}
use Rattle.peg.proofs.Members.{in_append, in_left, in_right, in_map}
use Rattle.peg.proofs.Edits.{rule_kept, rule_moves, replaces}
use Rattle.peg.specs.Settling.{Remains, kept, moves, Settles, Settling}
use Rattle.peg.proofs.Completing.{rule_completed, rule_near}

module _ (t u : Text) (p k m : ℕ) (same : Replaces t u p k m) (g : Peg) (ks : List RulePlace) (h : Known g t ks) where
  abbrev Stays : RulePlace → Type 0
  Stays z = Remains g t p k m ks z

  derived_after : (z : RulePlace) → Stays z → (v : Given) × PlaceGives g u z v
  derived_after z (kept {v = v} i b d l) = (v, rule_kept t u p k m same g z.rule z.place z.mode v l d)
  derived_after z (moves {z = y} i l) = let w = h.derived y i in (moved (along p k m) w.0, rule_moves t u p k m same g y.rule y.place y.mode w.0 l w.1)

  closed_after : (z : RulePlace) → Stays z → (v : Given) → PlaceGives g u z v → (y : RulePlace) → In y v.completed → Stays y
  closed_after z (kept {v = v} i b d l) w e y q =
      let s : In y v.completed = subst (λ o. In y o.completed) (one_rule g u e (rule_kept t u p k m same g z.rule z.place z.mode v l d)) q in
      let c = rule_completed g t d y s in
      let n : c.result.reach ≤ v.reach = rule_near g t d y s c.result c.gives in
      kept (h.closed z i v d y s) (omega (arith, (rule_placed g t c.gives).far)) c.gives (omega arith)
  closed_after z (moves {z = x} i l) w e y q =
      let b = h.derived x i in
      let d = rule_moves t u p k m same g x.rule x.place x.mode b.0 l b.1 in
      let s : In y (map (moved_rule_place (along p k m)) b.0.completed) = subst (λ o. In y o.completed) (one_rule g u e d) q in
      let a = in_map (moved_rule_place (along p k m)) y b.0.completed s in
      let n = rule_completed g t b.1 a.0 a.1 in
      subst Stays (sym a.2) (moves (h.closed x i b.0 b.1 a.0 a.1) (omega (arith, n.not_before)))

  pub known_after : (ls : List RulePlace) → Settles g t p k m ks ls → Known g u ls
  known_after ls c = record {
    derived = λ z i. derived_after z ((c z).0 i);
    closed = λ z i v d y q. (c y).1 (closed_after z ((c z).0 i) v d y q);
  }

-- what is left of known rule-places, one after another
module _ (g : Peg) (t : Text) (p k m : ℕ) where
  -- of one rule-place with reach r
  abbrev pub rest_of : RulePlace → ℕ → List RulePlace
  rest_of z r = cond (leb (p + k) z.place) (moved_rule_place (along p k m) z ∷ []) (cond (cond (ltb z.place p) (leb r p) false) (z ∷ []) [])

  abbrev pub Derived : List RulePlace → Type 0
  Derived ks = (z : RulePlace) → In z ks → (v : Given) × PlaceGives g t z v

  abbrev pub rest : (ks : List RulePlace) → Derived ks → List RulePlace
  rest [] f = []
  rest (z ∷ ks) f = rest_of z (f z (inl refl)).0.reach ++ rest ks (λ y q. f y (inr q))

  rest_one : (z : RulePlace) (r : ℕ) (y : RulePlace) → In y (rest_of z r)
      → ((p + k ≤ z.place) × (y ≡ moved_rule_place (along p k m) z)) ⊎ ((z.place < p) × (r ≤ p) × (y ≡ z))
  rest_one z r y h = go (leb (p + k) z.place) refl (ltb z.place p) refl (leb r p) refl h
    where
      go : (a : Bool) → leb (p + k) z.place ≡ a → (b : Bool) → ltb z.place p ≡ b → (c : Bool) → leb r p ≡ c
          → In y (cond a (moved_rule_place (along p k m) z ∷ []) (cond (cond b c false) (z ∷ []) []))
          → ((p + k ≤ z.place) × (y ≡ moved_rule_place (along p k m) z)) ⊎ ((z.place < p) × (r ≤ p) × (y ≡ z))
      go true e b f c s (inl q) = inl (leb-true (p + k) z.place e, q)
      go true e b f c s (inr q) = absurd q
      go false e true f true s (inl q) = inr (leb-true (suc z.place) p f, leb-true r p s, q)
      go false e true f true s (inr q) = absurd q
      go false e true f false s q = absurd q
      go false e false f c s q = absurd q

  one_moves : (z : RulePlace) (r : ℕ) → p + k ≤ z.place → In (moved_rule_place (along p k m) z) (rest_of z r)
  one_moves z r h = rw (le-leb (p + k) z.place h) (inl refl)

  one_kept : (z : RulePlace) (r : ℕ) → z.place < p → r ≤ p → In z (rest_of z r)
  one_kept z r h l = rw (lt-leb (p + k) z.place (omega arith), le-leb (suc z.place) p h, le-leb r p l) (inl refl)

  widen : (x : RulePlace) (ks : List RulePlace) (y : RulePlace) → Remains g t p k m ks y → Remains g t p k m (x ∷ ks) y
  widen x ks y (kept i b d l) = kept (inr i) b d l
  widen x ks y (moves i l) = moves (inr i) l

  rest_remains : (ks : List RulePlace) (f : Derived ks) (y : RulePlace) → In y (rest ks f) → Remains g t p k m ks y
  rest_remains [] f y h = absurd h
  rest_remains (z ∷ ks) f y h = go (in_append y (rest_of z (f z (inl refl)).0.reach) (rest ks (λ x q. f x (inr q))) h) (rest_remains ks (λ x q. f x (inr q)) y)
    where
      here : ((p + k ≤ z.place) × (y ≡ moved_rule_place (along p k m) z)) ⊎ ((z.place < p) × ((f z (inl refl)).0.reach ≤ p) × (y ≡ z)) → Remains g t p k m (z ∷ ks) y
      here (inl (l, e)) = subst (Remains g t p k m (z ∷ ks)) (sym e) (moves (inl refl) l)
      here (inr (b, l, e)) = subst (Remains g t p k m (z ∷ ks)) (sym e) (kept (inl refl) b (f z (inl refl)).1 l)

      go : In y (rest_of z (f z (inl refl)).0.reach) ⊎ In y (rest ks (λ x q. f x (inr q))) → (In y (rest ks (λ x q. f x (inr q))) → Remains g t p k m ks y) → Remains g t p k m (z ∷ ks) y
      go (inl q) r = here (rest_one z (f z (inl refl)).0.reach y q)
      go (inr q) r = widen z ks y (r q)

  rest_moves : (ks : List RulePlace) (f : Derived ks) (z : RulePlace) → In z ks → p + k ≤ z.place → In (moved_rule_place (along p k m) z) (rest ks f)
  rest_moves [] f z h l = absurd h
  rest_moves (x ∷ ks) f z (inl e) l =
      in_left (moved_rule_place (along p k m) z) (rest_of x (f x (inl refl)).0.reach) (rest ks (λ y q. f y (inr q)))
      (subst (λ y. In (moved_rule_place (along p k m) z) (rest_of y (f x (inl refl)).0.reach)) e (one_moves z (f x (inl refl)).0.reach l))
  rest_moves (x ∷ ks) f z (inr h) l =
      in_right (moved_rule_place (along p k m) z) (rest_of x (f x (inl refl)).0.reach) (rest ks (λ y q. f y (inr q))) (rest_moves ks (λ y q. f y (inr q)) z h l)

  rest_kept : (ks : List RulePlace) (f : Derived ks) (z : RulePlace) (v : Given) → In z ks → z.place < p → PlaceGives g t z v → v.reach ≤ p → In z (rest ks f)
  rest_kept [] f z v h b d l = absurd h
  rest_kept (x ∷ ks) f z v (inl e) b d l =
      let w = f x (inl refl) in
      let a : PlaceGives g t x v = subst (λ y. PlaceGives g t y v) e d in
      let s : w.0.reach ≡ v.reach = ap (λ y. y.reach) (one_rule g t w.1 a) in
      in_left z (rest_of x w.0.reach) (rest ks (λ y q. f y (inr q))) (subst (λ y. In z (rest_of y w.0.reach)) e (one_kept z w.0.reach b (omega arith)))
  rest_kept (x ∷ ks) f z v (inr h) b d l =
      in_right z (rest_of x (f x (inl refl)).0.reach) (rest ks (λ y q. f y (inr q))) (rest_kept ks (λ y q. f y (inr q)) z v h b d l)

  remains_rest : (ks : List RulePlace) (f : Derived ks) (y : RulePlace) → Remains g t p k m ks y → In y (rest ks f)
  remains_rest ks f y (kept {v = v} i b d l) = rest_kept ks f y v i b d l
  remains_rest ks f y (moves {z = z} i l) = rest_moves ks f z i l

  pub rest_settles : (ks : List RulePlace) (f : Derived ks) → Settles g t p k m ks (rest ks f)
  rest_settles ks f y = (rest_remains ks f y, remains_rest ks f y)

pub settling : (E : Type 0) → Settling E
settling E = record {
  known = λ g fits xs p k ys h ks ls n c. known_after (accepted fits xs) (accepted fits (replaced xs p k ys)) p k (length ys) (replaces fits xs p k ys h) g ks n ls c;
  exist = λ g t p k m ks n. (rest g t p k m ks n.derived, rest_settles g t p k m ks n.derived);
}
