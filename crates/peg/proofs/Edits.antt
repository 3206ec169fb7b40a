-- Edits: what was given before stands, and what was given behind moves along.
use Rattle.std.proofs.Common.{◌≡◌, ℕ, zero, suc, ◌+◌, ◌-◌, ◌<◌, ◌≤◌, Bool, List, [], ◌∷◌, ◌++◌, length, take, drop, sym, refl, ap, ◌∙◌, le_of_suc-le-suc, not-suc-le-zero, suc-add, zero-add, arith, take-append-drop, length-take-le}
use Rattle.grammar.specs.declared.expr.Mode.{Mode}
use Rattle.grammar.specs.declared.expr.Expr.{Expr}
use Rattle.grammar.specs.Words.{Peg}
use Rattle.peg.specs.Results.{Given}
use Rattle.peg.specs.Rules.{Text, Gives, RuleGives}
use Rattle.peg.specs.Rules.{as_its_body}
use Rattle.text.specs.Meaning.{accepted, replaced}
use Rattle.peg.specs.declared.results.Reading.{Reading}
use Rattle.peg.specs.Moves.{moved, shift, Agree}
use Rattle.peg.specs.Rows.{RowOf}
use Rattle.peg.specs.Edits.{along, Replaces, Edited, Edits}
use Rattle.peg.proofs.Moves.{local, rule_local, in_place}
use Rattle.peg.proofs.Rows.{row_again}

module _ {E : Type 0} (fits : ℕ → ℕ → E → Bool) (a b : ℕ) where
  accepted_before : (xs ys zs : List E) (i : ℕ) → i < length xs → accepted fits (xs ++ ys) a b i ≡ accepted fits (xs ++ zs) a b i
  accepted_before [] ys zs i h = absurd (not-suc-le-zero h)
  accepted_before (x ∷ xs) ys zs zero h = refl
  accepted_before (x ∷ xs) ys zs (suc i) h = accepted_before xs ys zs i (le_of_suc-le-suc h)

  accepted_behind : (xs ys : List E) (i : ℕ) → accepted fits (xs ++ ys) a b (length xs + i) ≡ accepted fits ys a b i
  accepted_behind [] ys i = rw zero-add
  accepted_behind (x ∷ xs) ys i = rw suc-add (accepted_behind xs ys i)

  -- the elements at q and later
  accepted_drop : (q : ℕ) (xs : List E) (i : ℕ) → q ≤ length xs → accepted fits (drop q xs) a b i ≡ accepted fits xs a b (q + i)
  accepted_drop q xs i h =
      sym (accepted_behind (take q xs) (drop q xs) i)
      ∙ ap (λ zs. accepted fits zs a b (length (take q xs) + i)) (take-append-drop q xs)
      ∙ ap (λ n. accepted fits xs a b (n + i)) (length-take-le q xs h)

  edit_before : (xs : List E) (p k : ℕ) (ys : List E) (i : ℕ) → p + k ≤ length xs → i < p → accepted fits xs a b i ≡ accepted fits (replaced xs p k ys) a b i
  edit_before xs p k ys i h l =
      let q : i < length (take p xs) = omega (arith, length-take-le p xs (omega arith)) in
      ap (λ zs. accepted fits zs a b i) (sym (take-append-drop p xs)) ∙ accepted_before (take p xs) (drop p xs) (ys ++ drop (p + k) xs) i q

  edit_behind : (xs : List E) (p k : ℕ) (ys : List E) (d : ℕ) → p + k ≤ length xs
      → accepted fits xs a b (p + k + d) ≡ accepted fits (replaced xs p k ys) a b (p + length ys + d)
  edit_behind xs p k ys d h =
      let q : p + length ys + d ≡ length (take p xs) + (length ys + d) = omega (arith, length-take-le p xs (omega arith)) in
      sym (accepted_drop (p + k) xs d h)
      ∙ sym (accepted_behind ys (drop (p + k) xs) d)
      ∙ sym (accepted_behind (take p xs) (ys ++ drop (p + k) xs) (length ys + d))
      ∙ ap (λ n. accepted fits (replaced xs p k ys) a b n) (sym q)

shift_behind : (a b p : ℕ) → a ≤ p → (d : ℕ) × (p ≡ a + d) × (shift a b p ≡ b + d)
unfolding shift
shift_behind a b p h = (p - a, omega arith, omega arith)

-- a replacement in a list is one in its text
pub replaces : {E : Type 0} (fits : ℕ → ℕ → E → Bool) (xs : List E) (p k : ℕ) (ys : List E) → p + k ≤ length xs
    → Replaces (accepted fits xs) (accepted fits (replaced xs p k ys)) p k (length ys)
replaces fits xs p k ys h = record {
  before = λ a b i l. edit_before fits a b xs p k ys i h l;
  behind = λ a b i l.
      let q = shift_behind (p + k) (p + length ys) i l in
      ap (accepted fits xs a b) q.1 ∙ edit_behind fits a b xs p k ys q.0 h ∙ ap (accepted fits (replaced xs p k ys) a b) (sym q.2);
}

pub along_is : (p k m i j : ℕ) → p + k ≤ i → j + k ≡ i + m → along p k m i ≡ j
unfolding shift
along_is p k m i j h e = omega arith

pub along_behind : (p k m i : ℕ) → p + k ≤ i → along p k m i + k ≡ i + m
unfolding shift
along_behind p k m i h = omega arith

module _ (t u : Text) (p k m : ℕ) (same : Replaces t u p k m) where
  same_behind : (i r : ℕ) → p + k ≤ i → Agree t u (p + k) (p + m) i r
  same_behind i r h q l n c d = same.behind c d q (omega arith)

  pub kept : (g : Peg) (x : Expr) (i : ℕ) (o : Mode) (v : Given) → v.reach ≤ p → Gives g t x i o v → Gives g u x i o v
  kept g x i o v h d = in_place g t u d (λ a b q l. same.before a b q (omega arith))

  pub rule_kept : (g : Peg) (r i : ℕ) (o : Mode) (v : Given) → v.reach ≤ p → RuleGives g t r i o v → RuleGives g u r i o v
  rule_kept g r i o v h (as_its_body {v = w} d) = as_its_body (kept g (g.expr (g.body r)) i o w h d)

  pub rule_moves : (g : Peg) (r i : ℕ) (o : Mode) (v : Given) → p + k ≤ i → RuleGives g t r i o v → RuleGives g u r (along p k m i) o (moved (along p k m) v)
  rule_moves g r i o v h d = rule_local g t u (p + k) (p + m) h d (same_behind i v.reach h)

  row_kept : (g : Peg) (r i : ℕ) (o : Mode) (w : Reading) → i + w.reach ≤ p → RowOf g t r i o w → RowOf g u r i o w
  row_kept g r i o w h = row_again g t u r i i o w (λ d l a b. same.before a b (i + d) (omega arith))

  row_moves : (g : Peg) (r i j : ℕ) (o : Mode) (w : Reading) → p + k ≤ i → j + k ≡ i + m → RowOf g t r i o w → RowOf g u r j o w
  row_moves g r i j o w h e = row_again g t u r i j o w λ d l a b.
      same.behind a b (i + d) (omega arith) ∙ ap (u a b) (along_is p k m (i + d) (j + d) (omega arith) (omega arith))

  pub edited : Edited t u p k m
  edited = record {
    kept = kept;
    moves = λ g x i o v h d. local g t u (p + k) (p + m) h d (same_behind i v.reach h);
    rule_kept = rule_kept;
    rule_moves = rule_moves;
    row_kept = row_kept;
    row_moves = row_moves;
  }

pub edits : (E : Type 0) → Edits E
edits E fits xs p k ys h = edited (accepted fits xs) (accepted fits (replaced xs p k ys)) p k (length ys) (replaces fits xs p k ys h)
