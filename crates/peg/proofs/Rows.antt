-- Rows: told from their place, and found again where their elements are.
use Rattle.std.proofs.Common.{◌≡◌, ℕ, ◌+◌, ◌-◌, ◌<◌, ◌≤◌, Bool, true, false, eqb, List, [], ◌∷◌, Some, None, Option, sym, refl, ap, ◌∙◌, subst, arith}
use Rattle.grammar.specs.declared.expr.Mode.{Mode}
use Rattle.grammar.specs.Words.{Peg}
use Rattle.peg.specs.declared.results.Outcome.{Outcome}
use Rattle.peg.specs.declared.results.Outcome.TheVariants.{Match, Failure}
use Rattle.peg.specs.declared.results.Note.{Note}
use Rattle.peg.specs.Results.{Recovery, Given}
use Rattle.peg.specs.Rules.{Text, RuleGives}
use Rattle.peg.specs.Rules.{as_its_body}
use Rattle.peg.specs.declared.results.Recoveries.{Recoveries}
use Rattle.peg.specs.declared.results.Reading.{Reading}
use Rattle.peg.specs.Results.{summary, told}
use Rattle.peg.specs.Moves.{moved_outcome, moved_note, moved, shift, Agree}
use Rattle.peg.specs.Summaries.{moved_recoveries}
use Rattle.peg.specs.Rows.{moved_reading, away, from, RowOf, Rows}
use Rattle.peg.proofs.Rules.{one_rule}
use Rattle.peg.proofs.Places.{OutFrom, NoteFrom, AllFrom, Placed, placed}
use Rattle.peg.proofs.Moves.{rule_local}
use Rattle.peg.proofs.Summaries.{moved_some, summary_move}

pub rule_placed : (g : Peg) (t : Text) {r i : ℕ} {m : Mode} {v : Given} → RuleGives g t r i m v → Placed i v
rule_placed g t (as_its_body d) = let h = placed g t d in record { out = h.out; noted = h.noted; rest = h.rest; far = h.far }

pub told_moved : (f : ℕ → ℕ) (v : Given) → told (moved f v) ≡ moved_reading f (told v)
told_moved f v = λ k. record {
  outcome = moved_outcome f v.outcome;
  note = moved_note f v.note;
  recoveries = summary_move f v.recoveries k;
  depth = v.depth;
  reach = f v.reach;
}

-- two moves that come to one
module _ (f h e : ℕ → ℕ) (same : (p : ℕ) → f (h p) ≡ e p) where
  two_outcome : (o : Outcome) → moved_outcome f (moved_outcome h o) ≡ moved_outcome e o
  two_outcome (Match j) = ap Match (same j)
  two_outcome (Failure l p) = ap (λ q. Failure l q) (same p)

  two_note : (n : Option Note) → moved_note f (moved_note h n) ≡ moved_note e n
  two_note None = refl
  two_note (Some n) = λ k. Some (record { place = same n.place k; marks = n.marks })

  two_recoveries : (a : Recoveries) → moved_recoveries f (moved_recoveries h a) ≡ moved_recoveries e a
  two_recoveries a = go (eqb a.count 0) refl
    where
      go : (b : Bool) → eqb a.count 0 ≡ b → moved_recoveries f (moved_recoveries h a) ≡ moved_recoveries e a
      go true q = rw (q, q)
      go false q = rw (q, q) (λ k. record { count = a.count; label = a.label; place = same a.place k })

  pub two_moves : (w : Reading) → moved_reading f (moved_reading h w) ≡ moved_reading e w
  two_moves w = λ k. record {
    outcome = two_outcome w.outcome k;
    note = two_note w.note k;
    recoveries = two_recoveries w.recoveries k;
    depth = w.depth;
    reach = same w.reach k;
  }

-- a move that leaves every place where it is
module _ (f : ℕ → ℕ) (stays : (p : ℕ) → f p ≡ p) where
  no_outcome : (o : Outcome) → moved_outcome f o ≡ o
  no_outcome (Match j) = ap Match (stays j)
  no_outcome (Failure l p) = ap (λ q. Failure l q) (stays p)

  no_note : (n : Option Note) → moved_note f n ≡ n
  no_note None = refl
  no_note (Some n) = λ k. Some (record { place = stays n.place k; marks = n.marks })

  no_recoveries : (a : Recoveries) → moved_recoveries f a ≡ a
  no_recoveries a = go (eqb a.count 0) refl
    where
      go : (b : Bool) → eqb a.count 0 ≡ b → moved_recoveries f a ≡ a
      go true q = rw q
      go false q = rw q (λ k. record { count = a.count; label = a.label; place = stays a.place k })

  pub no_move : (w : Reading) → moved_reading f w ≡ w
  no_move w = λ k. record {
    outcome = no_outcome w.outcome k;
    note = no_note w.note k;
    recoveries = no_recoveries w.recoveries k;
    depth = w.depth;
    reach = stays w.reach k;
  }

-- distances, told and taken again
pub away_from : (i : ℕ) (w : Reading) → away i (from i w) ≡ w
away_from i w = two_moves (λ p. p - i) (λ d. i + d) (λ d. d) (λ p. omega arith) w ∙ no_move (λ d. d) (λ p. refl) w

-- what is placed from i on, told from there
module _ (i : ℕ) where
  there : (p : ℕ) → i ≤ p → i + (p - i) ≡ p
  there p h = omega arith

  back_outcome : (o : Outcome) → OutFrom i o → moved_outcome (λ d. i + d) (moved_outcome (λ p. p - i) o) ≡ o
  back_outcome (Match j) h = ap Match (there j h)
  back_outcome (Failure l p) h = ap (λ q. Failure l q) (there p h)

  back_note : (n : Option Note) → NoteFrom i n → moved_note (λ d. i + d) (moved_note (λ p. p - i) n) ≡ n
  back_note None h = refl
  back_note (Some n) h = λ k. Some (record { place = there n.place h k; marks = n.marks })

  back_recoveries : (rs : List Recovery) → AllFrom i rs → moved_recoveries (λ d. i + d) (moved_recoveries (λ p. p - i) (summary rs)) ≡ summary rs
  back_recoveries [] h = refl
  back_recoveries (r ∷ rs) h =
      let s = summary (r ∷ rs) in
      let c : 1 ≤ s.count = omega arith in
      ap (moved_recoveries (λ d. i + d)) (moved_some (λ p. p - i) s c)
      ∙ moved_some (λ d. i + d) (record { count = s.count; label = s.label; place = s.place - i }) c
      ∙ (λ k. record { count = s.count; label = s.label; place = there r.place h.0 k })

  pub from_away : (v : Given) → Placed i v → from i (away i (told v)) ≡ told v
  from_away v h = λ k. record {
    outcome = back_outcome v.outcome h.out k;
    note = back_note v.note h.noted k;
    recoveries = back_recoveries v.recoveries h.rest k;
    depth = v.depth;
    reach = there v.reach (omega (arith, h.far)) k;
  }

shift_away : (i j p : ℕ) → shift i j p - j ≡ p - i
unfolding shift
shift_away i j p = omega arith

pub shift_self : (i j : ℕ) → shift i j i ≡ j
unfolding shift
shift_self i j = omega arith

pub shift_plus : (i j p : ℕ) → i ≤ p → j + (p - i) ≡ shift i j p
unfolding shift
shift_plus i j p h = omega arith

-- seen from its own place, what is moved from i to j is the same
pub away_moved : (i j : ℕ) (v : Given) → away j (told (moved (shift i j) v)) ≡ away i (told v)
away_moved i j v = ap (away j) (told_moved (shift i j) v) ∙ two_moves (λ p. p - j) (shift i j) (λ p. p - i) (shift_away i j) (told v)

module _ (g : Peg) (t : Text) {r i : ℕ} {m : Mode} where
  pub told_back : {w : Reading} {v : Given} → RowOf g t r i m w → RuleGives g t r i m v → from i w ≡ told v
  told_back {w} {v} (x, d, e) d' = ap (from i) (e ∙ ap (λ y. away i (told y)) (one_rule g t d d')) ∙ from_away i v (rule_placed g t d')

  pub told_by : {w : Reading} {v : Given} → RuleGives g t r i m v → from i w ≡ told v → RowOf g t r i m w
  told_by {w} {v} d e = (v, d, sym (away_from i w) ∙ ap (away i) e)

  pub one_row : {w x : Reading} → RowOf g t r i m w → RowOf g t r i m x → w ≡ x
  one_row (v, d, e) (v', d', e') = e ∙ ap (λ y. away i (told y)) (one_rule g t d d') ∙ sym e'

pub row_again : (g : Peg) (t u : Text) (r i j : ℕ) (m : Mode) (w : Reading)
    → ((d : ℕ) → d < w.reach → (a b : ℕ) → t a b (i + d) ≡ u a b (j + d))
    → RowOf g t r i m w → RowOf g u r j m w
row_again g t u r i j m w f (v, d, e) =
    let a : Agree t u i j i v.reach = λ p h k b c.
    let l : p - i < v.reach - i = omega arith in
    let q : p - i < w.reach = subst (λ z. p - i < z.reach) (sym e) l in
    let s : i + (p - i) ≡ p = omega arith in
    sym (ap (t b c) s) ∙ f (p - i) q b c ∙ ap (u b c) (shift_plus i j p h) in
    let y = rule_local g t u i j (omega arith) d a in
    (moved (shift i j) v, subst (λ z. RuleGives g u r z m (moved (shift i j) v)) (shift_self i j) y, e ∙ sym (away_moved i j v))

pub rows : Rows
rows = record {
  told_back = λ g t r i m w v a d. told_back g t a d;
  told_by = λ g t r i m w v d e. told_by g t d e;
  one = λ g t r i m w x a b. one_row g t a b;
  again = row_again;
  moves = told_moved;
}
