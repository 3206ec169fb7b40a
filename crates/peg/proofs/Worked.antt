-- The worked runs, by evaluation.
use Rattle.std.proofs.Common.{◌≡◌, ℕ, suc, Bool, true, false, cond, ◌⊎◌, ◌↔◌, List, [], ◌∷◌, length, get_or, None, codes, sym, refl, subst, inl, inr, arith, lit<, lit≤}
use Rattle.grammar.specs.declared.expr.Mode.{Mode}
use Rattle.grammar.specs.declared.expr.Mode.TheVariants.{On, Off}
use Rattle.peg.specs.declared.results.Outcome.TheVariants.{Match, Failure}
use Rattle.peg.specs.declared.results.RulePlace.{RulePlace}
use Rattle.peg.specs.Results.{Given}
use Rattle.peg.specs.Rules.{Text, RuleGives, alone}
use Rattle.peg.specs.Rules.{predicate_denies, throw_fails, as_its_body}
use Rattle.grammar.specs.Words.{Peg, meaning}
use Rattle.grammar.specs.Form.{Leads}
use Rattle.grammar.specs.Form.{by_empty, to_body, to_recovery}
use Rattle.grammar.specs.Questions.{EndlessAt}
use Rattle.text.specs.Meaning.{replaced}
use Rattle.peg.specs.Members.{In}
use Rattle.peg.specs.Moves.{shift}
use Rattle.peg.specs.Counting.{learned, fresh, number}
use Rattle.peg.specs.Settling.{Settles}
use Rattle.peg.specs.Evaluation.{Answer, gave, halted, unfinished, evaluate_rule}
use Rattle.peg.specs.Worked.{site_words, bytes, calls_itself, repeats_nothing, recovers_by_itself, recovers_by_nothing, throws_in_a_predicate, Worked}
use Rattle.peg.proofs.Answering.{RuleRight, evaluate_rule_right}
use Rattle.peg.proofs.Counting.{fresh_same}
use Rattle.peg.proofs.Settling.{Derived, rest, rest_settles}
use Rattle.peg.proofs.Reports.{ForEach, hollow_row, endless_row, right_row}

-- rule r at place i in mode m, with 64 frames
abbrev answer : List ℕ → ℕ → ℕ → Mode → Answer
answer xs r i m = evaluate_rule (meaning site_words) (bytes xs) (suc (length xs)) 64 r i m

abbrev got : Answer → Given
got (gave v) = v
got (halted zs) = alone 0 (Match 0) None
got unfinished = alone 0 (Match 0) None

abbrev is_gave : Answer → Bool
is_gave (gave v) = true
is_gave (halted zs) = false
is_gave unfinished = false

got_gives : (g : Peg) (t : Text) (k r i : ℕ) (m : Mode) (y : Answer) → RuleRight g t k r i m y → is_gave y ≡ true → RuleGives g t r i m (got y)
got_gives g t k r i m (gave v) h e = h.0
got_gives g t k r i m (halted zs) h e = let z : ◌≡◌ {A = ℕ} 0 1 = cc in let b : ⊥ = omega arith in absurd b
got_gives g t k r i m unfinished h e = let z : ◌≡◌ {A = ℕ} 0 1 = cc in let b : ⊥ = omega arith in absurd b

gives : (xs : List ℕ) (r i : ℕ) (m : Mode) → is_gave (answer xs r i m) ≡ true → RuleGives (meaning site_words) (bytes xs) r i m (got (answer xs r i m))
gives xs r i m e = got_gives (meaning site_words) (bytes xs) 64 r i m (answer xs r i m) (evaluate_rule_right (meaning site_words) (bytes xs) (suc (length xs)) 64 r i m) e

-- each rule-place of a list gives something
abbrev all_gave : List ℕ → List RulePlace → Bool
all_gave xs [] = true
all_gave xs (z ∷ zs) = cond (is_gave (answer xs z.rule z.place z.mode)) (all_gave xs zs) false

both : (a b : Bool) → cond a b false ≡ true → (a ≡ true) × (b ≡ true)
both true b e = (refl, e)
both false b e = let z : ◌≡◌ {A = ℕ} 0 1 = cc in let c : ⊥ = omega arith in absurd c

gave_all : (xs : List ℕ) (zs : List RulePlace) → all_gave xs zs ≡ true → (z : RulePlace) → In z zs → is_gave (answer xs z.rule z.place z.mode) ≡ true
gave_all xs [] e z h = absurd h
gave_all xs (x ∷ zs) e z h = go (both (is_gave (answer xs x.rule x.place x.mode)) (all_gave xs zs) e) h (gave_all xs zs)
  where
    go : (is_gave (answer xs x.rule x.place x.mode) ≡ true) × (all_gave xs zs ≡ true) → (z ≡ x) ⊎ In z zs
        → (all_gave xs zs ≡ true → (y : RulePlace) → In y zs → is_gave (answer xs y.rule y.place y.mode) ≡ true)
        → is_gave (answer xs z.rule z.place z.mode) ≡ true
    go q (inl p) f = subst (λ y. is_gave (answer xs y.rule y.place y.mode) ≡ true) (sym p) q.0
    go q (inr p) f = f q.1 z p

abbrev line : List ℕ
line = codes "L1L2;"

abbrev known : List RulePlace
known = learned [] (got (answer line 0 0 On)).completed

derived : Derived (meaning site_words) (bytes line) 2 0 1 known
derived z h = (got (answer line z.rule z.place z.mode), gives line z.rule z.place z.mode (gave_all line known refl z h))

-- what remains known, and any list of it counts the same
left : List RulePlace
left = rest (meaning site_words) (bytes line) 2 0 1 known derived

module _ (ls : List RulePlace) (c : Settles (meaning site_words) (bytes line) 2 0 1 known ls) where
  same_left : (z : RulePlace) → In z ls ↔ In z left
  unfolding left
  same_left z =
      let s = rest_settles (meaning site_words) (bytes line) 2 0 1 known derived z in
      (λ h. s.1 ((c z).0 h), λ h. (c z).1 (s.0 h))

  after : number ls ≡ 6
  unfolding left derived shift
  after = fresh_same [] [] ls left (λ z. (λ h. h, λ h. h)) same_left

  fresh_after : (zs : List RulePlace) → fresh ls zs ≡ fresh left zs
  fresh_after zs = fresh_same ls left zs zs same_left (λ z. (λ h. h, λ h. h))

-- of each expression a yes or no for both modes, and a number for each mode
abbrev yes : List Bool → ForEach Bool
yes xs e m = get_or xs e false

abbrev ranked : List ℕ → List ℕ → ForEach ℕ
ranked xs ys e On = get_or xs e 0
ranked xs ys e Off = get_or ys e 0

-- which expressions of the grammar of site files may match nothing, and how long walks from them are at most
abbrev site_yes : List Bool
site_yes =
    false ∷ false ∷ false ∷ false ∷ false ∷ true ∷ true ∷ true ∷ true ∷ false ∷ false ∷ true ∷ true ∷ true ∷ true ∷ false ∷ true ∷ []

abbrev site_ranks : List ℕ
site_ranks = 0 ∷ 0 ∷ 0 ∷ 0 ∷ 1 ∷ 2 ∷ 4 ∷ 5 ∷ 6 ∷ 1 ∷ 2 ∷ 3 ∷ 1 ∷ 4 ∷ 1 ∷ 2 ∷ 3 ∷ []

-- a walk that goes on for ever at expression 0
stays_at : (g : Peg) → Leads g (g.expr 0) On 0 On → EndlessAt g 0
stays_at g d = (On, record { place = λ k. 0; mode = λ k. On; starts = refl; starts_in = refl; goes = λ k. d })

every_text : (t : Text) → (v : Given) × RuleGives (meaning throws_in_a_predicate) t 0 0 On v × (v.outcome ≡ Failure 1 0)
every_text t = (_, as_its_body (predicate_denies (throw_fails refl)), refl)

pub worked : Worked
unfolding left derived shift
worked = record {
  no_bytes = record { result = got (answer [] 0 0 On); parses = gives [] 0 0 On refl; outcome = refl; note = refl; recoveries = refl; count = refl };
  a_line = record { result = got (answer (codes "L1;") 0 0 On); parses = gives (codes "L1;") 0 0 On refl; outcome = refl; note = refl; recoveries = refl; count = refl };
  with_8_frames = lit≤ tt;
  with_7_frames = evaluate_rule_right (meaning site_words) (bytes (codes "L1;")) 4 7 0 0 On;
  an_open_line = record { result = got (answer (codes "L1") 0 0 On); parses = gives (codes "L1") 0 0 On refl; outcome = refl; note = refl; recoveries = refl; count = refl };
  two_lines = record { result = got (answer line 0 0 On); parses = gives line 0 0 On refl; outcome = refl; note = refl; recoveries = refl; count = refl };
  known_before = refl;
  known_after = after;
  inserted = λ ls c. record {
    result = got (answer (replaced line 2 0 (codes ";")) 0 0 On);
    parses = gives (replaced line 2 0 (codes ";")) 0 0 On refl;
    outcome = refl;
    note = refl;
    recoveries = refl;
    count = fresh_after ls c (got (answer (replaced line 2 0 (codes ";")) 0 0 On)).completed;
  };
  site_row = right_row site_words (yes site_yes) refl (ranked site_ranks site_ranks) refl;
  first_row = endless_row calls_itself (yes []) refl (lit< tt) (stays_at (meaning calls_itself) to_body) refl;
  second_row = hollow_row repeats_nothing (yes (true ∷ true ∷ [])) refl 1 (lit< tt) (record { part = 0; mode = On; repeats = refl; nullable = by_empty }) refl;
  third_row = endless_row recovers_by_itself (yes []) refl (lit< tt) (stays_at (meaning recovers_by_itself) (to_recovery refl)) refl;
  fourth_row = right_row recovers_by_nothing (yes []) refl (ranked [] []) refl;
  -- the throw leads to the predicate in mode on alone, and the predicate to the throw in mode off
  fifth_row = right_row throws_in_a_predicate (yes (true ∷ true ∷ [])) refl (ranked (2 ∷ 1 ∷ []) (0 ∷ 1 ∷ [])) refl;
  every_text = every_text;
}
