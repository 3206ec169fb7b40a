-- What is told of a whole, from what is told of its parts; notes and recoveries may be put together as they come.
use Rattle.std.proofs.Common.{◌≡◌, ℕ, zero, suc, ◌+◌, ◌/◌, ◌%◌, ◌<◌, ◌≤◌, min, max, ◌⊎◌, List, [], ◌∷◌, ◌++◌, Some, None, Option, sym, refl, ap, ◌∙◌, subst, inl, inr, le_of_suc-le-suc, not-suc-le-zero, arith}
use Prim.Native.Nat.compare
use Prim.Native.Nat.{Ordering}
use Prim.Native.Nat.{compare}
use lib.Bits.{bit_or, or_step}
use lib.Arith.{bin_ind}
use Rattle.peg.specs.declared.results.Outcome.{Outcome}
use Rattle.peg.specs.declared.results.Outcome.TheVariants.{Match, Failure}
use Rattle.peg.specs.declared.results.Note.{Note}
use Rattle.peg.specs.Results.{Recovery, Given}
use Rattle.peg.specs.Rules.{unmarked, join, if_matched, recovered, of_sequence, of_round, of_recovery}
use Rattle.peg.specs.declared.results.Recoveries.{Recoveries}
use Rattle.peg.specs.Results.{summary, told, most_recoveries}
use Rattle.peg.specs.Summaries.{added}
use Rattle.peg.specs.Readings.{no_recoveries, one_recovery, matched_only, read_sequence, read_round, read_recovery, Readings}
use Rattle.peg.proofs.Summaries.{added_some, summary_add}

-- unions of marks
or_half : (a b : ℕ) → bit_or a b / 2 ≡ bit_or (a / 2) (b / 2)
or_half a b = omega (arith, or_step a b)

or_odd : (a b : ℕ) → bit_or a b % 2 ≡ max (a % 2) (b % 2)
or_odd a b = omega (arith, or_step a b)

by_digits : (a b : ℕ) → a / 2 ≡ b / 2 → a % 2 ≡ b % 2 → a ≡ b
by_digits a b p q = omega arith

or_assoc : (a b c : ℕ) → bit_or (bit_or a b) c ≡ bit_or a (bit_or b c)
or_assoc =
    bin_ind (λ (n : ℕ). (b c : ℕ) → bit_or (bit_or n b) c ≡ bit_or n (bit_or b c)) (λ b c. refl)
    (λ n ih b c. by_digits _ _
    (rw (or_half (bit_or n b) c, or_half n b, or_half n (bit_or b c), or_half b c) (ih (b / 2) (c / 2)))
    (rw (or_odd (bit_or n b) c, or_odd n b, or_odd n (bit_or b c), or_odd b c) (omega arith)))

compare_lt : (p q : ℕ) → p < q → compare p q ≡ Ordering.lt
compare_lt p zero h = absurd (not-suc-le-zero h)
compare_lt zero (suc q) h = compare.zero-suc q
compare_lt (suc p) (suc q) h = compare.suc-suc p q ∙ compare_lt p q (le_of_suc-le-suc h)

compare_gt : (p q : ℕ) → q < p → compare p q ≡ Ordering.gt
compare_gt zero q h = absurd (not-suc-le-zero h)
compare_gt (suc p) zero h = compare.suc-zero p
compare_gt (suc p) (suc q) h = compare.suc-suc p q ∙ compare_gt p q (le_of_suc-le-suc h)

compare_eq : (p : ℕ) → compare p p ≡ Ordering.eq
compare_eq zero = compare.zero-zero
compare_eq (suc p) = compare.suc-suc p p ∙ compare_eq p

data Order (p q : ℕ) : Type 0 where
  less : p < q → Order p q
  equal : p ≡ q → Order p q
  more : q < p → Order p q

order : (p q : ℕ) → Order p q
order zero zero = equal refl
order zero (suc q) = less (omega arith)
order (suc p) zero = more (omega arith)
order (suc p) (suc q) = elim (order p q) [ less h ↦ less (omega arith) | equal e ↦ equal (ap suc e) | more h ↦ more (omega arith) ]

-- joined notes by the order of their places
pub join_less : (x y : Note) → x.place < y.place → join (Some x) (Some y) ≡ Some y
join_less x y h = rw (compare_lt x.place y.place h)

pub join_more : (x y : Note) → y.place < x.place → join (Some x) (Some y) ≡ Some x
join_more x y h = rw (compare_gt x.place y.place h)

pub join_equal : (x y : Note) → x.place ≡ y.place → join (Some x) (Some y) ≡ Some (record { place = x.place; marks = bit_or x.marks y.marks })
join_equal x y e = rw (subst (λ k. compare x.place k ≡ Ordering.eq) e (compare_eq x.place))

module _ (x y z : Note) where
  abbrev first_two : Note
  first_two = record { place = x.place; marks = bit_or x.marks y.marks }

  abbrev last_two : Note
  last_two = record { place = y.place; marks = bit_or y.marks z.marks }

  three : (a b : Option Note) → join (Some x) (Some y) ≡ a → join (Some y) (Some z) ≡ b → join a (Some z) ≡ join (Some x) b
      → join (join (Some x) (Some y)) (Some z) ≡ join (Some x) (join (Some y) (Some z))
  three a b p q r = ap (λ n. join n (Some z)) p ∙ r ∙ sym (ap (join (Some x)) q)

  join_three : Order x.place y.place → Order y.place z.place → join (join (Some x) (Some y)) (Some z) ≡ join (Some x) (join (Some y) (Some z))
  join_three (less h) (less k) = three (Some y) (Some z) (join_less x y h) (join_less y z k) (join_less y z k ∙ sym (join_less x z (omega arith)))
  join_three (less h) (equal k) = three (Some y) (Some last_two) (join_less x y h) (join_equal y z k) (join_equal y z k ∙ sym (join_less x last_two h))
  join_three (less h) (more k) = three (Some y) (Some y) (join_less x y h) (join_more y z k) (join_more y z k ∙ sym (join_less x y h))
  join_three (equal h) (less k) = three (Some first_two) (Some z) (join_equal x y h) (join_less y z k) (join_less first_two z (omega arith) ∙ sym (join_less x z (omega arith)))
  join_three (equal h) (equal k) = three (Some first_two) (Some last_two) (join_equal x y h) (join_equal y z k)
      (join_equal first_two z (h ∙ k) ∙ ap (λ s. Some (record { place = x.place; marks = s })) (or_assoc x.marks y.marks z.marks) ∙ sym (join_equal x last_two h))
  join_three (equal h) (more k) = three (Some first_two) (Some y) (join_equal x y h) (join_more y z k) (join_more first_two z (omega arith) ∙ sym (join_equal x y h))
  join_three (more h) (less k) = three (Some x) (Some z) (join_more x y h) (join_less y z k) refl
  join_three (more h) (equal k) = three (Some x) (Some last_two) (join_more x y h) (join_equal y z k) (join_more x z (omega arith) ∙ sym (join_more x last_two h))
  join_three (more h) (more k) = three (Some x) (Some y) (join_more x y h) (join_more y z k) (join_more x z (omega arith) ∙ sym (join_more x y h))

pub join_none : (a : Option Note) → join a None ≡ a
join_none None = refl
join_none (Some x) = refl

pub join_assoc : (a b c : Option Note) → join (join a b) c ≡ join a (join b c)
join_assoc None b c = refl
join_assoc (Some x) None c = refl
join_assoc (Some x) (Some y) None = join_none (join (Some x) (Some y))
join_assoc (Some x) (Some y) (Some z) = join_three x y z (order x.place y.place) (order y.place z.place)

-- a count that is none, or some
counts : (c : ℕ) → (c ≡ 0) ⊎ (1 ≤ c)
counts zero = inl refl
counts (suc c) = inr (omega arith)

pub added_none : (a b : Recoveries) → a.count ≡ 0 → added a b ≡ b
added_none a b e = rw e

pub added_assoc : (a b c : Recoveries) → added (added a b) c ≡ added a (added b c)
added_assoc a b c = go (counts a.count) (counts b.count)
  where
    go : (a.count ≡ 0) ⊎ (1 ≤ a.count) → (b.count ≡ 0) ⊎ (1 ≤ b.count) → added (added a b) c ≡ added a (added b c)
    go (inl e) o = ap (λ x. added x c) (added_none a b e) ∙ sym (added_none a (added b c) e)
    go (inr h) (inl e) =
        let s : Recoveries = record { count = min (a.count + b.count) most_recoveries; label = a.label; place = a.place } in
        let q : min (s.count + c.count) most_recoveries ≡ min (a.count + c.count) most_recoveries = omega arith in
        ap (λ x. added x c) (added_some a b h) ∙ added_some s c (omega arith)
        ∙ (λ k. record { count = q k; label = a.label; place = a.place })
        ∙ sym (added_some a c h) ∙ ap (added a) (sym (added_none b c e))
    go (inr h) (inr l) =
        let s : Recoveries = record { count = min (a.count + b.count) most_recoveries; label = a.label; place = a.place } in
        let r : Recoveries = record { count = min (b.count + c.count) most_recoveries; label = b.label; place = b.place } in
        let q : min (s.count + c.count) most_recoveries ≡ min (a.count + r.count) most_recoveries = omega arith in
        ap (λ x. added x c) (added_some a b h) ∙ added_some s c (omega arith)
        ∙ (λ k. record { count = q k; label = a.label; place = a.place })
        ∙ sym (added_some a r h) ∙ ap (added a) (sym (added_some b c l))

pub added_last : (a : Recoveries) → 1 ≤ a.count → a.count ≤ most_recoveries → added a no_recoveries ≡ a
added_last a h l =
    let q : min (a.count + 0) most_recoveries ≡ a.count = omega arith in
    added_some a no_recoveries h ∙ (λ k. record { count = q k; label = a.label; place = a.place })

-- of a match, the summaries together; of a failure, none
both_matched : (o : Outcome) (xs ys : List Recovery) → summary (if_matched o (xs ++ ys)) ≡ matched_only o (added (summary xs) (summary ys))
both_matched (Match j) xs ys = summary_add xs ys
both_matched (Failure l p) xs ys = refl

recovered_matched : (l i : ℕ) (o : Outcome) (rs : List Recovery) → summary (recovered l i o rs) ≡ matched_only o (added (one_recovery l i) (summary rs))
recovered_matched l i (Match j) rs = summary_add (record { label = l; place = i; end = j } ∷ []) rs
recovered_matched l i (Failure k p) rs = refl

pub told_sequence : (v w : Given) → told (of_sequence v w) ≡ read_sequence (told v) (told w)
told_sequence v w = λ k. record {
  outcome = w.outcome;
  note = join v.note w.note;
  recoveries = both_matched w.outcome v.recoveries w.recoveries k;
  depth = suc (max v.depth w.depth);
  reach = max v.reach w.reach;
}

pub told_round : (v w : Given) → told (of_round v w) ≡ read_round (told v) (told w)
told_round v w = λ k. record {
  outcome = w.outcome;
  note = join v.note w.note;
  recoveries = both_matched w.outcome v.recoveries w.recoveries k;
  depth = max (suc v.depth) w.depth;
  reach = max v.reach w.reach;
}

pub told_recovery : (l i : ℕ) (v : Given) → told (of_recovery l i v) ≡ read_recovery l i (told v)
told_recovery l i v = λ k. record {
  outcome = v.outcome;
  note = join (unmarked i) v.note;
  recoveries = recovered_matched l i v.outcome v.recoveries k;
  depth = suc v.depth;
  reach = v.reach;
}

pub readings : Readings
readings = record {
  of_alone = λ i o n. refl;
  of_deeper = λ v. refl;
  of_a_rule = λ r i m v. refl;
  of_sequences = told_sequence;
  of_others = λ v w. refl;
  of_ends = λ i v. refl;
  of_rounds = told_round;
  of_predicates = λ i v. refl;
  of_recoveries = told_recovery;
  joins = join_assoc;
  joins_none = join_none;
  adds = added_assoc;
  adds_none = added_last;
}
