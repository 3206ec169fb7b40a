-- Every reading keeps its promises.
use Rattle.std.proofs.Common.{◌≡◌, ℕ, ◌<◌, true, ◌↔◌, List, [], Ok, Err, refl, ap, subst}
use Rattle.grammar.specs.declared.expr.Mode.{Mode}
use Rattle.grammar.specs.declared.expr.Mode.TheVariants.{On}
use Rattle.peg.specs.declared.results.Reading.{Reading}
use Rattle.memo.specs.Tables.{Table}
use Rattle.reading.specs.declared.refusal.Refusal.{Refusal}
use Rattle.reading.specs.declared.refusal.Refusal.TheVariants.{Uncovered, Unfit, TooDeep}
use Rattle.reading.specs.declared.reply.Reply.{Reply}
use Rattle.reading.specs.Reads.{Setting, Store, store, Res, Asked, rule, Reads, each}
use Rattle.reading.specs.Replies.{answer_of, Covers, Replies, uncovered, covered}
use Rattle.reading.specs.Truth.{Proper}
use Rattle.reading.specs.Putting.{Gone}
use Rattle.reading.specs.Once.{ReplyDrops}
use Rattle.reading.specs.Promises.{Refused, DroppedUndecided, Promised, PromisedByNumber}
use Rattle.reading.proofs.Once.{none, at_most_one}
use Rattle.reading.proofs.Truth.{reply_stands, none_false}
use Rattle.reading.proofs.Counts.{reply_counted}
use Rattle.reading.proofs.Numbers.{of_number, by_number}

-- a result is handed on, and so is a refusal
each_back : (f : Reading → Reading) (r : Res) (z : Refusal) → each f r ≡ Err z → r ≡ Err z
each_back f (Ok v) z q = none (cc)
each_back f (Err y) z q = q

refused_back : (r : Res) (z : Refusal) → answer_of r ≡ Err z → r ≡ Err z
refused_back (Ok v) z q = none (cc)
refused_back (Err y) z q = let e : y ≡ z = cc in ap Err e

module _ (G : Setting) where
  -- only a whole reading asks question 8
  covered_once : {h i : ℕ} {T U : Store} {a : Asked} {m : Mode} {r : Res} → Reads G h T a i m r U → r ≡ Err Uncovered → ⊥
  covered_once (Reads.too_deep l) e = none (cc)
  covered_once (Reads.empty l q) e = none (cc)
  covered_once (Reads.terminal l q) e = none (cc)
  covered_once (Reads.call {r = r} l q d) e = covered_once d (each_back _ r Uncovered e)
  covered_once (Reads.sequence_refused l q d) e = covered_once d e
  covered_once (Reads.sequence_fails l q d o) e = none (cc)
  covered_once (Reads.sequence_goes_on {r = r} l q d o b) e = covered_once b (each_back _ r Uncovered e)
  covered_once (Reads.choice_refused l q d) e = covered_once d e
  covered_once (Reads.choice_stays l q d o) e = none (cc)
  covered_once (Reads.choice_turns {r = r} l q d o b) e = covered_once b (each_back _ r Uncovered e)
  covered_once (Reads.repetition_refused l q d) e = covered_once d e
  covered_once (Reads.repetition_ends l q d o) e = none (cc)
  covered_once (Reads.repetition_fails l q d o) e = none (cc)
  covered_once (Reads.repetition_goes_on {r = r} l q d o b) e = covered_once b (each_back _ r Uncovered e)
  covered_once (Reads.predicate {r = r} l q d) e = covered_once d (each_back _ r Uncovered e)
  covered_once (Reads.throw_fails l q p) e = none (cc)
  covered_once (Reads.throw_recovers {r = r} l q p d) e = covered_once d (each_back _ r Uncovered e)
  covered_once (Reads.row_unfit f u) e = none (cc)
  covered_once (Reads.row_too_deep f u l) e = none (cc)
  covered_once (Reads.row_stands f u l) e = none (cc)
  covered_once (Reads.body_refused f d) e = covered_once d e
  covered_once (Reads.body_gives f d s) e = none (cc)

  module _ (capacity : ℕ) {T : Table} where
    eight : {U : Table} {q : Reply} → Replies G capacity T q U → (q.result ≡ Err Uncovered) ↔ (Covers G capacity → ⊥)
    eight (uncovered u) = (λ e. u, λ f. refl)
    eight (covered {r = r} c d) = (λ e. absurd (covered_once d (refused_back r Uncovered e)), λ f. absurd (f c))

    only : G.keeps ≡ true → {U : Table} {q : Reply} → Replies G capacity T q U → (p : Reply) (W : Table) → Replies G capacity T p W → (q ≡ p) × (U ≡ W)
    only k {U} {q} d p W e = at_most_one.reply_keeping G k capacity T U W q p d e

    -- 9 and 10, exactly if reading comes to them
    refused_exactly : (z : Refusal) → (z ≡ Uncovered → ⊥) → G.keeps ≡ true → {U : Table} {q : Reply} → Replies G capacity T q U → (q.result ≡ Err z) ↔ (Covers G capacity × Refused G T z)
    refused_exactly z n k (uncovered u) = (λ e. absurd (n (cc)), λ y. absurd (u y.0))
    refused_exactly z n k (covered {r = r} {U = U} c d) = (
      (λ e. (c, (U, subst (λ s. Reads G 0 (store T 0) (rule 0) 0 On s U) (refused_back r z e) d))),
      (λ y. ap (λ p. p.result) (only k (covered c d) _ _ (covered c y.1.1)).0),
    )

    drops : {U : Table} {q : Reply} → (d : Replies G capacity T q U) → (gs : List Gone) × ReplyDrops d gs
    drops (uncovered u) = ([], tt)
    drops (covered {r = r} {U = U} c d) = let s = at_most_one.some_drops G 0 0 (store T 0) U (rule 0) On r d in (s.0, ([], s.1))

    given : {U : Table} {q : Reply} → Replies G capacity T q U → DroppedUndecided G capacity T q U
    given {U} {q} d = ((drops d).0, (d, (drops d).1), λ p W e x. at_most_one.reply_given_drops G capacity T U W q p (drops d).0 d e (drops d).1 x)

  pub promised : Proper G → 0 < G.grammar.R → (capacity : ℕ) (T U : Table) (q : Reply) → Replies G capacity T q U → Promised G capacity T q U
  promised p l capacity T U q d = record {
    eight = eight capacity d;
    nine = λ k. refused_exactly capacity Unfit (λ e. none (cc)) k d;
    ten = λ k. refused_exactly capacity TooDeep (λ e. none (cc)) k d;
    only = λ k. only capacity k d;
    over_true_rows = λ tr. reply_stands G capacity p l tr d;
    counted = λ tr c. reply_counted G p l tr c d;
    emptied = λ e c. (reply_stands G capacity p l (none_false G.grammar G.text G.size T e) d).answers c;
  }

  pub numbered : (capacity : ℕ) (T U : Table) (q : Reply) → Replies G capacity T q U → Promised G capacity T q U → PromisedByNumber G capacity T q U
  numbered capacity T U q d p = record {
    eight = by_number q Uncovered p.eight;
    nine = λ k. by_number q Unfit (p.nine k);
    ten = λ k. by_number q TooDeep (p.ten k);
    never_nine = λ tr e. (p.over_true_rows tr).never_unfit (of_number q.result Unfit e);
    ten_if_deeper = λ tr c v g. by_number q TooDeep ((p.over_true_rows tr).too_deep c v g);
    given = given capacity d;
  }
