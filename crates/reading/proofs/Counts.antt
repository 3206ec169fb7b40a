-- How many rows are put, and which are held afterwards.
use Rattle.std.proofs.Common.{◌≡◌, ℕ, ◌+◌, ◌<◌, ◌≤◌, min, List, [], ◌∷◌, ◌++◌, length, subst, arith, length-append}
use Rattle.grammar.specs.declared.expr.Mode.{Mode}
use Rattle.grammar.specs.declared.expr.Mode.TheVariants.{On}
use Rattle.peg.specs.declared.results.RulePlace.{RulePlace}
use Rattle.peg.proofs.Counting.{fresh_exact}
use Rattle.memo.specs.Tables.{Table}
use Rattle.reading.specs.declared.reply.Reply.{Reply}
use Rattle.reading.specs.Reads.{Setting, Store, Res, Asked, rule, Reads, most_fresh}
use Rattle.reading.specs.Replies.{Covers, Replies, uncovered, covered}
use Rattle.reading.specs.Putting.{at, put}
use Rattle.reading.specs.Truth.{AllTrue, Proper, KnownAsked, ComesTo}
use Rattle.reading.specs.Counts.{Counted, ReplyCounted, Counts}
use Rattle.reading.proofs.Changing.{Changes, after}
use Rattle.reading.proofs.Standing.{stands}
use Rattle.reading.proofs.Truth.{to_once}

-- the count is of the rows put
module _ (G : Setting) where
  abbrev CountsTo : Store → Store → List RulePlace → Type 0
  CountsTo T U ps = T.fresh ≤ most_fresh → U.fresh ≡ min (T.fresh + length ps) most_fresh

  none_counted : (T : Store) → CountsTo T T []
  none_counted T l = omega arith

  both_counted : (T U W : Store) (ps qs : List RulePlace) → CountsTo T U ps → CountsTo U W qs → CountsTo T W (ps ++ qs)
  both_counted T U W ps qs f e l = let a = f l in let b = e (omega arith) in omega (arith, length-append ps qs)

  counted : {h i : ℕ} {T U : Store} {a : Asked} {m : Mode} {r : Res} → (d : Reads G h T a i m r U) → CountsTo T U (put d)
  counted {T = T} (Reads.too_deep l) = none_counted T
  counted {T = T} (Reads.empty l q) = none_counted T
  counted {T = T} (Reads.terminal l q) = none_counted T
  counted (Reads.call l q d) = counted d
  counted (Reads.sequence_refused l q d) = counted d
  counted (Reads.sequence_fails l q d o) = counted d
  counted {T = T} (Reads.sequence_goes_on {U = U} {W = W} l q d o e) = both_counted T U W (put d) (put e) (counted d) (counted e)
  counted (Reads.choice_refused l q d) = counted d
  counted (Reads.choice_stays l q d o) = counted d
  counted {T = T} (Reads.choice_turns {U = U} {W = W} l q d o e) = both_counted T U W (put d) (put e) (counted d) (counted e)
  counted (Reads.repetition_refused l q d) = counted d
  counted (Reads.repetition_ends l q d o) = counted d
  counted (Reads.repetition_fails l q d o) = counted d
  counted {T = T} (Reads.repetition_goes_on {U = U} {W = W} l q d o e) = both_counted T U W (put d) (put e) (counted d) (counted e)
  counted (Reads.predicate l q d) = counted d
  counted {T = T} (Reads.throw_fails l q p) = none_counted T
  counted (Reads.throw_recovers l q p d) = counted d
  counted {T = T} (Reads.row_unfit f u) = none_counted T
  counted {T = T} (Reads.row_too_deep f u l) = none_counted T
  counted {T = T} (Reads.row_stands f u l) = none_counted T
  counted (Reads.body_refused f d) = counted d
  counted {i = i} {T} {m = m} (Reads.body_gives {k = k} {U = U} {W = W} f d s) = both_counted T U W (put d) (at k i m ∷ []) (counted d) (λ l. s.counts)

  -- what changed, in the words of the statement
  pub changed_counted : (T U : Table) (zs ps : List RulePlace) → Changes G T U zs ps → Counted G T U zs ps
  changed_counted T U zs ps c = record {
    held = c.held;
    at_least = c.least;
    exactly = λ all ks n p.
        let e = c.exact all ks n p in
        (record { each_once = e.each_once; are = e.are; number = fresh_exact ks zs ps e.each_once e.are }, after G c.held p e);
  }

  reads_counted : Proper G → {h i : ℕ} {T U : Store} {a : Asked} {m : Mode} {r : Res} → KnownAsked G a → i ≤ G.size → AllTrue G T.rows → (d : Reads G h T a i m r U)
      → (s : Res) (zs : List RulePlace) → ComesTo G h a i m s zs → Counted G T.rows U.rows zs (put d)
  reads_counted p {h} {i} {T} {U} {a} {m} {r} n le tr d s zs c =
      let x = stands G p d n le tr in
      subst (λ ys. Counted G T.rows U.rows ys (put d)) (to_once G h a i m r s x.completed zs x.comes c).1 (changed_counted T.rows U.rows x.completed (put d) x.changes)

  pub reply_counted : Proper G → 0 < G.grammar.R → {capacity : ℕ} {T U : Table} {q : Reply} → AllTrue G T → Covers G capacity → Replies G capacity T q U
      → (s : Res) (zs : List RulePlace) → ComesTo G 0 (rule 0) 0 On s zs → ReplyCounted G T U zs q
  reply_counted p l tr c (uncovered u) s zs e = absurd (u c)
  reply_counted p l {T = T} tr c (covered {U = U} b d) s zs e =
      let x = reads_counted p l (omega arith) tr d s zs e in
      let n : U.fresh ≡ min (0 + length (put d)) most_fresh = counted d (omega arith) in
      record {
        held = x.held;
        at_least = λ ks k h. let y = x.at_least ks k h in omega arith;
        exactly = λ all ks k h. let y = x.exactly all ks k h in let z = y.0.number in (omega arith, y.1);
      }

pub counts : Counts
counts = record {
  counts = λ G h i T U a m r d l. counted G d l;
  reads = λ G p h i T U a m r n le tr d s zs c. reads_counted G p n le tr d s zs c;
  replies = λ G p l capacity T U q tr c d s zs e. reply_counted G p l tr c d s zs e;
}
