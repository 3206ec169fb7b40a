-- Over true rows a reading stands for the rules: what it comes to, the rows it leaves, and the rows it puts.
use Rattle.std.proofs.Common.{◌≡◌, ℕ, suc, ◌+◌, ◌-◌, ◌<◌, ◌≤◌, Bool, true, false, ◌⊎◌, List, [], ◌∷◌, ◌++◌, Some, None, Ok, Err, sym, refl, ap, ◌∙◌, subst, inl, inr, arith}
use native.Mathlib.Decide.{dec_lt}
use Rattle.grammar.specs.declared.expr.Mode.{Mode}
use Rattle.grammar.specs.declared.expr.Expr.{Expr}
use Rattle.grammar.specs.declared.expr.Expr.TheVariants.{Empty, Terminal, Call, Sequence, Choice, Repetition, Predicate, Throw}
use Rattle.grammar.specs.Form.{Refers}
use Rattle.peg.specs.declared.results.Outcome.TheVariants.{Match}
use Rattle.peg.specs.declared.results.Reading.{Reading}
use Rattle.peg.specs.declared.results.RulePlace.{RulePlace}
use Rattle.peg.specs.Results.{Given, told}
use Rattle.peg.specs.Rules.{RuleGives, of_rule}
use Rattle.peg.specs.Rules.{empty_matches, terminal_matches, terminal_fails, throw_fails, as_its_body}
use Rattle.peg.specs.Halting.{too_deep}
use Rattle.peg.specs.Members.{In}
use Rattle.peg.proofs.Halting.{some_depth, rule_deeper}
use Rattle.peg.proofs.Totality.{within}
use Rattle.peg.proofs.Walks.{recovery_low}
use Rattle.peg.proofs.Completing.{not_itself}
use Rattle.peg.proofs.Counting.{learned_new}
use Rattle.peg.proofs.Known.{nothing_fresh_halted}
use Rattle.memo.specs.declared.row.Row.{Row}
use Rattle.memo.specs.Tables.{Table, Puts, Same}
use Rattle.memo.specs.Rows.{told_from}
use Rattle.reading.specs.declared.refusal.Refusal.TheVariants.{TooDeep}
use Rattle.reading.specs.Reads.{Setting, Store, Res, Asked, expression, rule, Reads, Stores, read_terminal, row_of}
use Rattle.reading.specs.Putting.{at, put}
use Rattle.reading.specs.Truth.{TrueRow, AllTrue, Proper, KnownAsked, Comes, gives, halts, RuleComes, rule_gives, rule_halts, ComesTo}
use Rattle.reading.proofs.Rows.{told_again, true_fits}
use Rattle.reading.proofs.Changing.{Changes, nothing_put, unchanged, one_after_another, put_last}
use Rattle.reading.proofs.Coming.{by_call, by_first_refused, by_first_failing, by_both, by_one_refused, by_staying, by_turning, by_part_refused, by_ending, by_part_failing, by_round, by_predicate, by_recovery, by_body_refused, comes_closes}

module _ (G : Setting) (proper : Proper G) where
  -- what is known of a reading over true rows that put ps
  pub record Stood (h : ℕ) (T : Store) (a : Asked) (i : ℕ) (m : Mode) (r : Res) (U : Store) (ps : List RulePlace) : Type 0 where
    pub completed : List RulePlace
    pub comes : ComesTo G h a i m r completed
    pub rows : AllTrue G U.rows
    pub changes : Changes G T.rows U.rows completed ps

  -- one frame more
  up : {h e i : ℕ} {m : Mode} {r : Res} {zs : List RulePlace} (x : Expr) → h < G.frames → G.grammar.expr e ≡ x
      → Comes G.grammar G.text (suc (G.frames - (h + 1))) x i m r zs → Comes G.grammar G.text (G.frames - h) (G.grammar.expr e) i m r zs
  up {h} {e} {i} {m} {r} {zs} x l q c =
      let n : suc (G.frames - (h + 1)) ≡ G.frames - h = omega arith in
      subst (λ y. Comes G.grammar G.text (G.frames - h) y i m r zs) (sym q) (subst (λ k. Comes G.grammar G.text k x i m r zs) n c)

  down : {h e i : ℕ} {m : Mode} {r : Res} {zs : List RulePlace} (x : Expr) → h < G.frames → G.grammar.expr e ≡ x
      → Comes G.grammar G.text (G.frames - h) (G.grammar.expr e) i m r zs → Comes G.grammar G.text (suc (G.frames - (h + 1))) x i m r zs
  down {h} {e} {i} {m} {r} {zs} x l q c =
      let n : G.frames - h ≡ suc (G.frames - (h + 1)) = omega arith in
      subst (λ y. Comes G.grammar G.text (suc (G.frames - (h + 1))) y i m r zs) q (subst (λ k. Comes G.grammar G.text k (G.grammar.expr e) i m r zs) n c)

  -- the parts of an expression exist
  parts : (e : ℕ) (x : Expr) → e < G.grammar.N → G.grammar.expr e ≡ x → Refers G.grammar x
  parts e x l q = subst (Refers G.grammar) q (proper.whole.1 e l)

  -- a first part's match ends in the text
  ends_in : {k i j : ℕ} {x : Expr} {m : Mode} {v : Reading} {zs : List RulePlace} → Comes G.grammar G.text k x i m (Ok v) zs → i ≤ G.size → v.outcome ≡ Match j → j ≤ G.size
  ends_in {j = j} (gives d l) le o = within G.grammar G.text G.size proper.ends d le j o

  -- nothing is read, and nothing changes
  alone : {h e i : ℕ} {m : Mode} {T : Store} {r : Res} → Comes G.grammar G.text (G.frames - h) (G.grammar.expr e) i m r [] → AllTrue G T.rows
      → Stood h T (expression e) i m r T []
  alone {T = T} c tr = record { completed = []; comes = c; rows = tr; changes = unchanged G T.rows }

  terminal_comes : {a b c i : ℕ} {m : Mode} (k : ℕ) (x : Bool) → G.text a b i ≡ x → Comes G.grammar G.text (suc k) (Terminal a b c) i m (Ok (read_terminal x c i)) []
  terminal_comes k true q = gives (terminal_matches q) (omega arith)
  terminal_comes k false q = gives (terminal_fails q) (omega arith)

  -- one part, or two, and what the rules alone come to with them
  one_part : {h h' i i' : ℕ} {T U : Store} {a a' : Asked} {m m' : Mode} {r r' : Res} {ps : List RulePlace}
      → (s : Stood h T a i m r U ps) → (ComesTo G h a i m r s.completed → ComesTo G h' a' i' m' r' s.completed) → Stood h' T a' i' m' r' U ps
  one_part s f = record { completed = s.completed; comes = f s.comes; rows = s.rows; changes = s.changes }

  two_parts : {h h' h'' i i' j : ℕ} {T U W : Store} {e b : ℕ} {c : Asked} {m m' m'' : Mode} {r s r' : Res} {ps qs : List RulePlace}
      → (x : Stood h T (expression e) i m r U ps) (y : Stood h'' U (expression b) j m'' s W qs)
      → (ComesTo G h (expression e) i m r x.completed → ComesTo G h'' (expression b) j m'' s y.completed → ComesTo G h' c i' m' r' (x.completed ++ y.completed))
      → Stood h' T c i' m' r' W (ps ++ qs)
  two_parts x y f = record {
    completed = x.completed ++ y.completed;
    comes = f x.comes y.comes;
    rows = y.rows;
    changes = one_after_another G (comes_closes G.grammar G.text x.comes) x.changes y.changes;
  }

  -- a row that is true and found
  module _ (h k i : ℕ) (m : Mode) (T : Store) (x : Row) (kr : k < G.grammar.R) (le : i ≤ G.size) (tr : AllTrue G T.rows) (found : T.rows k i m ≡ Some x) where
    row : TrueRow G.grammar G.text k i m x
    row = tr k i m x kr le found

    deep_so : x.depth ≡ row.0.depth
    deep_so = ap (λ w. w.depth) row.2

    some_deep : {r j : ℕ} {o : Mode} {v : Given} → RuleGives G.grammar G.text r j o v → 1 ≤ v.depth
    some_deep (as_its_body d) = some_depth G.grammar G.text d

    row_gives : h + x.depth ≤ G.frames → Stood h T (rule k) i m (Ok (told_from x i)) T []
    row_gives l = record {
      completed = row.0.completed;
      comes = subst (λ w. RuleComes G.grammar G.text (G.frames - h) k i m (Ok w) row.0.completed) (sym row.2) (rule_gives row.1 (omega (arith, deep_so)));
      rows = tr;
      changes = nothing_put G T.rows row.0.completed (λ ks n p z o. n.closed (at k i m) (p (at k i m) (x, found)) row.0 row.1 z o);
    }

    row_halts : G.frames < h + x.depth → Stood h T (rule k) i m (Err TooDeep) T []
    row_halts l =
        let a = rule_deeper G.grammar G.text row.1 (G.frames - h) (omega (arith, deep_so, some_deep row.1)) in
        record {
          completed = a.0;
          comes = rule_halts a.1;
          rows = tr;
          changes = nothing_put G T.rows a.0 λ ks n p z o.
              let e = (nothing_fresh_halted G.grammar G.text (G.frames - h) (at k i m) a.0 ks n (p (at k i m) (x, found)) a.1).0 in
              subst (In z) e (learned_new ks a.0 z o);
        }

  -- the row put is true
  put_true : (T U : Table) (k i : ℕ) (m : Mode) (v : Given) → RuleGives G.grammar G.text k i m v → Puts G.keeps G.P G.Q T k i m (row_of i (told v)) U → AllTrue G T → AllTrue G U
  put_true T U k i m v d p tr k' i' m' y kr le e = go (p.others k' i' m' y e) (dec_lt k G.Q) (dec_lt i G.P)
    where
      here : Same k' i' m' k i m → U k i m ≡ Some (row_of i (told v)) → TrueRow G.grammar G.text k' i' m' y
      here q s =
          let f : row_of i (told v) ≡ y = cc (q.0, q.1, q.2) in
          let a : TrueRow G.grammar G.text k i m y = (v, d, subst (λ w. told_from w i ≡ told v) f (told_again G.grammar G.text d)) in
          subst (λ (z : RulePlace). TrueRow G.grammar G.text z.rule z.place z.mode y) {x = at k i m} {y = at k' i' m'}
          (λ j. record { rule = sym q.0 j; place = sym q.1 j; mode = sym q.2 j }) a

      go : Same k' i' m' k i m ⊎ (T k' i' m' ≡ Some y) → Dec (k < G.Q) → Dec (i < G.P) → TrueRow G.grammar G.text k' i' m' y
      go (inr q) a b = tr k' i' m' y kr le q
      go (inl q) (yes a) (yes b) = here q (p.stands a b)
      go (inl q) (no a) b = tr k' i' m' y kr le (sym (p.outside (inl (omega arith)) k' i' m') ∙ e)
      go (inl q) (yes a) (no b) = tr k' i' m' y kr le (sym (p.outside (inr (omega arith)) k' i' m') ∙ e)

  body_puts : {h k i : ℕ} {m : Mode} {v : Reading} {T U W : Store} {ps zs : List RulePlace} → k < G.grammar.R → i ≤ G.size → T.rows k i m ≡ None
      → Comes G.grammar G.text (G.frames - h) (G.grammar.expr (G.grammar.body k)) i m (Ok v) zs → AllTrue G U.rows → Changes G T.rows U.rows zs ps
      → Stores G U k i m (row_of i v) W → Stood h T (rule k) i m (Ok v) W (ps ++ (at k i m ∷ []))
  body_puts {h} {k} {i} {m} {T = T} {U} {W} kr le f (gives {v = w} d l) tr c s =
      let b : Comes G.grammar G.text (G.frames - h) (G.grammar.expr (G.grammar.body k)) i m (Ok (told w)) w.completed = gives d l in
      record {
        completed = (of_rule k i m w).completed;
        comes = rule_gives (as_its_body d) l;
        rows = put_true U.rows W.rows k i m (of_rule k i m w) (as_its_body d) s.puts tr;
        changes = put_last G k i m (row_of i (told w)) s.puts (comes_closes G.grammar G.text b) kr le f (not_itself G.grammar G.text d) c;
      }

  pub stands : {h i : ℕ} {T U : Store} {a : Asked} {m : Mode} {r : Res} → (d : Reads G h T a i m r U) → KnownAsked G a → i ≤ G.size → AllTrue G T.rows → Stood h T a i m r U (put d)
  stands {h} {i} {m = m} (Reads.too_deep {e = e} l) n le tr =
      let z : 0 ≡ G.frames - h = omega arith in
      alone {e = e} (subst (λ k. Comes G.grammar G.text k (G.grammar.expr e) i m (Err TooDeep) []) z (halts too_deep)) tr
  stands (Reads.empty {e = e} l q) n le tr = alone {e = e} (up Empty l q (gives empty_matches (omega arith))) tr
  stands {h} {i} (Reads.terminal {e = e} {a = a} {b = b} {c = c} l q) n le tr = alone {e = e} (up (Terminal a b c) l q (terminal_comes (G.frames - (h + 1)) (G.text a b i) refl)) tr
  stands {h} (Reads.call {e = e} {k = k} l q d) n le tr = one_part (stands d (parts e (Call k) n q) le tr) (λ c. up (Call k) l q (by_call G.grammar G.text (G.frames - (h + 1)) c))
  stands {h} (Reads.sequence_refused {e = e} {a = a} {b = b} l q d) n le tr =
      one_part (stands d (parts e (Sequence a b) n q).0 le tr) (λ c. up (Sequence a b) l q (by_first_refused G.grammar G.text (G.frames - (h + 1)) c))
  stands {h} (Reads.sequence_fails {e = e} {a = a} {b = b} l q d o) n le tr =
      one_part (stands d (parts e (Sequence a b) n q).0 le tr) (λ c. up (Sequence a b) l q (by_first_failing G.grammar G.text (G.frames - (h + 1)) c o))
  stands {h} (Reads.sequence_goes_on {e = e} {a = a} {b = b} l q d o d') n le tr =
      let x = stands d (parts e (Sequence a b) n q).0 le tr in
      two_parts x (stands d' (parts e (Sequence a b) n q).1 (ends_in x.comes le o) x.rows) (λ c c'. up (Sequence a b) l q (by_both G.grammar G.text (G.frames - (h + 1)) c o c'))
  stands {h} (Reads.choice_refused {e = e} {a = a} {b = b} {s = s} l q d) n le tr =
      one_part (stands d (parts e (Choice a b s) n q).0 le tr) (λ c. up (Choice a b s) l q (by_one_refused G.grammar G.text (G.frames - (h + 1)) c))
  stands {h} (Reads.choice_stays {e = e} {a = a} {b = b} {s = s} l q d o) n le tr =
      one_part (stands d (parts e (Choice a b s) n q).0 le tr) (λ c. up (Choice a b s) l q (by_staying G.grammar G.text (G.frames - (h + 1)) c o))
  stands {h} (Reads.choice_turns {e = e} {a = a} {b = b} {s = s} l q d o d') n le tr =
      let x = stands d (parts e (Choice a b s) n q).0 le tr in
      two_parts x (stands d' (parts e (Choice a b s) n q).1 le x.rows) (λ c c'. up (Choice a b s) l q (by_turning G.grammar G.text (G.frames - (h + 1)) c o c'))
  stands {h} (Reads.repetition_refused {e = e} {a = a} l q d) n le tr =
      one_part (stands d (parts e (Repetition a) n q) le tr) (λ c. up (Repetition a) l q (by_part_refused G.grammar G.text (G.frames - (h + 1)) c))
  stands {h} (Reads.repetition_ends {e = e} {a = a} l q d o) n le tr =
      one_part (stands d (parts e (Repetition a) n q) le tr) (λ c. up (Repetition a) l q (by_ending G.grammar G.text (G.frames - (h + 1)) c o))
  stands {h} (Reads.repetition_fails {e = e} {a = a} l q d o) n le tr =
      one_part (stands d (parts e (Repetition a) n q) le tr) (λ c. up (Repetition a) l q (by_part_failing G.grammar G.text (G.frames - (h + 1)) c o))
  stands {h} (Reads.repetition_goes_on {e = e} {a = a} l q d o d') n le tr =
      let x = stands d (parts e (Repetition a) n q) le tr in
      two_parts x (stands d' n (ends_in x.comes le o) x.rows)
      (λ c c'. up (Repetition a) l q (by_round G.grammar G.text (G.frames - (h + 1)) c o (down (Repetition a) l q c')))
  stands {h} (Reads.predicate {e = e} {a = a} l q d) n le tr = one_part (stands d (parts e (Predicate a) n q) le tr) (λ c. up (Predicate a) l q (by_predicate G.grammar G.text (G.frames - (h + 1)) c))
  stands (Reads.throw_fails {e = e} {l = l} f q p) n le tr = alone {e = e} (up (Throw l) f q (gives (throw_fails p) (omega arith))) tr
  stands {h} {m = m} (Reads.throw_recovers {e = e} {l = l} {a = a} f q p d) n le tr =
      one_part (stands d (recovery_low G.grammar l m a (parts e (Throw l) n q) p) le tr) (λ c. up (Throw l) f q (by_recovery G.grammar G.text (G.frames - (h + 1)) p c))
  stands {i = i} {m = m} (Reads.row_unfit {k = k} {x = x} f u) n le tr = absurd (u (true_fits G proper k i m x n le (tr k i m x n le f)))
  stands {h} {i} {T} {m = m} (Reads.row_too_deep {k = k} {x = x} f u l) n le tr = row_halts h k i m T x n le tr f l
  stands {h} {i} {T} {m = m} (Reads.row_stands {k = k} {x = x} f u l) n le tr = row_gives h k i m T x n le tr f l
  stands {h} (Reads.body_refused {k = k} f d) n le tr = one_part (stands d (proper.whole.0 k n) le tr) (λ c. by_body_refused G.grammar G.text (G.frames - h) c)
  stands {h} (Reads.body_gives {k = k} f d s) n le tr = let x = stands d (proper.whole.0 k n) le tr in body_puts n le f x.comes x.rows x.changes s
