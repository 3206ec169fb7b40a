-- The law holds: what is so of rows and known rule-places stays so over a run, and gives the answer.
use Rattle.std.proofs.Common.{◌≡◌, ℕ, ◌+◌, ◌-◌, ◌*◌, ◌<◌, ◌≤◌, Bool, true, List, length, Ok, Err, sym, refl, ap, ◌∙◌, subst, inl, inr, mul-le-mul_right, arith}
use native.Mathlib.Decide.{dec_le}
use Rattle.grammar.specs.declared.expr.Mode.TheVariants.{On}
use Rattle.grammar.specs.Words.{meaning}
use Rattle.grammar.specs.Questions.{Accepted}
use Rattle.text.specs.Meaning.{accepted, replaced}
use Rattle.text.proofs.Laws.{length_replaced}
use Rattle.peg.specs.Members.{In}
use Rattle.peg.specs.declared.results.RulePlace.{RulePlace}
use Rattle.peg.specs.Results.{Given, told}
use Rattle.peg.specs.Rules.{Parses}
use Rattle.peg.specs.Totality.{OneWithin, deepest}
use Rattle.peg.specs.Counting.{fresh, most_places}
use Rattle.peg.specs.Completing.{Among}
use Rattle.peg.specs.Settling.{Settles}
use Rattle.peg.proofs.Totality.{total, list_ends}
use Rattle.peg.proofs.Counting.{counting}
use Rattle.peg.proofs.Completing.{completes_among}
use Rattle.memo.specs.Tables.{Table, Empty, Shifts}
use Rattle.reading.specs.declared.refusal.Refusal.TheVariants.{TooDeep}
use Rattle.reading.specs.declared.reply.Reply.{Reply}
use Rattle.reading.specs.Reads.{Setting, Res, rule, most_fresh}
use Rattle.reading.specs.Replies.{Replies, uncovered, covered}
use Rattle.reading.specs.Truth.{Proper, ComesTo, RuleComes, rule_gives, rule_halts, ReplyStands}
use Rattle.reading.specs.Counts.{ReplyCounted}
use Rattle.reading.specs.Runs.{Bounds, parse_of, Covering, Tracks}
use Rattle.reading.proofs.Once.{none}
use Rattle.reading.proofs.Truth.{reply_stands, proper, some_rule, none_false}
use Rattle.reading.proofs.Counts.{reply_counted}
use Rattle.reading.proofs.Steps.{steps}
use Rattle.bench.specs.Runs.{State, settled, slip_out, Change, made, Changeable, Run, opened, changed, change_refused, shifted, parsed, parse_uncovered, cleared}
use Rattle.bench.specs.Law.{Law}

-- at the root all frames are left
all_left : {E : Type 0} (fits : ℕ → ℕ → E → Bool) (b : Bounds) (ws : List ℕ) (xs : List E) (frames : ℕ) (s : Res) (zs : List RulePlace)
    → RuleComes (meaning ws) (accepted fits xs) frames 0 0 On s zs → ComesTo (parse_of (meaning ws) fits xs frames b) 0 (rule 0) 0 On s zs
all_left fits b ws xs frames s zs e =
    let n : frames ≡ frames - 0 = omega arith in
    subst (λ (k : ℕ). RuleComes (meaning ws) (accepted fits xs) k 0 0 On s zs) n e

module _ {E : Type 0} (fits : ℕ → ℕ → E → Bool) (b : Bounds) (ws : List ℕ) (ok : Accepted ws) where
  -- while a slip is out the rows are those of the text before the change
  pub record Before (xs : List E) (T : Table) (ks : List RulePlace) (p k m : ℕ) : Type 0 where
    pub old : List E
    pub items : List E
    pub known : List RulePlace
    pub within : Changeable (length old) b.capacity p k (length items)
    pub text : xs ≡ replaced old p k items
    pub inserted : length items ≡ m
    pub settles : Settles (meaning ws) (accepted fits old) p k m known ks
    pub tracks : Tracks (meaning ws) (accepted fits old) (length old) b T known

  abbrev pub Stays : List E → Table → List RulePlace → State → Type 0
  Stays xs T ks settled = Tracks (meaning ws) (accepted fits xs) (length xs) b T ks
  Stays xs T ks (slip_out p k m) = Before xs T ks p k m

  settles_on : {xs : List E} {T U : Table} {ks : List RulePlace} {p k m : ℕ} → Before xs T ks p k m → Shifts b.keeps b.P p k m T U → Tracks (meaning ws) (accepted fits xs) (length xs) b U ks
  settles_on {xs} {T} {U} {ks} {p} {k} {m} x s =
      let n : length (replaced x.old p k x.items) ≤ b.capacity = omega (arith, length_replaced x.old p k x.items x.within.0, x.within.1) in
      subst (λ (ys : List E). Tracks (meaning ws) (accepted fits ys) (length ys) b U ks) (sym x.text)
      ((steps E).shifted (meaning ws) fits x.old p k x.items b T U x.known ks x.within.0 n
      (subst (λ o. Shifts b.keeps b.P p k o T U) (sym x.inserted) s)
      (subst (λ o. Settles (meaning ws) (accepted fits x.old) p k o x.known ks) (sym x.inserted) x.settles)
      x.tracks)

  pub stays : {first xs : List E} {cs : List (Change E)} {T : Table} {ks : List RulePlace} {s : State} → Run fits b ws first cs xs T ks s → Stays xs T ks s
  stays {xs = xs} {T = T} (opened l small e) = (steps E).emptied (meaning ws) (accepted fits xs) (length xs) b T l e
  stays (changed {xs = xs} {ys = ys} {ks = ks} r c q s) = record { old = xs; items = ys; known = ks; within = c; text = q; inserted = refl; settles = s; tracks = stays r }
  stays (change_refused p k m r n) = stays r
  stays (shifted r s) = settles_on (stays r) s
  stays {xs = xs} (parsed {T = T} {U = U} {ks = ks} {zs = zs} {frames = frames} {q = q} {s = s} r c d e) =
      let p : Proper (parse_of (meaning ws) fits xs frames b) = proper E ws ok fits xs frames b.keeps b.P b.Q in
      (steps E).parsed (meaning ws) p.whole p.labelled p.marked (some_rule ws ok) fits xs frames b T U q ks c d s zs (all_left fits b ws xs frames s zs e) (stays r)
  stays {xs = xs} (parse_uncovered {T = T} {U = U} {ks = ks} {frames = frames} {q = q} r n d) = (steps E).uncovered (meaning ws) fits xs frames b T U q ks n d (stays r)
  stays {xs = xs} {T = T} (cleared r e) = (steps E).emptied (meaning ws) (accepted fits xs) (length xs) b T (stays r).room e

  -- the text with each accepted change made in it
  pub text_made : {first xs : List E} {cs : List (Change E)} {T : Table} {ks : List RulePlace} {s : State} → Run fits b ws first cs xs T ks s → xs ≡ made first cs
  text_made (opened l small e) = refl
  text_made (changed {ys = ys} {p = p} {k = k} r c q s) = q ∙ ap (λ zs. replaced zs p k ys) (text_made r)
  text_made (change_refused p k m r n) = text_made r
  text_made (shifted r s) = text_made r
  text_made (parsed r c d e) = text_made r
  text_made (parse_uncovered r n d) = text_made r
  text_made (cleared r e) = text_made r

  pub small : {first xs : List E} {cs : List (Change E)} {T : Table} {ks : List RulePlace} {s : State} → Run fits b ws first cs xs T ks s → b.capacity ≤ 65535
  small (opened l n e) = n
  small (changed r c q s) = small r
  small (change_refused p k m r n) = small r
  small (shifted r s) = small r
  small (parsed r c d e) = small r
  small (parse_uncovered r n d) = small r
  small (cleared r e) = small r

  module _ {first xs : List E} {cs : List (Change E)} {T : Table} {ks : List RulePlace} (run : Run fits b ws first cs xs T ks settled) (frames : ℕ) where
    abbrev G : Setting
    G = parse_of (meaning ws) fits xs frames b

    right : Proper G
    right = proper E ws ok fits xs frames b.keeps b.P b.Q

    one : OneWithin (Parses (meaning ws) (accepted fits xs)) (deepest (meaning ws) (length xs))
    one = ((total E).of_an_accepted_row ws ok fits xs).rule 0 0 On (some_rule ws ok) (omega arith)

    answer : {U : Table} {q : Reply} → Replies G b.capacity T q U → ReplyStands G b.capacity q U
    answer d = reply_stands G b.capacity right (some_rule ws ok) (stays run).rows d

    deep_enough : {U : Table} {q : Reply} → Replies G b.capacity T q U → deepest (meaning ws) (length xs) ≤ frames → q.result ≡ Err TooDeep → ⊥
    deep_enough (uncovered u) l e = none (cc)
    deep_enough (covered c d) l e =
        let x = (answer (covered c d)).answers c one.0 one.1 (let y = one.2 in omega arith) in
        let y = ((answer (covered c d)).too_deep c one.0 one.1).0 e in
        let z = one.2 in
        omega arith

    -- two answers over true rows are the same
    both : {U U' : Table} {q p : Reply} → Covering (meaning ws) b → ReplyStands G b.capacity q U → ReplyStands G b.capacity p U' → Dec (one.0.depth ≤ frames) → q.result ≡ p.result
    both c x y (yes l) = x.answers c one.0 one.1 l ∙ sym (y.answers c one.0 one.1 l)
    both c x y (no l) = (x.too_deep c one.0 one.1).1 (omega arith) ∙ sym ((y.too_deep c one.0 one.1).1 (omega arith))

    as_emptied : {T' U U' : Table} {q p : Reply} → Empty T' → Replies G b.capacity T q U → Replies G b.capacity T' p U' → q.result ≡ p.result
    as_emptied e (uncovered u) (uncovered v) = refl
    as_emptied e (uncovered u) (covered c d) = absurd (u c)
    as_emptied e (covered c d) (uncovered u) = absurd (u c)
    as_emptied {T' = T'} e (covered c d) (covered c' d') =
        both c (answer (covered c d)) (reply_stands G b.capacity right (some_rule ws ok) (none_false (meaning ws) (accepted fits xs) (length xs) T' e) (covered c' d')) (dec_le one.0.depth frames)

    comes_of : (v : Given) → Parses (meaning ws) (accepted fits xs) v → (s : Res) × (zs : List RulePlace) × RuleComes (meaning ws) (accepted fits xs) frames 0 0 On s zs
    comes_of v d = elim (((total E).of_an_accepted_row ws ok fits xs).rule_framed frames 0 0 On (some_rule ws ok) (omega arith)) [
      | inl x ↦ (Ok (told x.0.0), x.0.0.completed, rule_gives x.0.1 x.0.2)
      | inr x ↦ (Err TooDeep, x.0.0, rule_halts x.0.1)
    ]

    among : {s : Res} {zs : List RulePlace} → RuleComes (meaning ws) (accepted fits xs) frames 0 0 On s zs → (z : RulePlace) → In z zs → Among (meaning ws).R (length xs) z
    among (rule_gives {v = v} d l) = (completes_among.of_an_accepted_row ws ok (accepted fits xs) (length xs) (list_ends fits xs)).rule 0 0 On (some_rule ws ok) (omega arith) v d
    among (rule_halts {zs = zs} h) = (completes_among.of_an_accepted_row ws ok (accepted fits xs) (length xs) (list_ends fits xs)).rule_halted frames 0 0 On (some_rule ws ok) (omega arith) zs h

    -- no count comes near where counts stop
    few : (zs : List RulePlace) → ((z : RulePlace) → In z zs → Among (meaning ws).R (length xs) z) → (fresh ks zs ≤ most_places (meaning ws).R (length xs)) × (most_places (meaning ws).R (length xs) < most_fresh)
    few zs h =
        let a = counting.most_fresh (meaning ws).R (length xs) ks zs h in
        let r = ok.1.2.0.1 in
        let m : 2 * (meaning ws).R * (length xs + 1) ≤ 128 * (length xs + 1) = mul-le-mul_right (length xs + 1) (omega arith) in
        (a, omega (arith, m, (stays run).room, small run))

    counted : {U : Table} {q : Reply} → Covering (meaning ws) b → Replies G b.capacity T q U → (s : Res) (zs : List RulePlace) → RuleComes (meaning ws) (accepted fits xs) frames 0 0 On s zs → ReplyCounted G T U zs q
    counted c d s zs e = reply_counted G right (some_rule ws ok) (stays run).rows c d s zs (all_left fits b ws xs frames s zs e)

    at_least : {U : Table} {q : Reply} → Replies G b.capacity T q U → Covering (meaning ws) b → (s : Res) (zs : List RulePlace) → RuleComes (meaning ws) (accepted fits xs) frames 0 0 On s zs → fresh ks zs ≤ q.fresh
    at_least d c s zs e =
        let x = (counted c d s zs e).at_least ks (stays run).known (stays run).held in
        let y = few zs (among e) in
        omega (arith, x, y.0, y.1)

    exactly : {U : Table} {q : Reply} → Replies G b.capacity T q U → Covering (meaning ws) b → b.keeps ≡ true → (s : Res) (zs : List RulePlace) → RuleComes (meaning ws) (accepted fits xs) frames 0 0 On s zs
        → (q.fresh ≡ fresh ks zs) × (q.fresh ≤ most_places (meaning ws).R (length xs))
    exactly d c k s zs e =
        let t = stays run in
        let x = ((counted c d s zs e).exactly (record { keeps = k; places = omega (arith, t.room, c.0); rules = c.1 }) ks t.known (t.kept k c)).0 in
        let y = few zs (among e) in
        (omega (arith, x, y.0, y.1), omega (arith, x, y.0, y.1))

    uncounted : {U : Table} {q : Reply} → Replies G b.capacity T q U → (Covering (meaning ws) b → ⊥) → q.fresh ≡ 0
    uncounted (uncovered u) n = refl
    uncounted (covered c d) n = absurd (n c)

pub law : (E : Type 0) → Law E
law E fits b ws ok first cs xs T ks run frames q U d = record {
  one = one fits b ws ok run frames;
  deep_enough = deep_enough fits b ws ok run frames d;
  text = text_made fits b ws ok run;
  answer = answer fits b ws ok run frames d;
  as_emptied = λ T' U' p e d'. as_emptied fits b ws ok run frames e d d';
  completes = comes_of fits b ws ok run frames (one fits b ws ok run frames).0 (one fits b ws ok run frames).1;
  at_least = at_least fits b ws ok run frames d;
  exactly = exactly fits b ws ok run frames d;
  uncounted = uncounted fits b ws ok run frames d;
}
