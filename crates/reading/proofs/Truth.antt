-- Over true rows the answer is the derived one, or too deep, and nothing else; so it is over an emptied memory.
use Rattle.std.proofs.Common.{◌≡◌, ℕ, ◌+◌, ◌-◌, ◌<◌, ◌≤◌, Bool, List, Ok, Err, sym, refl, ap, ◌∙◌, subst, arith}
use native.Mathlib.Decide.{dec_le}
use Rattle.grammar.specs.declared.expr.Mode.{Mode}
use Rattle.grammar.specs.declared.expr.Mode.TheVariants.{On}
use Rattle.grammar.specs.Words.{Peg, meaning}
use Rattle.grammar.specs.Questions.{Accepted}
use Rattle.grammar.proofs.Referring.{accepted_whole, accepted_labels, accepted_marks}
use Rattle.text.specs.Meaning.{accepted}
use Rattle.peg.specs.declared.results.Reading.{Reading}
use Rattle.peg.specs.declared.results.RulePlace.{RulePlace}
use Rattle.peg.specs.Results.{Given, told}
use Rattle.peg.specs.Rules.{Parses}
use Rattle.peg.specs.Rules.{as_its_body}
use Rattle.peg.proofs.Halting.{some_depth, deeper, rule_deeper}
use Rattle.peg.proofs.Totality.{list_ends}
use Rattle.memo.specs.Tables.{Table, Empty}
use Rattle.reading.specs.declared.refusal.Refusal.TheVariants.{Uncovered, Unfit, TooDeep}
use Rattle.reading.specs.declared.reply.Reply.{Reply}
use Rattle.reading.specs.Reads.{Setting, Res, Asked, expression, rule, setting}
use Rattle.reading.specs.Replies.{answer_of, Covers, Replies, uncovered, covered}
use Rattle.reading.specs.Truth.{TrueRows, AllTrue, Proper, gives, halts, rule_gives, rule_halts, ComesTo, AskedGives, Stands, ReplyStands, TrueReading, MadeProper, Emptied}
use Rattle.reading.proofs.Once.{none}
use Rattle.reading.proofs.Coming.{comes_once, rule_once}
use Rattle.reading.proofs.Standing.{stands}

module _ (G : Setting) where
  -- what is asked comes to one thing
  pub to_once : (h : ℕ) (a : Asked) (i : ℕ) (m : Mode) (r s : Res) (zs ys : List RulePlace) → ComesTo G h a i m r zs → ComesTo G h a i m s ys → (r ≡ s) × (zs ≡ ys)
  to_once h (expression e) i m r s zs ys c d = comes_once G.grammar G.text c d
  to_once h (rule k) i m r s zs ys c d = rule_once G.grammar G.text c d

  asked_deep : (a : Asked) (i : ℕ) (m : Mode) (v : Given) → AskedGives G a i m v → 1 ≤ v.depth
  asked_deep (expression e) i m v d = some_depth G.grammar G.text d
  asked_deep (rule k) i m v (as_its_body d) = some_depth G.grammar G.text d

  to_gives : (h : ℕ) (a : Asked) (i : ℕ) (m : Mode) (v : Given) → AskedGives G a i m v → v.depth ≤ G.frames - h → ComesTo G h a i m (Ok (told v)) v.completed
  to_gives h (expression e) i m v d l = gives d l
  to_gives h (rule k) i m v d l = rule_gives d l

  to_halts : (h : ℕ) (a : Asked) (i : ℕ) (m : Mode) (v : Given) → AskedGives G a i m v → G.frames - h < v.depth → (zs : List RulePlace) × ComesTo G h a i m (Err TooDeep) zs
  to_halts h (expression e) i m v d l = let q = deeper G.grammar G.text d (G.frames - h) l in (q.0, halts q.1)
  to_halts h (rule k) i m v d l = let q = rule_deeper G.grammar G.text d (G.frames - h) l in (q.0, rule_halts q.1)

  abbrev DerivedAs : ℕ → Asked → ℕ → Mode → Reading → Type 0
  DerivedAs h a i m w = (v : Given) × AskedGives G a i m v × (h + v.depth ≤ G.frames) × (w ≡ told v)

  -- a result was derived, and a refusal is too deep
  abbrev EndOf : ℕ → Asked → ℕ → Mode → Res → Type 0
  EndOf h a i m (Ok w) = DerivedAs h a i m w
  EndOf h a i m (Err z) = z ≡ TooDeep

  to_end : (h : ℕ) (a : Asked) (i : ℕ) (m : Mode) (r : Res) (zs : List RulePlace) → ComesTo G h a i m r zs → EndOf h a i m r
  to_end h (expression e) i m r zs (gives {v = v} d l) = let q = some_depth G.grammar G.text d in (v, d, omega arith, refl)
  to_end h (expression e) i m r zs (halts x) = refl
  to_end h (rule k) i m r zs (rule_gives {v = v} d l) = let q = asked_deep (rule k) i m v d in (v, d, omega arith, refl)
  to_end h (rule k) i m r zs (rule_halts x) = refl

  never : (h : ℕ) (a : Asked) (i : ℕ) (m : Mode) (r : Res) → EndOf h a i m r → r ≡ Err Unfit → ⊥
  never h a i m (Ok w) e q = none (cc)
  never h a i m (Err z) e q = none (cc)

  pub standing : (h : ℕ) (a : Asked) (i : ℕ) (m : Mode) (r : Res) (U : Table) (zs : List RulePlace) → ComesTo G h a i m r zs → AllTrue G U → Stands G h a i m r U
  standing h a i m r U zs c tr = record {
    comes = (zs, c);
    answers = λ v d l. let q = asked_deep a i m v d in (to_once h a i m r (Ok (told v)) zs v.completed c (to_gives h a i m v d (omega arith))).0;
    too_deep = λ v d l. let q = asked_deep a i m v d in let y = to_halts h a i m v d (omega arith) in (to_once h a i m r (Err TooDeep) zs y.0 c y.1).0;
    answered = λ w e. subst (EndOf h a i m) e (to_end h a i m r zs c);
    never_unfit = never h a i m r (to_end h a i m r zs c);
    rows = tr;
  }

  -- a whole reading
  module _ (capacity : ℕ) where
    uncovered_stands : (T : Table) → (Covers G capacity → ⊥) → AllTrue G T → ReplyStands G capacity (record { result = Err Uncovered; fresh = 0 }) T
    uncovered_stands T u tr = record {
      uncovered = (λ e. u, λ f. refl);
      never_unfit = λ e. none (cc);
      answers = λ c. absurd (u c);
      too_deep = λ c. absurd (u c);
      comes = λ c. absurd (u c);
      answered = λ x e. none (cc);
      rows = tr;
    }

    covered_stands : Covers G capacity → (r : Res) (n : ℕ) (U : Table) → Stands G 0 (rule 0) 0 On r U → EndOf 0 (rule 0) 0 On r
        → ReplyStands G capacity (record { result = answer_of r; fresh = n }) U
    covered_stands c (Ok w) n U s (v, d, l, e) = record {
      uncovered = (λ q. none (cc), λ f. absurd (f c));
      never_unfit = λ q. none (cc);
      answers = λ _ x y z. ap answer_of (s.answers x y (omega arith));
      too_deep = λ _ x y. (λ q. none (cc), λ z. none (let q = s.too_deep x y (omega arith) in cc));
      comes = λ _. (Ok w, s.comes.0, s.comes.1, refl);
      answered = λ x q. (v, d, omega arith, sym q ∙ ap (λ o. answer_of (Ok o)) e);
      rows = s.rows;
    }
    covered_stands c (Err z) n U s e = record {
      uncovered = (λ q. none (cc), λ f. absurd (f c));
      never_unfit = λ q. none (cc);
      answers = λ _ x y l. ap answer_of (s.answers x y (omega arith));
      too_deep = λ _ x y. ((λ q. beyond x y (dec_le x.depth G.frames)), λ l. ap Err e);
      comes = λ _. (Err z, s.comes.0, s.comes.1, refl);
      answered = λ x q. none (cc);
      rows = s.rows;
    }
      where
        beyond : (x : Given) → Parses G.grammar G.text x → Dec (x.depth ≤ G.frames) → G.frames < x.depth
        beyond x y (yes l) = none (let q = s.answers x y (omega arith) in cc)
        beyond x y (no l) = omega arith

    pub reply_stands : Proper G → 0 < G.grammar.R → {T U : Table} {q : Reply} → AllTrue G T → Replies G capacity T q U → ReplyStands G capacity q U
    reply_stands p l {T} tr (uncovered u) = uncovered_stands T u tr
    reply_stands p l tr (covered {r = r} {U = U} c d) =
        let x = stands G p d l (omega arith) tr in
        covered_stands c r U.fresh U.rows (standing 0 (rule 0) 0 On r U.rows x.completed x.comes x.rows) (to_end 0 (rule 0) 0 On r x.completed x.comes)

pub true_reading : TrueReading
true_reading = record {
  reads = λ G p h i T U a m r n le tr d. let x = stands G p d n le tr in standing G h a i m r U.rows x.completed x.comes x.rows;
  replies = λ G p l capacity T U q tr d. reply_stands G capacity p l tr d;
}

-- a list's text ends at its size
pub proper : (E : Type 0) → MadeProper E
proper E ws a fits xs frames keeps P Q = record {
  whole = accepted_whole ws a;
  labelled = λ e l n p. (accepted_labels ws a e l n p).1;
  marked = accepted_marks ws a;
  ends = list_ends fits xs;
}

pub none_false : (g : Peg) (t : ℕ → ℕ → ℕ → Bool) (n : ℕ) (T : Table) → Empty T → TrueRows g t n T
none_false g t n T e k i m x kr le f = let q = e k i m in none (cc)

pub some_rule : (ws : List ℕ) → Accepted ws → 0 < (meaning ws).R
some_rule ws a = let h = a.1.2.0.0 in omega arith

pub emptied : (E : Type 0) → Emptied E
emptied E ws a fits xs frames keeps P Q capacity T U q e c d v y n =
    let G = setting (meaning ws) fits xs frames keeps P Q in
    (reply_stands G capacity (proper E ws a fits xs frames keeps P Q) (some_rule ws a) (none_false (meaning ws) (accepted fits xs) G.size T e) d).answers c v y n
