-- Each step of a run keeps what is so of the rows held and the rule-places known.
use Rattle.std.proofs.Common.{◌≡◌, ℕ, ◌+◌, ◌-◌, ◌<◌, ◌≤◌, Bool, List, [], length, subst, inl, inr, arith}
use Rattle.grammar.specs.declared.expr.Mode.TheVariants.{On}
use Rattle.grammar.specs.Words.{Peg}
use Rattle.grammar.specs.Form.{Whole}
use Rattle.text.specs.Meaning.{accepted, replaced}
use Rattle.text.proofs.Laws.{length_replaced}
use Rattle.peg.specs.declared.results.RulePlace.{RulePlace}
use Rattle.peg.specs.Rules.{Text}
use Rattle.peg.specs.Fitting.{Labelled, Marked}
use Rattle.peg.specs.Completing.{Among}
use Rattle.peg.specs.Counting.{learned}
use Rattle.peg.specs.Known.{Known}
use Rattle.peg.specs.Settling.{Remains, kept, moves, Settles}
use Rattle.peg.proofs.Counting.{learned_old, learned_new, learned_only}
use Rattle.peg.proofs.Known.{known_given, known_halted, learns}
use Rattle.peg.proofs.Completing.{rule_among, among_halted}
use Rattle.peg.proofs.Totality.{numbered, list_ends}
use Rattle.peg.proofs.Edits.{along_behind}
use Rattle.peg.proofs.Settling.{settling}
use Rattle.memo.specs.Tables.{Table, Empty, Shifts}
use Rattle.reading.specs.declared.reply.Reply.{Reply}
use Rattle.reading.specs.Reads.{Setting, Res, rule}
use Rattle.reading.specs.Replies.{Replies, uncovered, covered}
use Rattle.reading.specs.Putting.{Held}
use Rattle.reading.specs.Truth.{Proper, rule_gives, rule_halts, ComesTo}
use Rattle.reading.specs.Runs.{AllAmong, Bounds, parse_of, Covering, Tracks, Steps}
use Rattle.reading.proofs.Once.{none}
use Rattle.reading.proofs.Truth.{reply_stands, none_false}
use Rattle.reading.proofs.Counts.{reply_counted}
use Rattle.reading.proofs.Shifting.{shift_true, shift_held, shift_exactly}

none_held : (T : Table) → Empty T → (z : RulePlace) → Held T z → ⊥
none_held T e z (x, f) = let q = e z.rule z.place z.mode in none (cc)

emptied_tracks : (g : Peg) (t : Text) (n : ℕ) (b : Bounds) (T : Table) → n ≤ b.capacity → Empty T → Tracks g t n b T []
emptied_tracks g t n b T l e = record {
  room = l;
  rows = none_false g t n T e;
  among = λ z i. absurd i;
  known = learns.none g t;
  held = λ z h. none_held T e z h;
  kept = λ k c z. ((λ h. none_held T e z h), λ i. absurd i);
}

module _ {E : Type 0} (g : Peg) (fits : ℕ → ℕ → E → Bool) (xs : List E) where
  module _ (frames : ℕ) (b : Bounds) where
    abbrev G : Setting
    G = parse_of g fits xs frames b

    uncovered_tracks : {T U : Table} {q : Reply} (ks : List RulePlace) → (Covering g b → ⊥) → Replies G b.capacity T q U
        → Tracks g (accepted fits xs) (length xs) b T ks → Tracks g (accepted fits xs) (length xs) b U ks
    uncovered_tracks ks n (uncovered u) t = t
    uncovered_tracks ks n (covered c d) t = absurd (n c)

    module _ (whole : Whole g) (labelled : Labelled g) (marked : Marked g) (some : 0 < g.R) where
      comes_among : {s : Res} {zs : List RulePlace} → ComesTo G 0 (rule 0) 0 On s zs → AllAmong g (length xs) zs
      comes_among (rule_gives d l) = rule_among g whole (accepted fits xs) (length xs) (list_ends fits xs) d some (omega arith)
      comes_among (rule_halts a) = among_halted g whole (accepted fits xs) (length xs) (list_ends fits xs) a (numbered g (g.body 0) (whole.0 0 some)) (omega arith)

      comes_known : {s : Res} {zs : List RulePlace} (ks : List RulePlace) → Known g (accepted fits xs) ks → ComesTo G 0 (rule 0) 0 On s zs → Known g (accepted fits xs) (learned ks zs)
      comes_known ks n (rule_gives d l) = known_given g (accepted fits xs) ks n d
      comes_known ks n (rule_halts a) = known_halted g (accepted fits xs) {r = 0} ks n a

      parsed_tracks : {T U : Table} {q : Reply} (ks : List RulePlace) → Covering g b → Replies G b.capacity T q U → (s : Res) (zs : List RulePlace) → ComesTo G 0 (rule 0) 0 On s zs
          → Tracks g (accepted fits xs) (length xs) b T ks → Tracks g (accepted fits xs) (length xs) b U (learned ks zs)
      parsed_tracks {T} {U} ks c d s zs e t =
          let p : Proper G = record { whole = whole; labelled = labelled; marked = marked; ends = list_ends fits xs } in
          let w = reply_counted G p some t.rows c d s zs e in
          record {
            room = t.room;
            rows = (reply_stands G b.capacity p some t.rows d).rows;
            among = λ z i. elim (learned_only ks zs z i) [ inl q ↦ t.among z q | inr q ↦ comes_among e z q ];
            known = comes_known ks t.known e;
            held = λ z h. elim (w.held z h) [ inl q ↦ learned_old ks zs z (t.held z q) | inr q ↦ learned_new ks zs z q ];
            kept = λ k v. (w.exactly (record { keeps = k; places = omega (arith, t.room, c.0); rules = c.1 }) ks t.known (t.kept k v)).1;
          }

  module _ (p k : ℕ) (ys : List E) (b : Bounds) {T U : Table} (ks ls : List RulePlace) (le : p + k ≤ length xs) (room : length (replaced xs p k ys) ≤ b.capacity)
      (shifts : Shifts b.keeps b.P p k (length ys) T U) (settles : Settles g (accepted fits xs) p k (length ys) ks ls)
      (t : Tracks g (accepted fits xs) (length xs) b T ks) where
    long : length (replaced xs p k ys) ≡ length xs - k + length ys
    long = length_replaced xs p k ys le

    remains_among : (z : RulePlace) → Remains g (accepted fits xs) p k (length ys) ks z → Among g.R (length (replaced xs p k ys)) z
    remains_among z (kept i l d r) = ((t.among z i).0, omega (arith, long))
    remains_among z (moves {z = y} i l) = ((t.among y i).0, omega (arith, along_behind p k (length ys) y.place l, (t.among y i).1, long))

    shifted_tracks : Tracks g (accepted fits (replaced xs p k ys)) (length (replaced xs p k ys)) b U ls
    shifted_tracks = record {
      room = room;
      rows = shift_true g fits xs p k ys le b.keeps b.P T U shifts t.rows;
      among = λ z i. remains_among z ((settles z).0 i);
      known = (settling E).known g fits xs p k ys le ks ls t.known settles;
      held = shift_held g fits xs p k ys le b.P T U t.rows ks ls t.among settles b.keeps shifts t.held;
      kept = λ q c. shift_exactly g fits xs p k ys le b.P T U t.rows ks ls t.among settles (omega (arith, room, c.0))
          (subst (λ o. Shifts o b.P p k (length ys) T U) q shifts) (t.kept q c);
    }

pub steps : (E : Type 0) → Steps E
steps E = record {
  emptied = emptied_tracks;
  uncovered = λ g fits xs frames b T U q ks n d t. uncovered_tracks g fits xs frames b ks n d t;
  parsed = λ g w l m z fits xs frames b T U q ks c d s zs e t. parsed_tracks g fits xs frames b w l m z ks c d s zs e t;
  shifted = λ g fits xs p k ys b T U ks ls le r s c t. shifted_tracks g fits xs p k ys b ks ls le r s c t;
}
