-- The text of a filled buffer, and the reply on a bench just opened.
use Rattle.std.proofs.Common.{◌≡◌, ℕ, ◌*◌, ◌<◌, ◌≤◌, true, List, [], ◌∷◌, ◌++◌, length, take, Ok, Err, Result, sym, refl, ap, ◌∙◌, subst, arith, lit<, lit≤, MatchResult}
use Rattle.memo.specs.declared.whole.WholeMemory.{WholeMemory}
use Rattle.memo.specs.declared.whole.Refusal.{Refusal}
use Rattle.memo.specs.Making.{Asked, Hands, Makes}
use Rattle.memo.specs.Tables.{Table, Empty}
use Rattle.grammar.specs.Words.{meaning}
use Rattle.text.specs.declared.MakeRefusal.{MakeRefusal}
use Rattle.text.specs.declared.MakeRefusal.TheVariants.{Buffer as Full, Count}
use Rattle.text.specs.declared.buffer.Buffer.{Buffer}
use Rattle.text.specs.Buffers.{buffer_text, buffer_room}
use Rattle.text.specs.Meaning.{byte_in}
use Rattle.text.specs.Refusals.{make_number, BufferExactly, CountExactly}
use Rattle.peg.specs.Worked.{site_words}
use Rattle.reading.specs.declared.reply.Reply.{Reply}
use Rattle.reading.specs.Replies.{Replies}
use Rattle.reading.specs.Runs.{parse_of, Covering}
use Rattle.bench.specs.Runs.{settled, Run}
use Rattle.bench.specs.Law.{Lawful}
use Rattle.bench.specs.Calls.{bounds, Obeys}
use Rattle.replytext.specs.Replies.{refused_text, reply_text}
use Rattle.sitefile.specs.Lines.{most_bytes, frames, site_bounds, SoleReply, newline, SiteLine, too_long, Shows}
use Rattle.sitefile.specs.Lines.{replied as replied_line}

-- a memory with sizes and words enough is made
pub when_made : (P Q : ℕ) (ws : List ℕ) (s : WholeMemory) (r : Result (Unit {0}) Refusal) → Asked P Q (length ws) r → Hands r P Q ws s
    → (1 ≤ P) × (P ≤ 65536) × (1 ≤ Q) × (Q ≤ 64) → 16 * (P * Q) ≤ length ws → Makes P Q ws s
when_made P Q ws s (Ok x) asked h sized roomy = h
when_made P Q ws s (Err e) asked h sized roomy = absurd (asked.made.1 (sized, roomy))

-- a parse from the rows T of a bench just opened
abbrev Read : List ℕ → Table → Reply → Table → List ℕ → ℕ → ℕ → ℕ → Type 0
Read xs T q U ws P Q capacity =
    Lawful byte_in (bounds true P Q capacity) ws xs [] xs [] frames q U × Replies (parse_of (meaning ws) byte_in xs frames (bounds true P Q capacity)) capacity T q U

same_reply : (p q : Reply) → p.result ≡ q.result → p.fresh ≡ q.fresh → p ≡ q
same_reply p q e f i = record { result = e i; fresh = f i }

covers : Covering (meaning site_words) site_bounds
covers = (lit< tt, lit≤ tt)

-- the law leaves one reply: its count is that of what plain evaluation completes
module _ (xs : List ℕ) {T U : Table} {q : Reply} where
  sole : Empty T → Read xs T q U site_words 201 3 most_bytes → SoleReply xs q
  sole empty r = (
    (U, r.0),
    λ p other. same_reply
        p
        q
        (other.1.as_emptied T U q empty r.1)
        (let z = r.0.completes in
        (other.1.exactly covers refl z.0 z.1 z.2).0 ∙ sym (r.0.exactly covers refl z.0 z.1 z.2).0),
  )

module _ (xs : List ℕ) {ws : List ℕ} {P Q capacity : ℕ} {T U : Table} {q : Reply} where
  at_site : ws ≡ site_words → P ≡ 201 → Q ≡ 3 → capacity ≡ most_bytes → Read xs T q U ws P Q capacity → Read xs T q U site_words 201 3 most_bytes
  at_site words places rules room r =
      subst (Read xs T q U site_words 201 3) room (subst (λ x. Read xs T q U site_words 201 x capacity) rules (subst (λ x. Read xs T q U site_words x Q capacity) places (subst (λ x. Read xs T q U x P Q capacity) words r)))

  pub replied : ws ≡ site_words → P ≡ 201 → Q ≡ 3 → capacity ≡ most_bytes → Empty T → Run byte_in (bounds true P Q capacity) ws xs [] xs T [] settled
      → Obeys byte_in (bounds true P Q capacity) ws xs T frames q U → Replies (parse_of (meaning ws) byte_in xs frames (bounds true P Q capacity)) capacity T q U → SoleReply xs q
  replied words places rules room empty run obeys replies = sole xs empty (at_site words places rules room (obeys xs [] [] run, replies))

-- bytes that were put into a buffer are its text, if it was made
module _ (input buffer : List ℕ) (text : Buffer ℕ) where
  pub text_made : (r : Result (Unit {0}) MakeRefusal) (x : Unit {0}) → r ≡ Ok x → CountExactly r (length buffer) (length input)
      → MatchResult r (λ _. (buffer_text text ≡ take (length input) buffer) × (buffer_room text ≡ length buffer)) (λ _. (buffer_text text ≡ []) × (buffer_room text ≡ 0))
      → length buffer ≡ most_bytes → (length input ≤ most_bytes → take (length input) buffer ≡ input)
      → (length input ≤ most_bytes) × (buffer_text text ≡ input) × (buffer_room text ≡ most_bytes)
  text_made (Ok x) y e count made room filled =
      let fits : length input ≤ most_bytes = grind (arith, count.1, room) in
      (fits, made.0 ∙ filled fits, made.1 ∙ room)
  text_made (Err e) y i count made room filled = absurd (cc)

-- a buffer of 200 bytes refuses only more than these
pub too_many : (n : ℕ) (r : Result (Unit {0}) MakeRefusal) (x : MakeRefusal) → r ≡ Err x → BufferExactly r most_bytes → CountExactly r most_bytes n → (make_number (Err x) ≡ 14) × (most_bytes < n)
too_many n (Ok u) x e buffer count = absurd (cc)
too_many n (Err Full) x e buffer count = absurd (omega (arith, buffer.0 refl))
too_many n (Err Count) x e buffer count = let same : x ≡ Count = cc in (ap (λ y. make_number (Err y)) same, (count.0 refl).1)

module _ (input line : List ℕ) where
  pub shows_reply : (q : Reply) → length input ≤ most_bytes → SoleReply input q → line ≡ reply_text q ++ (newline ∷ []) → Shows input line
  shows_reply q few r e = (replied_line few r.0 e, other)
    where
      other : (o : List ℕ) → SiteLine input o → o ≡ line
      other o (SiteLine.replied {q = p} l t f) = f ∙ ap (λ x. reply_text x ++ (newline ∷ [])) (r.1 p t) ∙ sym e
      other o (SiteLine.too_long l f) = absurd (omega (arith, l, few))

  pub shows_too_long : most_bytes < length input → line ≡ refused_text 14 ++ (newline ∷ []) → Shows input line
  shows_too_long many e = (too_long many e, other)
    where
      other : (o : List ℕ) → SiteLine input o → o ≡ line
      other o (SiteLine.replied l t f) = absurd (omega (arith, l, many))
      other o (SiteLine.too_long l f) = f ∙ sym e
