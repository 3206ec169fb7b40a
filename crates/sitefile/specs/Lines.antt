-- The line that a display shows of a site file.
use Rattle.std.specs.Prelude.{◌≡◌, ℕ, ◌<◌, ◌≤◌, true, List, [], ◌∷◌, ◌++◌, length}
use Rattle.text.specs.Meaning.{byte_in}
use Rattle.peg.specs.Worked.{site_words}
use Rattle.memo.specs.Tables.{Table}
use Rattle.reading.specs.declared.reply.Reply.{Reply}
use Rattle.reading.specs.Runs.{Bounds}
use Rattle.bench.specs.Law.{Lawful}
use Rattle.bench.specs.Calls.{bounds}
use Rattle.replytext.specs.Replies.{refused_text, reply_text}

-- the bytes that a site file may have
abbrev pub most_bytes : ℕ
most_bytes = 200

-- the frames that its parse is lent
abbrev pub frames : ℕ
frames = 64

-- a whole memory for the places of such a file and the rules of its grammar
abbrev pub site_bounds : Bounds
site_bounds = bounds true 201 3 most_bytes

-- a reply to a parse of just opened bytes: it keeps the law of runs, with nothing changed and nothing known before
abbrev pub Replied : List ℕ → Reply → Type 0
Replied input q = (U : Table) × Lawful byte_in site_bounds site_words input [] input [] frames q U

-- and the only such reply
abbrev pub SoleReply : List ℕ → Reply → Type 0
SoleReply input q = Replied input q × ((p : Reply) → Replied input p → p ≡ q)

abbrev pub newline : ℕ
newline = 10

-- what is shown: the reply to the bytes, or 14 where they are too many
pub data SiteLine (input line : List ℕ) : Type 0 where
  replied : {q : Reply} → length input ≤ most_bytes → Replied input q → line ≡ reply_text q ++ (newline ∷ []) → SiteLine input line
  too_long : most_bytes < length input → line ≡ refused_text 14 ++ (newline ∷ []) → SiteLine input line

-- this line is shown, and no other is right
abbrev pub Shows : List ℕ → List ℕ → Type 0
Shows input line = SiteLine input line × ((other : List ℕ) → SiteLine input other → other ≡ line)
