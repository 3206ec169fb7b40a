-- A row, piece by piece: the words so far, and then those of what is left. A line has the row that it writes, and no other.
use Rattle.std.proofs.Common.{◌≡◌, ℕ, zero, suc, ◌<◌, Bool, true, false, cond, ◌&&◌, ltb, leb, List, [], ◌∷◌, ◌++◌, length, Some, None, Option, sym, refl, ap, ◌∙◌, subst, inl, inr, append_assoc, append-nil, arith}
use Rattle.std.specs.Char.{digit_value}
use Rattle.std.specs.Str.Parse.{digits_value}
use Rattle.std.proofs.lemmas.Bool.{cases_eq, and_parts, leb-true, false≢true}
use Rattle.std.specs.Option.{option_map}
use Rattle.rowtext.specs.Hex.{most_digits, hexadecimal, word}
use Rattle.rowtext.specs.Pieces.{onto, pieces}
use Rattle.rowtext.specs.Rows.{space, Apart, Writes, ends, spaced, worded, RowOf}
use Rattle.rowtext.proofs.Cutting.{Clear, pieces_separator, pieces_other, piece_first, one_piece}
use Rattle.rowtext.proofs.Sole.{exact}

-- a word before other words, where all are there
abbrev before : Option ℕ → Option (List ℕ) → Option (List ℕ)
before None ws = None
before (Some w) None = None
before (Some w) (Some ws) = Some (w ∷ ws)

-- the words that pieces write; an empty piece stands between two spaces, or before the first word
abbrev words : List (List ℕ) → Option (List ℕ)
words [] = Some []
words ([] ∷ ps) = words ps
words ((b ∷ bs) ∷ ps) = before (word (b ∷ bs)) (words ps)

-- the row that a line writes, if it writes one
abbrev pub row : List ℕ → Option (List ℕ)
row line = words (pieces space line)

-- the words ws, and then the row of what is left
abbrev pub row_after : List ℕ → List ℕ → Option (List ℕ)
row_after ws left = option_map (λ us. ws ++ us) (row left)

words_push : (p : List ℕ) (ps : List (List ℕ)) → 0 < length p → words (p ∷ ps) ≡ before (word p) (words ps)
words_push [] ps some = absurd (omega arith)
words_push (b ∷ bs) ps some = refl

-- what is left begins with a piece
module _ (ws left piece next : List ℕ) (cut : pieces space left ≡ piece ∷ pieces space next) where
  pub stop : 0 < length piece → None ≡ word piece → None ≡ row_after ws left
  stop some e = sym (ap (λ o. option_map (λ us. ws ++ us) o) (ap words cut ∙ words_push piece (pieces space next) some ∙ ap (λ o. before o (row next)) (sym e)))

pub no_more : (ws left : List ℕ) → pieces space left ≡ [] → Some ws ≡ row_after ws left
no_more ws left none = sym (ap (λ ps. option_map (λ us. ws ++ us) (words ps)) none ∙ ap (λ vs. Some vs) (append-nil ws))

-- bytes before the first piece, or as a piece of their own
abbrev prefixed : List ℕ → List (List ℕ) → List (List ℕ)
prefixed [] ps = ps
prefixed (t ∷ ts) [] = (t ∷ ts) ∷ []
prefixed (t ∷ ts) (p ∷ ps) = ((t ∷ ts) ++ p) ∷ ps

prefixed_onto : (ts : List ℕ) (b : ℕ) (ps : List (List ℕ)) → prefixed ts (onto b ps) ≡ prefixed (ts ++ b ∷ []) ps
prefixed_onto [] b [] = refl
prefixed_onto [] b (p ∷ ps) = refl
prefixed_onto (t ∷ ts) b [] = refl
prefixed_onto (t ∷ ts) b (p ∷ ps) = ap (λ q. q ∷ ps) (sym (append_assoc (t ∷ ts) (b ∷ []) p))

-- where a word comes before other words, both are there
before_parts : (o : Option ℕ) (us : Option (List ℕ)) (ws : List ℕ) → before o us ≡ Some ws → (w : ℕ) × (vs : List ℕ) × (o ≡ Some w) × (us ≡ Some vs) × (ws ≡ w ∷ vs)
before_parts None us ws e = cc
before_parts (Some w) None ws e = cc
before_parts (Some w) (Some vs) ws e = (w, vs, refl, refl, cc)

-- a word, and then what is left of the line
word_first : (t : ℕ) (ts line ws : List ℕ) → Apart line → before (word (t ∷ ts)) (row line) ≡ Some ws → ((vs : List ℕ) → row line ≡ Some vs → Writes line vs) → Writes ((t ∷ ts) ++ line) ws
word_first t ts line ws apart e rest =
    let p = before_parts (word (t ∷ ts)) (row line) ws e in
    subst (Writes ((t ∷ ts) ++ line)) (sym p.4) (worded (t ∷ ts) p.2 apart (rest p.1 p.3))

-- a space, after the bytes of a word or none
at_space : (ts bs ws : List ℕ) → words (prefixed ts ([] ∷ pieces space bs)) ≡ Some ws → ((vs : List ℕ) → row bs ≡ Some vs → Writes bs vs) → Writes (ts ++ space ∷ bs) ws
at_space [] bs ws e rest = spaced (rest ws e)
at_space (t ∷ ts) bs ws e rest =
    word_first t ts (space ∷ bs) ws refl (ap (λ p. words (p ∷ pieces space bs)) (sym (append-nil (t ∷ ts))) ∙ e) (λ vs q. spaced (rest vs q))

-- a line writes the row that is read, after the bytes ts of its first word
written_after : (line ts ws : List ℕ) → words (prefixed ts (pieces space line)) ≡ Some ws → Writes (ts ++ line) ws
written_after [] [] ws e = subst (Writes []) (cc) ends
written_after [] (t ∷ ts) ws e = word_first t ts [] ws tt e (λ vs q. subst (Writes []) (cc) ends)
written_after (b ∷ bs) ts ws e =
    elim (cases_eq b space) [
      | inl here ↦
          subst (λ x. Writes (ts ++ x ∷ bs) ws) (sym here)
          (at_space ts bs ws (ap (λ ps. words (prefixed ts ps)) (sym (pieces_separator space b bs here)) ∙ e) (λ vs. written_after bs [] vs))
      | inr other ↦
          subst (λ line. Writes line ws) (append_assoc ts (b ∷ []) bs)
          (written_after bs (ts ++ b ∷ []) ws
          (ap words (sym (prefixed_onto ts b (pieces space bs))) ∙ ap (λ ps. words (prefixed ts ps)) (sym (pieces_other space b bs other)) ∙ e))
    ]

-- hexadecimal digits hold no space
no_space : (text : List ℕ) → hexadecimal text ≡ true → Clear space text (length text)
no_space [] digits k low e = omega arith
no_space (t ∷ ts) digits zero low e =
    let first = (and_parts (ltb (digit_value t) 16) (hexadecimal ts) digits).0 in
    false≢true (subst (λ x. ltb (digit_value x) 16 ≡ true) e first)
no_space (t ∷ ts) digits (suc k) low e = no_space ts (and_parts (ltb (digit_value t) 16) (hexadecimal ts) digits).1 k (omega arith) e

some_test : (t : Bool) (x y : ℕ) → cond t (Some x) None ≡ Some y → t ≡ true
some_test true x y e = refl
some_test false x y e = cc

-- a word has digits, and no space among them
word_clear : (text : List ℕ) (w : ℕ) → word text ≡ Some w → (0 < length text) × Clear space text (length text)
word_clear text w e =
    let test = some_test _ (digits_value 16 text) w e in
    let p = and_parts (leb 1 (length text)) (leb (length text) most_digits && hexadecimal text) test in
    let q = and_parts (leb (length text) most_digits) (hexadecimal text) p.1 in
    (leb-true 1 (length text) p.0, no_space text q.1)

word_row : (text line : List ℕ) → 0 < length text → Clear space text (length text) → Apart line → row (text ++ line) ≡ before (word text) (row line)
word_row text [] some clear apart = ap row (append-nil text) ∙ ap words (one_piece space text some clear) ∙ words_push text [] some
word_row text (b ∷ bs) some clear apart =
    subst (λ x. row (text ++ x ∷ bs) ≡ before (word text) (row (x ∷ bs))) (sym apart) (ap words (piece_first space text bs clear) ∙ words_push text (pieces space bs) some)

read_back : {line ws : List ℕ} → Writes line ws → row line ≡ Some ws
read_back ends = refl
read_back (spaced h) = read_back h
read_back (worded text {line} {ws} {w} e apart h) =
    let p = word_clear text w e in word_row text line p.0 p.1 apart ∙ (λ i. before (e i) (read_back h i))

-- a line writes one row at most
pub writes_one : {line us ws : List ℕ} → Writes line us → Writes line ws → us ≡ ws
writes_one g h = let a = read_back g in let b = read_back h in cc

-- what is read is the row of the line
pub row_is : (line : List ℕ) (o : Option (List ℕ)) → o ≡ row line → RowOf line o
row_is line None e = λ ws h. let back = read_back h in cc
row_is line (Some ws) e = let h = written_after line [] ws (sym e) in exact (Writes line) ws h (λ us. writes_one h)
