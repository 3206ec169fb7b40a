-- The whole memory: the questions that making one asks, and what its fields mean.
use Rattle.std.specs.Prelude.{◌≡◌, ℕ, ◌*◌, ◌≤◌, ◌↔◌, List, Ok, Err, Result}
use Rattle.memo.specs.declared.whole.WholeMemory.{WholeMemory}
use Rattle.memo.specs.declared.whole.Refusal.{Refusal}
use Rattle.memo.specs.declared.whole.Refusal.TheVariants.{Size, Words}
use Rattle.memo.specs.Tables.{Table, Empty}
use Rattle.memo.specs.Layout.{rows, Beyond}

-- the number of each refusal
abbrev pub number : Refusal → ℕ
number Size = 15
number Words = 16

-- question 15: P is 1 to 65,536 and Q is 1 to 64
abbrev pub Sized : ℕ → ℕ → Type 0
Sized P Q = (1 ≤ P) × (P ≤ 65536) × (1 ≤ Q) × (Q ≤ 64)

-- question 16: there are 16 words for each place and rule
abbrev pub Roomy : ℕ → ℕ → ℕ → Type 0
Roomy P Q n = 16 * (P * Q) ≤ n

-- the answer was a refusal with this number
abbrev pub Refuses : Result Unit Refusal → ℕ → Type 0
Refuses (Ok x) n = ⊥
Refuses (Err e) n = number e ≡ n

-- the answer was yes
abbrev pub Accepts : Result Unit Refusal → Type 0
Accepts (Ok x) = Unit {0}
Accepts (Err e) = ⊥

-- the first question answered no gives its number
pub record Asked (P Q n : ℕ) (r : Result Unit Refusal) : Type 0 where
  pub sizes : Refuses r 15 ↔ (Sized P Q → ⊥)
  pub words : Refuses r 16 ↔ (Sized P Q × (Roomy P Q n → ⊥))
  pub made : Accepts r ↔ (Sized P Q × Roomy P Q n)

-- the words that a whole memory holds
abbrev pub words_of : WholeMemory → List ℕ
words_of s = s.words.now

-- its P and Q
abbrev pub p_of : WholeMemory → ℕ
p_of s = s.places

abbrev pub q_of : WholeMemory → ℕ
q_of s = s.rules

-- and its table
abbrev pub table_of : WholeMemory → Table
table_of s = rows (words_of s) (p_of s) (q_of s)

-- the words that are its own: the first 16 × P × Q
abbrev pub own : WholeMemory → ℕ
own s = 16 * (p_of s * q_of s)

-- a memory for P places and Q rules that holds no row, in the words ws: those beyond its own are as they were
pub record Makes (P Q : ℕ) (ws : List ℕ) (s : WholeMemory) : Type 0 where
  pub places : p_of s ≡ P
  pub rules : q_of s ≡ Q
  pub empty : Empty (table_of s)
  pub beyond : Beyond (own s) ws (words_of s)

-- what making hands back: as asked after a yes; after a no P and Q are 0, and the words untouched
abbrev pub Hands : Result Unit Refusal → ℕ → ℕ → List ℕ → WholeMemory → Type 0
Hands (Ok x) P Q ws s = Makes P Q ws s
Hands (Err e) P Q ws s = Makes 0 0 ws s × (words_of s ≡ ws)
