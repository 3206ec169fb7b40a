-- What the texts in lent buffers mean.
use Rattle.std.specs.Prelude.{◌≡◌, ℕ, max, List, length, take, drop}
use Rattle.text.specs.declared.buffer.Buffer.{Buffer}
use Rattle.text.specs.declared.fixed.FixedBytes.{FixedBytes}

-- the text of fixed bytes: as many from the start as its size says, which are at most those that are there
abbrev pub fixed_text : FixedBytes → List ℕ
fixed_text s = take s.size s.bytes.now

-- fixed bytes have no room for more
abbrev pub fixed_room : FixedBytes → ℕ
fixed_room s = length (fixed_text s)

-- a buffer's capacity: what was set at its making; there are at least as many places
abbrev pub buffer_room : {E : Type 0} → Buffer E → ℕ
buffer_room s = s.capacity

-- a buffer's text: as many elements from its start as its size says, which is at most its capacity
abbrev pub buffer_text : {E : Type 0} → Buffer E → List E
buffer_text s = take s.size s.places.now

-- What a change leaves in the places from the new size on is undecided. Known is that there are as many places as before,
-- and that those that neither the old nor the new text uses are as they were.
abbrev pub UnusedUndecided : {E : Type 0} → Buffer E → Buffer E → Type 0
UnusedUndecided s t = (length t.places.now ≡ length s.places.now) × (drop (max (length (buffer_text s)) (length (buffer_text t))) t.places.now ≡ drop (max (length (buffer_text s)) (length (buffer_text t))) s.places.now)
