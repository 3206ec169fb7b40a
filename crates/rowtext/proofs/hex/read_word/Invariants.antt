use Rattle.std.proofs.Common.{◌≡◌, ◌^◌, ◌<◌, drop}
use Rattle.rowtext.proofs.Digits.{word_after}
use Rattle.rowtext.proofs.hex.read_word.Given as goal

abbrev pub invariant-loop-byte : goal.invariant-loop-byte
invariant-loop-byte l = (word_after l.word (drop l.byte-index l.text) ≡ word_after 0 l.text) × (l.word < 16 ^ l.byte-index)
