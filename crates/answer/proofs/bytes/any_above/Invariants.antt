-- `answer::bytes::any_above`: the largest byte passed and the bytes left decide.
use Rattle.std.proofs.Common.{◌≡◌, ltb, ◌||◌, drop}
use Rattle.answer.specs.Bytes.{any_above}
use Rattle.answer.proofs.bytes.any_above.Given as goal

abbrev pub invariant-loop-byte : goal.invariant-loop-byte
invariant-loop-byte l = any_above l.limit l.bytes ≡ ltb l.limit l.most || any_above l.limit (drop l.byte-index l.bytes)
