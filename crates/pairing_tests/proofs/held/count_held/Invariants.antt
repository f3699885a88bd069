-- The loop of `pairing_tests::held::count_held`: `held` counts the outputs passed that hold, and so is at most their number.
use Rattle.std.proofs.Common.{◌≡◌, ◌≤◌}
use Rattle.field.specs.Kind.{kind_of}
use Rattle.pairing_tests.specs.Inner.Steps.{held_words}
use Rattle.pairing_tests.proofs.held.count_held.Given as goal

abbrev pub invariant-loop-x : goal.invariant-loop-x
invariant-loop-x l = record { few : l.held ≤ l.x; counted : l.held ≡ held_words (kind_of l.field).field l.delta l.u l.v l.w l.x }
