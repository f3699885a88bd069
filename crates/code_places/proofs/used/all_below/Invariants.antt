-- `code_places::used::all_below`: the words left decide; the measure is how many are left.
use Rattle.std.proofs.Common.{◌≡◌, ℕ, length}
use Rattle.std.specs.Prelude.{ltb}
use Rattle.std.specs.List.{list_all}
use Rattle.code.specs.Inner.Used.{all_below}
use Rattle.code_places.proofs.used.all_below.Given as goal

abbrev pub invariant-loop-rest : goal.invariant-loop-rest
invariant-loop-rest l = all_below l.bound l.fn.words ≡ list_all (λ (word : ℕ). ltb word l.bound) l.rest

abbrev pub decreases-loop-rest : goal.decreases-loop-rest
decreases-loop-rest l = length l.rest
