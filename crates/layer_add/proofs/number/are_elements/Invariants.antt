-- The words left decide; the measure is how many are left.
use Rattle.std.proofs.Common.{◌≡◌, ℕ, length}
use Rattle.std.specs.Prelude.{ltb}
use Rattle.std.specs.List.{list_all}
use Rattle.prime.specs.Prime.{modulus}
use Rattle.layer_add.proofs.number.are_elements.Given as goal

abbrev pub invariant-loop-rest : goal.invariant-loop-rest
invariant-loop-rest l = list_all (λ (word : ℕ). ltb word modulus) l.fn.words ≡ list_all (λ (word : ℕ). ltb word modulus) l.rest

abbrev pub decreases-loop-rest : goal.decreases-loop-rest
decreases-loop-rest l = length l.rest
