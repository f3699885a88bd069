-- What a refused pad call gives: the number of its first fault, and all that is lent as it was.
use mathlib.Core.Path.{◌≡◌}
use mathlib.Core.Bool.{false}
use mathlib.Core.List.{List}
use Prim.Native.Nat.{ℕ, ◌+◌, ◌*◌, ◌≤◌, ◌<◌}
use lib.Dec.{eqb}
use lib.ListN.{length}
use Rattle.answer.specs.Numbers.{buffer_short}
use Rattle.answer.specs.Tests.{first_fault}
use Rattle.answer.specs.Outcome.{outcome_none}
use Rattle.answer.proofs.Faults.{chain}
use Rattle.answer.proofs.Answers.{refused_none_lem}
use Rattle.pads.specs.Pad.{Rule}
use Rattle.pads.specs.Calls.{lent_noise, lent_scalar, noise_tests, scalar_tests, noise_pads_by, scalar_pads_by}

pub noise-refused : (rule : Rule) (first count : ℕ) (v choices pads : List ℕ) (n : ℕ)
    → n ≡ first_fault (noise_tests first count v choices (length pads)) → eqb n 0 ≡ false
    → outcome_none n (lent_noise v choices pads) ≡ noise_pads_by rule first count v choices pads
unfolding noise_pads_by
noise-refused rule first count v choices pads n e h = refused_none_lem (lent_noise v choices pads) _ n e h _

pub scalar-refused : (rule : Rule) (first count : ℕ) (w delta pads : List ℕ) (n : ℕ)
    → n ≡ first_fault (scalar_tests first count w delta (length pads)) → eqb n 0 ≡ false
    → outcome_none n (lent_scalar w delta pads) ≡ scalar_pads_by rule first count w delta pads
unfolding scalar_pads_by
scalar-refused rule first count w delta pads n e h = refused_none_lem (lent_scalar w delta pads) _ n e h _

-- a buffer that is too short gives 13, whatever the choices
pub room-first : (first count : ℕ) (v choices : List ℕ) (room : ℕ) → length v ≡ 16 * count → length choices ≡ count → first + count ≤ 32768
    → room < 16 * count → buffer_short ≡ first_fault (noise_tests first count v choices room)
room-first first count v choices room size bits window short = search chain depth 9
