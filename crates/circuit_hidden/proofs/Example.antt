-- The run counted out, by computation. Assumes nothing.
use mathlib.Core.Path.{refl}
use Rattle.circuit.specs.Content.{ands_in}
use Rattle.circuit.specs.Value.{gate_value, over_gates, value_of}
use Rattle.circuit_claims.specs.Evaluation.{combined}
use Rattle.circuit_claims.specs.Transcript.{share_with_far, share_at, wire_shares}
use Rattle.circuit_run.specs.Step.{masked_first, masked_second, and_share}
use Rattle.circuit_hidden.specs.Example.{begins_with, bit_lists, fitting, CountedOut}

pub counted-out : CountedOut
unfolding ands_in gate_value over_gates value_of combined share_with_far share_at wire_shares masked_first masked_second and_share begins_with bit_lists fitting
counted-out =
    record { inputs = refl; results = refl; own = refl; opened = refl; none-opened = refl; own-once = refl; once = refl }
