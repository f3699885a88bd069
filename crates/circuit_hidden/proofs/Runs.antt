-- Finished runs in rounds and in steps are transcripts, and show no more than the opened outputs. Assumes nothing.
use Rattle.circuit.proofs.Exact.{admitted}
use Rattle.circuit_hidden.proofs.Hiding.{hides}
use Rattle.circuit_hidden.proofs.Rounds.{in-rounds}
use Rattle.circuit_hidden.proofs.Steps.{in-steps}
use Rattle.circuit_hidden.specs.Hidden.{HiddenRounds, HiddenSteps}
use Rattle.circuit_hidden.specs.Run.{Transcripts}

pub transcripts : Transcripts
transcripts = record { rounds = λ circuit c read. (in-rounds circuit c read).told; steps = λ circuit c read. (in-steps circuit c read).told }

pub hidden-rounds : HiddenRounds
hidden-rounds circuit c read = hides (in-rounds circuit c read) (admitted circuit c read)

pub hidden-steps : HiddenSteps
hidden-steps circuit c read = hides (in-steps circuit c read) (admitted circuit c read)
