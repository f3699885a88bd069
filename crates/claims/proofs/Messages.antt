-- The three calls on a dealing's pads open the message wanted: the law `opening` of `pads`, where the choice names the pad.
use Rattle.pads.proofs.Messages.Opening.{opening}
use Rattle.claims.specs.Messages.{Messages, SourceMessages}
use Rattle.claims.proofs.Entire.{of_dealing}
use Rattle.claims.proofs.Taken.{named}

pub source-messages : SourceMessages
source-messages S B F T = opening B F (λ k h. named S B.choices B.noise_pads B.scalar_pads k k (T k h))

pub messages : Messages
messages D = source-messages (of_dealing D)
