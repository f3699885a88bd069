-- Messages of the callers' own choosing (document 02, 1): on pads at equal indices of one accepted dealing, the three calls in
-- turn are accepted, and what is opened is exactly the message wanted.
use Rattle.pads.specs.Messages.Opening.{Batch, BatchFits, Opens}
use Rattle.claims.specs.Source.{Source, Binary}
use Rattle.claims.specs.Taken.{Dealing, outputs_of, Taken}

-- on pads of one source
abbrev pub MessagesOf : Source → Type 0
MessagesOf s = (B : Batch) → BatchFits B → Taken s B.count B.choices B.noise_pads B.scalar_pads → Opens B

abbrev pub Messages : Type 0
Messages = (D : Dealing) → MessagesOf (outputs_of D)

-- every source of field 1 opens the messages wanted
abbrev pub SourceMessages : Type 0
SourceMessages = (S : Binary) → MessagesOf S.source
