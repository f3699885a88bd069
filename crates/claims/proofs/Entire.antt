-- The inhabitants of the statements about the calls of document 01 together: records, demand 3 entire, and what is accepted.
use mathlib.Core.Path.{◌≡◌, sym, ◌∙◌}
use mathlib.Core.List.{List, []}
use Prim.Native.Nat.{ℕ, ◌+◌, ◌*◌}
use lib.ListN.{length}
use Rattle.answer.proofs.Faults.{at-most, fault_later, fault_nowhere}
use Rattle.dealing.proofs.Laws as dealing
use Rattle.dealing.specs.Deal.{deal}
use Rattle.dealing.specs.Input.{Input}
use Rattle.dealing.specs.Vectors.{field}
use Rattle.ends.proofs.noise.Laws as noise_laws
use Rattle.record.proofs.Laws as records
use Rattle.ends.proofs.scalar.Laws as scalar_laws
use Rattle.claims.specs.Acceptance.{Acceptance}
use Rattle.claims.specs.Correlation.{Outputs, Pads, Demand3}
use Rattle.claims.specs.Records.{Records}
use Rattle.claims.specs.Source.{Binary, dealt_by}
use Rattle.claims.specs.Taken.{Dealing}
use Rattle.claims.proofs.Lists.{noise-number, scalar-number, lists}
use Rattle.claims.proofs.Outputs.{admitted-correlated}
use Rattle.claims.proofs.Pads.{pads_of}

pub record_laws : Records
record_laws =
    record {
      noise-back = λ I M a b z. dealing.noise-reads I a b z M;
      scalar-back = λ I M a b z. dealing.scalar-reads I a b z M;
      noise-one = λ s h p e. records.noise-exact s h e;
      scalar-one = λ s h p e. records.scalar-exact s h e;
      noise-accepted = records.noise-reads;
      scalar-accepted = records.scalar-reads;
      one_end = λ s p q e f. records.one_end s e f;
    }

pub outputs : Outputs
outputs I a b z x h = admitted-correlated I (dealing.deal-number I a b z).admitted x

-- an accepted dealing of field 1 is a source
abbrev pub dealt-source : (I : Input) → I.field ≡ 1 → (a b : List ℕ) → (deal I a b).number ≡ 0 → Binary
dealt-source I one a b z = record { source = dealt_by I; binary = one; correlates = outputs I a b z }

abbrev pub of_dealing : Dealing → Binary
of_dealing D = dealt-source D.input D.binary D.noise_record D.scalar_record D.dealt

pub pads : Pads
pads I one a b z = pads_of (dealt-source I one a b z)

pub demand3 : Demand3
demand3 = record { outputs = outputs; lists = lists; pads = pads }

pub acceptance : Acceptance
acceptance =
    record {
      dealing = λ I a b. (
        (λ h. dealing.deal-accepted I a b (record { admitted = h.0; noise-room = h.1; scalar-room = h.2 })),
        (λ z. let A = dealing.deal-number I a b z in (A.admitted, A.noise-room, A.scalar-room)),
      );
      noise-offline = λ I M a b z noise v h k. (noise_laws.offline-accepts _ noise v (dealing.noise-reads I a b z M) h k).number;
      scalar-offline = λ I M a b z w delta h k. (scalar_laws.offline-accepts _ w delta (dealing.scalar-reads I a b z M) h k).number;
      noise-window = λ S c a h k.
          noise-number S c
          ∙ sym (fault_later _ _ _ 0 (at-most (c.first + c.count) S.input.outputs a)
          (fault_later _ _ _ 0 (at-most c.count (length c.out.u_out) h)
          (fault_later _ _ [] 0 (at-most (c.count * (field S.input).elements.width) (length c.out.v_out) k) fault_nowhere)));
      scalar-window = λ S c a h.
          scalar-number S c
          ∙ sym (fault_later _ _ _ 0 (at-most (c.first + c.count) S.input.outputs a)
          (fault_later _ _ [] 0 (at-most (c.count * (field S.input).elements.width) (length c.out) h) fault_nowhere));
    }
