-- The call's number by its four lists of tests, and what the steps between them ask. Assumes nothing.
use mathlib.Core.Path.{◌≡◌, refl}
use mathlib.Core.List.{List, []}
use mathlib.Core.Logic.{⊎_elim}
use Prim.Native.Nat.{ℕ, ◌^◌, ◌≤◌}
use native.Mathlib.Omega.{arith}
use lib.ListN.{length, get_or}
use lib.Pow.{pow_mono}
use Rattle.algebra.proofs.Rising.{rises}
use Rattle.answer.specs.Tests.{first_fault}
use Rattle.answer.proofs.Faults.{admitted_by, fault_before, fault-after}
use Rattle.record.specs.Inner.Lengths.{Writable, head_length}
use Rattle.record.specs.declared.Layout.{Layout}
use Rattle.dealing.specs.Admitted.{Admitted}
use Rattle.dealing.specs.Input.{Input, size_tests, length_tests, content_tests}
use Rattle.dealing.specs.Inner.Steps.{input_from, Lengths, Measured, measured_tests, deal_number}
use Rattle.dealing.proofs.Faults.{admitted, size_says}
use Rattle.dealing.proofs.Lengths.{noise-bytes, scalar-bytes}
use Rattle.dealing.proofs.Positions.{rise_from}

-- the sizes and the lengths are right
pub content-lengths : (f : Layout) (roots positions values delta key label : List ℕ) {l : ℕ}
    → l ≡ first_fault (length_tests (input_from f roots positions values delta key label)) → l ≡ 0
    → {s : ℕ} → s ≡ first_fault (size_tests (input_from f [] [] [] [] [] [])) → s ≡ 0
    → Lengths f (length positions) (length values) (length delta)
content-lengths f roots positions values delta key label {l} lengths long {s} sizes whole =
    let m = admitted_by _ l refl lengths long in
    record {
      depth = (size_says 16 f.depth (search (admitted_by _ s refl sizes whole))).1;
      position-count = search m;
      value-count = search m;
      delta-bytes = search m;
    }

module _ (f : Layout) (roots positions values delta key label : List ℕ) where
  abbrev I : Input
  I = input_from f roots positions values delta key label

  -- the head's body begins after it
  abbrev pub Begins : Type 0
  Begins = f.body ≡ head_length f.depth f.branch_bits f.trees f.terms f.outputs

  pub writable : Admitted I → Begins → Writable f
  writable A begins =
      let small : 2 ^ f.depth ≤ 65536 = pow_mono A.depth.1 in
      record {
        field = ⊎_elim (λ e. omega arith) (λ e. omega arith) A.field;
        depth = A.depth.1;
        branch_least = A.branch.0;
        branch-most = A.branch.1;
        trees = A.trees.1;
        terms = A.terms.1;
        outputs = omega (arith, A.outputs.1, small);
        body = begins;
      }

  measured : Admitted I → Begins → Measured f positions
  measured A begins =
      record {
        writable = writable A begins;
        few = omega (arith, A.positions, A.trees.1);
        rising =
            rise_from (2 ^ f.depth) 0 positions (λ i h. A.below i (omega (arith, A.positions)))
            (λ i h. rises f.trees (λ i. get_or positions i 0) A.rising i (omega (arith, A.positions))) (λ h. omega arith);
      }

  -- ---- the number

  module _ {s : ℕ} (sizes : s ≡ first_fault (size_tests I)) where
    pub number-sizes : (a b : ℕ) → (s ≡ 0 → ⊥) → s ≡ deal_number I a b
    unfolding deal_number
    number-sizes a b h = fault_before (size_tests I) _ s sizes h

    module _ (whole : s ≡ 0) {l : ℕ} (lengths : l ≡ first_fault (length_tests I)) where
      pub number-lengths : (a b : ℕ) → (l ≡ 0 → ⊥) → l ≡ deal_number I a b
      unfolding deal_number
      number-lengths a b h = fault-after (size_tests I) _ s l refl sizes whole (fault_before (length_tests I) _ l lengths h)

      module _ (long : l ≡ 0) where
        module _ {c : ℕ} (content : c ≡ first_fault (content_tests I)) where
          pub number-content : (a b : ℕ) → (c ≡ 0 → ⊥) → c ≡ deal_number I a b
          unfolding deal_number
          number-content a b h =
              fault-after (size_tests I) _ s c refl sizes whole
              (fault-after (length_tests I) _ l c refl lengths long (fault_before (content_tests I) _ c content h))

          module _ (right : c ≡ 0) (begins : Begins) where
            A : Admitted I
            A =
                admitted I (admitted_by (size_tests I) s refl sizes whole) (admitted_by (length_tests I) l refl lengths long)
                (admitted_by (content_tests I) c refl content right)

            pub number_rooms : (a b k : ℕ) → k ≡ first_fault (measured_tests f positions a b) → k ≡ deal_number I a b
            unfolding deal_number
            number_rooms a b k e =
                fault-after (size_tests I) _ s k refl sizes whole
                (fault-after (length_tests I) _ l k refl lengths long
                (fault-after (content_tests I) _ c k refl content right (rw (noise-bytes I A begins, scalar-bytes I A begins) at e)))

-- the content is right too
pub number_measured : (f : Layout) (roots positions values delta key label : List ℕ) {l : ℕ}
    → l ≡ first_fault (length_tests (input_from f roots positions values delta key label)) → l ≡ 0
    → {c : ℕ} → c ≡ first_fault (content_tests (input_from f [] positions values delta [] [])) → c ≡ 0
    → {s : ℕ} → s ≡ first_fault (size_tests (input_from f [] [] [] [] [] [])) → s ≡ 0
    → Begins f roots positions values delta key label → Measured f positions
number_measured f roots positions values delta key label lengths long content right sizes whole begins =
    measured f roots positions values delta key label (A f roots positions values delta key label sizes whole lengths long content right begins) begins
