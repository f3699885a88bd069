-- What the call's steps ask where its number is 0, and what it then answers. Assumes nothing.
use mathlib.Core.Path.{◌≡◌, refl, ap, ◌∙◌}
use mathlib.Core.List.{List}
use Prim.Native.Nat.{ℕ, ◌+◌, ◌≤◌}
use native.Mathlib.Nat.{zero-add}
use native.Mathlib.Omega.{arith}
use lib.ListN.{length}
use Rattle.answer.specs.Outcome.{TwoWritten, wrote}
use Rattle.answer.proofs.Answers.{accepted_now}
use Rattle.answer.proofs.Faults.{admitted_by}
use Rattle.field.specs.ByNumber.{element_of}
use Rattle.field.specs.Inner.Elements.{element_length, element_at}
use Rattle.field.specs.declared.element.Element.{Element}
use Rattle.field.proofs.Elements.{at_words}
use Rattle.number.specs.Inner.Written.{Room, Wrote}
use Rattle.record.specs.Inner.Heads.{scalar_with}
use Rattle.record.specs.Inner.Lengths.{Writable, head_length}
use Rattle.record.specs.declared.Layout.{Layout}
use Rattle.record.specs.Writing.{write_scalar}
use Rattle.dealing.specs.Admitted.{Admitted}
use Rattle.dealing.specs.Deal.{lent_deal, deal}
use Rattle.dealing.specs.Input.{Input, words_of, delta_words}
use Rattle.dealing.specs.Inner.Steps.{deal_number, input_from, layout_for}
use Rattle.dealing_call.specs.Inner.Steps.{NoisePlaced, ScalarPlaced}
use Rattle.dealing.proofs.Laws.{noise_writing, scalar_writing, tests-accepted, tests_say}
use Rattle.dealing.proofs.Lengths.{roots-blocks}
use Rattle.dealing.proofs.Tests.{delta-room}
use Rattle.dealing_call.proofs.Written.{sets-front}
use Rattle.dealing.proofs.Number.{writable}

-- the scalar record as it is written: its roots are blocks of the input
abbrev scalar_bytes : Input → List ℕ
scalar_bytes I = write_scalar (scalar_with (layout_for I 0) I.code_key I.label (delta_words I) I.roots)

scalar-same : (I : Input) → Admitted I → scalar_bytes I ≡ scalar_writing I
scalar-same I A = rw (roots-blocks I A)

-- both records written
pub deal_done : (I : Input) (a b : List ℕ) {x y : ℕ} {a₁ b₁ : List ℕ} → 0 ≡ deal_number I (length a) (length b)
    → Wrote a 0 (noise_writing I) x a₁ → Wrote b 0 (scalar_bytes I) y b₁
    → wrote {Written = TwoWritten} (record { first_written = x; second_written = y }) (lent_deal I a₁ b₁) ≡ deal I a b
unfolding deal deal_number
deal_done I a b tested w v =
    let A = tests-accepted I a b (admitted_by _ 0 refl tested refl) in
    let v' : Wrote b 0 (scalar_writing I) _ _ = rw (scalar-same I A.admitted) at v in
    accepted_now _ _ _ _ tested
    (wrote-same (w.place ∙ zero-add _) (v'.place ∙ zero-add _) (w.stored ∙ sets-front (noise_writing I) a A.noise-room)
    (v'.stored ∙ sets-front (scalar_writing I) b A.scalar-room))
  where
    wrote-same : {x y p q : ℕ} {a₁ b₁ c d : List ℕ} → x ≡ p → y ≡ q → a₁ ≡ c → b₁ ≡ d
        → wrote {Written = TwoWritten} (record { first_written = x; second_written = y }) (lent_deal I a₁ b₁)
        ≡ wrote (record { first_written = p; second_written = q }) (lent_deal I c d)
    wrote-same e g h k = rw (e, g, h, k)

module _ (f : Layout) (roots positions values delta key label : List ℕ) where
  abbrev I : Input
  I = input_from f roots positions values delta key label

  -- the head's body begins after it
  abbrev Begins : Type 0
  Begins = f.body ≡ head_length f.depth f.branch_bits f.trees f.terms f.outputs

  module _ (noise_room scalar_room : ℕ) (tested : 0 ≡ deal_number I noise_room scalar_room) where
    dealt : Admitted I × (length (noise_writing I) ≤ noise_room) × (length (scalar_writing I) ≤ scalar_room)
    unfolding deal_number
    dealt = tests_say I noise_room scalar_room (admitted_by _ 0 refl tested refl)

    whole : Begins → Writable f
    whole = writable f roots positions values delta key label dealt.0

    pub noise-placed : Begins → NoisePlaced f I noise_room
    noise-placed begins = record { writable = whole begins; admitted = dealt.0; room = dealt.1 }

    pub scalar-placed : Begins → ScalarPlaced f key label delta roots scalar_room
    scalar-placed begins =
        let A = dealt.0 in
        record {
          writable = whole begins;
          key-bytes = A.code_key;
          label-bytes = A.label;
          delta-bytes = A.delta;
          root-bytes = A.roots;
          room = omega (arith, ap length (scalar-same I A), dealt.2);
        }

-- ---- the scalar record

module _ (f : Layout) (key label delta roots out : List ℕ) (P : ScalarPlaced f key label delta roots (length out)) where
  pub scalar-room : 0 + element_length f.field ≤ length delta
  scalar-room = delta-room f.field delta P.delta-bytes

  module _ {e : Element} (read : e ≡ element_at f.field delta 0) where
    -- Δ's words are those that are read
    same : write_scalar (scalar_with f key label (element_of f.field e.low e.high) roots)
        ≡ write_scalar (scalar_with f key label (words_of f.field delta) roots)
    same = ap (λ (ws : List ℕ). write_scalar (scalar_with f key label ws roots)) (at_words f.field delta 0 read)

    pub scalar_fits : Room out 0 (write_scalar (scalar_with f key label (element_of f.field e.low e.high) roots))
    scalar_fits = record { fits = omega (arith, P.room, ap length same) }

    pub scalar-wrote : {next : ℕ} {out₁ : List ℕ} → Wrote out 0 (write_scalar (scalar_with f key label (element_of f.field e.low e.high) roots)) next out₁
        → Wrote out 0 (write_scalar (scalar_with f key label (words_of f.field delta) roots)) next out₁
    scalar-wrote w = rw same at w
