-- The second pass over a gate or a wire that was accepted: no test of its reading can fail. Assumes nothing.
use Prim.Native.Nat.{ℕ, ◌<◌}
use mathlib.Core.Bool.{true}
use mathlib.Core.List.{List}
use mathlib.Core.Path.{◌≡◌, sym, ap, ◌∙◌, subst}
use borrow.Author.Tests.{ne_eqb}
use Rattle.number.proofs.Places.{whole_is, whole_of}
use Rattle.number.specs.Number.{read_number}
use Rattle.number.specs.Reading.{Whole}
use Rattle.number.specs.Inner.Known.{is_whole}
use Rattle.circuit.proofs.Fields.{GateParts, one, two, gate_parts, within_parts, wire_parts}
use Rattle.circuit.specs.Content.{Gate, Xor, And, Not}
use Rattle.circuit.specs.Reading.{read_within, read_wire, read_gate}

-- a field whose number is known
same-within : (least most : ℕ) (s : List ℕ) (at : ℕ) {y z : ℕ × ℕ} → read_within least most s at ≡ Whole z → Whole y ≡ read_number s at
    → read_within least most s at ≡ Whole y
same-within least most s at {y} {z} e f =
    let p : y ≡ z = whole_is (f ∙ (within_parts least most s at e).0) in
    e ∙ ap (λ (x : ℕ × ℕ). Whole x) (sym p)

same_wire : (limit : ℕ) (s : List ℕ) (at : ℕ) {y z : ℕ × ℕ} → read_wire limit s at ≡ Whole z → Whole y ≡ read_number s at → read_wire limit s at ≡ Whole y
same_wire limit s at {y} {z} e f =
    let p : y ≡ z = whole_is (f ∙ (wire_parts limit s at e).0) in
    e ∙ ap (λ (x : ℕ × ℕ). Whole x) (sym p)

-- ---- a wire

module _ (limit : ℕ) (s : List ℕ) (at : ℕ) (known : is_whole (read_wire limit s at) ≡ true) where
  pub known-wire : is_whole (read_number s at) ≡ true
  known-wire = let z = whole_of (read_wire limit s at) known in ap is_whole (wire_parts limit s at z.1).0

  module _ {w next : ℕ} (number : Whole (w, next) ≡ read_number s at) where
    pub wire_known : Whole (w, next) ≡ read_wire limit s at
    wire_known = sym (same_wire limit s at (whole_of (read_wire limit s at) known).1 number)

    pub wire_known-below : w < limit
    wire_known-below = (wire_parts limit s at (sym wire_known)).1

-- ---- a gate

module _ (wire : ℕ) (s : List ℕ) (at : ℕ) (known : is_whole (read_gate wire s at) ≡ true) where
  gate : (z : Gate × ℕ) × (read_gate wire s at ≡ Whole z)
  gate = whole_of (read_gate wire s at) known

  parts : GateParts wire s at gate.0.0 gate.0.1
  parts = gate_parts wire s at gate.1

  pub known-kind : is_whole (read_number s at) ≡ true
  known-kind = of parts
    where
      of : {g : Gate} {next : ℕ} → GateParts wire s at g next → is_whole (read_number s at) ≡ true
      of (one a at1 e f z) = ap is_whole (within_parts 1 3 s at e).0
      of (two kind a b at1 at2 n e f h z) = ap is_whole (within_parts 1 3 s at e).0

  module _ {k at1 : ℕ} (kind : Whole (k, at1) ≡ read_number s at) where
    -- the gate's first wire stands after its kind
    first_field : (z : ℕ × ℕ) × (read_within 1 3 s at ≡ Whole (k, at1)) × (read_wire wire s at1 ≡ Whole z)
    first_field = of parts
      where
        moved : (k' at1' : ℕ) {z : ℕ × ℕ} → read_within 1 3 s at ≡ Whole (k', at1') → read_wire wire s at1' ≡ Whole z → read_wire wire s at1 ≡ Whole z
        moved k' at1' {z} e f =
            subst (λ (p : ℕ × ℕ). read_wire wire s p.1 ≡ Whole z) {x = (k', at1')} {y = (k, at1)} (sym (whole_is (kind ∙ (within_parts 1 3 s at e).0))) f

        of : {g : Gate} {next : ℕ} → GateParts wire s at g next → (z : ℕ × ℕ) × (read_within 1 3 s at ≡ Whole (k, at1)) × (read_wire wire s at1 ≡ Whole z)
        of {g} {next} (one a at1' e f z) = ((a, next), same-within 1 3 s at e kind, moved 3 at1' e f)
        of (two k' a b at1' at2 n e f h z) = ((a, at2), same-within 1 3 s at e kind, moved k' at1' e f)

    pub known-first : is_whole (read_number s at1) ≡ true
    known-first = ap is_whole (wire_parts wire s at1 first_field.2).0

    module _ {a at2 : ℕ} (first : Whole (a, at2) ≡ read_number s at1) where
      first_is : read_wire wire s at1 ≡ Whole (a, at2)
      first_is = same_wire wire s at1 first_field.2 first

      pub known-first-below : a < wire
      known-first-below = (wire_parts wire s at1 first_is).1

      pub known-not : k ≡ 3 → Whole (Not a, at2) ≡ read_gate wire s at
      unfolding read_gate
      known-not e = simp (first_field.1, first_is, e)

      module _ (n : k ≡ 3 → ⊥) where
        second-field : (z : ℕ × ℕ) × (read_wire wire s at2 ≡ Whole z)
        second-field = of parts
          where
            of : {g : Gate} {next : ℕ} → GateParts wire s at g next → (z : ℕ × ℕ) × (read_wire wire s at2 ≡ Whole z)
            of (one a' at1' e f z) = absurd (n (ap (λ (p : ℕ × ℕ). p.0) (whole_is (kind ∙ (within_parts 1 3 s at e).0))))
            of {g} {next} (two k' a' b at1' at2' m e f h z) =
                let p : ◌≡◌ {A = ℕ × ℕ} (k, at1) (k', at1') = whole_is (kind ∙ (within_parts 1 3 s at e).0) in
                let f' : read_wire wire s at1 ≡ Whole (a', at2') = subst (λ (p : ℕ × ℕ). read_wire wire s p.1 ≡ Whole (a', at2')) {x = (k', at1')} {y = (k, at1)} (sym p) f in
                let q : ◌≡◌ {A = ℕ × ℕ} (a, at2) (a', at2') = whole_is (sym first_is ∙ f') in
                ((b, next), subst (λ (p : ℕ × ℕ). read_wire wire s p.1 ≡ Whole (b, next)) {x = (a', at2')} {y = (a, at2)} (sym q) h)

        pub known-second : is_whole (read_number s at2) ≡ true
        known-second = ap is_whole (wire_parts wire s at2 second-field.1).0

        module _ {b at3 : ℕ} (second : Whole (b, at3) ≡ read_number s at2) where
          second_is : read_wire wire s at2 ≡ Whole (b, at3)
          second_is = same_wire wire s at2 second-field.1 second

          pub known-second-below : b < wire
          known-second-below = (wire_parts wire s at2 second_is).1

          pub known_xor : k ≡ 1 → Whole (Xor a b, at3) ≡ read_gate wire s at
          unfolding read_gate
          known_xor e = simp (first_field.1, first_is, ne_eqb _ _ n, second_is, e)

          pub known_and : (k ≡ 1 → ⊥) → Whole (And a b, at3) ≡ read_gate wire s at
          unfolding read_gate
          known_and m = simp (first_field.1, first_is, ne_eqb _ _ n, second_is, ne_eqb _ _ m)
