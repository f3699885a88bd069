-- Each return of `read_circuit` gives what the definition says there. Assumes nothing.
use Prim.Native.Nat.{ℕ, ◌+◌, ◌-◌, ◌≤◌, ◌<◌}
use mathlib.Core.List.{List}
use mathlib.Core.Path.{◌≡◌, refl, sym, ap, ◌∙◌}
use borrow.Author.Tests.{lt-ltb, le-ltb}
use native.Mathlib.Omega.{arith}
use native.Mathlib.Nat.{zero-add}
use lib.ListN.{length}
use mir.Syntax.{w64}
use mir.Val.{Fits}
use Rattle.number.proofs.Places.{refused-whole, whole_is}
use Rattle.number.specs.Reading.{Whole, Refused, Parsed}
use Rattle.circuit.proofs.Fields.{within_parts}
use Rattle.circuit.proofs.Lists.{gates-length, wires-length}
use Rattle.circuit.specs.Content.{Gate, Circuit, ands_in}
use Rattle.circuit.specs.Inner.GateNumbers.{counted_ands, placed}
use Rattle.circuit.specs.Answer.{content, circuit_of, HasLayout}
use Rattle.circuit.specs.Reading.{read_within, read_gates, read_wires, read_circuit}
use Rattle.circuit.specs.declared.Layout.{Layout}

counted-refused : (n : ℕ) (x : Parsed (List Gate)) {k : ℕ} → Refused k ≡ counted_ands n x → x ≡ Refused k
counted-refused n (Whole r) e = absurd (refused-whole e refl)
counted-refused n (Refused j) e = cc

counted-whole : (n : ℕ) (x : Parsed (List Gate)) {a end : ℕ} → Whole (a, end) ≡ counted_ands n x → (gs : List Gate) × (x ≡ Whole (gs, end)) × (a ≡ n + ands_in gs)
counted-whole n (Whole r) e = let z = whole_is e in (r.0, ap (λ (p : ℕ × ℕ). Whole (r.0, p.1)) (sym z), ap (λ (p : ℕ × ℕ). p.0) z)
counted-whole n (Refused j) e = absurd (refused-whole refl (sym e))

placed-refused : (x : Parsed (List ℕ)) {k : ℕ} → Refused k ≡ placed x → x ≡ Refused k
placed-refused (Whole r) e = absurd (refused-whole e refl)
placed-refused (Refused j) e = cc

placed-whole : (x : Parsed (List ℕ)) {end : ℕ} → Whole end ≡ placed x → (ws : List ℕ) × (x ≡ Whole (ws, end))
placed-whole (Whole r) e = (r.0, ap (λ (n : ℕ). Whole (r.0, n)) (sym (whole_is e)))
placed-whole (Refused j) e = absurd (refused-whole refl (sym e))

abbrev pub layout_with : ℕ → ℕ → ℕ → ℕ → ℕ → ℕ → Layout
layout_with inputs gates outputs ands body tail =
    record { inputs = inputs; gates = gates; outputs = outputs; ands = ands; body = body; tail = tail }

module _ (s : List ℕ) where
  pub fault_0 : {k : ℕ} → Refused k ≡ read_within 1 4096 s 0 → read_circuit s ≡ Refused k
  unfolding read_circuit
  fault_0 e = simp (← e)

  module _ {inputs at1 : ℕ} (v0 : Whole (inputs, at1) ≡ read_within 1 4096 s 0) where
    inputs-range : (1 ≤ inputs) × (inputs ≤ 4096)
    inputs-range = let p = within_parts 1 4096 s 0 (sym v0) in (p.1, p.2)

    pub inputs-most : inputs ≤ 4096
    inputs-most = inputs-range.1

    pub fault_1 : {k : ℕ} → Refused k ≡ read_within 0 (4096 - inputs) s at1 → read_circuit s ≡ Refused k
    unfolding read_circuit
    fault_1 e = simp (← v0, ← e)

    module _ {gates at2 : ℕ} (v1 : Whole (gates, at2) ≡ read_within 0 (4096 - inputs) s at1) where
      pub wires-most : inputs + gates ≤ 4096
      wires-most = omega (arith, (within_parts 0 (4096 - inputs) s at1 (sym v1)).2, inputs-range.1)

      pub wires_fit : Fits w64 (inputs + gates)
      wires_fit = record { fits = omega (arith, wires-most) }

      pub fault_2 : {k : ℕ} → Refused k ≡ read_within 1 4096 s at2 → read_circuit s ≡ Refused k
      unfolding read_circuit
      fault_2 e = simp (← v0, ← v1, ← e)

      module _ {outputs body : ℕ} (v2 : Whole (outputs, body) ≡ read_within 1 4096 s at2) where
        pub fault_3 : {k : ℕ} → Refused k ≡ counted_ands 0 (read_gates gates inputs s body) → read_circuit s ≡ Refused k
        unfolding read_circuit
        fault_3 e = simp (← v0, ← v1, ← v2, counted-refused 0 (read_gates gates inputs s body) e)

        module _ {ands tail : ℕ} (v3 : Whole (ands, tail) ≡ counted_ands 0 (read_gates gates inputs s body)) where
          pub fault_4 : {k : ℕ} → Refused k ≡ placed (read_wires outputs (inputs + gates) s tail) → read_circuit s ≡ Refused k
          unfolding read_circuit
          fault_4 e =
              let x = counted-whole 0 (read_gates gates inputs s body) v3 in
              simp (← v0, ← v1, ← v2, x.1, placed-refused (read_wires outputs (inputs + gates) s tail) e)

          module _ {end : ℕ} (v4 : Whole end ≡ placed (read_wires outputs (inputs + gates) s tail)) where
            pub after_12 : end < length s → read_circuit s ≡ Refused 12
            unfolding read_circuit
            after_12 h =
                let x = counted-whole 0 (read_gates gates inputs s body) v3 in
                let y = placed-whole (read_wires outputs (inputs + gates) s tail) v4 in
                simp (← v0, ← v1, ← v2, x.1, y.1, lt-ltb _ _ h)

            pub opened : length s ≤ end → HasLayout s (layout_with inputs gates outputs ands body tail)
            unfolding read_circuit
            opened h =
                let x = counted-whole 0 (read_gates gates inputs s body) v3 in
                let y = placed-whole (read_wires outputs (inputs + gates) s tail) v4 in
                let c : Circuit = record { inputs = inputs; gates = x.0; outputs = y.0 } in
                let w : read_circuit s ≡ Whole c = simp (← v0, ← v1, ← v2, x.1, y.1, le-ltb _ _ h) in
                let e : content s ≡ c = ap circuit_of w in
                record {
                  whole = w ∙ ap (λ (d : Circuit). Whole d) (sym e);
                  inputs = ap (λ (d : Circuit). d.inputs) (sym e);
                  gates = sym (gates-length gates inputs s body x.1) ∙ ap (λ (d : Circuit). length d.gates) (sym e);
                  outputs = sym (wires-length outputs (inputs + gates) s tail y.1) ∙ ap (λ (d : Circuit). length d.outputs) (sym e);
                  ands = x.2 ∙ zero-add (ands_in x.0) ∙ ap (λ (d : Circuit). ands_in d.gates) (sym e);
                  body = x.1 ∙ ap (λ (d : Circuit). Whole (d.gates, tail)) (sym e);
                  tail = (end, y.1 ∙ ap (λ (d : Circuit). Whole (d.outputs, end)) (sym e));
                  some = inputs-range.0;
                  most = wires-most;
                }
