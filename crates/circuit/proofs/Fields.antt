-- The fields of numbers, wires and gates that were read. Assumes nothing.
use Prim.Native.Nat.{ℕ, ◌≤◌, ◌<◌}
use mathlib.Core.List.{List}
use mathlib.Core.Path.{◌≡◌, sym, ap, ◌∙◌}
use borrow.Author.Tests.{eq-eqb, ne_eqb, leb-true, ltb-true}
use lib.Dec.{leb, ltb, eqb}
use Rattle.algebra.proofs.Tests.{and_left, and_right}
use Rattle.number.proofs.Places.{either, whole_is, then-whole, tested-whole, choose_yes, choose_no}
use Rattle.number.specs.Number.{read_number}
use Rattle.number.specs.Reading.{Whole, Parsed, then, choose}
use Rattle.circuit.specs.Admitted.{is_within}
use Rattle.circuit.specs.Content.{Gate, Xor, And, Not}
use Rattle.circuit.specs.Reading.{read_within, read_wire, read_gate}

-- ---- what passed a test

pub within_parts : (least most : ℕ) (s : List ℕ) (at : ℕ) {n next : ℕ} → read_within least most s at ≡ Whole (n, next)
    → (read_number s at ≡ Whole (n, next)) × (least ≤ n) × (n ≤ most)
unfolding read_within
within_parts least most s at {n} e =
    let t = tested-whole (read_number s at) (λ m. is_within least most m) 17 e in
    (t.0, leb-true _ _ (and_left (leb least n) (leb n most) t.1), leb-true _ _ (and_right (leb least n) (leb n most) t.1))

pub wire_parts : (limit : ℕ) (s : List ℕ) (at : ℕ) {w next : ℕ} → read_wire limit s at ≡ Whole (w, next)
    → (read_number s at ≡ Whole (w, next)) × (w < limit)
unfolding read_wire
wire_parts limit s at e =
    let t = tested-whole (read_number s at) (λ w. ltb w limit) 17 e in
    (t.0, ltb-true _ _ t.1)

-- ---- a gate

-- the gate of a kind that is not NOT
abbrev pub two_wires : ℕ → ℕ → ℕ → Gate
two_wires kind a b = choose (eqb kind 1) (Xor a b) (And a b)

-- the fields of a gate that was read
pub data GateParts (wire : ℕ) (s : List ℕ) (at : ℕ) (g : Gate) (next : ℕ) : Type 0 where
  one : (a at1 : ℕ) → read_within 1 3 s at ≡ Whole (3, at1) → read_wire wire s at1 ≡ Whole (a, next) → g ≡ Not a → GateParts wire s at g next
  two : (kind a b at1 at2 : ℕ) → (kind ≡ 3 → ⊥) → read_within 1 3 s at ≡ Whole (kind, at1) → read_wire wire s at1 ≡ Whole (a, at2)
      → read_wire wire s at2 ≡ Whole (b, next) → g ≡ two_wires kind a b → GateParts wire s at g next

pub gate_parts : (wire : ℕ) (s : List ℕ) (at : ℕ) {g : Gate} {next : ℕ} → read_gate wire s at ≡ Whole (g, next) → GateParts wire s at g next
unfolding read_gate
gate_parts wire s at {g} {next} e =
    let p = then-whole (read_within 1 3 s at) _ e in
    let q = then-whole (read_wire wire s p.1) _ p.3 in
    let kind : ℕ = p.0 in
    let a : ℕ = q.0 in
    let rest : Parsed Gate = then (read_wire wire s q.1) λ b at3. Whole (two_wires kind a b, at3) in
    either kind 3
    (λ k.
    let z = whole_is (sym (choose_yes {A = Parsed Gate} (Whole (Not a, q.1)) rest (eq-eqb kind 3 k)) ∙ q.3) in
    one a p.1 (p.2 ∙ ap (λ (n : ℕ). Whole (n, p.1)) k) (q.2 ∙ ap (λ (y : Gate × ℕ). Whole (a, y.1)) z) (ap (λ (y : Gate × ℕ). y.0) (sym z)))
    (λ k.
    let f = sym (choose_no {A = Parsed Gate} (Whole (Not a, q.1)) rest (ne_eqb kind 3 k)) ∙ q.3 in
    let t = then-whole (read_wire wire s q.1) _ f in
    let z = whole_is t.3 in
    two kind a t.0 p.1 q.1 k p.2 q.2 (t.2 ∙ ap (λ (y : Gate × ℕ). Whole (t.0, y.1)) z) (ap (λ (y : Gate × ℕ). y.0) (sym z)))
