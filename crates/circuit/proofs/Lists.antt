-- Gates and wires that were read one after the other: the first of them and the rest, how many there are, and that they are admitted.
-- Assumes nothing.
use Prim.Native.Nat.{ℕ, zero, suc, ◌+◌, ◌-◌, ◌<◌}
use mathlib.Core.Bool.{true}
use mathlib.Core.List.{List, [], ◌∷◌}
use mathlib.Core.Path.{◌≡◌, sym, ap, ◌∙◌, subst}
use borrow.Author.Tests.{eq-eqb, ne_eqb}
use native.Mathlib.Omega.{arith}
use lib.ListN.{length}
use Rattle.number.proofs.Places.{either, whole_is, whole_of, then-whole}
use Rattle.number.specs.Inner.Known.{is_whole}
use Rattle.number.specs.Reading.{Whole}
use Rattle.circuit.proofs.Fields.{GateParts, one, two, gate_parts, wire_parts, two_wires}
use Rattle.circuit.specs.Admitted.{GateBelow, GatesBelow, WiresBelow}
use Rattle.circuit.specs.Content.{Gate}
use Rattle.circuit.specs.Reading.{read_wire, read_gate, read_gates, read_wires}

-- ---- the first and the rest

-- n gates: the first, and n − 1 after it
pub record FirstGate (n wire : ℕ) (s : List ℕ) (at : ℕ) (gs : List Gate) (end : ℕ) : Type 0 where
  pub gate : Gate
  pub next : ℕ
  pub later : List Gate
  pub reads : read_gate wire s at ≡ Whole (gate, next)
  pub rest : read_gates n (wire + 1) s next ≡ Whole (later, end)
  pub all : gs ≡ gate ∷ later

pub first-gate : (n wire : ℕ) (s : List ℕ) (at : ℕ) {gs : List Gate} {end : ℕ} → read_gates (suc n) wire s at ≡ Whole (gs, end) → FirstGate n wire s at gs end
unfolding read_gates
first-gate n wire s at {gs} {end} e =
    let p = then-whole (read_gate wire s at) _ e in
    let q = then-whole (read_gates n (wire + 1) s p.1) _ p.3 in
    let z = whole_is q.3 in
    record {
      gate = p.0;
      next = p.1;
      later = q.0;
      reads = p.2;
      rest = q.2 ∙ ap (λ (y : List Gate × ℕ). Whole (q.0, y.1)) z;
      all = ap (λ (y : List Gate × ℕ). y.0) (sym z);
    }

-- n wires likewise
pub record FirstWire (n limit : ℕ) (s : List ℕ) (at : ℕ) (ws : List ℕ) (end : ℕ) : Type 0 where
  pub wire : ℕ
  pub next : ℕ
  pub later : List ℕ
  pub reads : read_wire limit s at ≡ Whole (wire, next)
  pub rest : read_wires n limit s next ≡ Whole (later, end)
  pub all : ws ≡ wire ∷ later

pub first-wire : (n limit : ℕ) (s : List ℕ) (at : ℕ) {ws : List ℕ} {end : ℕ} → read_wires (suc n) limit s at ≡ Whole (ws, end) → FirstWire n limit s at ws end
unfolding read_wires
first-wire n limit s at {ws} {end} e =
    let p = then-whole (read_wire limit s at) _ e in
    let q = then-whole (read_wires n limit s p.1) _ p.3 in
    let z = whole_is q.3 in
    record {
      wire = p.0;
      next = p.1;
      later = q.0;
      reads = p.2;
      rest = q.2 ∙ ap (λ (y : List ℕ × ℕ). Whole (q.0, y.1)) z;
      all = ap (λ (y : List ℕ × ℕ). y.0) (sym z);
    }

-- of n gates that can be read, where there is one, the first can be read, and so can those after it
module _ (wire : ℕ) (s : List ℕ) (at : ℕ) {n : ℕ} (known : is_whole (read_gates n wire s at) ≡ true) (some : n ≡ 0 → ⊥) where
  gate-known : (gs : List Gate) × (end : ℕ) × FirstGate (n - 1) wire s at gs end
  gate-known =
      let z = whole_of (read_gates n wire s at) known in
      (z.0.0, z.0.1, first-gate (n - 1) wire s at (ap (λ (m : ℕ). read_gates m wire s at) {x = suc (n - 1)} {y = n} (omega arith) ∙ z.1))

  pub gates-first : is_whole (read_gate wire s at) ≡ true
  gates-first = ap is_whole gate-known.2.reads

  pub gates-later : {g : Gate} {next : ℕ} → Whole (g, next) ≡ read_gate wire s at → is_whole (read_gates (n - 1) (wire + 1) s next) ≡ true
  gates-later {g} {next} read =
      let z : ◌≡◌ {A = Gate × ℕ} (g, next) (gate-known.2.gate, gate-known.2.next) = whole_is (read ∙ gate-known.2.reads) in
      ap (λ (p : Gate × ℕ). is_whole (read_gates (n - 1) (wire + 1) s p.1)) z ∙ ap is_whole gate-known.2.rest

-- of n wires likewise
module _ (limit : ℕ) (s : List ℕ) (at : ℕ) {n : ℕ} (known : is_whole (read_wires n limit s at) ≡ true) (some : n ≡ 0 → ⊥) where
  wire-known : (ws : List ℕ) × (end : ℕ) × FirstWire (n - 1) limit s at ws end
  wire-known =
      let z = whole_of (read_wires n limit s at) known in
      (z.0.0, z.0.1, first-wire (n - 1) limit s at (ap (λ (m : ℕ). read_wires m limit s at) {x = suc (n - 1)} {y = n} (omega arith) ∙ z.1))

  pub wires-first : is_whole (read_wire limit s at) ≡ true
  wires-first = ap is_whole wire-known.2.reads

  pub wires-later : {w next : ℕ} → Whole (w, next) ≡ read_wire limit s at → is_whole (read_wires (n - 1) limit s next) ≡ true
  wires-later {w} {next} read =
      let z : ◌≡◌ {A = ℕ × ℕ} (w, next) (wire-known.2.wire, wire-known.2.next) = whole_is (read ∙ wire-known.2.reads) in
      ap (λ (p : ℕ × ℕ). is_whole (read_wires (n - 1) limit s p.1)) z ∙ ap is_whole wire-known.2.rest

-- none
pub no_gate : (wire : ℕ) (s : List ℕ) (at : ℕ) {gs : List Gate} {end : ℕ} → read_gates 0 wire s at ≡ Whole (gs, end) → (gs ≡ []) × (end ≡ at)
unfolding read_gates
no_gate wire s at e = let z = whole_is e in (ap (λ (y : List Gate × ℕ). y.0) (sym z), ap (λ (y : List Gate × ℕ). y.1) (sym z))

pub no_wire : (limit : ℕ) (s : List ℕ) (at : ℕ) {ws : List ℕ} {end : ℕ} → read_wires 0 limit s at ≡ Whole (ws, end) → (ws ≡ []) × (end ≡ at)
unfolding read_wires
no_wire limit s at e = let z = whole_is e in (ap (λ (y : List ℕ × ℕ). y.0) (sym z), ap (λ (y : List ℕ × ℕ). y.1) (sym z))

-- ---- how many there are

pub gates-length : (n wire : ℕ) (s : List ℕ) (at : ℕ) {gs : List Gate} {end : ℕ} → read_gates n wire s at ≡ Whole (gs, end) → length gs ≡ n
gates-length zero wire s at e = ap length (no_gate wire s at e).0
gates-length (suc n) wire s at e =
    let p = first-gate n wire s at e in
    ap length p.all ∙ ap suc (gates-length n (wire + 1) s p.next p.rest)

pub wires-length : (n limit : ℕ) (s : List ℕ) (at : ℕ) {ws : List ℕ} {end : ℕ} → read_wires n limit s at ≡ Whole (ws, end) → length ws ≡ n
wires-length zero limit s at e = ap length (no_wire limit s at e).0
wires-length (suc n) limit s at e =
    let p = first-wire n limit s at e in
    ap length p.all ∙ ap suc (wires-length n limit s p.next p.rest)

-- ---- they are admitted

two-below : (wire kind a b : ℕ) → a < wire → b < wire → GateBelow wire (two_wires kind a b)
unfolding GateBelow
two-below wire kind a b h g =
    either kind 1 (λ e. simp (eq-eqb _ _ e) (h, g)) (λ n. simp (ne_eqb _ _ n) (h, g))

pub gate-below : (wire : ℕ) (s : List ℕ) (at : ℕ) {g : Gate} {next : ℕ} → read_gate wire s at ≡ Whole (g, next) → GateBelow wire g
unfolding GateBelow
gate-below wire s at {g} {next} e = of (gate_parts wire s at e)
  where
    of : GateParts wire s at g next → GateBelow wire g
    of (one a at1 k f z) = subst (GateBelow wire) (sym z) (wire_parts wire s at1 f).1
    of (two kind a b at1 at2 n k f h z) =
        subst (GateBelow wire) (sym z) (two-below wire kind a b (wire_parts wire s at1 f).1 (wire_parts wire s at2 h).1)

pub gates-below : (n wire : ℕ) (s : List ℕ) (at : ℕ) {gs : List Gate} {end : ℕ} → read_gates n wire s at ≡ Whole (gs, end) → GatesBelow wire gs
unfolding GatesBelow
gates-below zero wire s at e = subst (GatesBelow wire) (sym (no_gate wire s at e).0) tt
gates-below (suc n) wire s at e =
    let p = first-gate n wire s at e in
    subst (GatesBelow wire) (sym p.all) (gate-below wire s at p.reads, gates-below n (wire + 1) s p.next p.rest)

pub wires-below : (n limit : ℕ) (s : List ℕ) (at : ℕ) {ws : List ℕ} {end : ℕ} → read_wires n limit s at ≡ Whole (ws, end) → WiresBelow limit ws
unfolding WiresBelow
wires-below zero limit s at e = subst (WiresBelow limit) (sym (no_wire limit s at e).0) tt
wires-below (suc n) limit s at e =
    let p = first-wire n limit s at e in
    subst (WiresBelow limit) (sym p.all) ((wire_parts limit s at p.reads).1, wires-below n limit s p.next p.rest)
