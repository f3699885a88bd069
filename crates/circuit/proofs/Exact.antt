-- Each circuit has one writing: reading the writing of an admitted circuit gives it back, and what reads as a circuit is admitted and is
-- exactly its writing. Assumes nothing.
use Prim.Native.Nat.{ℕ, zero, suc, ◌+◌, ◌-◌, ◌≤◌, ◌<◌}
use mathlib.Core.Bool.{false}
use mathlib.Core.List.{List, [], ◌∷◌, ◌++◌}
use mathlib.Core.Path.{◌≡◌, refl, sym, ap, ◌∙◌, subst}
use borrow.Author.Tests.{lt-ltb, le-ltb, le-leb, eq-eqb, ne_eqb, ltb-false}
use native.Mathlib.Nat.{add-zero}
use native.Mathlib.Omega.{arith}
use lib.Dec.{ltb}
use lib.ListN.{length, length-append}
use Rattle.number.proofs.Laws.{number-reads, number-whole, length-number}
use Rattle.number.proofs.Places.{either, then-whole, ended-whole, has-front, has-back, has-next, has_is, whole_has, has-whole}
use Rattle.number.specs.Number.{read_number, write_number}
use Rattle.number.specs.Inner.Written.{numbers}
use Rattle.number.specs.Reading.{Whole, tested, Bytes}
use Rattle.number.specs.Inner.Known.{Has}
use Rattle.circuit.proofs.Fields.{within_parts, wire_parts, two_wires, GateParts, one, two, gate_parts}
use Rattle.circuit.proofs.Lists.{first-gate, first-wire, no_gate, no_wire, gates-length, wires-length, gates-below, wires-below}
use Rattle.circuit.specs.Admitted.{most_wires, GateBelow, GatesBelow, WiresBelow, AdmittedCircuit}
use Rattle.circuit.specs.Content.{Gate, Xor, And, Not, Circuit}
use Rattle.circuit.specs.OneWriting.{OneWriting}
use Rattle.circuit.specs.Reading.{read_within, read_wire, read_gate, read_gates, read_wires, read_circuit}
use Rattle.circuit.specs.Writing.{write_gate, write_gates, write_wires, write_circuit}

-- the bytes of a number
abbrev N : ℕ → List ℕ
N n = write_number n

-- the place after bytes
abbrev after : ℕ → List ℕ → ℕ
after at w = at + length w

-- ---- reading a writing

module _ (s : List ℕ) where
  num_reads : (at n : ℕ) → n < numbers → Has s at (N n) → read_number s at ≡ Whole (n, after at (N n))
  num_reads at n k h = number-reads s at n k h ∙ ap (λ (m : ℕ). Whole (n, at + m)) (sym (length-number n))

  within-reads : (least most at n : ℕ) → least ≤ n → n ≤ most → n < numbers → Has s at (N n) → read_within least most s at ≡ Whole (n, after at (N n))
  unfolding read_within tested
  within-reads least most at n p q k h = let e = num_reads at n k h in simp (e, le-leb _ _ p, le-leb _ _ q)

  wire_reads : (limit at w : ℕ) → w < limit → w < numbers → Has s at (N w) → read_wire limit s at ≡ Whole (w, after at (N w))
  unfolding read_wire tested
  wire_reads limit at w p k h = let e = num_reads at w k h in simp (e, lt-ltb _ _ p)

  -- a gate of two wires
  two-reads : (wire at kind a b : ℕ) → 1 ≤ kind → kind < 3 → a < wire → b < wire → wire ≤ most_wires → Has s at (N kind ++ (N a ++ N b))
      → read_gate wire s at ≡ Whole (two_wires kind a b, after at (N kind ++ (N a ++ N b)))
  unfolding read_gate
  two-reads wire at kind a b p q ha hb m h =
      let k = has-front s at (N kind) (N a ++ N b) h in
      let r = has-back s at (N kind) (N a ++ N b) h in
      let e₀ = within-reads 1 3 at kind p (omega arith) (omega arith) k in
      let e₁ = wire_reads wire (after at (N kind)) a ha (omega arith) (has-front s (after at (N kind)) (N a) (N b) r) in
      let e₂ = wire_reads wire (after (after at (N kind)) (N a)) b hb (omega arith) (has-back s (after at (N kind)) (N a) (N b) r) in
      let n : kind ≡ 3 → ⊥ = λ e. omega arith in
      simp (e₀, e₁, ne_eqb _ _ n, e₂)
      (ap (λ (x : ℕ). Whole (two_wires kind a b, x)) (omega (arith, length-append (N kind) (N a ++ N b), length-append (N a) (N b))))

  gate-reads : (wire at : ℕ) (g : Gate) → GateBelow wire g → wire ≤ most_wires → Has s at (write_gate g) → read_gate wire s at ≡ Whole (g, after at (write_gate g))
  unfolding GateBelow write_gate read_gate
  gate-reads wire at (Xor a b) ok m h = two-reads wire at 1 a b (omega arith) (omega arith) ok.0 ok.1 m h
  gate-reads wire at (And a b) ok m h = two-reads wire at 2 a b (omega arith) (omega arith) ok.0 ok.1 m h
  gate-reads wire at (Not a) ok m h =
      let e₀ = within-reads 1 3 at 3 (omega arith) (omega arith) (omega arith) (has-front s at (N 3) (N a) h) in
      let e₁ = wire_reads wire (after at (N 3)) a ok (omega arith) (has-back s at (N 3) (N a) h) in
      simp (e₀, e₁) (ap (λ (x : ℕ). Whole (Not a, x)) (omega (arith, length-append (N 3) (N a))))

  gates-read : (wire at : ℕ) (gs : List Gate) → GatesBelow wire gs → wire + length gs ≤ most_wires → Has s at (write_gates gs)
      → read_gates (length gs) wire s at ≡ Whole (gs, after at (write_gates gs))
  unfolding GatesBelow write_gates read_gates
  gates-read wire at [] ok m h = ap (λ (x : ℕ). Whole ([], x)) (sym (add-zero at))
  gates-read wire at (g ∷ gs) ok m h =
      let W : List ℕ = write_gate g in
      let e₀ = gate-reads wire at g ok.0 (omega arith) (has-front s at W (write_gates gs) h) in
      let e₁ = gates-read (wire + 1) (after at W) gs ok.1 (omega arith) (has-back s at W (write_gates gs) h) in
      simp (e₀, e₁) (ap (λ (x : ℕ). Whole (g ∷ gs, x)) (omega (arith, length-append W (write_gates gs))))

  wires-read : (limit at : ℕ) (ws : List ℕ) → WiresBelow limit ws → limit ≤ most_wires → Has s at (write_wires ws)
      → read_wires (length ws) limit s at ≡ Whole (ws, after at (write_wires ws))
  unfolding WiresBelow write_wires read_wires
  wires-read limit at [] ok m h = ap (λ (x : ℕ). Whole ([], x)) (sym (add-zero at))
  wires-read limit at (w ∷ ws) ok m h =
      let e₀ = wire_reads limit at w ok.0 (omega (arith, ok.0)) (has-front s at (N w) (write_wires ws) h) in
      let e₁ = wires-read limit (after at (N w)) ws ok.1 m (has-back s at (N w) (write_wires ws) h) in
      simp (e₀, e₁) (ap (λ (x : ℕ). Whole (w ∷ ws, x)) (omega (arith, length-append (N w) (write_wires ws))))

pub back : (c : Circuit) → AdmittedCircuit c → read_circuit (write_circuit c) ≡ Whole c
unfolding read_circuit write_circuit
back c ok =
    let I : List ℕ = N c.inputs in
    let C : List ℕ = N (length c.gates) in
    let O : List ℕ = N (length c.outputs) in
    let G : List ℕ = write_gates c.gates in
    let W : List ℕ = write_wires c.outputs in
    let s : List ℕ = I ++ (C ++ (O ++ (G ++ W))) in
    let h₀ : Has s 0 s = whole_has s in
    let h₁ = has-back s 0 I (C ++ (O ++ (G ++ W))) h₀ in
    let h₂ = has-back s (after 0 I) C (O ++ (G ++ W)) h₁ in
    let h₃ = has-back s (after (after 0 I) C) O (G ++ W) h₂ in
    let body : ℕ = after (after (after 0 I) C) O in
    let e₀ = within-reads s 1 most_wires 0 c.inputs ok.inputs (omega (arith, ok.wires)) (omega (arith, ok.wires)) (has-front s 0 I (C ++ (O ++ (G ++ W))) h₀) in
    let e₁ = within-reads s 0 (most_wires - c.inputs) (after 0 I) (length c.gates) (omega arith) (omega (arith, ok.wires)) (omega (arith, ok.wires))
    (has-front s (after 0 I) C (O ++ (G ++ W)) h₁) in
    let e₂ = within-reads s 1 most_wires (after (after 0 I) C) (length c.outputs) ok.outputs.0 ok.outputs.1 (omega (arith, ok.outputs.1))
    (has-front s (after (after 0 I) C) O (G ++ W) h₂) in
    let e₃ = gates-read s c.inputs body c.gates ok.gates ok.wires (has-front s body G W h₃) in
    let e₄ = wires-read s (c.inputs + length c.gates) (after body G) c.outputs ok.output_wires ok.wires (has-back s body G W h₃) in
    let end : ltb (after (after body G) W) (length s) ≡ false =
    le-ltb (after (after body G) W) (length s)
    (omega (arith, length-append I (C ++ (O ++ (G ++ W))), length-append C (O ++ (G ++ W)), length-append O (G ++ W), length-append G W)) in
    simp (e₀, e₁, e₂, e₃, e₄, end)

-- ---- what reads as a circuit

module _ (s : List ℕ) (bytes : Bytes s) where
  -- bytes that stand at a place, and the place after them
  abbrev Stood : ℕ → List ℕ → ℕ → Type 0
  Stood at w next = Has s at w × (next ≡ after at w)

  num_exact : (at : ℕ) {n next : ℕ} → read_number s at ≡ Whole (n, next) → Stood at (N n) next
  num_exact at {n} e = let w = number-whole s at bytes e in (w.1, w.2 ∙ ap (λ (m : ℕ). at + m) (sym (length-number n)))

  joined : (at : ℕ) {next end : ℕ} (u v : List ℕ) → Stood at u next → Stood next v end → Stood at (u ++ v) end
  joined at u v p q = (has-next s at u v p.0 p.1 q.0, q.1 ∙ omega (arith, p.1, length-append u v))

  two-writing : (kind a b : ℕ) → 1 ≤ kind → kind ≤ 3 → (kind ≡ 3 → ⊥) → write_gate (two_wires kind a b) ≡ N kind ++ (N a ++ N b)
  unfolding write_gate
  two-writing kind a b p q n =
      either kind 1 (λ e. simp (eq-eqb _ _ e, e)) (λ m. let k : kind ≡ 2 = omega arith in simp (ne_eqb _ _ m, k))

  gate-exact : (wire at : ℕ) {g : Gate} {next : ℕ} → read_gate wire s at ≡ Whole (g, next) → Stood at (write_gate g) next
  unfolding write_gate
  gate-exact wire at {g} {next} e = of (gate_parts wire s at e)
    where
      moved : (w u : List ℕ) → w ≡ u → Stood at w next → Stood at u next
      moved w u p h = subst (λ (x : List ℕ). Stood at x next) p h

      of : GateParts wire s at g next → Stood at (write_gate g) next
      of (one a at1 k f z) =
          moved (N 3 ++ N a) (write_gate g) (sym (ap write_gate z))
          (joined at (N 3) (N a) (num_exact at (within_parts 1 3 s at k).0) (num_exact at1 (wire_parts wire s at1 f).0))
      of (two kind a b at1 at2 n k f h z) =
          let p = within_parts 1 3 s at k in
          moved (N kind ++ (N a ++ N b)) (write_gate g) (sym (ap write_gate z ∙ two-writing kind a b p.1 p.2 n))
          (joined at (N kind) (N a ++ N b) (num_exact at p.0)
          (joined at1 (N a) (N b) (num_exact at1 (wire_parts wire s at1 f).0) (num_exact at2 (wire_parts wire s at2 h).0)))

  inside : (at : ℕ) {next : ℕ} (w : List ℕ) → Stood at w next → next ≤ length s
  unfolding Has
  inside at w h = omega (arith, h.0.0, h.1)

  nothing : (at : ℕ) → at ≤ length s → Stood at [] at
  unfolding Has
  nothing at h = ((omega arith, refl), sym (add-zero at))

  gates-exact : (n wire at : ℕ) {gs : List Gate} {end : ℕ} → read_gates n wire s at ≡ Whole (gs, end) → at ≤ length s → Stood at (write_gates gs) end
  unfolding write_gates
  gates-exact zero wire at e h =
      let p = no_gate wire s at e in
      (has_is s at (sym (ap write_gates p.0)) (nothing at h).0, p.1 ∙ (nothing at h).1 ∙ ap (λ (l : List Gate). after at (write_gates l)) (sym p.0))
  gates-exact (suc n) wire at {gs} {end} e h =
      let p = first-gate n wire s at e in
      let g = gate-exact wire at p.reads in
      subst (λ (l : List Gate). Stood at (write_gates l) end) (sym p.all)
      (joined at (write_gate p.gate) (write_gates p.later) g (gates-exact n (wire + 1) p.next p.rest (inside at (write_gate p.gate) g)))

  wires-exact : (n limit at : ℕ) {ws : List ℕ} {end : ℕ} → read_wires n limit s at ≡ Whole (ws, end) → at ≤ length s → Stood at (write_wires ws) end
  unfolding write_wires
  wires-exact zero limit at e h =
      let p = no_wire limit s at e in
      (has_is s at (sym (ap write_wires p.0)) (nothing at h).0, p.1 ∙ (nothing at h).1 ∙ ap (λ (l : List ℕ). after at (write_wires l)) (sym p.0))
  wires-exact (suc n) limit at {ws} {end} e h =
      let p = first-wire n limit s at e in
      let g = num_exact at (wire_parts limit s at p.reads).0 in
      subst (λ (l : List ℕ). Stood at (write_wires l) end) (sym p.all)
      (joined at (N p.wire) (write_wires p.later) g (wires-exact n limit p.next p.rest (inside at (N p.wire) g)))

-- the fields of a circuit that was read
pub record CircuitParts (s : List ℕ) (c : Circuit) : Type 0 where
  pub count : ℕ
  pub wanted : ℕ
  pub at1 : ℕ
  pub at2 : ℕ
  pub at3 : ℕ
  pub at4 : ℕ
  pub end : ℕ
  pub inputs : read_within 1 most_wires s 0 ≡ Whole (c.inputs, at1)
  pub gates : read_within 0 (most_wires - c.inputs) s at1 ≡ Whole (count, at2)
  pub outputs : read_within 1 most_wires s at2 ≡ Whole (wanted, at3)
  pub body : read_gates count c.inputs s at3 ≡ Whole (c.gates, at4)
  pub tail : read_wires wanted (c.inputs + count) s at4 ≡ Whole (c.outputs, end)
  pub all : length s ≤ end

pub circuit_parts : (s : List ℕ) (c : Circuit) → read_circuit s ≡ Whole c → CircuitParts s c
unfolding read_circuit
circuit_parts s c e =
    let a = then-whole (read_within 1 most_wires s 0) _ e in
    let b = then-whole (read_within 0 (most_wires - a.0) s a.1) _ a.3 in
    let d = then-whole (read_within 1 most_wires s b.1) _ b.3 in
    let g = then-whole (read_gates b.0 a.0 s d.1) _ d.3 in
    let w = then-whole (read_wires d.0 (a.0 + b.0) s g.1) _ g.3 in
    let z = ended-whole {A = Circuit} (ltb w.1 (length s)) (record { inputs = a.0; gates = g.0; outputs = w.0 }) 12 w.3 in
    subst (CircuitParts s) z.1
    (record {
      count = b.0;
      wanted = d.0;
      at1 = a.1;
      at2 = b.1;
      at3 = d.1;
      at4 = g.1;
      end = w.1;
      inputs = a.2;
      gates = b.2;
      outputs = d.2;
      body = g.2;
      tail = w.2;
      all = ltb-false w.1 (length s) z.0;
    })

-- an accepted circuit is admitted
pub admitted : (s : List ℕ) (c : Circuit) → read_circuit s ≡ Whole c → AdmittedCircuit c
admitted s c e =
    let p = circuit_parts s c e in
    let i = within_parts 1 most_wires s 0 p.inputs in
    let g = within_parts 0 (most_wires - c.inputs) s p.at1 p.gates in
    let o = within_parts 1 most_wires s p.at2 p.outputs in
    let n = gates-length p.count c.inputs s p.at3 p.body in
    let w = wires-length p.wanted (c.inputs + p.count) s p.at4 p.tail in
    record {
      inputs = i.1;
      wires = omega (arith, i.2, g.2, n);
      outputs = (omega (arith, o.1, w), omega (arith, o.2, w));
      gates = gates-below p.count c.inputs s p.at3 p.body;
      output_wires =
          subst (λ (m : ℕ). WiresBelow (c.inputs + m) c.outputs) (sym n)
          (wires-below p.wanted (c.inputs + p.count) s p.at4 p.tail);
    }

exact : (s : List ℕ) → Bytes s → (c : Circuit) → read_circuit s ≡ Whole c → AdmittedCircuit c × (s ≡ write_circuit c)
unfolding write_circuit
exact s bytes c e =
    let p = circuit_parts s c e in
    let I : List ℕ = N c.inputs in
    let C : List ℕ = N (length c.gates) in
    let O : List ℕ = N (length c.outputs) in
    let G : List ℕ = write_gates c.gates in
    let W : List ℕ = write_wires c.outputs in
    let i = num_exact s bytes 0 (within_parts 1 most_wires s 0 p.inputs).0 in
    let g = subst (λ (n : ℕ). Stood s bytes p.at1 (N n) p.at2) (sym (gates-length p.count c.inputs s p.at3 p.body))
    (num_exact s bytes p.at1 (within_parts 0 (most_wires - c.inputs) s p.at1 p.gates).0) in
    let o = subst (λ (n : ℕ). Stood s bytes p.at2 (N n) p.at3) (sym (wires-length p.wanted (c.inputs + p.count) s p.at4 p.tail))
    (num_exact s bytes p.at2 (within_parts 1 most_wires s p.at2 p.outputs).0) in
    let b = gates-exact s bytes p.count c.inputs p.at3 p.body (inside s bytes p.at2 O o) in
    let w = wires-exact s bytes p.wanted (c.inputs + p.count) p.at4 p.tail (inside s bytes p.at3 G b) in
    let all : Stood s bytes 0 (I ++ (C ++ (O ++ (G ++ W)))) p.end =
    joined s bytes 0 I (C ++ (O ++ (G ++ W))) i
    (joined s bytes p.at1 C (O ++ (G ++ W)) g (joined s bytes p.at2 O (G ++ W) o (joined s bytes p.at3 G W b w))) in (
      admitted s c e,
      has-whole s (I ++ (C ++ (O ++ (G ++ W)))) all.0
          (omega (arith, p.all, all.1, inside s bytes 0 (I ++ (C ++ (O ++ (G ++ W)))) all)),
    )

-- document 02, 9: reading back, and one writing
pub one-writing : OneWriting
one-writing =
    record {
      back = back;
      exact = exact;
      one = λ s u bs bu c e f. (exact s bs c e).1 ∙ sym (exact u bu c f).1;
    }
