-- Circuits have one writing, gathered triples match; and the whole claim about circuits.
use Prim.Native.Nat.{ℕ, zero, suc, ◌+◌, ◌*◌, ◌≤◌, ◌<◌}
use mathlib.Core.Path.{◌≡◌, refl, sym, ap, ap₂, ◌∙◌, subst}
use mathlib.Core.List.{List, [], ◌∷◌, map}
use native.Mathlib.Omega.{arith}
use lib.Bits.{bit_and, bit_xor}
use lib.ListN.{length, take, drop, get_or}
use lib.Seq.{get_or-take, get_or-drop}
use Rattle.circuit.specs.Admitted as admitted
use Rattle.circuit.specs.Content as own
use Rattle.circuit.proofs.Exact.{one-writing}
use Rattle.circuit.proofs.Folds.{below_at}
use Rattle.number.specs.Reading.{Bytes}
use Rattle.page_claims.specs.Statements.{wrote, Gives}
use Rattle.page_two.specs.Document02 as page2
use Rattle.page_two.proofs.Circuits.Content.{gate, circuit, length-gates, gate-at, written_is}
use Rattle.page_two_claims.specs.Statements as says
use Rattle.page_two_claims.specs.Statements.{Matching, TripleInput, formed, FormedAt}
use Rattle.page_two_claims.proofs.Circuits.Made.{on_read, gives_of}
use Rattle.page_two_claims.proofs.Circuits.Rounds.{rounds-run}
use Rattle.page_two_claims.proofs.Circuits.Steps.{steps-run, advances, finishes, far_unread, wires}
use Rattle.page_two_claims.proofs.Messages.{triples-match}

-- ---- the library's gates and circuits, of the page's

unfoldable pub ungate : page2.Gate → own.Gate
ungate (page2.Xor a b) = own.Xor a b
ungate (page2.And a b) = own.And a b
ungate (page2.Not a) = own.Not a

gate-of : (g : page2.Gate) → gate (ungate g) ≡ g
unfolding gate ungate
gate-of (page2.Xor a b) = refl
gate-of (page2.And a b) = refl
gate-of (page2.Not a) = refl

gates-of : (gs : List page2.Gate) → map gate (map ungate gs) ≡ gs
gates-of [] = refl
gates-of (g ∷ gs) = ap₂ (λ (a : page2.Gate) (r : List page2.Gate). a ∷ r) (gate-of g) (gates-of gs)

abbrev pub library : page2.Circuit → own.Circuit
library c = record { inputs = c.inputs; gates = map ungate c.gates; outputs = c.outputs }

pub circuit-of : (c : page2.Circuit) → circuit (library c) ≡ c
circuit-of c = ap (λ (gs : List page2.Gate). record { inputs = c.inputs; gates = gs; outputs = c.outputs }) (gates-of c.gates)

-- ---- what is admitted

abbrev wires_of : own.Gate → List ℕ
wires_of g = drop 1 (page2.gate_numbers (gate g))

gate-below : (wire : ℕ) (g : own.Gate) → ((k : ℕ) → get_or (wires_of g) k 0 < wire) → admitted.GateBelow wire g
unfolding gate page2.gate_numbers admitted.GateBelow
gate-below wire (own.Xor a b) h = (h 0, h 1)
gate-below wire (own.And a b) h = (h 0, h 1)
gate-below wire (own.Not a) h = h 0

wires-below : (wire : ℕ) → 1 ≤ wire → (g : own.Gate) → admitted.GateBelow wire g → (k : ℕ) → get_or (wires_of g) k 0 < wire
unfolding gate page2.gate_numbers admitted.GateBelow
wires-below wire some (own.Xor a b) h zero = h.0
wires-below wire some (own.Xor a b) h (suc zero) = h.1
wires-below wire some (own.Xor a b) h (suc (suc k)) = some
wires-below wire some (own.And a b) h zero = h.0
wires-below wire some (own.And a b) h (suc zero) = h.1
wires-below wire some (own.And a b) h (suc (suc k)) = some
wires-below wire some (own.Not a) h zero = h
wires-below wire some (own.Not a) h (suc k) = some

gates-below : (gs : List own.Gate) (wire : ℕ) → ((i k : ℕ) → i < length gs → get_or (wires_of (get_or gs i (own.Not 0))) k 0 < wire + i)
    → admitted.GatesBelow wire gs
unfolding admitted.GatesBelow
gates-below [] wire h = tt
gates-below (g ∷ gs) wire h = (
  gate-below wire g (λ k. let z = h 0 k (omega arith) in omega (arith, z)),
  gates-below gs (wire + 1) (λ i k e. let z = h (suc i) k (omega arith) in omega (arith, z)),
)

each_below : (l : List ℕ) (limit : ℕ) → ((k : ℕ) → get_or l k 0 < limit) → admitted.WiresBelow limit l
unfolding admitted.WiresBelow
each_below [] limit h = tt
each_below (w ∷ l) limit h = (h 0, each_below l limit (λ k. h (suc k)))

below_each : (l : List ℕ) (limit : ℕ) → 1 ≤ limit → admitted.WiresBelow limit l → (k : ℕ) → get_or l k 0 < limit
unfolding admitted.WiresBelow
below_each [] limit some h k = some
below_each (w ∷ l) limit some h zero = h.0
below_each (w ∷ l) limit some h (suc k) = below_each l limit some h.1 k

module _ (x : own.Circuit) where
  numbers : (i : ℕ) → drop 1 (page2.gate_numbers (page2.gate_at (circuit x) i)) ≡ wires_of (get_or x.gates i (own.Not 0))
  numbers i = ap (λ (g : page2.Gate). drop 1 (page2.gate_numbers g)) (gate-at x.gates i)

  to_admitted : page2.AdmittedCircuit (circuit x) → admitted.AdmittedCircuit x
  to_admitted a =
      let n = length-gates x.gates in
      record {
        inputs = a.0;
        wires = omega (arith, a.1, n);
        outputs = (a.2, a.3);
        gates =
            gates-below x.gates x.inputs
            (λ i k h. subst (λ (l : List ℕ). get_or l k 0 < x.inputs + i) (numbers i) (a.4 i k (omega (arith, h, n))));
        output_wires = each_below x.outputs (x.inputs + length x.gates) (λ k. let z = a.5 k in omega (arith, z, n));
      }

  pub of_admitted : admitted.AdmittedCircuit x → page2.AdmittedCircuit (circuit x)
  of_admitted a =
      let n = length-gates x.gates in (
        a.inputs,
        omega (arith, a.wires, n),
        a.outputs.0,
        a.outputs.1,
        λ i k h.
            subst (λ (l : List ℕ). get_or l k 0 < x.inputs + i) (sym (numbers i))
            (wires-below (x.inputs + i) (omega (arith, a.inputs)) (get_or x.gates i (own.Not 0))
            (below_at x.gates x.inputs i a.gates (omega (arith, h, n))) k),
        λ k. let z = below_each x.outputs (x.inputs + length x.gates) (omega (arith, a.inputs)) a.output_wires k in omega (arith, z, n),
      )

  pub back_of : page2.AdmittedCircuit (circuit x) → Gives (page2.read_circuit (page2.write_circuit (circuit x)) 0) (circuit x)
  back_of a =
      subst (λ (s : List ℕ). Gives (page2.read_circuit s 0) (circuit x)) (sym (written_is x)) (gives_of _ x (one-writing.back x (to_admitted a)))

-- ---- gathered triples

module _ (l w : List ℕ) (j i : ℕ) (e : take 3 (drop (j * 3) l) ≡ take 3 (drop (i * 3) w)) where
  bit_of : (b : ℕ) → b < 3 → get_or l (j * 3 + b) 0 ≡ get_or w (i * 3 + b) 0
  bit_of b h =
      sym (get_or-take 3 (drop (j * 3) l) b 0 h ∙ get_or-drop (j * 3) l b 0) ∙ ap (λ (z : List ℕ). get_or z b 0) e
      ∙ get_or-take 3 (drop (i * 3) w) b 0 h ∙ get_or-drop (i * 3) w b 0

gathered : (l l' : TripleInput) (i i' : ℕ) → FormedAt l l' i i' → (triples₁ triples₂ : List ℕ) (j : ℕ)
    → take 3 (drop (j * 3) triples₁) ≡ take 3 (drop (i * 3) (wrote (formed l) 0))
    → take 3 (drop (j * 3) triples₂) ≡ take 3 (drop (i' * 3) (wrote (formed l') 0)) → Matching triples₁ j triples₂ j
gathered l l' i i' f triples₁ triples₂ j e₁ e₂ =
    let one = bit_of triples₁ (wrote (formed l) 0) j i e₁ in
    let two = bit_of triples₂ (wrote (formed l') 0) j i' e₂ in
    let both : (b : ℕ) → b < 3 → bit_xor (get_or triples₁ (j * 3 + b) 0) (get_or triples₂ (j * 3 + b) 0)
    ≡ bit_xor (get_or (wrote (formed l) 0) (i * 3 + b) 0) (get_or (wrote (formed l') 0) (i' * 3 + b) 0) = λ b h. ap₂ bit_xor (one b h) (two b h) in
    both 2 (omega arith) ∙ (triples-match.matching l l' i i' f).2 ∙ sym (ap₂ bit_and (both 0 (omega arith)) (both 1 (omega arith)))

pub circuits : says.Circuits
unfolding Bytes
circuits =
    record {
      back = λ c a.
          subst (λ (d : page2.Circuit). page2.AdmittedCircuit d → Gives (page2.read_circuit (page2.write_circuit d) 0) d) (circuit-of c)
          (back_of (library c)) a;
      one = λ s bytes.
          on_read (λ c. page2.AdmittedCircuit c × (s ≡ page2.write_circuit c)) s λ x e.
          let p = one-writing.exact s bytes x e in (of_admitted x p.0, p.1 ∙ sym (written_is x));
      gathered = gathered;
      in-steps = steps-run;
      in-rounds = rounds-run;
      advances = advances;
      finishes = finishes;
      far_unread = far_unread;
      wires = wires;
    }
