-- Joined: two transcripts, one in each role, with each other's bits and matching triples, give the circuit's value. Wire by wire both
-- ends' shares are bits and combined the circuit's values. Assumes nothing.
use Prim.Native.Nat.{ℕ, zero, suc, ◌+◌, ◌≤◌, ◌<◌}
use mathlib.Core.Bool.{true}
use mathlib.Core.List.{List, [], ◌∷◌}
use mathlib.Core.Path.{◌≡◌, refl, sym, ap, ap₂, ◌∙◌}
use native.Mathlib.Omega.{arith}
use lib.Bits.{bit_xor, bit_and}
use lib.ListN.{length, get_or}
use Rattle.circuit.proofs.Folds.{fold_keeps, by_gates, below_at}
use Rattle.circuit.proofs.Values.{values_hold}
use Rattle.circuit.specs.Admitted.{GateBelow, GatesBelow, WiresBelow, AdmittedCircuit}
use Rattle.circuit.specs.Content.{Gate, Xor, And, Not, Circuit, is_and, ands_in}
use Rattle.circuit.specs.Value.{gate_value, wire_values, at_wires, value_of}
use Rattle.circuit_run.proofs.Bits.{xor-bit, share-bit}
use Rattle.circuit_run.specs.Step.{gate_at, ands_before, flipped, masked_first, masked_second}
use Rattle.pads.specs.Triples.Matching.{Matching}
use Rattle.circuit_claims.proofs.AndGates.{and_before}
use Rattle.circuit_claims.proofs.Bits.{not-shares, xor-shares, and-shares}
use Rattle.circuit_claims.proofs.Transcripts.{shares_keep, shares_hold}
use Rattle.circuit_claims.specs.Evaluation.{combined}
use Rattle.circuit_claims.specs.Transcript.{BitsByAnd, share_with_far, share_at, wire_shares, masked_bits, Transcript}

-- ---- combined

pub combined-length : (xs ys : List ℕ) (n : ℕ) → length xs ≡ n → length ys ≡ n → length (combined xs ys) ≡ n
unfolding combined
combined-length [] ys n e f = e
combined-length (x ∷ xs) [] n e f = absurd (omega arith)
combined-length (x ∷ xs) (y ∷ ys) zero e f = absurd (omega arith)
combined-length (x ∷ xs) (y ∷ ys) (suc n) e f = ap suc (combined-length xs ys n (omega arith) (omega arith))

pub combined_at : (xs ys : List ℕ) (w : ℕ) → w < length xs → w < length ys → get_or (combined xs ys) w 0 ≡ bit_xor (get_or xs w 0) (get_or ys w 0)
unfolding combined
combined_at [] ys w h g = absurd (omega arith)
combined_at (x ∷ xs) [] w h g = absurd (omega arith)
combined_at (x ∷ xs) (y ∷ ys) zero h g = refl
combined_at (x ∷ xs) (y ∷ ys) (suc w) h g = combined_at xs ys w (omega arith) (omega arith)

-- both ends' shares of a wire are bits and combined its value
abbrev pub AgreeAt : List ℕ → List ℕ → List ℕ → ℕ → Type 0
AgreeAt one two values w = (get_or one w 0 ≤ 1) × (get_or two w 0 ≤ 1) × (bit_xor (get_or one w 0) (get_or two w 0) ≡ get_or values w 0)

combined-outputs : (n : ℕ) (one two values ws : List ℕ) → ((w : ℕ) → w < n → AgreeAt one two values w) → WiresBelow n ws
    → combined (at_wires one ws) (at_wires two ws) ≡ at_wires values ws
unfolding combined WiresBelow
combined-outputs n one two values [] agree ok = refl
combined-outputs n one two values (w ∷ ws) agree ok =
    ap₂ (λ (x : ℕ) (l : List ℕ). x ∷ l) (agree w ok.0).2 (combined-outputs n one two values ws agree ok.1)

-- ---- wire by wire

-- an end's shares and triples are bits, a share for each input
pub record Held (c : Circuit) (shares triples : List ℕ) : Type 0 where
  pub one_each : length shares ≡ c.inputs
  pub share-bits : (w : ℕ) → get_or shares w 0 ≤ 1
  pub triple-bits : (w : ℕ) → get_or triples w 0 ≤ 1

pub held : {role : ℕ} {c : Circuit} {shares triples : List ℕ} {far sent : BitsByAnd} {outputs : List ℕ}
    → Transcript role c shares triples far sent outputs → Held c shares triples
held t = record { one_each = t.one_each; share-bits = t.share-bits; triple-bits = t.triple-bits }

module _ {c : Circuit} {shares₁ triples₁ shares₂ triples₂ : List ℕ} (far₁ far₂ : BitsByAnd) (ok : GatesBelow c.inputs c.gates)
    (one : Held c shares₁ triples₁) (two : Held c shares₂ triples₂) (matching : Matching (ands_in c.gates) triples₁ triples₂) where
  abbrev W₁ : List ℕ
  W₁ = wire_shares 1 c triples₁ far₁ shares₁

  abbrev W₂ : List ℕ
  W₂ = wire_shares 2 c triples₂ far₂ shares₂

  abbrev values : List ℕ
  values = wire_values c.gates (combined shares₁ shares₂)

  inputs-combined : length (combined shares₁ shares₂) ≡ c.inputs
  inputs-combined = combined-length shares₁ shares₂ c.inputs one.one_each two.one_each

  inputs_agree : (w : ℕ) → w < c.inputs → AgreeAt W₁ W₂ values w
  inputs_agree w h =
      let a = shares_keep 1 c triples₁ far₁ shares₁ one.one_each ok w h in
      let b = shares_keep 2 c triples₂ far₂ shares₂ two.one_each ok w h in (
        omega (arith, a, one.share-bits w),
        omega (arith, b, two.share-bits w),
        ap₂ bit_xor a b ∙ sym (combined_at shares₁ shares₂ w (omega (arith, one.one_each)) (omega (arith, two.one_each)))
            ∙ sym (fold_keeps gate_value c.gates (combined shares₁ shares₂) w (omega (arith, inputs-combined))),
      )

  -- an AND's far bits are the far end's masked bits
  abbrev GotMasked : ℕ → Type 0
  GotMasked i =
      (far₁ (ands_before c i) ≡ masked_bits 2 c triples₂ far₂ shares₂ i) × (far₂ (ands_before c i) ≡ masked_bits 1 c triples₁ far₁ shares₁ i)

  -- the wire of gate i, from those before it
  module _ (i : ℕ) (h : i < length c.gates) (agree : (w : ℕ) → w < c.inputs + i → AgreeAt W₁ W₂ values w)
      (got : is_and (gate_at c i) ≡ true → GotMasked i) where
    of : (g : Gate) → gate_at c i ≡ g → GateBelow (c.inputs + i) g
        → (share_at 1 c triples₁ far₁ i g W₁ ≤ 1) × (share_at 2 c triples₂ far₂ i g W₂ ≤ 1)
        × (bit_xor (share_at 1 c triples₁ far₁ i g W₁) (share_at 2 c triples₂ far₂ i g W₂) ≡ gate_value g values)
    unfolding share_at share_with_far gate_value GateBelow flipped masked_first masked_second
    of (Xor a b) e below =
        let x = agree a below.0 in
        let y = agree b below.1 in
        (xor-bit x.0 y.0, xor-bit x.1 y.1, xor-shares (get_or W₁ a 0) (get_or W₁ b 0) (get_or W₂ a 0) (get_or W₂ b 0) ∙ ap₂ bit_xor x.2 y.2)
    of (And a b) e below =
        let x = agree a below.0 in
        let y = agree b below.1 in
        let is_and-here = ap is_and e in
        let t₁ = one.triple-bits in
        let t₂ = two.triple-bits in
        rw ((got is_and-here).0, (got is_and-here).1, e) (
          share-bit 1 (xor-bit (xor-bit x.0 (t₁ _)) (xor-bit x.1 (t₂ _))) (xor-bit (xor-bit y.0 (t₁ _)) (xor-bit y.1 (t₂ _))) (t₁ _) (t₁ _) (t₁ _),
          share-bit 2 (xor-bit (xor-bit x.1 (t₂ _)) (xor-bit x.0 (t₁ _))) (xor-bit (xor-bit y.1 (t₂ _)) (xor-bit y.0 (t₁ _))) (t₂ _) (t₂ _) (t₂ _),
          and-shares x.0 y.0 (t₁ _) (t₁ _) (t₁ _) x.1 y.1 (t₂ _) (t₂ _) (t₂ _) (matching (ands_before c i) (and_before c i is_and-here))
              ∙ ap₂ bit_and x.2 y.2,
        )
    of (Not a) e below =
        let x = agree a below in
        (xor-bit x.0 (omega arith), x.1, not-shares (get_or W₁ a 0) (get_or W₂ a 0) ∙ ap (λ (n : ℕ). bit_xor n 1) x.2)

    gate_agrees : AgreeAt W₁ W₂ values (c.inputs + i)
    gate_agrees =
        let p = shares_hold 1 c triples₁ far₁ shares₁ one.one_each ok i h in
        let q = shares_hold 2 c triples₂ far₂ shares₂ two.one_each ok i h in
        let r = of (gate_at c i) refl (below_at c.gates c.inputs i ok h) in (
          omega (arith, p, r.0),
          omega (arith, q, r.1),
          ap₂ bit_xor p q ∙ r.2 ∙ sym (values_hold c.gates (combined shares₁ shares₂) c.inputs inputs-combined ok i h),
        )

  -- all wires, if an AND's far bits are right wherever the wires before it agree
  pub agreed : ((i : ℕ) → i < length c.gates → ((w : ℕ) → w < c.inputs + i → AgreeAt W₁ W₂ values w) → is_and (gate_at c i) ≡ true → GotMasked i)
      → (w : ℕ) → w < c.inputs + length c.gates → AgreeAt W₁ W₂ values w
  agreed got = by_gates (AgreeAt W₁ W₂ values) c.inputs (length c.gates) inputs_agree (λ i h agree. gate_agrees i h agree (got i h agree))

-- ---- joined

module _ {c : Circuit} {shares₁ triples₁ shares₂ triples₂ : List ℕ} {far₁ sent₁ far₂ sent₂ : BitsByAnd} {outputs₁ outputs₂ : List ℕ}
    (ok : AdmittedCircuit c) (one : Transcript 1 c shares₁ triples₁ far₁ sent₁ outputs₁) (two : Transcript 2 c shares₂ triples₂ far₂ sent₂ outputs₂)
    (to_1 : (i : ℕ) → is_and (gate_at c i) ≡ true → far₁ (ands_before c i) ≡ sent₂ (ands_before c i))
    (to_2 : (i : ℕ) → is_and (gate_at c i) ≡ true → far₂ (ands_before c i) ≡ sent₁ (ands_before c i))
    (matching : Matching (ands_in c.gates) triples₁ triples₂) where
  pub wires_agree : (w : ℕ) → w < c.inputs + length c.gates
      → AgreeAt (wire_shares 1 c triples₁ far₁ shares₁) (wire_shares 2 c triples₂ far₂ shares₂) (wire_values c.gates (combined shares₁ shares₂)) w
  wires_agree = agreed far₁ far₂ ok.gates (held one) (held two) matching (λ i h agree a. (to_1 i a ∙ two.sends i a, to_2 i a ∙ one.sends i a))

  pub joined : combined outputs₁ outputs₂ ≡ value_of c (combined shares₁ shares₂)
  unfolding value_of
  joined =
      ap₂ combined one.written two.written
      ∙ combined-outputs (c.inputs + length c.gates) (wire_shares 1 c triples₁ far₁ shares₁) (wire_shares 2 c triples₂ far₂ shares₂)
      (wire_values c.gates (combined shares₁ shares₂)) c.outputs wires_agree ok.output_wires
