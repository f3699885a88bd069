-- The shares of all wires by the far bits of each AND: what stands at each wire, and that it follows from the far bits of the ANDs
-- before it alone. Assumes nothing.
use Prim.Native.Nat.{ℕ, ◌+◌, ◌-◌, ◌≤◌, ◌<◌}
use mathlib.Core.Bool.{true}
use mathlib.Core.List.{List, [], ◌∷◌}
use mathlib.Core.Path.{◌≡◌, refl, sym, ap, ap₂, ◌∙◌, subst}
use native.Mathlib.Omega.{arith}
use lib.Bits.{bit_xor}
use lib.ListN.{length, get_or, take}
use lib.Seq.{get_or-take, length-take-le}
use Rattle.algebra.specs.Coding.{at}
use Rattle.circuit.proofs.Folds.{fold_length, fold_keeps, fold_holds, by_gates, below_at}
use Rattle.circuit.specs.Admitted.{GateBelow, GatesBelow, WiresBelow}
use Rattle.circuit.specs.Content.{Gate, Xor, And, Not, Circuit, is_and, ands_in}
use Rattle.circuit.specs.Value.{at_wires}
use Rattle.circuit_run.specs.Step.{gate_at, ands_before, flipped, masked_first, masked_second, and_share}
use Rattle.pads.specs.Triples.Triple.{Triple, triple_bytes}
use Rattle.circuit_claims.proofs.AndGates.{and_earlier, and_before, and_below}
use Rattle.circuit_claims.specs.Transcript.{BitsByAnd, share_with_far, share_at, wire_shares, masked_bits}

-- two lists are the same below n
abbrev pub Same : ℕ → List ℕ → List ℕ → Type 0
Same n xs ys = (w : ℕ) → w < n → get_or xs w 0 ≡ get_or ys w 0

-- so what stands at wires below n is
pub outputs-same : (n : ℕ) (xs ys ws : List ℕ) → Same n xs ys → WiresBelow n ws → at_wires xs ws ≡ at_wires ys ws
unfolding WiresBelow
outputs-same n xs ys [] same ok = refl
outputs-same n xs ys (w ∷ ws) same ok = ap₂ (λ (x : ℕ) (l : List ℕ). x ∷ l) (same w ok.0) (outputs-same n xs ys ws same ok.1)

-- triples are the same below a number
abbrev pub SameTriples : ℕ → List ℕ → List ℕ → Type 0
SameTriples n t t' = (j : ℕ) → j < n → at triple_bytes t j ≡ at triple_bytes t' j

module _ (c : Circuit) (i n : ℕ) (xs ys t t' : List ℕ) (same : Same n xs ys) where
  -- masked bits of an AND depend on the wires below it and on its triple
  pub masked_same : is_and (gate_at c i) ≡ true → GateBelow n (gate_at c i) → at triple_bytes t (ands_before c i) ≡ at triple_bytes t' (ands_before c i)
      → (masked_first c t xs i ≡ masked_first c t' ys i) × (masked_second c t xs i ≡ masked_second c t' ys i)
  unfolding masked_first masked_second
  masked_same a ok e =
      let b = and_below (gate_at c i) n a ok in (
        ap₂ bit_xor (same _ b.0) (ap (λ (x : Triple). x.bit1) e),
        ap₂ bit_xor (same _ b.1) (ap (λ (x : Triple). x.bit2) e),
      )

  -- so does its share, by its far bits
  abbrev by : ℕ → ℕ → ℕ → ℕ × ℕ → Triple → ℕ
  by role x y f u = and_share role (bit_xor x f.0) (bit_xor y f.1) u.bit1 u.bit2 u.bit3

  pub opened-same : (role : ℕ) (f f' : ℕ × ℕ) → is_and (gate_at c i) ≡ true → GateBelow n (gate_at c i) → f ≡ f'
      → at triple_bytes t (ands_before c i) ≡ at triple_bytes t' (ands_before c i) → share_with_far role c t xs i f ≡ share_with_far role c t' ys i f'
  unfolding share_with_far
  opened-same role f f' a ok far e =
      let m = masked_same a ok e in
      ap₂ (λ (x y : ℕ). by role x y f (at triple_bytes t (ands_before c i))) m.0 m.1
      ∙ ap₂ (λ (z : ℕ × ℕ) (u : Triple). by role (masked_first c t' ys i) (masked_second c t' ys i) z u) far e

  pub share-same : (role : ℕ) (far far' : BitsByAnd) (g : Gate) → gate_at c i ≡ g → GateBelow n g
      → (is_and g ≡ true → (far (ands_before c i) ≡ far' (ands_before c i)) × (at triple_bytes t (ands_before c i) ≡ at triple_bytes t' (ands_before c i)))
      → share_at role c t far i g xs ≡ share_at role c t' far' i g ys
  unfolding share_at GateBelow
  share-same role far far' (Xor a b) e ok and = ap₂ bit_xor (same a ok.0) (same b ok.1)
  share-same role far far' (And a b) e ok and =
      opened-same role (far (ands_before c i)) (far' (ands_before c i)) (ap is_and e) (subst (GateBelow n) (sym e) ok) (and refl).0 (and refl).1
  share-same role far far' (Not a) e ok and = ap (flipped role) (same a ok)

-- ---- what stands at each wire

module _ (role : ℕ) (c : Circuit) (triples : List ℕ) (far : BitsByAnd) (shares : List ℕ) (one_each : length shares ≡ c.inputs)
    (ok : GatesBelow c.inputs c.gates) where
  abbrev W : List ℕ
  W = wire_shares role c triples far shares

  pub shares-length : length W ≡ c.inputs + length c.gates
  unfolding wire_shares
  shares-length = omega (arith, fold_length (λ g wires. share_at role c triples far (length wires - c.inputs) g wires) c.gates shares)

  pub shares_keep : (w : ℕ) → w < c.inputs → get_or W w 0 ≡ get_or shares w 0
  unfolding wire_shares
  shares_keep w h = fold_keeps (λ g wires. share_at role c triples far (length wires - c.inputs) g wires) c.gates shares w (omega arith)

  pub shares_hold : (i : ℕ) → i < length c.gates → get_or W (c.inputs + i) 0 ≡ share_at role c triples far i (gate_at c i) W
  unfolding wire_shares
  shares_hold i h =
      let n : ℕ = c.inputs + i in
      let long : length (take n W) ≡ n = length-take-le n W (omega (arith, shares-length)) in
      subst (λ (m : ℕ). get_or W (m + i) 0 ≡ share_at role c triples far (length (take (m + i) W) - c.inputs) (gate_at c i) (take (m + i) W)) one_each
      (fold_holds (λ g wires. share_at role c triples far (length wires - c.inputs) g wires) c.gates shares i h)
      ∙ ap (λ (m : ℕ). share_at role c triples far m (gate_at c i) (take n W)) {x = length (take n W) - c.inputs} {y = i} (omega arith)
      ∙ share-same c i n (take n W) W triples triples (λ w k. get_or-take n W w 0 k) role far far (gate_at c i) refl (below_at c.gates c.inputs i ok h)
      (λ _. (refl, refl))

-- ---- determined: equal far bits of the ANDs before a gate give equal shares of the wires before it

module _ (role : ℕ) (c : Circuit) (t t' : List ℕ) (far far' : BitsByAnd) (shares : List ℕ) (one_each : length shares ≡ c.inputs)
    (ok : GatesBelow c.inputs c.gates) (triples : SameTriples (ands_in c.gates) t t') where
  pub determined : (n : ℕ) → n ≤ length c.gates → ((j : ℕ) → j < ands_before c n → far j ≡ far' j)
      → Same (c.inputs + n) (wire_shares role c t far shares) (wire_shares role c t' far' shares)
  determined n h equal =
      by_gates (λ w. get_or (wire_shares role c t far shares) w 0 ≡ get_or (wire_shares role c t' far' shares) w 0) c.inputs n
      (λ w k. shares_keep role c t far shares one_each ok w k ∙ sym (shares_keep role c t' far' shares one_each ok w k))
      (λ i k before.
      shares_hold role c t far shares one_each ok i (omega arith)
      ∙ share-same c i (c.inputs + i) (wire_shares role c t far shares) (wire_shares role c t' far' shares) t t' before role far far' (gate_at c i) refl
      (below_at c.gates c.inputs i ok (omega arith))
      (λ a. (equal (ands_before c i) (and_earlier c i n a k), triples (ands_before c i) (and_before c i a)))
      ∙ sym (shares_hold role c t' far' shares one_each ok i (omega arith)))

  -- and equal bits sent for an AND
  pub sent_determined : (i : ℕ) → is_and (gate_at c i) ≡ true → i < length c.gates → ((j : ℕ) → j < ands_before c i → far j ≡ far' j)
      → masked_bits role c t far shares i ≡ masked_bits role c t' far' shares i
  sent_determined i a h equal =
      let m = masked_same c i (c.inputs + i) (wire_shares role c t far shares) (wire_shares role c t' far' shares) t t' (determined i (omega arith) equal) a
      (below_at c.gates c.inputs i ok h) (triples (ands_before c i) (and_before c i a)) in
      ap₂ (λ (x y : ℕ). (x, y)) m.0 m.1
