-- The byte of each wire after an accepted round, by the byte before it and the bytes of the wires below it. Assumes nothing.
use Prim.Native.Nat.{ℕ, zero, suc, ◌+◌, ◌-◌, ◌<◌}
use mathlib.Core.Bool.{Bool}
use mathlib.Core.List.{List, [], ◌∷◌, ◌++◌}
use mathlib.Core.Path.{◌≡◌, refl, sym, ap, ◌∙◌, subst}
use native.Mathlib.Omega.{arith}
use lib.ListN.{length, get_or, take, drop, length-append, get_or-append}
use lib.Seq.{get_or-append-add, get_or-drop, get_or-take, length-take-le}
use Rattle.algebra.specs.Choice.{choose}
use Rattle.circuit.proofs.Folds.{fold_length, fold_keeps, fold_holds, below_at}
use Rattle.circuit.specs.Admitted.{GateBelow, GatesBelow}
use Rattle.circuit.specs.Content.{Gate, Xor, And, Not, Circuit}
use Rattle.circuit.specs.Value.{over_gates}
use Rattle.circuit_run.proofs.RoundGates.{share-at}
use Rattle.circuit_run.proofs.Inputs.{inputs-length}
use Rattle.circuit_run.specs.Round.{RoundLent, waits, is_known, share_of, known_as, shares_in}
use Rattle.circuit_run.specs.Round.{waiting_before, input_bytes, ready, opened_share, computed, gate_byte, wires_after}
use Rattle.circuit_run.specs.Step.{gate_at, masked_first, masked_second}

-- ---- inputs

pub later_at : (bytes : List ℕ) (w : ℕ) → get_or (drop 1 bytes) w 0 ≡ get_or bytes (suc w) 0
later_at [] w = refl
later_at (x ∷ xs) w = refl

inputs_at : (shares bytes : List ℕ) (w : ℕ) → w < length shares
    → get_or (input_bytes shares bytes) w 0 ≡ choose (is_known (get_or bytes w 0)) (get_or bytes w 0) (known_as (get_or shares w 0))
unfolding input_bytes
inputs_at [] bytes w h = absurd (omega arith)
inputs_at (x ∷ xs) bytes zero h = refl
inputs_at (x ∷ xs) bytes (suc w) h =
    inputs_at xs (drop 1 bytes) w (omega arith) ∙ ap (λ (b : ℕ). choose (is_known b) b (known_as (get_or xs w 0))) (later_at bytes w)

-- ---- gates

-- what is computed depends on the wires below it alone
module _ (c : Circuit) (l : RoundLent) (i p n : ℕ) (waited : Bool) (xs ys : List ℕ) (same : (w : ℕ) → w < n → get_or xs w 0 ≡ get_or ys w 0) where
  same-share : (w : ℕ) → w < n → get_or (shares_in xs) w 0 ≡ get_or (shares_in ys) w 0
  same-share w h = share-at xs w ∙ ap share_of (same w h) ∙ sym (share-at ys w)

  pub computed-below : (g : Gate) → gate_at c i ≡ g → GateBelow n g → computed c l i p waited g xs ≡ computed c l i p waited g ys
  unfolding computed ready opened_share masked_first masked_second GateBelow
  computed-below (Xor a b) e ok = rw (same a ok.0, same b ok.1, same-share a ok.0, same-share b ok.1)
  computed-below (And a b) e ok = rw (e, same a ok.0, same b ok.1, same-share a ok.0, same-share b ok.1)
  computed-below (Not a) e ok = rw (same a ok, same-share a ok)

module _ (c : Circuit) (l : RoundLent) (before : List ℕ) (one : length l.shares ≡ c.inputs) (ok : GatesBelow c.inputs c.gates) where
  abbrev all : ℕ
  all = c.inputs + length c.gates

  abbrev made : List ℕ
  made = over_gates (gate_byte c l before) c.gates (input_bytes l.shares before)

  abbrev after : List ℕ
  after = wires_after c l before

  first-length : length (input_bytes l.shares before) ≡ c.inputs
  first-length = inputs-length l.shares before ∙ one

  made-length : length made ≡ all
  made-length = fold_length (gate_byte c l before) c.gates (input_bytes l.shares before) ∙ ap (λ (n : ℕ). n + length c.gates) first-length

  pub inside : (w : ℕ) → w < all → get_or after w 0 ≡ get_or made w 0
  unfolding wires_after
  inside w h = get_or-append made (drop all before) 0 w (omega (arith, made-length))

  -- wires past the circuit's stay
  pub outside : (w : ℕ) → get_or after (all + w) 0 ≡ get_or before (all + w) 0
  unfolding wires_after
  outside w =
      ap (λ (n : ℕ). get_or (made ++ drop all before) (n + w) 0) (sym made-length)
      ∙ get_or-append-add made (drop all before) w 0 ∙ get_or-drop all before w 0

  pub after-length : length after ≡ all + length (drop all before)
  unfolding wires_after
  after-length = length-append made (drop all before) ∙ ap (λ (n : ℕ). n + length (drop all before)) made-length

  -- an input
  pub at_input : (w : ℕ) → w < c.inputs → get_or after w 0 ≡ choose (is_known (get_or before w 0)) (get_or before w 0) (known_as (get_or l.shares w 0))
  at_input w h =
      inside w (omega arith)
      ∙ fold_keeps (gate_byte c l before) c.gates (input_bytes l.shares before) w (omega (arith, first-length))
      ∙ inputs_at l.shares before w (omega arith)

  -- a gate
  gate-byte : (g : Gate) (bytes : List ℕ) (i : ℕ) → length bytes ≡ c.inputs + i
      → gate_byte c l before g bytes
      ≡ choose (is_known (get_or before (c.inputs + i) 0)) (get_or before (c.inputs + i) 0)
      (computed c l i (waiting_before c before i) (waits (get_or before (c.inputs + i) 0)) g bytes)
  unfolding gate_byte
  gate-byte g bytes i e = let here : length bytes - c.inputs ≡ i = omega arith in rw (here, e)

  pub at_gate : (i : ℕ) → i < length c.gates
      → get_or after (c.inputs + i) 0
      ≡ choose (is_known (get_or before (c.inputs + i) 0)) (get_or before (c.inputs + i) 0)
      (computed c l i (waiting_before c before i) (waits (get_or before (c.inputs + i) 0)) (gate_at c i) after)
  at_gate i h =
      let w : ℕ = c.inputs + i in
      inside w (omega arith)
      ∙ subst (λ (n : ℕ). get_or made (n + i) 0 ≡ gate_byte c l before (gate_at c i) (take (n + i) made)) first-length
      (fold_holds (gate_byte c l before) c.gates (input_bytes l.shares before) i h)
      ∙ gate-byte (gate_at c i) (take w made) i (length-take-le w made (omega (arith, made-length)))
      ∙ ap (λ (b : ℕ). choose (is_known (get_or before w 0)) (get_or before w 0) b)
      (computed-below c l i (waiting_before c before i) w (waits (get_or before w 0)) (take w made) after
      (λ v k. get_or-take w made v 0 k ∙ sym (inside v (omega arith))) (gate_at c i) refl (below_at c.gates c.inputs i ok h))
