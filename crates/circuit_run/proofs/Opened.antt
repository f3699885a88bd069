-- The bits to send: one gate more, and that a wire behind the gates passed does not change theirs. Assumes nothing.
use Prim.Native.Nat.{ℕ, zero, suc, ◌+◌, ◌≤◌, ◌<◌}
use mathlib.Core.List.{List, [], ◌∷◌, ◌++◌, append_assoc, append-nil}
use mathlib.Core.Path.{◌≡◌, refl, sym, ap, ◌∙◌, subst}
use native.Mathlib.Nat.{add-zero}
use native.Mathlib.Numerals.{add-one}
use native.Mathlib.Omega.{arith}
use lib.ListN.{length, get_or, set, drop, length-append, length-drop}
use lib.Seq.{sets-eq, take_at, drop_at, drop-drop, get_or-set_other}
use Rattle.algebra.specs.Choice.{choose}
use Rattle.circuit.specs.Admitted.{GateBelow, GatesBelow}
use Rattle.circuit.specs.Content.{Gate, Xor, And, Not, Circuit}
use Rattle.circuit_run.specs.Step.{gate_at, first_wire, second_wire, masked_first, masked_second}
use Rattle.circuit_run.proofs.RoundGates.{share-at}
use Rattle.circuit_run.specs.Round.{waits, share_of, shares_in, opened_bits}

-- ---- a gate's wires come before it

wires-below : (w : ℕ) (g : Gate) → GateBelow w g → (first_wire g < w) × (second_wire g < w)
unfolding GateBelow
wires-below w (Xor a b) h = h
wires-below w (And a b) h = h
wires-below w (Not a) h = (h, omega arith)

pub gate-below : (w : ℕ) (gs : List Gate) → GatesBelow w gs → (j : ℕ) → j < length gs → (first_wire (get_or gs j (Not 0)) < w + j) × (second_wire (get_or gs j (Not 0)) < w + j)
unfolding GatesBelow
gate-below w [] h j k = absurd (omega arith)
gate-below w (g ∷ gs) h zero k =
    subst (λ (n : ℕ). (first_wire g < n) × (second_wire g < n)) (sym (add-zero w)) (wires-below w g h.0)
gate-below w (g ∷ gs) h (suc j) k =
    let b = gate-below (w + 1) gs h.1 j (omega arith) in
    (omega (arith, b.0), omega (arith, b.1))

-- ---- one gate more

module _ (c : Circuit) (triples bytes : List ℕ) where
  -- what the gate at a number adds
  abbrev pub adds : ℕ → List ℕ
  adds k =
      choose (waits (get_or bytes (c.inputs + k) 0)) (masked_first c triples (shares_in bytes) k ∷ masked_second c triples (shares_in bytes) k ∷ []) []

  pub opened_more : (gs : List Gate) (g : Gate) (i k : ℕ) → i + length gs ≡ k
      → opened_bits c triples bytes i (gs ++ (g ∷ [])) ≡ opened_bits c triples bytes i gs ++ adds k
  unfolding opened_bits
  opened_more [] g i k e = append-nil (adds i) ∙ ap adds (sym (add-zero i) ∙ e)
  opened_more (h ∷ gs) g i k e =
      ap (λ (l : List ℕ). adds i ++ l) (opened_more gs g (i + 1) k (omega arith))
      ∙ sym (append_assoc (adds i) (opened_bits c triples bytes (i + 1) gs) (adds k))

-- ---- a wire behind them

module _ (wires : List ℕ) (n x : ℕ) where
  pub share-kept : (w : ℕ) → w < n → get_or (shares_in (set wires n x)) w 0 ≡ get_or (shares_in wires) w 0
  share-kept w h =
      share-at (set wires n x) w ∙ ap share_of (get_or-set_other wires n w x 0 (λ e. omega arith)) ∙ sym (share-at wires w)

  module _ (c : Circuit) (triples : List ℕ) (m : ℕ) (e : n ≡ c.inputs + m)
      (below : (j : ℕ) → j < m → (first_wire (gate_at c j) < n) × (second_wire (gate_at c j) < n)) where
    adds_kept : (i : ℕ) → i < m → adds c triples (set wires n x) i ≡ adds c triples wires i
    unfolding masked_first masked_second
    adds_kept i h =
        let b = below i h in
        rw (
          get_or-set_other wires n (c.inputs + i) x 0 (λ k. omega arith),
          share-kept (first_wire (gate_at c i)) b.0,
          share-kept (second_wire (gate_at c i)) b.1,
        )

    pub opened-kept : (gs : List Gate) (i : ℕ) → i + length gs ≤ m → opened_bits c triples (set wires n x) i gs ≡ opened_bits c triples wires i gs
    unfolding opened_bits
    opened-kept [] i h = refl
    opened-kept (g ∷ gs) i h =
        ap (λ (l : List ℕ). l ++ opened_bits c triples (set wires n x) (i + 1) gs) (adds_kept i (omega arith))
        ∙ ap (λ (l : List ℕ). adds c triples wires i ++ l) (opened-kept gs (i + 1) (omega arith))

-- ---- two bytes more, written over what stands behind those before

pub two_more : (done bits₀ : List ℕ) (place x y : ℕ) → length done ≡ place → place + 1 < length bits₀
    → set (set (done ++ drop place bits₀) place x) (place + 1) y ≡ (done ++ (x ∷ y ∷ [])) ++ drop (place + 2) bits₀
two_more done bits₀ place x y size room =
    let l : List ℕ = done ++ drop place bits₀ in
    ap (λ (k : ℕ). set (set l place x) k y) (add-one place)
    ∙ sets-eq (x ∷ y ∷ []) l place (omega (arith, length-append done (drop place bits₀), length-drop place bits₀, size))
    ∙ ap (λ (k : List ℕ). (k ++ (x ∷ y ∷ [])) ++ drop (place + 2) l) (take_at done (drop place bits₀) place size)
    ∙ ap (λ (k : List ℕ). (done ++ (x ∷ y ∷ [])) ++ k)
    (sym (drop-drop 2 place l) ∙ ap (drop 2) (drop_at done (drop place bits₀) place size) ∙ drop-drop 2 place bits₀)
