-- The fold over a circuit's gates: the wires given stay, and each gate's wire has what is made of the gate and of the wires before it.
-- Assumes nothing.
use Prim.Native.Nat.{ℕ, zero, suc, ◌+◌, ◌<◌}
use mathlib.Core.List.{List, [], ◌∷◌, ◌++◌}
use mathlib.Core.Path.{◌≡◌, refl, sym, ap, ◌∙◌, subst}
use native.Mathlib.Nat.{add-zero}
use native.Mathlib.Omega.{arith}
use lib.ListN.{length, get_or, take, length-append}
use lib.Seq.{take-length, take-take, take-append_seam, get_or-take, get_or-append_seam}
use Rattle.circuit.specs.Admitted.{GateBelow, GatesBelow}
use Rattle.circuit.specs.Content.{Gate, Not}
use Rattle.circuit.specs.Value.{over_gates}
use Rattle.number.proofs.Places.{split}

module _ (make : Gate → List ℕ → ℕ) where
  pub fold_length : (gs : List Gate) (wires : List ℕ) → length (over_gates make gs wires) ≡ length wires + length gs
  unfolding over_gates
  fold_length [] wires = sym (add-zero (length wires))
  fold_length (g ∷ gs) wires = omega (arith, fold_length gs (wires ++ (make g wires ∷ [])), length-append wires (make g wires ∷ []))

  -- a gate more
  pub fold_last : (gs : List Gate) (g : Gate) (wires : List ℕ)
      → over_gates make (gs ++ (g ∷ [])) wires ≡ over_gates make gs wires ++ (make g (over_gates make gs wires) ∷ [])
  unfolding over_gates
  fold_last [] g wires = refl
  fold_last (x ∷ gs) g wires = fold_last gs g (wires ++ (make x wires ∷ []))

  -- the wires given are in front
  pub fold_front : (gs : List Gate) (wires : List ℕ) → take (length wires) (over_gates make gs wires) ≡ wires
  unfolding over_gates
  fold_front [] wires = take-length wires
  fold_front (g ∷ gs) wires =
      let more : List ℕ = wires ++ (make g wires ∷ []) in
      sym (take-take (length wires) (length more) (over_gates make gs more) (omega (arith, length-append wires (make g wires ∷ []))))
      ∙ ap (take (length wires)) (fold_front gs more)
      ∙ take-append_seam wires (make g wires ∷ [])

  -- so they stay
  pub fold_keeps : (gs : List Gate) (wires : List ℕ) (w : ℕ) → w < length wires → get_or (over_gates make gs wires) w 0 ≡ get_or wires w 0
  fold_keeps gs wires w h =
      sym (get_or-take (length wires) (over_gates make gs wires) w 0 h) ∙ ap (λ (l : List ℕ). get_or l w 0) (fold_front gs wires)

  -- gate i's wire has what is made of it
  pub fold_holds : (gs : List Gate) (wires : List ℕ) (i : ℕ) → i < length gs
      → get_or (over_gates make gs wires) (length wires + i) 0 ≡ make (get_or gs i (Not 0)) (take (length wires + i) (over_gates make gs wires))
  unfolding over_gates
  fold_holds [] wires i h = absurd (omega arith)
  fold_holds (g ∷ gs) wires zero h =
      let more : List ℕ = wires ++ (make g wires ∷ []) in
      let all : List ℕ = over_gates make gs more in
      subst (λ (n : ℕ). get_or all n 0 ≡ make g (take n all)) (sym (add-zero (length wires)))
      (fold_keeps gs more (length wires) (omega (arith, length-append wires (make g wires ∷ [])))
      ∙ get_or-append_seam wires (make g wires) [] 0 ∙ ap (make g) (sym (fold_front (g ∷ gs) wires)))
  fold_holds (g ∷ gs) wires (suc i) h =
      let more : List ℕ = wires ++ (make g wires ∷ []) in
      let all : List ℕ = over_gates make gs more in
      subst (λ (n : ℕ). get_or all n 0 ≡ make (get_or gs i (Not 0)) (take n all)) {x = length more + i} {y = length wires + suc i}
      (omega (arith, length-append wires (make g wires ∷ []))) (fold_holds gs more i (omega arith))

-- what holds of the inputs and, gate by gate, of the next wire if of those before it, holds of all wires
pub by_gates : (P : ℕ → Type 0) (inputs n : ℕ) → ((w : ℕ) → w < inputs → P w)
    → ((i : ℕ) → i < n → ((w : ℕ) → w < inputs + i → P w) → P (inputs + i)) → (w : ℕ) → w < inputs + n → P w
by_gates P inputs zero first next w h = first w (omega arith)
by_gates P inputs (suc n) first next w h =
    let before : (v : ℕ) → v < inputs + n → P v = by_gates P inputs n first (λ i k. next i (omega arith)) in
    split w (inputs + n) (before w) (λ k. subst P {x = inputs + n} {y = w} (omega arith) (next n (omega arith) before))

-- the wires of gate i come before it
pub below_at : (gs : List Gate) (wire i : ℕ) → GatesBelow wire gs → i < length gs → GateBelow (wire + i) (get_or gs i (Not 0))
unfolding GatesBelow
below_at [] wire i ok h = absurd (omega arith)
below_at (g ∷ gs) wire zero ok h = subst (λ (n : ℕ). GateBelow n g) (sym (add-zero wire)) ok.0
below_at (g ∷ gs) wire (suc i) ok h =
    subst (λ (n : ℕ). GateBelow n (get_or gs i (Not 0))) {x = wire + 1 + i} {y = wire + suc i} (omega arith) (below_at gs (wire + 1) i ok.1 (omega arith))
