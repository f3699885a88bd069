-- Where a run stops: at the next AND or at the end. Assumes nothing.
use Prim.Native.Nat.{ℕ, zero, suc, ◌+◌, ◌-◌, ◌≤◌, ◌<◌}
use mathlib.Core.Bool.{Bool, true, false}
use mathlib.Core.List.{List, [], ◌∷◌, ◌++◌}
use mathlib.Core.Path.{◌≡◌, refl, sym, ap, ◌∙◌}
use borrow.Author.Tests.{eq-eqb, ne_eqb}
use native.Mathlib.Nat.{add-zero}
use native.Mathlib.Omega.{arith}
use lib.Bits.{bit_xor}
use lib.ListN.{length, get_or, take, drop, set, replicate, length-append, length-drop, length-replicate, take-append-drop, get_or-append}
use lib.Seq.{take-add, get_or-drop}
use Rattle.algebra.specs.Choice.{choose}
use Rattle.circuit.specs.Content.{Gate, Xor, And, Not, Circuit, is_and, ands_in}
use Rattle.number.proofs.Places.{choose_yes, choose_no}
use Rattle.circuit.proofs.Ands.{ands_append}
use Rattle.circuit.specs.Admitted.{most_wires}
use Rattle.circuit.specs.Value.{at_wires}
use Rattle.circuit_run.proofs.Bits.{xor-bit, flipped-bit}
use Rattle.circuit_run.specs.Step.{StepLent, gate_at, ands_before, flipped, fresh_wires, run_on, advance, with_and, state_after}
use Rattle.circuit_run.specs.declared.StepState.{StepState}

-- ---- stops

pub data Reach (gs : List Gate) (i : ℕ) (r : StepState) : Type 0 where
  waits : (m : ℕ) → m < length gs → is_and (get_or gs m (Not 0)) ≡ true → ands_in (take m gs) ≡ 0 → r.phase ≡ 1 → r.gate ≡ i + m → Reach gs i r
  ends : ands_in gs ≡ 0 → r.phase ≡ 2 → r.gate ≡ i + length gs → Reach gs i r

-- one gate more in front that is no AND
later : (g : Gate) (gs : List Gate) (i : ℕ) (r : StepState) → is_and g ≡ false → Reach gs (i + 1) r → Reach (g ∷ gs) i r
unfolding ands_in
later g gs i r e (waits m h a z p q) =
    waits (suc m) (omega arith) a (omega (arith, z, ap (λ (b : Bool). choose {A = ℕ} b 1 0) e)) p (omega arith)
later g gs i r e (ends z p q) = ends (omega (arith, z, ap (λ (b : Bool). choose {A = ℕ} b 1 0) e)) p (omega arith)

pub reach : (role inputs : ℕ) (gs : List Gate) (i : ℕ) (wires : List ℕ) → Reach gs i (run_on role inputs gs i wires)
unfolding run_on ands_in
reach role inputs [] i wires = ends refl refl (sym (add-zero i))
reach role inputs (Xor a b ∷ gs) i wires = later (Xor a b) gs i _ refl (reach role inputs gs (i + 1) (set wires (inputs + i) (bit_xor (get_or wires a 0) (get_or wires b 0))))
reach role inputs (And a b ∷ gs) i wires = waits 0 (omega arith) refl refl refl (sym (add-zero i))
reach role inputs (Not a ∷ gs) i wires = later (Not a) gs i _ refl (reach role inputs gs (i + 1) (set wires (inputs + i) (flipped role (get_or wires a 0))))

-- where a run of a circuit stands after a number of ANDs
pub data Standing (c : Circuit) (i n : ℕ) (r : StepState) : Type 0 where
  waiting : r.phase ≡ 1 → i ≤ r.gate → r.gate < length c.gates → is_and (gate_at c r.gate) ≡ true → ands_before c r.gate ≡ n → Standing c i n r
  finished : r.phase ≡ 2 → r.gate ≡ length c.gates → ands_in c.gates ≤ n → Standing c i n r

pub standing : (role : ℕ) (c : Circuit) (i : ℕ) (wires : List ℕ) → i ≤ length c.gates → Standing c i (ands_before c i) (advance role c i wires)
standing role c i wires h = of (reach role c.inputs (drop i c.gates) i wires)
  where
    of : {r : StepState} → Reach (drop i c.gates) i r → Standing c i (ands_before c i) r
    of {r} (waits m k a z p q) =
        waiting p (omega arith) (omega (arith, length-drop i c.gates))
        (ap (λ (n : ℕ). is_and (gate_at c n)) q ∙ ap is_and (sym (get_or-drop i c.gates m (Not 0))) ∙ a)
        (ap (ands_before c) q ∙ ap ands_in (take-add i m c.gates) ∙ ands_append (take i c.gates) (take m (drop i c.gates))
        ∙ ap (λ (n : ℕ). ands_in (take i c.gates) + n) z ∙ add-zero (ands_in (take i c.gates)))
    of {r} (ends z p q) =
        finished p (omega (arith, length-drop i c.gates))
        (omega (arith, z, ap ands_in (take-append-drop i c.gates), ands_append (take i c.gates) (drop i c.gates)))

pub from_start : {c : Circuit} {i n : ℕ} {r : StepState} → Standing c i n r → Standing c 0 n r
from_start (waiting p l h a e) = waiting p (omega arith) h a e
from_start (finished p q h) = finished p q h

-- ---- the state that an accepted step leaves

module _ (c : Circuit) (l : StepLent) (s : StepState) where
  pub run-fresh : s.phase ≡ 0 → state_after c l s ≡ advance l.role c 0 (fresh_wires l.shares)
  unfolding state_after
  run-fresh e = choose_yes {A = StepState} _ _ (eq-eqb s.phase 0 e)

  pub run-waits : s.phase ≡ 1 → state_after c l s ≡ advance l.role c (s.gate + 1) (with_and c l s)
  unfolding state_after
  run-waits e = choose_no {A = StepState} _ _ (ne_eqb s.phase 0 (λ z. omega arith)) ∙ choose_yes {A = StepState} _ _ (eq-eqb s.phase 1 e)

  pub run_ends : s.phase ≡ 2 → state_after c l s ≡ s
  unfolding state_after
  run_ends e = choose_no {A = StepState} _ _ (ne_eqb s.phase 0 (λ z. omega arith)) ∙ choose_no {A = StepState} _ s (ne_eqb s.phase 1 (λ z. omega arith))

-- ---- bits

-- every wire is a bit
abbrev pub WireBits : List ℕ → Type 0
WireBits wires = (w : ℕ) → get_or wires w 0 ≤ 1

pub set-bits : (wires : List ℕ) (i x : ℕ) → WireBits wires → x ≤ 1 → WireBits (set wires i x)
set-bits [] i x all h w = all w
set-bits (y ∷ ys) zero x all h zero = h
set-bits (y ∷ ys) zero x all h (suc w) = all (suc w)
set-bits (y ∷ ys) (suc i) x all h zero = all 0
set-bits (y ∷ ys) (suc i) x all h (suc w) = set-bits ys i x (λ v. all (suc v)) h w

pub run-bits : (role inputs : ℕ) (gs : List Gate) (i : ℕ) (wires : List ℕ) → WireBits wires → WireBits (run_on role inputs gs i wires).wires
unfolding run_on
run-bits role inputs [] i wires all = all
run-bits role inputs (Xor a b ∷ gs) i wires all =
    run-bits role inputs gs (i + 1) (set wires (inputs + i) (bit_xor (get_or wires a 0) (get_or wires b 0)))
    (set-bits wires (inputs + i) (bit_xor (get_or wires a 0) (get_or wires b 0)) all (xor-bit (all a) (all b)))
run-bits role inputs (And a b ∷ gs) i wires all = all
run-bits role inputs (Not a ∷ gs) i wires all =
    run-bits role inputs gs (i + 1) (set wires (inputs + i) (flipped role (get_or wires a 0)))
    (set-bits wires (inputs + i) (flipped role (get_or wires a 0)) all (flipped-bit role (all a)))

pub zeros_bits : (n : ℕ) → WireBits (replicate n 0)
zeros_bits zero w = omega arith
zeros_bits (suc n) zero = omega arith
zeros_bits (suc n) (suc w) = zeros_bits n w

pub append_bits : (xs ys : List ℕ) → WireBits xs → WireBits ys → WireBits (xs ++ ys)
append_bits [] ys h g w = g w
append_bits (x ∷ xs) ys h g zero = h 0
append_bits (x ∷ xs) ys h g (suc w) = append_bits xs ys (λ v. h (suc v)) g w

pub outputs-bits : (wires ws : List ℕ) → WireBits wires → WireBits (at_wires wires ws)
outputs-bits wires [] all i = omega arith
outputs-bits wires (w ∷ ws) all zero = all w
outputs-bits wires (w ∷ ws) all (suc i) = outputs-bits wires ws all i

-- ---- fresh wires

pub fresh-length : (shares : List ℕ) → length shares ≤ most_wires → length (fresh_wires shares) ≡ most_wires
unfolding fresh_wires
fresh-length shares h =
    length-append shares (replicate (most_wires - length shares) 0) ∙ omega (arith, length-replicate {A = ℕ} (most_wires - length shares) 0)

pub fresh_at : (shares : List ℕ) (w : ℕ) → w < length shares → get_or (fresh_wires shares) w 0 ≡ get_or shares w 0
unfolding fresh_wires
fresh_at shares w h = get_or-append shares (replicate (most_wires - length shares) 0) 0 w h
