-- An AND of a circuit by its gate: how many ANDs come before it, and its wires. Assumes nothing.
use Prim.Native.Nat.{ℕ, zero, suc, ◌+◌, ◌-◌, ◌≤◌, ◌<◌}
use mathlib.Core.Bool.{Bool, true, true≢false}
use mathlib.Core.List.{List, [], ◌∷◌}
use mathlib.Core.Path.{◌≡◌, refl, sym, ap, ◌∙◌, subst}
use native.Mathlib.Omega.{arith}
use lib.ListN.{length, get_or, take, drop, get_or-eq_default}
use lib.Seq.{take-add, drop-cons}
use Rattle.algebra.specs.Choice.{choose}
use Rattle.circuit.proofs.Ands.{ands_append, ands_more, ands_split}
use Rattle.circuit.specs.Admitted.{GateBelow}
use Rattle.circuit.specs.Content.{Gate, Xor, And, Not, Circuit, is_and, ands_in}
use Rattle.circuit_run.specs.Step.{gate_at, ands_before, first_wire, second_wire}
use Rattle.number.proofs.Places.{split}
use Rattle.circuit_claims.specs.Transcript.{and_gate}

module _ (c : Circuit) (i : ℕ) (a : is_and (gate_at c i) ≡ true) where
  pub and-inside : i < length c.gates
  and-inside =
      split i (length c.gates) (λ h. h)
      (λ h. absurd (true≢false (sym a ∙ ap is_and (get_or-eq_default c.gates (Not 0) h))))

  and_here : drop i c.gates ≡ gate_at c i ∷ drop (suc i) c.gates
  and_here = drop-cons c.gates i (Not 0) and-inside

  pub and-after : ands_before c (i + 1) ≡ ands_before c i + 1
  and-after = ands_more c.gates i and_here ∙ ap (λ (b : Bool). ands_before c i + choose {A = ℕ} b 1 0) a

  pub and_before : ands_before c i < ands_in c.gates
  and_before = omega (arith, ands_split c.gates i and_here, ap (λ (b : Bool). choose {A = ℕ} b 1 0) a)

-- ANDs before a gate are before a later one
pub ands_rise : (c : Circuit) (i n : ℕ) → i ≤ n → ands_before c i ≤ ands_before c n
ands_rise c i n h =
    omega (
      arith,
      ap (λ (m : ℕ). ands_before c m) {x = n} {y = i + (n - i)} (omega arith),
      ap ands_in (take-add i (n - i) c.gates),
      ands_append (take i c.gates) (take (n - i) (drop i c.gates)),
    )

pub and_earlier : (c : Circuit) (i n : ℕ) → is_and (gate_at c i) ≡ true → i < n → ands_before c i < ands_before c n
and_earlier c i n a h = omega (arith, and-after c i a, ands_rise c (i + 1) n (omega arith))

-- an AND is known by how many come before it
pub and_one : (c : Circuit) (i n : ℕ) → is_and (gate_at c i) ≡ true → is_and (gate_at c n) ≡ true → ands_before c i ≡ ands_before c n → i ≡ n
and_one c i n a b e =
    split i n (λ h. absurd (let z = and_earlier c i n a h in omega arith))
    (λ h. split n i (λ k. absurd (let z = and_earlier c n i b k in omega arith)) (λ k. omega arith))

-- an AND is one of its two wires
pub and_is : (g : Gate) → is_and g ≡ true → g ≡ And (first_wire g) (second_wire g)
and_is (Xor a b) e = absurd (true≢false (sym e))
and_is (And a b) e = refl
and_is (Not a) e = absurd (true≢false (sym e))

-- the wires of an AND come before it
pub and_below : (g : Gate) (n : ℕ) → is_and g ≡ true → GateBelow n g → (first_wire g < n) × (second_wire g < n)
unfolding GateBelow
and_below g n e h = subst (GateBelow n) (and_is g e) h

-- the gate of an AND by how many come before it
pub gate-of : (gs : List Gate) (i : ℕ) → is_and (get_or gs i (Not 0)) ≡ true → and_gate gs (ands_in (take i gs)) ≡ i
unfolding ands_in and_gate
gate-of [] i e = absurd (true≢false (sym e))
gate-of (Xor a b ∷ gs) zero e = absurd (true≢false (sym e))
gate-of (Xor a b ∷ gs) (suc i) e = ap suc (ap (and_gate gs) {x = 0 + ands_in (take i gs)} {y = ands_in (take i gs)} (omega arith) ∙ gate-of gs i e)
gate-of (And a b ∷ gs) zero e = refl
gate-of (And a b ∷ gs) (suc i) e =
    ap (and_gate (And a b ∷ gs)) {x = 1 + ands_in (take i gs)} {y = suc (ands_in (take i gs))} (omega arith) ∙ ap suc (gate-of gs i e)
gate-of (Not a ∷ gs) zero e = absurd (true≢false (sym e))
gate-of (Not a ∷ gs) (suc i) e = ap suc (ap (and_gate gs) {x = 0 + ands_in (take i gs)} {y = ands_in (take i gs)} (omega arith) ∙ gate-of gs i e)

-- each number below that of all ANDs is that of an AND
pub and_at : (gs : List Gate) (j : ℕ) → j < ands_in gs
    → (is_and (get_or gs (and_gate gs j) (Not 0)) ≡ true) × (ands_in (take (and_gate gs j) gs) ≡ j)
unfolding ands_in and_gate
and_at [] j h = absurd (omega arith)
and_at (Xor a b ∷ gs) j h = let r = and_at gs j (omega arith) in (r.0, omega (arith, r.1))
and_at (And a b ∷ gs) zero h = (refl, refl)
and_at (And a b ∷ gs) (suc j) h = let r = and_at gs j (omega arith) in (r.0, omega (arith, r.1))
and_at (Not a ∷ gs) j h = let r = and_at gs j (omega arith) in (r.0, omega (arith, r.1))
