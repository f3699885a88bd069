-- What the tests that a step defines itself say. Assumes nothing.
use Prim.Native.Nat.{ℕ, ◌≤◌}
use mathlib.Core.Bool.{Bool, true, false, not, ◌||◌, false≢true}
use mathlib.Core.Path.{◌≡◌, refl}
use borrow.Author.Tests.{leb-true, le-leb, lt-leb, eq-eqb, ne_eqb}
use lib.Dec.{leb, eqb}
use Rattle.algebra.proofs.Tests.{and_left, and_right, and_both}
use Rattle.circuit.specs.Content.{Circuit, is_and}
use Rattle.number.proofs.Places.{either}
use Rattle.circuit_run.specs.Step.{far_admitted, gate_at, state_admitted}

-- what a test says of its numbers
pub ruleset tests = (eq-eqb, ne_eqb, le-leb, lt-leb)

-- far bits that are admitted
pub far-bits : (waits : Bool) (first second : ℕ) → far_admitted waits first second ≡ true → waits ≡ true → (first ≤ 1) × (second ≤ 1)
far-bits true first second e w =
    (leb-true first 1 (and_left (leb first 1) (leb second 1) e), leb-true second 1 (and_right (leb first 1) (leb second 1) e))
far-bits false first second e w = absurd (false≢true w)

pub bits-far : (waits : Bool) (first second : ℕ) → (waits ≡ true → (first ≤ 1) × (second ≤ 1)) → far_admitted waits first second ≡ true
bits-far true first second h = and_both (le-leb first 1 (h refl).0) (le-leb second 1 (h refl).1)
bits-far false first second h = refl

-- a state that is admitted
module _ (c : Circuit) (phase gate : ℕ) where
  pub state-phase : state_admitted c phase gate ≡ true → phase ≤ 2
  state-phase e = leb-true phase 2 (and_left (leb phase 2) (not (eqb phase 1) || is_and (gate_at c gate)) e)

  pub state-and : state_admitted c phase gate ≡ true → phase ≡ 1 → is_and (gate_at c gate) ≡ true
  state-and e one = rw (eq-eqb phase 1 one) at (and_right (leb phase 2) (not (eqb phase 1) || is_and (gate_at c gate)) e)

  pub state-known : phase ≤ 2 → (phase ≡ 1 → is_and (gate_at c gate) ≡ true) → state_admitted c phase gate ≡ true
  state-known h a = either phase 1 (λ e. rw (le-leb phase 2 h, eq-eqb phase 1 e) (a e)) (λ n. rw (le-leb phase 2 h, ne_eqb phase 1 n))
