-- Where a run goes on: after the AND that it waits at, or at its first gate. Assumes nothing.
use Prim.Native.Nat.{ℕ, suc, ◌+◌, ◌<◌}
use mathlib.Core.List.{List, ◌∷◌}
use mathlib.Core.Path.{◌≡◌, refl, ap}
use native.Mathlib.Omega.{arith}
use lib.ListN.{length, drop}
use lib.Seq.{drop-cons}
use Rattle.algebra.specs.Choice.{choose}
use Rattle.circuit.proofs.Ands.{ands_more}
use Rattle.circuit.specs.Content.{Gate, Not, is_and, ands_in}
use Rattle.circuit.specs.Answer.{content, HasLayout}
use Rattle.circuit.specs.declared.Layout.{Layout}
use Rattle.circuit_run.proofs.Gates.{gates_of, left-start}
use Rattle.circuit_run.specs.Inner.Places.{Stands, WaitsAt}
use Rattle.circuit_run.specs.Step.{gate_at}
use Rattle.circuit_run.specs.declared.places.Place.{Place}
use Rattle.circuit_run.specs.declared.places.Spot.{Spot}

abbrev place_with : ℕ → ℕ → ℕ → Place
place_with gate at ands = record { gate = gate; at = at; ands = ands }

-- ---- a run that waits

module _ {s : List ℕ} {f : Layout} {r : Spot} (o : HasLayout s f) (w : WaitsAt s f r) where
  pub and-after : Stands s f (place_with (r.gate + 1) r.next (r.ands + 1))
  and-after =
      let h : r.gate < length (gates_of s) = omega (arith, w.below, o.gates) in
      let e : drop r.gate (gates_of s) ≡ gate_at (content s) r.gate ∷ drop (suc r.gate) (gates_of s) = drop-cons (gates_of s) r.gate (Not 0) h in
      record {
        left = w.left;
        ands = omega (arith, w.ands, ands_more (gates_of s) r.gate e, ap (λ (g : Gate). choose {A = ℕ} (is_and g) 1 0) w.gate);
      }

-- ---- a fresh run

module _ {s : List ℕ} {f : Layout} (o : HasLayout s f) where
  pub fresh_start : Stands s f (place_with 0 f.body 0)
  unfolding ands_in
  fresh_start = record { left = left-start o; ands = refl }
