-- The levels of ANDs and the places of their bits on the page are the library's.
use Prim.Native.Nat.{ℕ, zero, suc, ◌+◌, ◌*◌}
use mathlib.Core.Path.{◌≡◌, refl, sym, ap, ap₂, ◌∙◌}
use mathlib.Core.Bool.{Bool, ◌&&◌}
use mathlib.Core.List.{List, [], ◌∷◌, map}
use native.Mathlib.Omega.{arith}
use lib.Dec.{eqb}
use lib.ListN.{length, take, drop, get_or}
use lib.Seq.{get_or-drop, take-length}
use Rattle.algebra.specs.Choice.{choose}
use Rattle.circuit.specs.Content as own
use Rattle.circuit.specs.Levels as levels
use Rattle.circuit_claims.specs.Same as same
use Rattle.circuit_run.specs.Step as step
use Rattle.page.specs.Document01 as page
use Rattle.page_two.specs.Document02 as page2
use Rattle.page_two.proofs.Circuits.Content.{gate, circuit, is-and, ands_is, gate-at, take-gates, length-gates, levels_is}

module _ (x : own.Circuit) where
  pub and_is : (i : ℕ) → page2.is_and (page2.gate_at (circuit x) i) ≡ own.is_and (step.gate_at x i)
  and_is i = ap page2.is_and (gate-at x.gates i) ∙ is-and (step.gate_at x i)

  pub before_is : (i : ℕ) → page2.ands_before (circuit x) i ≡ step.ands_before x i
  before_is i = ap page2.ands (take-gates x.gates i) ∙ ands_is (take i x.gates)

  pub level_is : (w : ℕ) → get_or (page2.wire_levels (circuit x)) w 0 ≡ levels.level_of x w
  level_is w = ap (λ (l : List ℕ). get_or l w 0) (levels_is x)

  ands-next : (level : ℕ) (gs : List own.Gate) (l : List ℕ) (n : ℕ)
      → levels.ands_of level (take (suc n) gs) l
      ≡ levels.ands_of level (take n gs) l + choose (own.is_and (get_or gs n (own.Not 0)) && eqb (get_or l n 0) level) 1 0
  unfolding levels.ands_of
  ands-next level [] l zero = omega arith
  ands-next level [] l (suc n) = omega arith
  ands-next level (g ∷ gs) l zero = omega arith
  ands-next level (g ∷ gs) l (suc n) =
      let next : get_or (drop 1 l) n 0 ≡ get_or l (suc n) 0 = get_or-drop 1 l n 0 ∙ ap (λ (i : ℕ). get_or l i 0) {x = 1 + n} {y = suc n} (omega arith) in
      omega (
        arith,
        ands-next level gs (drop 1 l) n,
        ap (λ (b : ℕ). choose {A = ℕ} (own.is_and (get_or gs n (own.Not 0)) && eqb b level) 1 0) next,
      )

  pub ands_at_is : (level n : ℕ) → page2.ands_at (circuit x) level n ≡ levels.ands_of level (take n x.gates) (drop x.inputs (levels.levels x))
  unfolding page.count_of levels.ands_of page.when◌then◌else◌
  ands_at_is level zero = refl
  ands_at_is level (suc n) =
      ap₂ (λ (a : ℕ) (t : Bool). a + choose t 1 0) (ands_at_is level n)
      (ap₂ ◌&&◌ (and_is n) (ap (λ (y : ℕ). eqb y level) (level_is (x.inputs + n) ∙ sym (get_or-drop x.inputs (levels.levels x) n 0))))
      ∙ sym (ands-next level x.gates (drop x.inputs (levels.levels x)) n)

  pub all_at_is : (level : ℕ) → page2.ands_at (circuit x) level (length (map gate x.gates)) ≡ levels.ands_at_level x level
  all_at_is level =
      ap (page2.ands_at (circuit x) level) (length-gates x.gates) ∙ ands_at_is level (length x.gates)
      ∙ ap (λ (gs : List own.Gate). levels.ands_of level gs (drop x.inputs (levels.levels x))) (take-length x.gates)

  pub place_is : (i : ℕ) → page2.place_at (circuit x) i ≡ same.place_at x i
  place_is i =
      ap (λ (n : ℕ). 2 * n)
      (ap (λ (v : ℕ). page2.ands_at (circuit x) v i) (level_is (x.inputs + i)) ∙ ands_at_is (same.level_at x i) i)
