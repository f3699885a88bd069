-- The loops over gates and over wires: what is left to read is the answer, turn by turn. Assumes nothing.
use Prim.Native.Nat.{ℕ, suc, ◌+◌, ◌-◌, ◌≤◌, ◌<◌}
use mathlib.Core.List.{List, ◌∷◌}
use mathlib.Core.Path.{◌≡◌, refl, sym, ap, ◌∙◌}
use native.Mathlib.Nat.{add-zero}
use native.Mathlib.Omega.{arith}
use Rattle.number.specs.Reading.{Whole, Refused, Parsed, then, choose}
use Rattle.circuit.specs.Content.{Gate, Xor, And, Not, is_and, ands_in}
use Rattle.circuit.specs.Inner.GateNumbers.{counted_ands, placed}
use Rattle.circuit.specs.Reading.{read_wire, read_gate, read_gates, read_wires}

-- ---- gates

-- one for an AND, else none
pub and-small : (g : Gate) → choose {A = ℕ} (is_and g) 1 0 ≤ 1
and-small (Xor a b) = omega arith
and-small (And a b) = omega arith
and-small (Not a) = omega arith

counted_more : (n : ℕ) (g : Gate) (x : Parsed (List Gate)) → counted_ands n (then x λ gs end. Whole (g ∷ gs, end)) ≡ counted_ands (n + choose (is_and g) 1 0) x
unfolding ands_in
counted_more n g (Whole r) = ap (λ (m : ℕ). Whole (m, r.1)) (omega arith)
counted_more n g (Refused k) = refl

-- the loop's invariant
pub record GatesTurn (s : List ℕ) (body gates inputs at ands i : ℕ) : Type 0 where
  pub answer : counted_ands 0 (read_gates gates inputs s body) ≡ counted_ands ands (read_gates (gates - i) (inputs + i) s at)
  pub turns : i ≤ gates
  pub few : ands ≤ i

module _ {s : List ℕ} {body gates inputs at ands i : ℕ} (turn : GatesTurn s body gates inputs at ands i) where
  module _ (more : i < gates) where
    step : (x : Parsed Gate) → read_gate (inputs + i) s at ≡ x
        → counted_ands 0 (read_gates gates inputs s body)
        ≡ counted_ands ands (then x λ g next. then (read_gates (gates - (i + 1)) (inputs + i + 1) s next) λ gs end. Whole (g ∷ gs, end))
    unfolding read_gates
    step x e =
        turn.answer
        ∙ ap (λ (n : ℕ). counted_ands ands (read_gates n (inputs + i) s at)) {x = gates - i} {y = suc (gates - (i + 1))} (omega arith)
        ∙ ap (λ (y : Parsed Gate). counted_ands ands (then y λ g next. then (read_gates (gates - (i + 1)) (inputs + i + 1) s next) λ gs end. Whole (g ∷ gs, end))) e

    pub gates-fault : {k : ℕ} → Refused k ≡ read_gate (inputs + i) s at → Refused k ≡ counted_ands 0 (read_gates gates inputs s body)
    gates-fault {k} e = sym (step (Refused k) (sym e))

    pub gates-next : {g : Gate} {next n : ℕ} → Whole (g, next) ≡ read_gate (inputs + i) s at → n ≡ choose (is_and g) 1 0
        → GatesTurn s body gates inputs next (ands + n) (i + 1)
    gates-next {g} {next} {n} e w =
        record {
          answer =
              step (Whole (g, next)) (sym e)
              ∙ counted_more ands g (read_gates (gates - (i + 1)) (inputs + i + 1) s next)
              ∙ ap (λ (m : ℕ). counted_ands (ands + m) (read_gates (gates - (i + 1)) (inputs + i + 1) s next)) (sym w)
              ∙ ap (λ (m : ℕ). counted_ands (ands + n) (read_gates (gates - (i + 1)) m s next)) {x = inputs + i + 1} {y = inputs + (i + 1)} (omega arith);
          turns = omega arith;
          few = omega (arith, turn.few, and-small g, w);
        }

  pub gates_done : gates ≤ i → Whole (ands, at) ≡ counted_ands 0 (read_gates gates inputs s body)
  unfolding read_gates ands_in
  gates_done over =
      sym (turn.answer
      ∙ ap (λ (n : ℕ). counted_ands ands (read_gates n (inputs + i) s at)) {x = gates - i} {y = 0} (omega arith)
      ∙ ap (λ (n : ℕ). Whole (n, at)) (add-zero ands))

-- ---- wires

placed_more : (w : ℕ) (x : Parsed (List ℕ)) → placed (then x λ ws end. Whole (w ∷ ws, end)) ≡ placed x
placed_more w (Whole r) = refl
placed_more w (Refused k) = refl

pub record WiresTurn (s : List ℕ) (tail count limit at i : ℕ) : Type 0 where
  pub answer : placed (read_wires count limit s tail) ≡ placed (read_wires (count - i) limit s at)
  pub turns : i ≤ count

module _ {s : List ℕ} {tail count limit at i : ℕ} (turn : WiresTurn s tail count limit at i) where
  module _ (more : i < count) where
    wires-step : (x : Parsed ℕ) → read_wire limit s at ≡ x
        → placed (read_wires count limit s tail) ≡ placed (then x λ w next. then (read_wires (count - (i + 1)) limit s next) λ ws end. Whole (w ∷ ws, end))
    unfolding read_wires
    wires-step x e =
        turn.answer
        ∙ ap (λ (n : ℕ). placed (read_wires n limit s at)) {x = count - i} {y = suc (count - (i + 1))} (omega arith)
        ∙ ap (λ (y : Parsed ℕ). placed (then y λ w next. then (read_wires (count - (i + 1)) limit s next) λ ws end. Whole (w ∷ ws, end))) e

    pub wires-fault : {k : ℕ} → Refused k ≡ read_wire limit s at → Refused k ≡ placed (read_wires count limit s tail)
    wires-fault {k} e = sym (wires-step (Refused k) (sym e))

    pub wires-next : {w next : ℕ} → Whole (w, next) ≡ read_wire limit s at → WiresTurn s tail count limit next (i + 1)
    wires-next {w} {next} e =
        record {
          answer = wires-step (Whole (w, next)) (sym e) ∙ placed_more w (read_wires (count - (i + 1)) limit s next);
          turns = omega arith;
        }

  pub wires_done : count ≤ i → Whole at ≡ placed (read_wires count limit s tail)
  unfolding read_wires
  wires_done over =
      sym (turn.answer ∙ ap (λ (n : ℕ). placed (read_wires n limit s at)) {x = count - i} {y = 0} (omega arith))
