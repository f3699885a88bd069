-- The second pass over the gates of a circuit that was read: the gate at a place, the places after it, and the run from there.
-- Assumes nothing.
use Prim.Native.Nat.{ℕ, suc, ◌+◌, ◌-◌, ◌≤◌, ◌<◌}
use mathlib.Core.Bool.{Bool, true, false}
use mathlib.Core.List.{List, ◌∷◌}
use mathlib.Core.Path.{◌≡◌, refl, sym, ap, ◌∙◌}
use native.Mathlib.Nat.{add-zero}
use native.Mathlib.Omega.{arith}
use lib.Bits.{bit_xor}
use Rattle.std.specs.Prelude.{Some, None}
use lib.ListN.{length, get_or, drop, set, drop_of_length-le, get_or-eq_default}
use Rattle.algebra.specs.Choice.{choose}
use Rattle.circuit.proofs.Ands.{head_at, tail_at, ands_more, ands_split}
use Rattle.circuit.proofs.Lists.{FirstGate, first-gate}
use Rattle.circuit.proofs.Turns.{and-small}
use Rattle.circuit.specs.Content.{Gate, Xor, And, Not, is_and, ands_in}
use Rattle.circuit.specs.Answer.{content, HasLayout}
use Rattle.circuit.specs.Reading.{read_gate, read_gates}
use Rattle.circuit.specs.declared.Layout.{Layout}
use Rattle.number.proofs.Places.{whole_is}
use Rattle.number.specs.Reading.{Whole}
use Rattle.number.specs.Inner.Known.{is_whole}
use Rattle.circuit_run.specs.Inner.Places.{Left, WaitsAt, Stops}
use Rattle.circuit_run.specs.Step.{gate_at, ands_before, flipped, run_on, step_state_with}
use Rattle.circuit_run.specs.declared.places.Spot.{Spot}

-- ---- the gate at a place

-- the gates of a circuit that was read
abbrev pub gates_of : List ℕ → List Gate
gates_of s = (content s).gates

pub left-start : {s : List ℕ} {f : Layout} → HasLayout s f → Left s f.inputs 0 f.body
left-start {s} {f} o =
    record {
      below = omega arith;
      end = f.tail;
      read =
          ap (λ (n : ℕ). read_gates n (f.inputs + 0) s f.body) {x = length (gates_of s) - 0} {y = f.gates} (omega (arith, o.gates))
          ∙ ap (λ (n : ℕ). read_gates f.gates n s f.body) (add-zero f.inputs)
          ∙ o.body;
    }

module _ {s : List ℕ} {inputs i at : ℕ} (left : Left s inputs i at) (more : i < length (gates_of s)) where
  pub first : FirstGate (length (gates_of s) - (i + 1)) (inputs + i) s at (drop i (gates_of s)) left.end
  first =
      first-gate (length (gates_of s) - (i + 1)) (inputs + i) s at
      (ap (λ (n : ℕ). read_gates n (inputs + i) s at) {x = suc (length (gates_of s) - (i + 1))} {y = length (gates_of s) - i} (omega arith) ∙ left.read)

  pub whole-gate : is_whole (read_gate (inputs + i) s at) ≡ true
  whole-gate = ap is_whole first.reads

  module _ (g : Gate) {next : ℕ} (read : Whole (g, next) ≡ read_gate (inputs + i) s at) where
    same : ◌≡◌ {A = Gate × ℕ} (g, next) (first.gate, first.next)
    same = whole_is (read ∙ first.reads)

    pub here : drop i (gates_of s) ≡ g ∷ first.later
    here = first.all ∙ ap (λ (z : Gate × ℕ). z.0 ∷ first.later) (sym same)

    pub gate_here : gate_at (content s) i ≡ g
    gate_here = head_at (gates_of s) i here (Not 0)

    pub left-next : Left s inputs (i + 1) next
    left-next =
        record {
          below = omega arith;
          end = left.end;
          read =
              ap (λ (w : ℕ). read_gates (length (gates_of s) - (i + 1)) w s next) {x = inputs + (i + 1)} {y = inputs + i + 1} (omega arith)
              ∙ ap (λ (z : Gate × ℕ). read_gates (length (gates_of s) - (i + 1)) (inputs + i + 1) s z.1) same
              ∙ first.rest
              ∙ ap (λ (l : List Gate). Whole (l, left.end)) (sym (tail_at (gates_of s) i here));
        }

-- ---- the AND at a gate

abbrev pub spot_with : ℕ → ℕ → ℕ → ℕ → ℕ → Spot
spot_with gate first second ands next = record { gate = gate; first_wire = first; second_wire = second; ands = ands; next = next }

module _ {s : List ℕ} {f : Layout} (o : HasLayout s f) {gate : ℕ} (more : gate < f.gates) {at ands : ℕ} (left : Left s f.inputs gate at)
    (before : ands ≡ ands_before (content s) gate) where
  held : gate < length (gates_of s)
  held = omega (arith, o.gates)

  pub spot_known : is_whole (read_gate (f.inputs + gate) s at) ≡ true
  spot_known = whole-gate left held

  pub waits_at : (a b : ℕ) {next : ℕ} → Whole (And a b, next) ≡ read_gate (f.inputs + gate) s at → a < f.inputs + gate → b < f.inputs + gate
      → WaitsAt s f (spot_with gate a b ands next)
  waits_at a b read p q =
      record {
        gate = gate_here left held (And a b) read;
        below = more;
        first_below = omega (arith, o.most);
        second_below = omega (arith, o.most);
        ands = before;
        few = omega (arith, before, o.ands, ands_split (gates_of s) gate (here left held (And a b) read));
        left = left-next left held (And a b) read;
      }

  pub spot_other : (g : Gate) → is_and g ≡ false → {next : ℕ} → Whole (g, next) ≡ read_gate (f.inputs + gate) s at → is_and (gate_at (content s) gate) ≡ false
  spot_other g e read = ap is_and (gate_here left held g read) ∙ e

pub spot_none : {s : List ℕ} {f : Layout} → HasLayout s f → {gate : ℕ} → f.gates ≤ gate → is_and (gate_at (content s) gate) ≡ false
spot_none {s} o {gate} over =
    let all : length (gates_of s) ≤ gate = omega (arith, o.gates) in
    ap is_and (get_or-eq_default (gates_of s) (Not 0) all)

-- ---- a run from a place on

pub record RunTurn (s : List ℕ) (inputs role ands i₀ : ℕ) (wires₀ : List ℕ) (at i : ℕ) (wires : List ℕ) : Type 0 where
  pub left : Left s inputs i at
  pub run : run_on role inputs (drop i₀ (gates_of s)) i₀ wires₀ ≡ run_on role inputs (drop i (gates_of s)) i wires
  pub counted : ands ≡ ands_before (content s) i

module _ {s : List ℕ} {f : Layout} (o : HasLayout s f) {role ands i₀ : ℕ} {wires₀ : List ℕ} {at i : ℕ} {wires : List ℕ}
    (turn : RunTurn s f.inputs role ands i₀ wires₀ at i wires) where
  pub gates-below : i ≤ f.gates
  gates-below = omega (arith, turn.left.below, o.gates)

  module _ (more : i < f.gates) where
    inside : i < length (gates_of s)
    inside = omega (arith, o.gates)

    pub run-known : is_whole (read_gate (f.inputs + i) s at) ≡ true
    run-known = whole-gate turn.left inside

    pub run-waits : (a b : ℕ) {next : ℕ} → Whole (And a b, next) ≡ read_gate (f.inputs + i) s at → a < f.inputs + i → b < f.inputs + i
        → Stops s f (run_on role f.inputs (drop i₀ (gates_of s)) i₀ wires₀) (Some (spot_with i a b ands next)) wires
    unfolding run_on
    run-waits a b read p q =
        record {
          run = turn.run ∙ ap (λ (l : List Gate). run_on role f.inputs l i wires) (here turn.left inside (And a b) read);
          at = waits_at o more turn.left turn.counted a b read p q;
        }

    -- a gate that is no AND gives its wire x
    module _ (g : Gate) (other : is_and g ≡ false) {next : ℕ} (read : Whole (g, next) ≡ read_gate (f.inputs + i) s at) (x : ℕ)
        (passed : (l : List Gate) → run_on role f.inputs (g ∷ l) i wires ≡ run_on role f.inputs l (i + 1) (set wires (f.inputs + i) x)) where
      run-next : RunTurn s f.inputs role ands i₀ wires₀ next (i + 1) (set wires (f.inputs + i) x)
      run-next =
          let h = here turn.left inside g read in
          record {
            left = left-next turn.left inside g read;
            run =
                turn.run
                ∙ ap (λ (l : List Gate). run_on role f.inputs l i wires) (h ∙ ap (λ (l : List Gate). g ∷ l) (sym (tail_at (gates_of s) i h)))
                ∙ passed (drop (i + 1) (gates_of s));
            counted = omega (arith, turn.counted, ands_more (gates_of s) i h, ap (λ (t : Bool). choose {A = ℕ} t 1 0) other);
          }

    pub run_xor : (a b : ℕ) {next x : ℕ} → Whole (Xor a b, next) ≡ read_gate (f.inputs + i) s at → x ≡ bit_xor (get_or wires a 0) (get_or wires b 0)
        → RunTurn s f.inputs role ands i₀ wires₀ next (i + 1) (set wires (f.inputs + i) x)
    unfolding run_on
    run_xor a b {next} {x} read e = run-next (Xor a b) refl read x (λ l. rw e refl)

    pub run_not : (a : ℕ) {next x : ℕ} → Whole (Not a, next) ≡ read_gate (f.inputs + i) s at → x ≡ flipped role (get_or wires a 0)
        → RunTurn s f.inputs role ands i₀ wires₀ next (i + 1) (set wires (f.inputs + i) x)
    unfolding run_on
    run_not a {next} {x} read e = run-next (Not a) refl read x (λ l. rw e refl)

  pub run_ends : f.gates ≤ i → Stops s f (run_on role f.inputs (drop i₀ (gates_of s)) i₀ wires₀) None wires
  unfolding run_on
  run_ends over =
      let all : length (gates_of s) ≤ i = omega (arith, o.gates) in
      let n : i ≡ f.gates = omega (arith, gates-below) in
      record {
        run =
            turn.run ∙ ap (λ (l : List Gate). run_on role f.inputs l i wires) (drop_of_length-le (gates_of s) all)
            ∙ ap (λ (k : ℕ). step_state_with 2 k wires) n;
        at = tt;
      }

-- ---- the place of a gate

pub record PlaceTurn (s : List ℕ) (inputs gate at ands i : ℕ) : Type 0 where
  pub left : Left s inputs i at
  pub counted : ands ≡ ands_before (content s) i
  pub turns : i ≤ gate
  pub few : ands ≤ i

pub place-start : {s : List ℕ} {f : Layout} (gate : ℕ) → HasLayout s f → PlaceTurn s f.inputs gate f.body 0 0
unfolding ands_in
place-start gate o = record { left = left-start o; counted = refl; turns = omega arith; few = omega arith }

module _ {s : List ℕ} {f : Layout} (o : HasLayout s f) {gate : ℕ} (room : gate ≤ f.gates) {at ands i : ℕ}
    (turn : PlaceTurn s f.inputs gate at ands i) where
  module _ (more : i < gate) where
    within-gates : i < length (gates_of s)
    within-gates = omega (arith, o.gates)

    pub place-known : is_whole (read_gate (f.inputs + i) s at) ≡ true
    place-known = whole-gate turn.left within-gates

    module _ (g : Gate) {n : ℕ} (one : n ≡ choose (is_and g) 1 0) where
      pub place-next : {next : ℕ} → Whole (g, next) ≡ read_gate (f.inputs + i) s at → PlaceTurn s f.inputs gate next (ands + n) (i + 1)
      place-next read =
          let h = here turn.left within-gates g read in
          record {
            left = left-next turn.left within-gates g read;
            counted = omega (arith, turn.counted, ands_more (gates_of s) i h, one);
            turns = omega arith;
            few = omega (arith, turn.few, one, and-small g);
          }
