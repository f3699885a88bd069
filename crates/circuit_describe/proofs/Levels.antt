-- The levels of the wires, gate by gate, and the greatest of them. Assumes nothing.
use Prim.Native.Nat.{ℕ, zero, suc, ◌+◌, ◌-◌, ◌≤◌, ◌<◌, max}
use mathlib.Core.List.{List, [], ◌∷◌, ◌++◌, append_assoc}
use mathlib.Core.Path.{◌≡◌, refl, sym, ap, ap₂, ◌∙◌, subst}
use native.Mathlib.Nat.{add-zero}
use native.Mathlib.Omega.{arith}
use lib.ListN.{length, get_or, set, take, drop, replicate, length-replicate, get_or-append}
use lib.Seq.{take-add, take-length, set_at, length-take-le}
use Rattle.circuit.proofs.Folds.{fold_length, fold_last}
use Rattle.circuit.proofs.Levels.{greater_is, greater-below, greatest-below, level_below}
use Rattle.circuit.proofs.Lists.{gate-below}
use Rattle.circuit.proofs.Iterators.{AtGate, first_gate, no_gate_left, next_gate, gate-left, gate-wire, gate-read, wires_all}
use Rattle.circuit.specs.Answer.{content, HasLayout}
use Rattle.circuit.specs.Content.{Gate, Xor, And, Not, Circuit}
use Rattle.circuit.specs.Inner.GateNumbers.{gate_of, WiresOf}
use Rattle.circuit.specs.Inner.Passing.{GatesFrom, Gave}
use Rattle.circuit.specs.Levels.{greater, gate_level, greatest, levels, depth}
use Rattle.circuit.specs.Reading.{read_gate}
use Rattle.circuit.specs.Value.{over_gates}
use Rattle.circuit.specs.declared.Gate as code
use Rattle.circuit.specs.declared.Layout.{Layout}
use Rattle.circuit.specs.declared.accepted.Gates.{Gates}
use Rattle.circuit_run.proofs.Gates.{gates_of, left-start, first, here, left-next}
use Rattle.circuit_run.specs.Inner.Places.{Left}
use Rattle.number.proofs.Places.{split}
use Rattle.number.specs.Reading.{Whole}
use Rattle.circuit_describe.specs.Inner.Levels.{levels_to}

-- ---- the greater of two

pub greater-second : (a b : ℕ) → a ≤ b → b ≡ greater a b
greater-second a b h = sym ((greater_is a b).0 h)

pub greater-first : (a b : ℕ) → b < a → a ≡ greater a b
greater-first a b h = sym ((greater_is a b).1 h)

pub max_is : (a b : ℕ) → max a b ≡ greater a b
max_is a b = split b a (λ h. omega (arith, greater-first a b h)) (λ h. omega (arith, greater-second a b h))

greater-most : (a b limit : ℕ) → a ≤ limit → b ≤ limit → greater a b ≤ limit
greater-most a b limit p q = let r = greater-below a b (limit + 1) (omega arith) (omega arith) in omega (arith, r)

greater_assoc : (a b c : ℕ) → greater a (greater b c) ≡ greater (greater a b) c
greater_assoc a b c =
    split c b
    (λ h.
    ap (greater a) (sym (greater-first b c h))
    ∙ split b a
    (λ k. sym (greater-first a b k) ∙ greater-first a c (omega arith) ∙ ap (λ (n : ℕ). greater n c) (greater-first a b k))
    (λ k. sym (greater-second a b k) ∙ greater-first b c h ∙ ap (λ (n : ℕ). greater n c) (greater-second a b k)))
    (λ h.
    ap (greater a) (sym (greater-second b c h))
    ∙ split b a
    (λ k. ap (λ (n : ℕ). greater n c) (greater-first a b k))
    (λ k. sym (greater-second a c (omega arith)) ∙ greater-second b c h ∙ ap (λ (n : ℕ). greater n c) (greater-second a b k)))

greatest-last : (l : List ℕ) (n : ℕ) → greatest (l ++ (n ∷ [])) ≡ greater (greatest l) n
unfolding greatest
greatest-last [] n =
    split 0 n (λ h. sym (greater-first n 0 h)) (λ h. let z : 0 ≡ n = omega arith in sym (greater-second n 0 h) ∙ z) ∙ greater-second 0 n (omega arith)
greatest-last (m ∷ l) n = ap (greater m) (greatest-last l n) ∙ greater_assoc m (greatest l) n

greatest-zero : (n : ℕ) → greatest (replicate n 0) ≡ 0
unfolding greatest
greatest-zero zero = refl
greatest-zero (suc n) = ap (greater 0) (greatest-zero n)

-- ---- a gate's level

level_most : (g : Gate) (levels : List ℕ) (limit : ℕ) → ((w : ℕ) → get_or levels w 0 ≤ limit) → gate_level g levels ≤ limit + 1
unfolding gate_level
level_most (Xor a b) levels limit h = omega (arith, greater-most (get_or levels a 0) (get_or levels b 0) limit (h a) (h b))
level_most (And a b) levels limit h = omega (arith, greater-most (get_or levels a 0) (get_or levels b 0) limit (h a) (h b))
level_most (Not a) levels limit h = omega (arith, h a)

-- ---- gate by gate

-- the loop: the gates from here are left to read, the levels of the wires before stand in front, their greatest is known
pub record DepthTurn (s : List ℕ) (inputs : ℕ) (array : List ℕ) (most at i : ℕ) : Type 0 where
  pub left : Left s inputs i at
  pub inputs_are : inputs ≡ (content s).inputs
  pub room : inputs + length (gates_of s) ≤ 4096
  pub front : array ≡ levels_to (content s) i ++ replicate (4096 - (inputs + i)) 0
  pub greatest_is : most ≡ greatest (levels_to (content s) i)
  pub small : (w : ℕ) → get_or (levels_to (content s) i) w 0 ≤ i

zeros_split : (n m : ℕ) → n ≤ m → replicate {A = ℕ} m 0 ≡ replicate n 0 ++ replicate (m - n) 0
zeros_split zero m h = ap (λ (k : ℕ). replicate {A = ℕ} k 0) {x = m} {y = m - 0} (omega arith)
zeros_split (suc n) zero h = absurd (omega arith)
zeros_split (suc n) (suc m) h =
    ap (λ (l : List ℕ). 0 ∷ l) (zeros_split n m (omega arith) ∙ ap (λ (k : ℕ). replicate n 0 ++ replicate k 0) {x = m - n} {y = suc m - suc n} (omega arith))

zero_at : (n w : ℕ) → get_or {A = ℕ} (replicate n 0) w 0 ≡ 0
zero_at zero w = refl
zero_at (suc n) zero = refl
zero_at (suc n) (suc w) = zero_at n w

append_small : (l : List ℕ) (n limit w : ℕ) → ((u : ℕ) → get_or l u 0 ≤ limit) → n ≤ limit → get_or (l ++ (n ∷ [])) w 0 ≤ limit
append_small [] n limit zero h k = k
append_small [] n limit (suc w) h k = omega arith
append_small (x ∷ l) n limit zero h k = h 0
append_small (x ∷ l) n limit (suc w) h k = append_small l n limit w (λ u. h (suc u)) k

depth-start : {s : List ℕ} {f : Layout} → HasLayout s f → DepthTurn s f.inputs (replicate 4096 0) 0 f.body 0
unfolding levels_to over_gates
depth-start {s} {f} o =
    record {
      left = left-start o;
      inputs_are = o.inputs;
      room = omega (arith, o.gates, o.most);
      front =
          zeros_split f.inputs 4096 (omega (arith, o.most))
          ∙ ap₂ (λ (n m : ℕ). replicate {A = ℕ} n 0 ++ replicate (4096 - m) 0) o.inputs (sym (add-zero f.inputs));
      greatest_is = sym (greatest-zero (content s).inputs);
      small = λ w. omega (arith, zero_at (content s).inputs w);
    }

module _ {s : List ℕ} {f : Layout} (o : HasLayout s f) {array : List ℕ} {most at i : ℕ} (turn : DepthTurn s f.inputs array most at i) where
  abbrev c : Circuit
  c = content s

  upto : length (levels_to c i) ≡ f.inputs + i
  unfolding levels_to
  upto =
      fold_length gate_level (take i c.gates) (replicate c.inputs 0)
      ∙ ap₂ (λ (n m : ℕ). n + m) (length-replicate c.inputs 0 ∙ sym o.inputs) (length-take-le i c.gates turn.left.below)

  module _ (more : i < f.gates) where
    inside : i < length (gates_of s)
    inside = omega (arith, o.gates)

    at_wire : (w : ℕ) → w < f.inputs + i → get_or array w 0 ≡ get_or (levels_to c i) w 0
    at_wire w h =
        ap (λ (l : List ℕ). get_or l w 0) turn.front
        ∙ get_or-append (levels_to c i) (replicate (4096 - (f.inputs + i)) 0) 0 w (omega (arith, upto))

    one_more : (g : Gate) {later : List Gate} → drop i (gates_of s) ≡ g ∷ later → levels_to c (i + 1) ≡ levels_to c i ++ (gate_level g (levels_to c i) ∷ [])
    unfolding levels_to
    one_more g h =
        ap (λ (l : List Gate). over_gates gate_level l (replicate c.inputs 0))
        (take-add i 1 c.gates ∙ ap (λ (l : List Gate). take i c.gates ++ take 1 l) h)
        ∙ fold_last gate_level (take i c.gates) g (replicate c.inputs 0)

    depth-next : (g : Gate) {next level most' : ℕ} → Whole (g, next) ≡ read_gate (f.inputs + i) s at
        → level ≡ gate_level g array → most' ≡ greater most level
        → DepthTurn s f.inputs (set array (f.inputs + i) level) most' next (i + 1)
    depth-next g {next} {level} {most'} read e m =
        let h : drop i (gates_of s) ≡ g ∷ (first turn.left inside).later = here turn.left inside g read in
        let longer : levels_to c (i + 1) ≡ levels_to c i ++ (level ∷ []) = one_more g h ∙ ap (λ (n : ℕ). levels_to c i ++ (n ∷ [])) (sym v) in
        record {
          left = left-next turn.left inside g read;
          inputs_are = turn.inputs_are;
          room = turn.room;
          front =
              ap (λ (l : List ℕ). set l (f.inputs + i) level)
              (turn.front ∙ ap (λ (n : ℕ). levels_to c i ++ replicate n 0) {x = 4096 - (f.inputs + i)} {y = suc (4096 - (f.inputs + (i + 1)))} (omega (arith, o.most)))
              ∙ set_at (levels_to c i) 0 (replicate (4096 - (f.inputs + (i + 1))) 0) level (f.inputs + i) upto
              ∙ sym (append_assoc (levels_to c i) (level ∷ []) (replicate (4096 - (f.inputs + (i + 1))) 0))
              ∙ ap (λ (l : List ℕ). l ++ replicate (4096 - (f.inputs + (i + 1))) 0) (sym longer);
          greatest_is = m ∙ ap (λ (n : ℕ). greater n level) turn.greatest_is ∙ sym (ap greatest longer ∙ greatest-last (levels_to c i) level);
          small = λ w. subst (λ (l : List ℕ). get_or l w 0 ≤ i + 1) (sym longer) (last-small w);
        }
      where
        v : level ≡ gate_level g (levels_to c i)
        v = e ∙ level_below g (f.inputs + i) array (levels_to c i) (gate-below (f.inputs + i) s at (sym read)) at_wire

        bound : level ≤ i + 1
        bound = omega (arith, v, level_most g (levels_to c i) i turn.small)

        last-small : (w : ℕ) → get_or (levels_to c i ++ (level ∷ [])) w 0 ≤ i + 1
        last-small w = append_small (levels_to c i) level (i + 1) w (λ u. let h = turn.small u in omega arith) bound

  depth-small : most ≤ 4096
  depth-small = omega (arith, turn.greatest_is, greatest-below (levels_to c i) i (λ w _. turn.small w), turn.left.below, o.gates, o.most)

  depth-whole : f.gates ≤ i → most ≡ depth c
  unfolding levels_to levels
  depth-whole over =
      let n : i ≡ length c.gates = omega (arith, turn.left.below, o.gates) in
      let all : take i c.gates ≡ c.gates = ap (λ (k : ℕ). take k c.gates) n ∙ take-length c.gates in
      turn.greatest_is ∙ ap (λ (l : List Gate). greatest (over_gates gate_level l (replicate c.inputs 0))) all

-- ---- the loop, by the iterator over the gates

-- the turn at the gate where the iterator stands
pub record DepthAt (s : List ℕ) (f : Layout) (gates : Gates) (array : List ℕ) (most : ℕ) : Type 0 where
  pub i : ℕ
  pub here : AtGate s f gates i
  pub turn : DepthTurn s f.inputs array most gates.at i

pub depths-start : {s : List ℕ} {f : Layout} {gates : Gates} → HasLayout s f → GatesFrom s f gates → DepthAt s f gates (replicate 4096 0) 0
depths-start {s} {f} o from =
    record {
      i = 0;
      here = first_gate from;
      turn = subst (λ (at : ℕ). DepthTurn s f.inputs (replicate 4096 0) 0 at 0) (sym from.at) (depth-start o);
    }

module _ {s : List ℕ} {f : Layout} (o : HasLayout s f) {gates : Gates} {array : List ℕ} {most : ℕ} (loop : DepthAt s f gates array most) where
  module _ {wire : ℕ} {gate : code.Gate} {after : Gates} (gave : Gave gates wire gate after) where
    -- its wires are before its own, and their levels are known
    pub wires-small : WiresOf (λ (w : ℕ). (w < 4096) × (get_or array w 0 ≤ 4096)) gate
    wires-small =
        wires_all
        (λ (w : ℕ) h.
        let more = gate-left loop.here gave in
        let below : w < f.inputs + loop.i = omega (arith, h, loop.here.wire) in (
          omega (arith, below, more, o.most),
          omega (arith, at_wire o loop.turn more w below, loop.turn.small w, more, o.most),
        ))
        gate gave.below

    pub depths-next : {level most' : ℕ} → level ≡ gate_level (gate_of gate) array → most' ≡ max most level → DepthAt s f after (set array wire level) most'
    depths-next {level} {most'} e m =
        record {
          i = loop.i + 1;
          here = next_gate loop.here gave;
          turn =
              subst (λ (w : ℕ). DepthTurn s f.inputs (set array w level) most' after.at (loop.i + 1)) (sym (gate-wire loop.here gave))
              (depth-next o loop.turn (gate-left loop.here gave) (gate_of gate) (gate-read loop.here gave) e (m ∙ max_is most level));
        }

  pub depth-most : most ≤ 4096
  depth-most = depth-small o loop.turn

  pub depth_is : gates.left ≡ 0 → most ≡ depth (content s)
  depth_is none = depth-whole o loop.turn (no_gate_left loop.here none)
