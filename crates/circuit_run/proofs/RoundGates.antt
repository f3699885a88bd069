-- The byte of one gate: what the definition says of it is what the code computes from its wires' bytes. Assumes nothing.
use Prim.Native.Nat.{ℕ, ◌+◌, ◌-◌, ◌≤◌, ◌<◌}
use mathlib.Core.Bool.{Bool, true, false, ◌&&◌, true≢false}
use mathlib.Core.List.{List, [], ◌∷◌, ◌++◌}
use mathlib.Core.Path.{◌≡◌, refl, sym, ap, ap₂, ◌∙◌}
use borrow.Author.Tests.{le-leb, lt-leb, ne_eqb}
use native.Mathlib.Nat.{add-zero}
use native.Mathlib.Omega.{arith}
use lib.ListN.{length, get_or, take, drop, length-append, get_or-map}
use lib.Seq.{get_or-take, get_or-drop, length-take-le}
use Rattle.algebra.specs.Choice.{choose}
use Rattle.circuit.specs.Admitted.{GateBelow}
use Rattle.circuit.specs.Content.{Gate, Xor, And, Not, Circuit, is_and}
use Rattle.circuit.specs.Value.{over_gates}
use Rattle.circuit_run.specs.Step.{gate_at, ands_before, masked_first, masked_second}
use Rattle.number.proofs.Places.{split}
use Rattle.circuit_run.proofs.Waiting.{wait_small}
use Rattle.circuit_run.specs.Inner.Places.{opened_with}
use Rattle.circuit_run.specs.Inner.RoundGates.{opened_by, and_byte_by, xor_byte_by, not_byte_by, unknown_by, byte_by}
use Rattle.circuit_run.specs.Inner.RoundPasses.{passed_on}
use Rattle.circuit_run.specs.Inner.RoundTests.{wait_of}
use Rattle.circuit_run.specs.Round.{RoundLent, round_with, waiting, waits, is_known, share_of, known_as, shares_in, waiting_before, ready, opened_share, computed, gate_byte}

pub share-at : (bytes : List ℕ) (w : ℕ) → get_or (shares_in bytes) w 0 ≡ share_of (get_or bytes w 0)
share-at bytes w = get_or-map (λ (byte : ℕ). share_of byte) bytes w 0

both : (p q : Bool) (v : ℕ) → choose (p && q) v 0 ≡ choose p (choose q v 0) 0
both true q v = refl
both false q v = refl

-- ---- from the bytes of its wires

module _ (c : Circuit) (l : RoundLent) (i p a : ℕ) (bytes : List ℕ) {x : ℕ} (first : get_or bytes a 0 ≡ x) where
  not_is : (w : Bool) → computed c l i p w (Not a) bytes ≡ not_byte_by l.role x
  unfolding computed ready not_byte_by
  not_is w = rw (share-at bytes a, first)

  module _ (b : ℕ) {y : ℕ} (second : get_or bytes b 0 ≡ y) where
    xor_is : (w : Bool) → computed c l i p w (Xor a b) bytes ≡ xor_byte_by x y
    unfolding computed ready xor_byte_by
    xor_is w = rw (share-at bytes a, share-at bytes b, first, second) (both (is_known x) (is_known y) _)

    share_is : gate_at c i ≡ And a b → opened_share c l i p bytes ≡ opened_by l.role x y l.triples (ands_before c i) l.far p
    unfolding opened_share masked_first masked_second opened_by opened_with
    share_is g = rw (g, share-at bytes a, share-at bytes b, first, second)

    opens_is : choose {A = ℕ} (is_known (get_or bytes a 0) && is_known (get_or bytes b 0)) 1 0 ≡ choose (is_known x) (choose (is_known y) 1 0) 0
    opens_is = ap₂ (λ (u v : ℕ). choose {A = ℕ} (is_known u && is_known v) 1 0) first second ∙ both (is_known x) (is_known y) 1

    and_is : (byte : ℕ) → gate_at c i ≡ And a b
        → computed c l i p (waits byte) (And a b) bytes ≡ and_byte_by l.role byte x y l.triples (ands_before c i) l.far p
    unfolding computed ready and_byte_by
    and_is byte g = ap₂ (λ (u v : ℕ). choose (waits byte) (known_as u) v) (share_is g) opens_is

-- ---- of a gate that was read

abbrev at_gate : Circuit → RoundLent → List ℕ → Gate → List ℕ → ℕ → ℕ → ℕ
at_gate c l before g bytes i byte =
    choose (is_known byte) byte (computed c l i (waiting_before c before i) (waits byte) g bytes)

gate-at : (c : Circuit) (l : RoundLent) (before : List ℕ) (g : Gate) (bytes : List ℕ) {n i byte : ℕ}
    → length bytes ≡ n → n - c.inputs ≡ i → get_or before n 0 ≡ byte → gate_byte c l before g bytes ≡ at_gate c l before g bytes i byte
unfolding gate_byte
gate-at c l before g bytes len gone was = rw (len, gone, was)

-- what stands from a place on is as it was
pub same_at : (wires before : List ℕ) (n : ℕ) → drop n wires ≡ drop n before → get_or before n 0 ≡ get_or wires n 0
same_at wires before n rest =
    ap (λ (k : ℕ). get_or before k 0) (sym (add-zero n))
    ∙ sym (get_or-drop n before 0 0)
    ∙ ap (λ (l : List ℕ). get_or l 0 0) (sym rest)
    ∙ get_or-drop n wires 0 0
    ∙ ap (λ (k : ℕ). get_or wires k 0) (add-zero n)

module _ (c : Circuit) (l : RoundLent) (before wires : List ℕ) {inputs : ℕ} (i : ℕ) (start : inputs ≡ c.inputs) (held : inputs + i < length wires)
    (rest : drop (inputs + i) wires ≡ drop (inputs + i) before) where
  abbrev byte : ℕ
  byte = get_or wires (inputs + i) 0

  abbrev front : List ℕ
  front = take (inputs + i) wires

  abbrev passed : ℕ
  passed = waiting_before c before i

  unknown_is : (g : Gate) → gate_at c i ≡ g → GateBelow (inputs + i) g
      → computed c l i passed (waits byte) g front ≡ unknown_by l.role g byte wires l.triples (ands_before c i) l.far passed
  unfolding GateBelow
  unknown_is (Xor a b) e h = xor_is c l i passed a front (get_or-take (inputs + i) wires a 0 h.0) b (get_or-take (inputs + i) wires b 0 h.1) (waits byte)
  unknown_is (And a b) e h = and_is c l i passed a front (get_or-take (inputs + i) wires a 0 h.0) b (get_or-take (inputs + i) wires b 0 h.1) byte e
  unknown_is (Not a) e h = not_is c l i passed a front (get_or-take (inputs + i) wires a 0 h) (waits byte)

  pub byte_is : (g : Gate) → gate_at c i ≡ g → GateBelow (inputs + i) g
      → gate_byte c l before g (take (inputs + i) wires)
      ≡ byte_by l.role g (get_or wires (inputs + i) 0) wires l.triples (ands_before c i) l.far (waiting_before c before i)
  unfolding byte_by
  byte_is g e h =
      gate-at c l before g front (length-take-le (inputs + i) wires (omega arith)) (omega (arith, start)) (same_at wires before (inputs + i) rest)
      ∙ ap (λ (v : ℕ). choose (is_known byte) byte v) (unknown_is g e h)

-- ---- of all that is lent it sees role, triples and far bits, and of the bytes before it those of the gates

module _ (c : Circuit) (role : ℕ) (s shares triples output far bits : List ℕ) where
  abbrev all : RoundLent
  all = round_with role s shares triples output far bits

  computed_same : (i p : ℕ) (w : Bool) (g : Gate) (bytes : List ℕ) → computed c (passed_on role s triples far) i p w g bytes ≡ computed c all i p w g bytes
  unfolding computed opened_share
  computed_same i p w (Xor a b) bytes = refl
  computed_same i p w (And a b) bytes = refl
  computed_same i p w (Not a) bytes = refl

  gate_same : (before after : List ℕ) → drop c.inputs after ≡ drop c.inputs before → (g : Gate) (bytes : List ℕ) → c.inputs ≤ length bytes
      → gate_byte c (passed_on role s triples far) after g bytes ≡ gate_byte c all before g bytes
  gate_same before after rest g bytes h =
      let i : ℕ = length bytes - c.inputs in
      let n : length bytes ≡ c.inputs + i = omega arith in
      let was : get_or after (length bytes) 0 ≡ get_or before (length bytes) 0 =
      ap (λ (k : ℕ). get_or after k 0) n ∙ sym (get_or-drop c.inputs after i 0) ∙ ap (λ (l : List ℕ). get_or l i 0) rest
      ∙ get_or-drop c.inputs before i 0 ∙ ap (λ (k : ℕ). get_or before k 0) (sym n) in
      let byte : ℕ = get_or before (length bytes) 0 in
      gate-at c (passed_on role s triples far) after g bytes refl refl was
      ∙ ap (λ (d : List ℕ). choose (is_known byte) byte (computed c (passed_on role s triples far) i (waiting (take i d)) (waits byte) g bytes)) rest
      ∙ ap (λ (v : ℕ). choose (is_known byte) byte v) (computed_same i (waiting_before c before i) (waits byte) g bytes)
      ∙ sym (gate-at c all before g bytes refl refl refl)

  pub gates-same : (before after : List ℕ) → drop c.inputs after ≡ drop c.inputs before → (gs : List Gate) (bytes : List ℕ) → c.inputs ≤ length bytes
      → over_gates (gate_byte c (passed_on role s triples far) after) gs bytes ≡ over_gates (gate_byte c all before) gs bytes
  unfolding over_gates
  gates-same before after rest [] bytes h = refl
  gates-same before after rest (g ∷ gs) bytes h =
      let u : ℕ = gate_byte c (passed_on role s triples far) after g bytes in
      gates-same before after rest gs (bytes ++ (u ∷ [])) (omega (arith, length-append bytes (u ∷ [])))
      ∙ ap (λ (v : ℕ). over_gates (gate_byte c all before) gs (bytes ++ (v ∷ []))) (gate_same before after rest g bytes h)

-- ---- only an AND waits

no_wait : (v : ℕ) → waits (2 + v) ≡ false
no_wait v = ne_eqb (2 + v) 1 (λ e. omega arith)

xor_no_wait : (x y : ℕ) → waits (xor_byte_by x y) ≡ false
unfolding xor_byte_by
xor_no_wait x y = of (is_known x) (is_known y) _
  where
    of : (p q : Bool) (v : ℕ) → waits (choose p (choose q (2 + v) 0) 0) ≡ false
    of true true v = no_wait v
    of true false v = refl
    of false q v = refl

not_no_wait : (role x : ℕ) → waits (not_byte_by role x) ≡ false
unfolding not_byte_by
not_no_wait role x = of (is_known x) _
  where
    of : (p : Bool) (v : ℕ) → waits (choose p (2 + v) 0) ≡ false
    of true v = no_wait v
    of false v = refl

module _ (role byte : ℕ) (wires triples : List ℕ) (ands : ℕ) (far : List ℕ) (passed : ℕ) where
  unknown_no_wait : (g : Gate) → is_and g ≡ false → waits (unknown_by role g byte wires triples ands far passed) ≡ false
  unknown_no_wait (Xor a b) e = xor_no_wait (get_or wires a 0) (get_or wires b 0)
  unknown_no_wait (And a b) e = absurd (true≢false e)
  unknown_no_wait (Not a) e = not_no_wait role (get_or wires a 0)

  pub byte_no_wait : (g : Gate) → is_and g ≡ false → waits (byte_by role g byte wires triples ands far passed) ≡ false
  unfolding byte_by
  byte_no_wait g e =
      split byte 2
      (λ h. rw (lt-leb 2 byte h) (unknown_no_wait g e))
      (λ h. rw (le-leb 2 byte h) (ne_eqb byte 1 (λ e. omega arith)))

  pub byte-few : (g : Gate) → wait_of (byte_by role g byte wires triples ands far passed) ≤ choose (is_and g) 1 0
  byte-few (Xor a b) = rw (byte_no_wait (Xor a b) refl) (omega arith)
  byte-few (And a b) = wait_small (byte_by role (And a b) byte wires triples ands far passed)
  byte-few (Not a) = rw (byte_no_wait (Not a) refl) (omega arith)
