-- The pass over the gates: those passed have their bytes after the round, the rest is as it was, and the bits of those that wait stand
-- in front of what was there. Assumes nothing.
use Prim.Native.Nat.{ℕ, suc, ◌+◌, ◌*◌, ◌%◌, ◌≤◌, ◌<◌}
use mathlib.Core.Bool.{Bool, true, false, true≢false}
use mathlib.Core.List.{List, [], ◌∷◌, ◌++◌, append-nil}
use mathlib.Core.Path.{◌≡◌, refl, sym, ap, ◌∙◌, subst}
use borrow.Author.Tests.{eq-eqb, ne_eqb}
use native.Mathlib.Nat.{add-zero}
use native.Mathlib.Omega.{arith}
use lib.Bits.{bit_xor}
use lib.ListN.{length, get_or, set, take, drop, length-append, length-drop, length-set, drop_of_length-le, take-append-drop}
use lib.Seq.{take_all, take-add, take-set-le, length-take-le, drop-set-lt, drop-set-add, take-suc-set, drop-drop, get_or-set_same}
use Rattle.algebra.specs.Choice.{choose}
use Rattle.circuit.proofs.Ands.{tail_at, ands_split}
use Rattle.circuit.proofs.Iterators.{AtGate, first_gate, no_gate_left, next_gate, gate-left, gate-wire, gate-read, wires_all}
use Rattle.circuit.proofs.Lists as lists
use Rattle.circuit.proofs.Lists.{gates-below}
use Rattle.circuit.specs.Admitted.{GateBelow}
use Rattle.circuit.specs.Answer.{content, HasLayout}
use Rattle.circuit.specs.Content.{Gate, And, Circuit, is_and}
use Rattle.circuit.specs.Inner.GateNumbers.{gate_of, WiresOf}
use Rattle.circuit.specs.Inner.Passing.{GatesFrom, Gave}
use Rattle.circuit.specs.Reading.{read_gate}
use Rattle.circuit.specs.Value.{over_gates}
use Rattle.circuit.specs.declared.Gate as code
use Rattle.circuit.specs.declared.Layout.{Layout}
use Rattle.circuit.specs.declared.accepted.Gates.{Gates}
use Rattle.circuit_run.proofs.Gates.{gates_of, here, gate_here, PlaceTurn, place-start, place-next}
use Rattle.circuit_run.specs.Step.{gate_at, ands_before, triple_first, triple_second, masked_first, masked_second}
use Rattle.number.proofs.Places.{either}
use Rattle.number.specs.Reading.{Whole}
use Rattle.circuit_run.proofs.RoundGates.{share-at, byte_is, same_at, byte_no_wait, byte-few}
use Rattle.circuit_run.proofs.Opened.{gate-below, adds, opened_more, share-kept, opened-kept, two_more}
use Rattle.circuit_run.proofs.Waiting.{waiting_up_to, waiting_none, waiting_more, waiting_upto, wait_small}
use Rattle.circuit_run.specs.Inner.RoundGates.{AndHas, byte_by, CanPut, place_after, put_bits}
use Rattle.circuit_run.specs.Inner.RoundPasses.{CanPass, Passes, passed_on}
use Rattle.circuit_run.specs.Inner.RoundTests.{wait_of}
use Rattle.circuit_run.specs.Round.{waiting, waits, waiting_in, gate_byte, opened_bits, bits_to_send}

-- the byte that a gate gets
abbrev make : List ℕ → ℕ → List ℕ → List ℕ → List ℕ → Gate → List ℕ → ℕ
make s role triples far before = gate_byte (content s) (passed_on role s triples far) before

pub record PassTurn (s : List ℕ) (inputs gates role : ℕ) (triples far before bits₀ wires bits : List ℕ) (at ands p q i : ℕ) : Type 0 where
  pub stands : PlaceTurn s inputs gates at ands i
  pub passed : p ≡ waiting_up_to inputs before i
  pub few : p ≤ i
  pub waited : q ≡ 2 * waiting_up_to inputs wires i
  pub below : q ≤ 2 * ands
  pub size : length (opened_bits (content s) triples wires 0 (take i (gates_of s))) ≡ q
  pub sent : bits ≡ opened_bits (content s) triples wires 0 (take i (gates_of s)) ++ drop q bits₀
  pub long : length wires ≡ 4096
  pub run : over_gates (make s role triples far before) (gates_of s) (take inputs before)
      ≡ over_gates (make s role triples far before) (drop i (gates_of s)) (take (inputs + i) wires)
  pub rest : drop (inputs + i) wires ≡ drop (inputs + i) before

pass-start : {s : List ℕ} {f : Layout} (role : ℕ) {triples far before : List ℕ} (bits : List ℕ) → HasLayout s f
    → CanPass s f triples far (length bits) before → PassTurn s f.inputs f.gates role triples far before bits before bits f.body 0 0 0 0
unfolding opened_bits
pass-start {s} {f} role {triples} {far} {before} bits o can =
    record {
      stands = place-start f.gates o;
      passed = waiting_none f.inputs before;
      few = omega arith;
      waited = ap (λ (n : ℕ). 2 * n) (waiting_none f.inputs before);
      below = omega arith;
      size = refl;
      sent = refl;
      long = can.long;
      run =
          ap (λ (n : ℕ). over_gates (make s role triples far before) (gates_of s) (take n before)) (sym (add-zero f.inputs));
      rest = refl;
    }

place_is : (x q : ℕ) → place_after x q ≡ q + 2 * wait_of x
place_is x q = either x 1 (λ w. simp (eq-eqb x 1 w) (omega arith)) (λ m. simp (ne_eqb x 1 m) (omega arith))

-- only an AND waits
is_two : (x role byte : ℕ) (wires triples : List ℕ) (ands : ℕ) (far : List ℕ) (p : ℕ) (g : Gate) → x ≡ byte_by role g byte wires triples ands far p
    → x ≡ 1 → is_and g ≡ true
is_two x role byte wires triples ands far p g e w = of (is_and g) refl
  where
    of : (b : Bool) → is_and g ≡ b → b ≡ true
    of true h = refl
    of false h = absurd (true≢false (sym (eq-eqb x 1 w) ∙ ap waits e ∙ byte_no_wait role byte wires triples ands far p g h))

module _ {s : List ℕ} {f : Layout} (o : HasLayout s f) {role : ℕ} {triples far before bits₀ : List ℕ} (can : CanPass s f triples far (length bits₀) before)
    {wires bits : List ℕ} {at ands p q i : ℕ} (turn : PassTurn s f.inputs f.gates role triples far before bits₀ wires bits at ands p q i) where
  abbrev c : Circuit
  c = content s

  abbrev n : ℕ
  n = f.inputs + i

  all : f.gates ≤ f.gates
  all = omega arith

  abbrev done : List ℕ
  done = opened_bits c triples wires 0 (take i (gates_of s))

  length_is : q ≤ length bits₀ → length bits ≡ length bits₀
  length_is h = ap length turn.sent ∙ length-append done (drop q bits₀) ∙ omega (arith, turn.size, length-drop q bits₀)

  module _ (more : i < f.gates) where
    inside : i < length (gates_of s)
    inside = omega (arith, o.gates)

    held : n < length wires
    held = omega (arith, o.most, turn.long)

    was : get_or before n 0 ≡ get_or wires n 0
    was = same_at wires before n turn.rest

    module _ (g : Gate) {next : ℕ} (read : Whole (g, next) ≡ read_gate (f.inputs + i) s at) where
      gate_is : gate_at c i ≡ g
      gate_is = gate_here turn.stands.left inside g read

      first_is : drop i (gates_of s) ≡ g ∷ drop (i + 1) (gates_of s)
      first_is =
          let h = here turn.stands.left inside g read in
          h ∙ ap (λ (gs : List Gate). g ∷ gs) (sym (tail_at (gates_of s) i h))

      before_it : GateBelow n g
      before_it = lists.gate-below n s at (sym read)

      -- an AND has its triple
      and-few : is_and g ≡ true → ands + 1 ≤ f.ands
      and-few e =
          let h : choose {A = ℕ} (is_and g) 1 0 ≡ 1 = ap (λ (b : Bool). choose {A = ℕ} b 1 0) e in
          omega (arith, turn.stands.counted, o.ands, ands_split (gates_of s) i first_is, h)

      -- and room for its bits
      and-room : is_and g ≡ true → q + 1 < length bits₀
      and-room e = omega (arith, turn.below, and-few e, can.room)

      and-bits : is_and g ≡ true → q + 1 < length bits
      and-bits e = omega (arith, and-room e, length_is (omega (arith, and-room e)))

      pass-puts : (x : ℕ) → is_and g ≡ true → CanPut x triples ands bits q
      pass-puts x e =
          record {
            few = omega (arith, turn.stands.few, more, o.most);
            low = omega (arith, turn.below, turn.stands.few, more, o.most);
            triple = λ w. omega (arith, and-few e, can.enough);
            room = λ w. and-bits e;
          }

      pass-has : is_and g ≡ true → get_or wires (f.inputs + i) 0 ≡ 1 → AndHas triples ands far p
      pass-has e w =
          let v : wait_of (get_or before n 0) ≡ 1 = ap wait_of (was ∙ w) in
          let m : waiting_up_to f.inputs before f.gates ≡ waiting_in c before =
          ap (λ (k : ℕ). waiting_up_to k before f.gates) o.inputs ∙ ap (waiting_up_to c.inputs before) o.gates in
          record {
            triple = omega (arith, and-few e, can.enough);
            place =
                omega (
                  arith,
                  turn.passed,
                  waiting_more f.inputs before i (omega (arith, can.long, o.most)),
                  waiting_upto f.inputs before (i + 1) f.gates (omega arith),
                  v,
                  m,
                  can.places,
                );
            triple_bits = can.triple_bits;
            far_bits = can.far_bits;
          }

      module _ {x : ℕ} (e : x ≡ byte_by role g (get_or wires (f.inputs + i) 0) wires triples ands far p) where
        made : x ≡ make s role triples far before g (take n wires)
        made =
            e
            ∙ ap (λ (m : ℕ). byte_by role g (get_or wires n 0) wires triples m far p) turn.stands.counted
            ∙ ap (λ (m : ℕ). byte_by role g (get_or wires n 0) wires triples (ands_before c i) far m)
            (turn.passed ∙ ap (λ (k : ℕ). waiting_up_to k before i) o.inputs)
            ∙ sym (byte_is c (passed_on role s triples far) before wires i o.inputs held turn.rest g gate_is before_it)

        layout : take (f.inputs + (i + 1)) (set wires n x) ≡ take n wires ++ (x ∷ [])
        layout = ap (λ (k : ℕ). take k (set wires n x)) {x = f.inputs + (i + 1)} {y = suc n} (omega arith) ∙ take-suc-set wires n x held

        waits-after : waiting_up_to f.inputs (set wires n x) (i + 1) ≡ waiting_up_to f.inputs wires i + wait_of x
        waits-after =
            waiting_more f.inputs (set wires n x) i (omega (arith, length-set wires n x, held))
            ∙ ap (λ (l : List ℕ). waiting l + wait_of (get_or (set wires n x) n 0))
            (ap (take i) (drop-set-add f.inputs wires i x) ∙ take-set-le i (drop f.inputs wires) i x (omega arith))
            ∙ ap (λ (v : ℕ). waiting_up_to f.inputs wires i + wait_of v) (get_or-set_same wires n x 0 held)

        two : x ≡ 1 → is_and g ≡ true
        two = is_two x role (get_or wires n 0) wires triples ands far p g e

        -- the bits of the gates passed stay, and those of this one follow
        done_after : opened_bits c triples (set wires n x) 0 (take (i + 1) (gates_of s)) ≡ done ++ adds c triples (set wires n x) i
        done_after =
            let l : length (take i (gates_of s)) ≡ i = length-take-le i (gates_of s) (omega arith) in
            let below = gate-below f.inputs (gates_of s) (gates-below f.gates f.inputs s f.body o.body) in
            ap (opened_bits c triples (set wires n x) 0)
            (take-add i 1 (gates_of s) ∙ ap (λ (gs : List Gate). take i (gates_of s) ++ take 1 gs) first_is)
            ∙ opened_more c triples (set wires n x) (take i (gates_of s)) g 0 i (omega (arith, l))
            ∙ ap (λ (k : List ℕ). k ++ adds c triples (set wires n x) i)
            (opened-kept wires n x c triples i (ap (λ (k : ℕ). k + i) o.inputs)
            (λ j h. let b = below j (omega (arith, inside)) in (omega (arith, b.0), omega (arith, b.1))) (take i (gates_of s)) 0 (omega (arith, l)))

        byte-after : get_or (set wires n x) (c.inputs + i) 0 ≡ x
        byte-after = ap (λ (k : ℕ). get_or (set wires n x) (k + i) 0) (sym o.inputs) ∙ get_or-set_same wires n x 0 held

        masked : (a b : ℕ) → g ≡ And a b → x ≡ 1
            → adds c triples (set wires n x) i
            ≡ bit_xor (get_or wires a 0 % 2) (triple_first triples ands) ∷ bit_xor (get_or wires b 0 % 2) (triple_second triples ands) ∷ []
        unfolding masked_first masked_second GateBelow
        masked a b is w =
            let k : gate_at c i ≡ And a b = gate_is ∙ is in
            let h : (a < n) × (b < n) = rw is at before_it in
            rw (byte-after, eq-eqb x 1 w, k, share-kept wires n x a h.0, share-kept wires n x b h.1, share-at wires a, share-at wires b, ← turn.stands.counted)

        none-added : (x ≡ 1 → ⊥) → adds c triples (set wires n x) i ≡ []
        none-added m = rw (byte-after, ne_eqb x 1 m)

        module _ {m₂ : ℕ} (e₂ : m₂ ≡ wait_of (get_or wires (f.inputs + i) 0)) {ands' : ℕ} (e₁ : ands' ≡ ands + choose (is_and g) 1 0) where
          -- the turn but for the bits
          next_with : {q' : ℕ} {bits' : List ℕ} → q' ≡ place_after x q → length (opened_bits c triples (set wires n x) 0 (take (i + 1) (gates_of s))) ≡ q'
              → bits' ≡ opened_bits c triples (set wires n x) 0 (take (i + 1) (gates_of s)) ++ drop q' bits₀
              → PassTurn s f.inputs f.gates role triples far before bits₀ (set wires (f.inputs + i) x) bits' next ands' (p + m₂) q' (i + 1)
          unfolding over_gates
          next_with {q'} {bits'} e₃ size' sent' =
              let mk = make s role triples far before in
              let v : wait_of (get_or before n 0) ≡ wait_of (get_or wires n 0) = ap wait_of was in
              let u : wait_of x ≤ choose (is_and g) 1 0 = rw e (byte-few role (get_or wires n 0) wires triples ands far p g) in
              let t : q' ≡ q + 2 * wait_of x = e₃ ∙ place_is x q in
              let k : drop (f.inputs + (i + 1)) wires ≡ drop (f.inputs + (i + 1)) before =
              ap (λ (m : ℕ). drop m wires) {x = f.inputs + (i + 1)} {y = n + 1} (omega arith)
              ∙ sym (drop-drop 1 n wires) ∙ ap (drop 1) turn.rest ∙ drop-drop 1 n before
              ∙ ap (λ (m : ℕ). drop m before) {x = n + 1} {y = f.inputs + (i + 1)} (omega arith) in
              record {
                stands = subst (λ (m : ℕ). PlaceTurn s f.inputs f.gates next m (i + 1)) (sym e₁) (place-next o all turn.stands more g refl read);
                passed = omega (arith, turn.passed, e₂, v, waiting_more f.inputs before i (omega (arith, can.long, o.most)));
                few = omega (arith, turn.few, e₂, wait_small (get_or wires n 0));
                waited = omega (arith, turn.waited, t, waits-after);
                below = omega (arith, turn.below, e₁, t, u);
                size = size';
                sent = sent';
                long = length-set wires n x ∙ turn.long;
                run =
                    turn.run
                    ∙ ap (λ (gs : List Gate). over_gates mk gs (take n wires)) first_is
                    ∙ ap (λ (y : ℕ). over_gates mk (drop (i + 1) (gates_of s)) (take n wires ++ (y ∷ []))) (sym made)
                    ∙ ap (over_gates mk (drop (i + 1) (gates_of s))) (sym layout);
                rest = drop-set-lt (f.inputs + (i + 1)) wires n x (omega arith) ∙ k;
              }

          -- one that does not wait
          next_none : (x ≡ 1 → ⊥) → {q' : ℕ} {bits' : List ℕ} → q' ≡ place_after x q → bits' ≡ bits
              → PassTurn s f.inputs f.gates role triples far before bits₀ (set wires (f.inputs + i) x) bits' next ands' (p + m₂) q' (i + 1)
          next_none m {q'} e₃ e₄ =
              let k : q' ≡ q = e₃ ∙ ap (λ (u : Bool). choose {A = ℕ} u (q + 2) q) (ne_eqb x 1 m) in
              let d : opened_bits c triples (set wires n x) 0 (take (i + 1) (gates_of s)) ≡ done =
              done_after ∙ ap (λ (l : List ℕ). done ++ l) (none-added m) ∙ append-nil done in
              next_with e₃ (ap length d ∙ turn.size ∙ sym k)
              (e₄ ∙ turn.sent
              ∙ ap (λ (l : List ℕ). l ++ drop q bits₀) (sym d)
              ∙ ap (λ (j : ℕ). opened_bits c triples (set wires n x) 0 (take (i + 1) (gates_of s)) ++ drop j bits₀) (sym k))

          pass_other : is_and g ≡ false → {q' : ℕ} {bits' : List ℕ} → q' ≡ q → bits' ≡ bits
              → PassTurn s f.inputs f.gates role triples far before bits₀ (set wires (f.inputs + i) x) bits' next ands' (p + m₂) q' (i + 1)
          pass_other other {q'} e₃ e₄ =
              let m : x ≡ 1 → ⊥ = λ w. true≢false (sym (two w) ∙ other) in
              next_none m (e₃ ∙ sym (ap (λ (u : Bool). choose {A = ℕ} u (q + 2) q) (ne_eqb x 1 m))) e₄

          pass_and : (a b : ℕ) → g ≡ And a b → {q' : ℕ} {bits' : List ℕ} → q' ≡ place_after x q
              → bits' ≡ put_bits x (get_or wires a 0) (get_or wires b 0) triples ands q bits
              → PassTurn s f.inputs f.gates role triples far before bits₀ (set wires (f.inputs + i) x) bits' next ands' (p + m₂) q' (i + 1)
          unfolding put_bits
          pass_and a b is {q'} {bits'} e₃ e₄ =
              let y : ℕ = bit_xor (get_or wires a 0 % 2) (triple_first triples ands) in
              let z : ℕ = bit_xor (get_or wires b 0 % 2) (triple_second triples ands) in
              let put : List ℕ = set (set bits q y) (q + 1) z in
              either x 1
              (λ w.
              let t = eq-eqb x 1 w in
              let k : q' ≡ q + 2 = e₃ ∙ ap (λ (u : Bool). choose {A = ℕ} u (q + 2) q) t in
              let d : opened_bits c triples (set wires n x) 0 (take (i + 1) (gates_of s)) ≡ done ++ (y ∷ z ∷ []) =
              done_after ∙ ap (λ (l : List ℕ). done ++ l) (masked a b is w) in
              next_with e₃ (ap length d ∙ length-append done (y ∷ z ∷ []) ∙ omega (arith, turn.size, k))
              (e₄ ∙ ap (λ (u : Bool). choose u put bits) t
              ∙ ap (λ (l : List ℕ). set (set l q y) (q + 1) z) turn.sent
              ∙ two_more done bits₀ q y z turn.size (and-room (two w))
              ∙ ap (λ (l : List ℕ). l ++ drop (q + 2) bits₀) (sym d)
              ∙ ap (λ (m : ℕ). opened_bits c triples (set wires n x) 0 (take (i + 1) (gates_of s)) ++ drop m bits₀) (sym k)))
              (λ m. next_none m e₃ (e₄ ∙ ap (λ (u : Bool). choose u put bits) (ne_eqb x 1 m)))

  module _ (over : f.gates ≤ i) where
    e : i ≡ f.gates
    e = omega (arith, turn.stands.turns)

    whole : length (gates_of s) ≤ i
    whole = omega (arith, o.gates)

    pass_done : Passes s f role triples far bits₀ before q bits wires
    unfolding over_gates
    pass_done =
        let mk = make s role triples far before in
        let d : done ≡ bits_to_send c triples wires = ap (opened_bits c triples wires 0) (take_all i (gates_of s) whole) in
        record {
          bytes =
              sym (take-append-drop n wires)
              ∙ ap (λ (y : List ℕ). y ++ drop n wires)
              (sym (turn.run ∙ ap (λ (gs : List Gate). over_gates mk gs (take n wires)) (drop_of_length-le (gates_of s) whole)))
              ∙ ap (λ (y : List ℕ). over_gates mk (gates_of s) (take f.inputs before) ++ y)
              (turn.rest ∙ ap (λ (m : ℕ). drop (f.inputs + m) before) e);
          waited =
              turn.waited
              ∙ ap (λ (m : ℕ). 2 * m)
              (ap (waiting_up_to f.inputs wires) (e ∙ o.gates) ∙ ap (λ (m : ℕ). waiting_up_to m wires (length (gates_of s))) o.inputs);
          counted = sym (ap length (sym d) ∙ turn.size);
          sent = turn.sent ∙ ap (λ (l : List ℕ). l ++ drop q bits₀) d;
        }

-- ---- the loop, by the iterator over the gates

-- the turn at the gate where the iterator stands
pub record PassAt (s : List ℕ) (f : Layout) (role : ℕ) (triples far before bits₀ : List ℕ) (gates : Gates) (wires bits : List ℕ) (ands p q : ℕ) : Type 0 where
  pub i : ℕ
  pub here : AtGate s f gates i
  pub turn : PassTurn s f.inputs f.gates role triples far before bits₀ wires bits gates.at ands p q i

pub passes-start : {s : List ℕ} {f : Layout} (role : ℕ) {triples far before : List ℕ} (bits : List ℕ) {gates : Gates} → HasLayout s f
    → CanPass s f triples far (length bits) before → GatesFrom s f gates → PassAt s f role triples far before bits gates before bits 0 0 0
passes-start {s} {f} role {triples} {far} {before} bits o can from =
    record {
      i = 0;
      here = first_gate from;
      turn = subst (λ (at : ℕ). PassTurn s f.inputs f.gates role triples far before bits before bits at 0 0 0 0) (sym from.at) (pass-start role bits o can);
    }

module _ {s : List ℕ} {f : Layout} (o : HasLayout s f) {role : ℕ} {triples far before bits₀ : List ℕ} (can : CanPass s f triples far (length bits₀) before)
    {gates : Gates} {wires bits : List ℕ} {ands p q : ℕ} (loop : PassAt s f role triples far before bits₀ gates wires bits ands p q) where
  module _ {wire : ℕ} {gate : code.Gate} {after : Gates} (gave : Gave gates wire gate after) where
    abbrev g : Gate
    g = gate_of gate

    wire_is : wire ≡ f.inputs + loop.i
    wire_is = gate-wire loop.here gave

    more-left : loop.i < f.gates
    more-left = gate-left loop.here gave

    pub passes-inside : wire < 4096
    passes-inside = omega (arith, wire_is, more-left, o.most)

    pub passes-below : WiresOf (λ (w : ℕ). w < 4096) gate
    passes-below = wires_all (λ (w : ℕ) h. omega (arith, h, loop.here.wire, more-left, o.most)) gate gave.below

    pub passes-puts : (x : ℕ) → is_and g ≡ true → CanPut x triples ands bits q
    passes-puts = pass-puts o can loop.turn more-left g (gate-read loop.here gave)

    pub passes-has : is_and g ≡ true → get_or wires wire 0 ≡ 1 → AndHas triples ands far p
    passes-has is waits =
        pass-has o can loop.turn more-left g (gate-read loop.here gave) is (ap (λ (w : ℕ). get_or wires w 0) (sym wire_is) ∙ waits)

    module _ {x : ℕ} (e : x ≡ byte_by role g (get_or wires wire 0) wires triples ands far p) {m₂ : ℕ} (e₂ : m₂ ≡ wait_of (get_or wires wire 0))
        {ands' : ℕ} (e₁ : ands' ≡ ands + choose (is_and g) 1 0) where
      byte_is_here : x ≡ byte_by role g (get_or wires (f.inputs + loop.i) 0) wires triples ands far p
      byte_is_here = e ∙ ap (λ (w : ℕ). byte_by role g (get_or wires w 0) wires triples ands far p) wire_is

      waits_here : m₂ ≡ wait_of (get_or wires (f.inputs + loop.i) 0)
      waits_here = e₂ ∙ ap (λ (w : ℕ). wait_of (get_or wires w 0)) wire_is

      gone_on : {q' : ℕ} {bits' : List ℕ}
          → PassTurn s f.inputs f.gates role triples far before bits₀ (set wires (f.inputs + loop.i) x) bits' after.at ands' (p + m₂) q' (loop.i + 1)
          → PassAt s f role triples far before bits₀ after (set wires wire x) bits' ands' (p + m₂) q'
      gone_on {q'} {bits'} turn =
          record {
            i = loop.i + 1;
            here = next_gate loop.here gave;
            turn =
                subst (λ (w : ℕ). PassTurn s f.inputs f.gates role triples far before bits₀ (set wires w x) bits' after.at ands' (p + m₂) q' (loop.i + 1))
                (sym wire_is) turn;
          }

      pub passes_other : is_and g ≡ false → {q' : ℕ} {bits' : List ℕ} → q' ≡ q → bits' ≡ bits
          → PassAt s f role triples far before bits₀ after (set wires wire x) bits' ands' (p + m₂) q'
      passes_other other e₃ e₄ =
          gone_on (pass_other o can loop.turn more-left g (gate-read loop.here gave) byte_is_here waits_here e₁ other e₃ e₄)

      pub passes_and : (a b : ℕ) → g ≡ And a b → {q' : ℕ} {bits' : List ℕ} → q' ≡ place_after x q
          → bits' ≡ put_bits x (get_or wires a 0) (get_or wires b 0) triples ands q bits
          → PassAt s f role triples far before bits₀ after (set wires wire x) bits' ands' (p + m₂) q'
      passes_and a b is e₃ e₄ =
          gone_on (pass_and o can loop.turn more-left g (gate-read loop.here gave) byte_is_here waits_here e₁ a b is e₃ e₄)

  pub passes_done : gates.left ≡ 0 → Passes s f role triples far bits₀ before q bits wires
  passes_done none = pass_done o can loop.turn (no_gate_left loop.here none)
