-- Wire by wire and at the outputs both ends agree, seen from either end. Assumes nothing.
use Prim.Native.Nat.{ℕ, ◌+◌, ◌≤◌, ◌<◌}
use mathlib.Core.Bool.{true}
use mathlib.Core.List.{List}
use mathlib.Core.Path.{◌≡◌, refl, sym, ap, ap₂, ◌∙◌, subst}
use native.Mathlib.Omega.{arith}
use lib.Bits.{bit_and, xor_comm}
use lib.ListN.{length, get_or}
use lib.Seq.{take-length}
use Rattle.algebra.specs.Coding.{at}
use Rattle.circuit.proofs.Folds.{fold_keeps, by_gates, below_at}
use Rattle.circuit.proofs.Values.{values_hold}
use Rattle.circuit.specs.Admitted.{GateBelow, GatesBelow, AdmittedCircuit}
use Rattle.circuit.specs.Content.{Gate, Xor, And, Not, Circuit, is_and, ands_in}
use Rattle.circuit.specs.Value.{gate_value, wire_values, value_of}
use Rattle.circuit_claims.proofs.AndGates.{and_at, and-inside, and_before}
use Rattle.circuit_claims.proofs.Joins.{AgreeAt, Held, agreed, joined}
use Rattle.circuit_claims.proofs.Transcripts.{outputs-same, determined, sent_determined}
use Rattle.circuit_claims.specs.Evaluation.{combined}
use Rattle.circuit_claims.specs.Transcript.{BitsByAnd, and_gate, wire_shares, masked_bits, Transcript}
use Rattle.circuit_run.proofs.Bits.{xor-bit, and-bit}
use Rattle.circuit_run.specs.Step.{gate_at, ands_before}
use Rattle.circuit_hidden.proofs.Lists.{combined_comm}
use Rattle.circuit_hidden.specs.Hidden.{End, One, Two, role_of, other, View, Together}
use Rattle.circuit_hidden.specs.Run.{Run, SameByAnd}
use Rattle.pads.specs.Triples.Matching.{Matching}
use Rattle.pads.specs.Triples.Triple.{Triple, triple_bytes}

-- transcripts as runs
abbrev pub Told : Circuit → Run
Told c role shares triples got sent outputs = Transcript role c shares triples got sent outputs

-- what holds of every AND by its gate holds by its number
pub by_and_lem : (c : Circuit) (f g : BitsByAnd) → ((i : ℕ) → is_and (gate_at c i) ≡ true → f (ands_before c i) ≡ g (ands_before c i))
    → SameByAnd c f g
by_and_lem c f g all j h = let r = and_at c.gates j h in subst (λ (k : ℕ). f k ≡ g k) r.1 (all (and_gate c.gates j) r.0)

-- bits and outputs of a transcript named otherwise
pub told_by : {role : ℕ} {c : Circuit} {shares triples : List ℕ} {got sent got' sent' : BitsByAnd} {outputs outputs' : List ℕ}
    → AdmittedCircuit c
    → SameByAnd c got got' → SameByAnd c sent sent' → outputs ≡ outputs'
    → Transcript role c shares triples got sent outputs → Transcript role c shares triples got' sent' outputs'
told_by {role} {c} {shares} {triples} {got} {sent} {got'} {sent'} {outputs} ok same-got same_sent same-outputs t =
    record {
      one_each = t.one_each;
      share-bits = t.share-bits;
      triple-bits = t.triple-bits;
      written =
          sym same-outputs ∙ t.written
          ∙ outputs-same (c.inputs + length c.gates) (wire_shares role c triples got shares) (wire_shares role c triples got' shares)
          c.outputs
          (determined role c triples triples got got' shares t.one_each ok.gates (λ j h. refl) (length c.gates) (omega arith)
          (λ j h. same-got j (omega (arith, ap ands_in (take-length c.gates)))))
          ok.output_wires;
      sends = λ i a.
          sym (same_sent (ands_before c i) (and_before c i a)) ∙ t.sends i a
          ∙ sent_determined role c triples triples got got' shares t.one_each ok.gates (λ j h. refl) i a (and-inside c i a)
          (λ j h. same-got j (omega (arith, and_before c i a)));
    }

-- ---- the other way round

matching_turned : (n : ℕ) (t t' : List ℕ) → Matching n t t' → Matching n t' t
matching_turned n t t' m k h =
    let u : Triple = at triple_bytes t k in
    let u' : Triple = at triple_bytes t' k in
    xor_comm u'.bit3 u.bit3 ∙ m k h ∙ ap₂ bit_and (xor_comm u.bit1 u'.bit1) (xor_comm u.bit2 u'.bit2)

turned : (one two values : List ℕ) (w : ℕ) → AgreeAt one two values w → AgreeAt two one values w
turned one two values w a = (a.1, a.0, xor_comm (get_or two w 0) (get_or one w 0) ∙ a.2)

-- ---- the values of wires are bits

value-bit : (g : Gate) (wire : ℕ) (xs : List ℕ) → GateBelow wire g → ((w : ℕ) → w < wire → get_or xs w 0 ≤ 1) → gate_value g xs ≤ 1
unfolding GateBelow gate_value
value-bit (Xor a b) wire xs ok all = xor-bit (all a ok.0) (all b ok.1)
value-bit (And a b) wire xs ok all = and-bit (all a ok.0) (all b ok.1)
value-bit (Not a) wire xs ok all = xor-bit (all a ok) (omega arith)

pub value-bits : (c : Circuit) → GatesBelow c.inputs c.gates → (bits : List ℕ) → length bits ≡ c.inputs
    → ((w : ℕ) → get_or bits w 0 ≤ 1)
    → (w : ℕ) → w < c.inputs + length c.gates → get_or (wire_values c.gates bits) w 0 ≤ 1
value-bits c ok bits e all =
    by_gates (λ w. get_or (wire_values c.gates bits) w 0 ≤ 1) c.inputs (length c.gates)
    (λ w h. omega (arith, fold_keeps gate_value c.gates bits w (omega arith), all w))
    (λ i h before.
    omega (
      arith,
      values_hold c.gates bits c.inputs e ok i h,
      value-bit (gate_at c i) (c.inputs + i) (wire_values c.gates bits) (below_at c.gates c.inputs i ok h) before,
    ))

-- ---- from either end

module _ (c : Circuit) (ok : GatesBelow c.inputs c.gates) {shares triples shares' triples' : List ℕ} (far far' : BitsByAnd)
    (mine : Held c shares triples) (theirs : Held c shares' triples') (matching : Matching (ands_in c.gates) triples triples') where
  abbrev Agree : End → ℕ → Type 0
  Agree e w =
      AgreeAt (wire_shares (role_of e) c triples far shares) (wire_shares (role_of (other e)) c triples' far' shares')
      (wire_values c.gates (combined shares shares')) w

  abbrev Got : End → ℕ → Type 0
  Got e i =
      (far (ands_before c i) ≡ masked_bits (role_of (other e)) c triples' far' shares' i)
      × (far' (ands_before c i) ≡ masked_bits (role_of e) c triples far shares i)

  pub agreed_at : (e : End)
      → ((i : ℕ) → i < length c.gates → ((w : ℕ) → w < c.inputs + i → Agree e w) → is_and (gate_at c i) ≡ true → Got e i)
      → (w : ℕ) → w < c.inputs + length c.gates → Agree e w
  agreed_at One got w h = agreed far far' ok mine theirs matching got w h
  agreed_at Two got w h =
      back w (agreed far' far ok theirs mine (matching_turned (ands_in c.gates) triples triples' matching)
      (λ i k before a. let g = got i k (λ v l. back v (before v l)) a in (g.1, g.0)) w h)
    where
      back : (v : ℕ)
          → AgreeAt (wire_shares 1 c triples' far' shares') (wire_shares 2 c triples far shares)
          (wire_values c.gates (combined shares' shares)) v
          → Agree Two v
      back v a =
          subst (λ (l : List ℕ). AgreeAt (wire_shares 2 c triples far shares) (wire_shares 1 c triples' far' shares')
          (wire_values c.gates l) v)
          (combined_comm shares' shares)
          (turned (wire_shares 1 c triples' far' shares') (wire_shares 2 c triples far shares)
          (wire_values c.gates (combined shares' shares)) v a)

-- both ends' outputs combined
pub joined_at : (e : End) (c : Circuit) → AdmittedCircuit c → (view : View) {shares triples outputs : List ℕ}
    → Together (Told c) c e view shares triples outputs
    → combined view.outputs outputs ≡ value_of c (combined view.shares shares)
joined_at One c ok view t = joined ok t.own t.far (λ i a. refl) (λ i a. refl) t.matching
joined_at Two c ok view {shares} {triples} {outputs} t =
    combined_comm view.outputs outputs
    ∙ joined ok t.far t.own (λ i a. refl) (λ i a. refl) (matching_turned (ands_in c.gates) view.triples triples t.matching)
    ∙ ap (value_of c) (combined_comm shares view.shares)
