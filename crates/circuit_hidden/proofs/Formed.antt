-- Far shares go with one list of far triples, by transcripts: each triple by a closed form, from the bits got, the values of the wires and
-- the own shares. Assumes nothing.
use Prim.Native.Nat.{ℕ, zero, suc, ◌+◌, ◌*◌, ◌≤◌, ◌<◌}
use mathlib.Core.Bool.{true}
use mathlib.Core.List.{List}
use mathlib.Core.Path.{◌≡◌, refl, sym, ap, ap₂, ◌∙◌, subst}
use native.Mathlib.Omega.{arith}
use lib.Bits.{bit_xor, bit_and}
use lib.ListN.{length, get_or}
use Rattle.algebra.specs.Coding.{at}
use Rattle.circuit.proofs.Folds.{below_at}
use Rattle.circuit.specs.Admitted.{AdmittedCircuit}
use Rattle.circuit.specs.Content.{Circuit, is_and, ands_in}
use Rattle.circuit.specs.Value.{wire_values, at_wires}
use Rattle.circuit_claims.proofs.AndGates.{and-inside, and_before, and_below, and_at, gate-of}
use Rattle.circuit_claims.proofs.Joins.{AgreeAt, held, combined-length}
use Rattle.circuit_claims.specs.Evaluation.{combined}
use Rattle.circuit_claims.specs.Transcript.{and_gate, wire_shares, masked_bits}
use Rattle.circuit_run.proofs.Bits.{xor-bit, and-bit}
use Rattle.circuit_run.specs.Step.{gate_at, ands_before, triple_first, triple_second, triple_third, first_wire, second_wire, masked_first, masked_second}
use Rattle.circuit_hidden.proofs.Agrees.{Told, value-bits, agreed_at}
use Rattle.circuit_hidden.proofs.Lists.{part, triples_from, triples-length, triple_at, triple-bits, triples_are, cancel, twice, combined-bit}
use Rattle.circuit_hidden.specs.Hidden.{End, role_of, other, View, Together, Bits}
use Rattle.pads.proofs.Triples.Matching.{triple_eq}
use Rattle.pads.specs.Triples.Matching.{Matching, MatchingAt}
use Rattle.pads.specs.Triples.Triple.{Triple, triple_bytes}

module _ (c : Circuit) (ok : AdmittedCircuit c) (e : End) (view : View) where
  abbrev all : ℕ
  all = ands_in c.gates

  abbrev wires : ℕ
  wires = c.inputs + length c.gates

  -- the own shares of all wires, the far ones, and the values
  abbrev mine : List ℕ
  mine = wire_shares (role_of e) c view.triples view.got view.shares

  abbrev pub theirs : List ℕ → List ℕ → List ℕ
  theirs x T = wire_shares (role_of (other e)) c T view.sent x

  abbrev values : List ℕ → List ℕ
  values x = wire_values c.gates (combined view.shares x)

  agree : {x T outputs : List ℕ} → Together (Told c) c e view x T outputs → (w : ℕ) → w < wires → AgreeAt mine (theirs x T) (values x) w
  agree t =
      agreed_at c ok.gates view.got view.sent (held t.own) (held t.far) t.matching e
      (λ i h before a. (t.far.sends i a, t.own.sends i a))

  -- the wires of the AND at gate i
  abbrev first : ℕ → ℕ
  first i = first_wire (gate_at c i)

  abbrev second : ℕ → ℕ
  second i = second_wire (gate_at c i)

  below : (i : ℕ) → is_and (gate_at c i) ≡ true → (first i < c.inputs + i) × (second i < c.inputs + i) × (i < length c.gates)
  below i a =
      let h = and-inside c i a in
      let b = and_below (gate_at c i) (c.inputs + i) a (below_at c.gates c.inputs i ok.gates h) in
      (b.0, b.1, h)

  -- masked bits are bits
  masked-bits : (shares triples : List ℕ) → ((w : ℕ) → w < wires → get_or shares w 0 ≤ 1) → ((k : ℕ) → get_or triples k 0 ≤ 1)
      → (i : ℕ) → is_and (gate_at c i) ≡ true → {sent : ℕ × ℕ} → sent ≡ (masked_first c triples shares i, masked_second c triples shares i)
      → (sent.0 ≤ 1) × (sent.1 ≤ 1)
  unfolding masked_first masked_second
  masked-bits shares triples s t i a is =
      let b = below i a in
      rw is (xor-bit (s (first i) (omega (arith, b.0, b.2))) (t _), xor-bit (s (second i) (omega (arith, b.1, b.2))) (t _))

  pub sent-bits : {x T outputs : List ℕ} → Together (Told c) c e view x T outputs → (j : ℕ) → j < all
      → ((view.sent j).0 ≤ 1) × ((view.sent j).1 ≤ 1)
  sent-bits t j h =
      let r = and_at c.gates j h in
      let i : ℕ = and_gate c.gates j in
      subst (λ (k : ℕ). ((view.sent k).0 ≤ 1) × ((view.sent k).1 ≤ 1)) r.1
      (masked-bits mine view.triples (λ w l. (agree t w l).0) t.own.triple-bits i r.0 (t.own.sends i r.0))

  -- ---- on far shares x

  module _ (x : List ℕ) where
    -- the far share of a wire: its value without the own share
    abbrev far_share : ℕ → ℕ
    far_share w = bit_xor (get_or mine w 0) (get_or (values x) w 0)

    -- the far triple of the AND at gate i: its first two bits mask the far shares of the wires as the bits got, its third makes it match
    abbrev form : ℕ → Triple
    form i =
        let j : ℕ = ands_before c i in
        let a : ℕ = bit_xor (far_share (first i)) (view.got j).0 in
        let b : ℕ = bit_xor (far_share (second i)) (view.got j).1 in
        record {
          bit1 = a;
          bit2 = b;
          bit3 = bit_xor (triple_third view.triples j)
              (bit_and (bit_xor (triple_first view.triples j) a) (bit_xor (triple_second view.triples j) b));
        }

    unfoldable pub formed : List ℕ
    formed = triples_from (λ j. form (and_gate c.gates j)) all

    formed_at : (i : ℕ) → is_and (gate_at c i) ≡ true → at triple_bytes formed (ands_before c i) ≡ form i
    unfolding formed
    formed_at i a = triple_at (λ j. form (and_gate c.gates j)) all (ands_before c i) (and_before c i a) ∙ ap form (gate-of c.gates i a)

    -- ---- no other

    module _ {T outputs : List ℕ} (t : Together (Told c) c e view x T outputs) where
      far-share : (w : ℕ) → w < wires → get_or (theirs x T) w 0 ≡ far_share w
      far-share w h = cancel (get_or mine w 0) (get_or (theirs x T) w 0) (agree t w h).2

      is_form : (i : ℕ) → is_and (gate_at c i) ≡ true → at triple_bytes T (ands_before c i) ≡ form i
      unfolding masked_first masked_second
      is_form i a =
          let b = below i a in
          let j : ℕ = ands_before c i in
          let sends = sym (t.far.sends i a) in
          let f : triple_first T j ≡ (form i).bit1 =
          cancel (get_or (theirs x T) (first i) 0) (triple_first T j) (ap (λ (p : ℕ × ℕ). p.0) sends)
          ∙ ap (λ (m : ℕ). bit_xor m (view.got j).0) (far-share (first i) (omega (arith, b.0, b.2))) in
          let g : triple_second T j ≡ (form i).bit2 =
          cancel (get_or (theirs x T) (second i) 0) (triple_second T j) (ap (λ (p : ℕ × ℕ). p.1) sends)
          ∙ ap (λ (m : ℕ). bit_xor m (view.got j).1) (far-share (second i) (omega (arith, b.1, b.2))) in
          triple_eq f g
          (cancel (triple_third view.triples j) (triple_third T j) (t.matching j (and_before c i a))
          ∙ ap₂ (λ (m n : ℕ).
          bit_xor (triple_third view.triples j)
          (bit_and (bit_xor (triple_first view.triples j) m) (bit_xor (triple_second view.triples j) n))) f g)

      pub is_formed : length T ≡ 3 * all → T ≡ formed
      unfolding formed
      is_formed l =
          triples_are (λ j. form (and_gate c.gates j)) all T l
          (λ j h.
          let r = and_at c.gates j h in
          subst (λ (k : ℕ). at triple_bytes T k ≡ form (and_gate c.gates j)) r.1 (is_form (and_gate c.gates j) r.0))

    -- ---- there is one, as there was one

    module _ {shares triples outputs : List ℕ} (was : Together (Told c) c e view shares triples outputs) (xs : Bits c.inputs x) where
      far-bit : (w : ℕ) → w < wires → far_share w ≤ 1
      far-bit w h =
          let same : length view.shares ≡ length x = was.own.one_each ∙ sym xs.many in
          xor-bit (agree was w h).0
          (value-bits c ok.gates (combined view.shares x)
          (combined-length view.shares x c.inputs was.own.one_each xs.many)
          (combined-bit view.shares x same was.own.share-bits xs.bit) w h)

      form-bit : (i : ℕ) → is_and (gate_at c i) ≡ true → (r : ℕ) → part (form i) r ≤ 1
      form-bit i a r =
          let b = below i a in
          let g = masked-bits (theirs shares triples) triples (λ w l. (agree was w l).1) was.far.triple-bits i a (was.far.sends i a) in
          let t = was.own.triple-bits in
          let p = xor-bit (far-bit (first i) (omega (arith, b.0, b.2))) g.0 in
          let q = xor-bit (far-bit (second i) (omega (arith, b.1, b.2))) g.1 in
          of p q (xor-bit (t _) (and-bit (xor-bit (t _) p) (xor-bit (t _) q))) r
        where
          of : {t : Triple} → t.bit1 ≤ 1 → t.bit2 ≤ 1 → t.bit3 ≤ 1 → (r : ℕ) → part t r ≤ 1
          of p q s zero = p
          of p q s (suc zero) = q
          of p q s (suc (suc r)) = s

      pub formed-bits : Bits (3 * all) formed
      unfolding formed
      formed-bits =
          record {
            many = triples-length (λ j. form (and_gate c.gates j)) all;
            bit = triple-bits (λ j. form (and_gate c.gates j)) all (λ j h. form-bit (and_gate c.gates j) (and_at c.gates j h).0);
          }

      formed-matches : Matching all view.triples formed
      formed-matches j h =
          let r = and_at c.gates j h in
          let i : ℕ = and_gate c.gates j in
          subst (λ (k : ℕ). MatchingAt (at triple_bytes view.triples k) (at triple_bytes formed k)) r.1
          (subst (MatchingAt (at triple_bytes view.triples (ands_before c i))) (sym (formed_at i r.0))
          (twice (triple_third view.triples (ands_before c i))
          (bit_and (bit_xor (triple_first view.triples (ands_before c i)) (form i).bit1)
          (bit_xor (triple_second view.triples (ands_before c i)) (form i).bit2))))

      -- where the wires before an AND agree, the far end sends the bits got
      sent-again : (i : ℕ) → ((w : ℕ) → w < c.inputs + i → AgreeAt mine (theirs x formed) (values x) w) → is_and (gate_at c i) ≡ true
          → view.got (ands_before c i) ≡ masked_bits (role_of (other e)) c formed view.sent x i
      unfolding masked_first masked_second
      sent-again i before a =
          let b = below i a in
          let t = sym (formed_at i a) in
          let again : (w : ℕ) → w < c.inputs + i → (y : ℕ) → y ≡ bit_xor (get_or (theirs x formed) w 0) (bit_xor (far_share w) y) =
          (λ w h y.
          sym (ap (λ (n : ℕ). bit_xor n (bit_xor (far_share w) y)) (cancel (get_or mine w 0) (get_or (theirs x formed) w 0) (before w h).2)
          ∙ twice (far_share w) y)) in
          ap₂ (λ (m n : ℕ). (m, n))
          (again (first i) b.0 (view.got (ands_before c i)).0 ∙ ap (λ (u : Triple). bit_xor (get_or (theirs x formed) (first i) 0) u.bit1) t)
          (again (second i) b.1 (view.got (ands_before c i)).1
          ∙ ap (λ (u : Triple). bit_xor (get_or (theirs x formed) (second i) 0) u.bit2) t)

      pub there_is : Together (Told c) c e view x formed (at_wires (theirs x formed) c.outputs)
      there_is =
          let agree = agreed_at c ok.gates view.got view.sent (held was.own)
          (record { one_each = xs.many; share-bits = xs.bit; triple-bits = formed-bits.bit }) formed-matches e
          (λ i h before a. (sent-again i before a, was.own.sends i a)) in
          record {
            own = was.own;
            far =
                record {
                  one_each = xs.many;
                  share-bits = xs.bit;
                  triple-bits = formed-bits.bit;
                  written = refl;
                  sends = λ i a. sent-again i (λ w h. agree w (omega (arith, and-inside c i a))) a;
                };
            matching = formed-matches;
          }
