-- The page reads circuits as the library does.
use Prim.Native.Nat.{ℕ, zero, suc, ◌+◌, ◌-◌}
use mathlib.Core.Path.{◌≡◌, refl, sym, ap, ◌∙◌, subst}
use mathlib.Core.Bool.{Bool, true, false, ◌&&◌}
use mathlib.Core.List.{List, [], ◌∷◌, map}
use lib.Dec.{eqb, leb, ltb}
use lib.ListN.{length}
use native.Mathlib.Omega.{arith}
use borrow.Author.Tests.{le-leb}
use Rattle.algebra.specs.Choice.{choose}
use Rattle.answer.specs.Numbers.{bad_circuit, bytes_after}
use Rattle.number.specs.Number.{read_number}
use Rattle.number.specs.Reading.{Reading, Whole, Refused, Parsed, then}
use Rattle.record.specs.Reading as rec
use Rattle.circuit.specs.Admitted.{most_wires, is_within}
use Rattle.circuit.specs.Content as own
use Rattle.circuit.specs.Reading as reading
use Rattle.page.specs.Document01 as page
use Rattle.page.proofs.Reading.{read, same, give_is, then_is, if_read, test_is, number_is}
use Rattle.page_two.specs.Document02 as page2
use Rattle.page_two.proofs.Circuits.Content.{gate, circuit}

module _ (s : List ℕ) where
  within_is : (least most : ℕ) (ok : ℕ → Bool) → ((n : ℕ) → ok n ≡ is_within least most n) → (at : ℕ)
      → page2.admitted ok s at ≡ read same (reading.read_within least most s at)
  unfolding reading.read_within
  within_is least most ok e at = test_is page.read_number s at _ (number_is s at) ok (is_within least most) e bad_circuit

  wire_is : (limit at : ℕ) → page2.admitted (λ w. ltb w limit) s at ≡ read same (reading.read_wire limit s at)
  unfolding reading.read_wire
  wire_is limit at = test_is page.read_number s at _ (number_is s at) (λ w. ltb w limit) (λ w. ltb w limit) (λ w. refl) bad_circuit

  two-wires : (t : Bool) (a b : ℕ) → page.when◌then◌else◌ t (page2.Xor a b) (page2.And a b) ≡ gate (choose t (own.Xor a b) (own.And a b))
  unfolding gate page.when◌then◌else◌
  two-wires true a b = refl
  two-wires false a b = refl

  not_is : (a : ℕ) → page2.Not a ≡ gate (own.Not a)
  unfolding gate
  not_is a = refl

  gate_is : (wire at : ℕ) → page2.read_gate wire s at ≡ read gate (reading.read_gate wire s at)
  unfolding page2.read_gate reading.read_gate
  gate_is wire at =
      then_is same gate _ _ (within_is 1 3 (page.within 3) (λ n. refl) at) _ _ λ kind at1.
      then_is same gate _ _ (wire_is wire at1) _ _ λ a at2.
      if_read gate (eqb kind 3) _ _ s at2 _ _ (ap (λ (g : page2.Gate). page.got g at2) (not_is a) ∙ give_is gate (own.Not a) at2)
      (then_is same gate _ _ (wire_is wire at2) _ _ λ b at3.
      ap (λ (g : page2.Gate). page.got g at3) (two-wires (eqb kind 1) a b) ∙ give_is gate (choose (eqb kind 1) (own.Xor a b) (own.And a b)) at3)

  gates_is : (n wire at : ℕ) → page2.read_each page2.read_gate n wire s at ≡ read (map gate) (reading.read_gates n wire s at)
  unfolding page2.read_each reading.read_gates
  gates_is zero wire at = give_is (map gate) [] at
  gates_is (suc n) wire at =
      then_is gate (map gate) _ _ (gate_is wire at) _ _ λ g next.
      then_is (map gate) (map gate) _ _ (gates_is n (wire + 1) next) _ _ λ gs end.
      give_is (map gate) (g ∷ gs) end

  wires_is : (limit n i at : ℕ) → page2.read_each (λ i. page2.admitted (λ w. ltb w limit)) n i s at ≡ read same (reading.read_wires n limit s at)
  unfolding page2.read_each reading.read_wires
  wires_is limit zero i at = give_is same [] at
  wires_is limit (suc n) i at =
      then_is same same _ _ (wire_is limit at) _ _ λ w next.
      then_is same same _ _ (wires_is limit n (i + 1) next) _ _ λ ws end.
      give_is same (w ∷ ws) end

-- what the page reads and what the library reads: the same content, or the same number
pub data Agrees : page.Read page2.Circuit → Reading own.Circuit → Type 0 where
  whole : (x : own.Circuit) (next : ℕ) → Agrees (page.got (circuit x) next) (Whole x)
  no : (k : ℕ) → Agrees (page.fault k) (Refused k)

then_agrees : {A B : Type 0} (c : A → B) (r : Parsed A) (r' : page.Read B) → r' ≡ read c r
    → (k : A → ℕ → Reading own.Circuit) (k' : B → ℕ → page.Read page2.Circuit) → ((a : A) (next : ℕ) → Agrees (k' (c a) next) (k a next))
    → Agrees (page.and_then r' k') (then r k)
unfolding page.and_then read
then_agrees c r r' e k k' h = subst (λ x. Agrees (page.and_then x k') (then r k)) (sym e) (go r)
  where
    go : (x : Parsed _) → Agrees (page.and_then (read c x) k') (then x k)
    go (Whole x) = h x.0 x.1
    go (Refused n) = no n

end_agrees : (s : List ℕ) (at : ℕ) (x : own.Circuit) → Agrees (page.ended (circuit x) s at) (rec.ended s at x)
unfolding page.ended page.when◌then◌else◌
end_agrees s at x = go (ltb at (length s))
  where
    go : (t : Bool) → Agrees (page.when◌then◌else◌ t (page.fault bytes_after) (page.got (circuit x) at)) (choose t (Refused bytes_after) (Whole x))
    go true = no bytes_after
    go false = whole x at

pub reads : (s : List ℕ) → Agrees (page2.read_circuit s 0) (reading.read_circuit s)
unfolding page2.read_circuit reading.read_circuit
reads s =
    then_agrees same _ _ (within_is s 1 most_wires (page.within most_wires) (λ n. refl) 0) _ _ λ inputs at1.
    then_agrees same _ _
    (within_is s 0 (most_wires - inputs) (λ n. leb n (most_wires - inputs))
    (λ n. ap (λ (t : Bool). t && leb n (most_wires - inputs)) (sym (le-leb 0 n (omega arith)))) at1) _ _ λ count at2.
    then_agrees same _ _ (within_is s 1 most_wires (page.within most_wires) (λ n. refl) at2) _ _ λ outs at3.
    then_agrees (map gate) _ _ (gates_is s count inputs at3) _ _ λ gates at4.
    then_agrees same _ _ (wires_is s (inputs + count) outs 0 at4) _ _ λ wires end.
    end_agrees s end (record { inputs = inputs; gates = gates; outputs = wires })
