-- A circuit is never refused with 0. Assumes nothing.
use Prim.Native.Nat.{ℕ, zero, suc, ◌+◌, ◌-◌, ◌≤◌}
use mathlib.Core.Bool.{Bool, true, false}
use mathlib.Core.List.{List}
use mathlib.Core.Path.{◌≡◌, subst}
use native.Mathlib.Omega.{arith}
use lib.Dec.{ltb, eqb}
use lib.ListN.{length}
use Rattle.number.specs.Number.{last_group, read_number}
use Rattle.number.specs.Reading.{Reading, Whole, Refused, Parsed, then, choose, tested, read_byte}
use Rattle.circuit.specs.Admitted.{most_wires}
use Rattle.circuit.specs.Content.{Circuit}
use Rattle.circuit.specs.Reading.{read_within, read_wire, read_gate, read_gates, read_wires, read_circuit}

-- no refusal, or one with a number
unfoldable Numbered : {A : Type 0} → Reading A → Type 0
Numbered (Whole x) = Unit {0}
Numbered (Refused k) = 1 ≤ k

whole : {A : Type 0} (x : A) → Numbered (Whole x)
unfolding Numbered
whole x = tt

refused : (A : Type 0) (k : ℕ) → Numbered {A = A} (Refused (suc k))
unfolding Numbered
refused A k = omega arith

then-numbered : {A B : Type 0} (r : Parsed A) (f : A → ℕ → Reading B) → Numbered r → ((x : A) (next : ℕ) → Numbered (f x next)) → Numbered (then r f)
unfolding Numbered
then-numbered (Whole r) f h g = g r.0 r.1
then-numbered (Refused k) f h g = h

choose-numbered : {A : Type 0} (b : Bool) (x y : Reading A) → Numbered x → Numbered y → Numbered (choose b x y)
choose-numbered true x y h g = h
choose-numbered false x y h g = g

tested-numbered : {A : Type 0} (r : Parsed A) (ok : A → Bool) (k : ℕ) → Numbered r → Numbered (tested r ok (suc k))
unfolding tested
tested-numbered {A} r ok k h =
    then-numbered r (λ x next. choose (ok x) (Whole (x, next)) (Refused (suc k))) h
    (λ x next. choose-numbered {A = A × ℕ} (ok x) (Whole (x, next)) (Refused (suc k)) (whole (x, next)) (refused (A × ℕ) k))

module _ (s : List ℕ) where
  byte-numbered : (at : ℕ) → Numbered (read_byte s at)
  unfolding read_byte
  byte-numbered at = choose-numbered {A = ℕ × ℕ} (ltb at (length s)) (Whole _) (Refused 10) (whole _) (refused (ℕ × ℕ) 9)

  group-numbered : (b n next : ℕ) → Numbered (last_group b n next)
  unfolding last_group
  group-numbered b n next = choose-numbered {A = ℕ × ℕ} (eqb b 0) (Refused 11) (Whole (n, next)) (refused (ℕ × ℕ) 10) (whole _)

  number-numbered : (at : ℕ) → Numbered (read_number s at)
  unfolding read_number
  number-numbered at =
      then-numbered (read_byte s at) _ (byte-numbered at)
      (λ a at1. choose-numbered {A = ℕ × ℕ} (ltb a 128) (Whole _) _ (whole _)
      (then-numbered (read_byte s at1) _ (byte-numbered at1)
      (λ b at2. choose-numbered (ltb b 128) _ _ (group-numbered b _ at2)
      (then-numbered (read_byte s at2) _ (byte-numbered at2) (λ c at3. choose-numbered (ltb c 128) _ (Refused 11) (group-numbered c _ at3) (refused (ℕ × ℕ) 10))))))

  within-numbered : (least most at : ℕ) → Numbered (read_within least most s at)
  unfolding read_within
  within-numbered least most at = tested-numbered (read_number s at) _ 16 (number-numbered at)

  wire_numbered : (limit at : ℕ) → Numbered (read_wire limit s at)
  unfolding read_wire
  wire_numbered limit at = tested-numbered (read_number s at) _ 16 (number-numbered at)

  gate-numbered : (wire at : ℕ) → Numbered (read_gate wire s at)
  unfolding read_gate
  gate-numbered wire at =
      then-numbered (read_within 1 3 s at) _ (within-numbered 1 3 at)
      (λ kind at1. then-numbered (read_wire wire s at1) _ (wire_numbered wire at1)
      (λ a at2. choose-numbered (eqb kind 3) (Whole _) _ (whole _) (then-numbered (read_wire wire s at2) _ (wire_numbered wire at2) (λ b at3. whole _))))

  gates-numbered : (n wire at : ℕ) → Numbered (read_gates n wire s at)
  unfolding read_gates
  gates-numbered zero wire at = whole _
  gates-numbered (suc n) wire at =
      then-numbered (read_gate wire s at) _ (gate-numbered wire at)
      (λ g next. then-numbered (read_gates n (wire + 1) s next) _ (gates-numbered n (wire + 1) next) (λ gs end. whole _))

  wires-numbered : (n limit at : ℕ) → Numbered (read_wires n limit s at)
  unfolding read_wires
  wires-numbered zero limit at = whole _
  wires-numbered (suc n) limit at =
      then-numbered (read_wire limit s at) _ (wire_numbered limit at)
      (λ w next. then-numbered (read_wires n limit s next) _ (wires-numbered n limit next) (λ ws end. whole _))

  circuit-numbered : Numbered (read_circuit s)
  unfolding read_circuit
  circuit-numbered =
      then-numbered (read_within 1 most_wires s 0) _ (within-numbered 1 most_wires 0)
      (λ inputs at1. then-numbered (read_within 0 (most_wires - inputs) s at1) _ (within-numbered 0 (most_wires - inputs) at1)
      (λ count at2. then-numbered (read_within 1 most_wires s at2) _ (within-numbered 1 most_wires at2)
      (λ outputs at3. then-numbered (read_gates count inputs s at3) _ (gates-numbered count inputs at3)
      (λ gates at4. then-numbered (read_wires outputs (inputs + count) s at4) _ (wires-numbered outputs (inputs + count) at4)
      (λ wires end. choose-numbered (ltb end (length s)) (Refused 12) (Whole _) (refused Circuit 11) (whole _))))))

  pub refused-numbered : (k : ℕ) → read_circuit s ≡ Refused k → 1 ≤ k
  unfolding Numbered
  refused-numbered k e = subst Numbered e circuit-numbered
