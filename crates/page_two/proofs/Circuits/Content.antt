-- The page's content, value, writing and levels of circuits are the library's.
use Prim.Native.Nat.{ℕ, zero, suc, ◌+◌, max}
use mathlib.Core.Path.{◌≡◌, refl, sym, ap, ap₂, ◌∙◌}
use mathlib.Core.Bool.{Bool}
use mathlib.Core.List.{List, [], ◌∷◌, ◌++◌, map, append_assoc}
use native.Mathlib.Omega.{arith}
use borrow.Author.Tests.{le-leb, lt-leb}
use lib.ListN.{length, take, drop, get_or, replicate}
use Rattle.algebra.specs.Choice.{choose}
use Rattle.number.specs.Number as numbers
use Rattle.number.proofs.Places.{split}
use Rattle.circuit.specs.Content as own
use Rattle.circuit.specs.Levels as levels
use Rattle.circuit.specs.Value as value
use Rattle.circuit.specs.Writing as writing
use Rattle.page.specs.Document01 as page
use Rattle.page_two.specs.Document02 as page2

unfoldable pub gate : own.Gate → page2.Gate
gate (own.Xor a b) = page2.Xor a b
gate (own.And a b) = page2.And a b
gate (own.Not a) = page2.Not a

abbrev pub circuit : own.Circuit → page2.Circuit
circuit x = record { inputs = x.inputs; gates = map gate x.gates; outputs = x.outputs }

-- ---- folds

pub over-gates : (make : own.Gate → List ℕ → ℕ) (make' : page2.Gate → List ℕ → ℕ)
    → ((g : own.Gate) (wires : List ℕ) → make' (gate g) wires ≡ make g wires)
    → (gs : List own.Gate) (wires : List ℕ) → page2.over_gates make' (map gate gs) wires ≡ value.over_gates make gs wires
unfolding page2.over_gates value.over_gates
over-gates make make' e [] wires = refl
over-gates make make' e (g ∷ gs) wires =
    ap (λ (x : ℕ). page2.over_gates make' (map gate gs) (wires ++ (x ∷ []))) (e g wires)
    ∙ over-gates make make' e gs (wires ++ (make g wires ∷ []))

gate-value : (g : own.Gate) (wires : List ℕ) → page2.gate_value (gate g) wires ≡ value.gate_value g wires
unfolding gate page2.gate_value value.gate_value
gate-value (own.Xor a b) wires = refl
gate-value (own.And a b) wires = refl
gate-value (own.Not a) wires = refl

pub value_is : (x : own.Circuit) (bits : List ℕ) → page2.value_of (circuit x) bits ≡ value.value_of x bits
unfolding page2.value_of value.value_of
value_is x bits = ap (λ (l : List ℕ). value.at_wires l x.outputs) (over-gates value.gate_value page2.gate_value gate-value x.gates bits)

greater_is : (a b : ℕ) → max a b ≡ levels.greater a b
greater_is a b =
    split b a
    (λ h. (omega arith) ∙ sym (ap (λ (t : Bool). choose t b a) (lt-leb a b h)))
    (λ h. (omega arith) ∙ sym (ap (λ (t : Bool). choose t b a) (le-leb a b h)))

level_is : (g : own.Gate) (l : List ℕ) → page2.gate_level (gate g) l ≡ levels.gate_level g l
unfolding gate page2.gate_level levels.gate_level
level_is (own.Xor a b) l = greater_is (get_or l a 0) (get_or l b 0)
level_is (own.And a b) l = ap (λ (n : ℕ). 1 + n) (greater_is (get_or l a 0) (get_or l b 0))
level_is (own.Not a) l = refl

pub levels_is : (x : own.Circuit) → page2.wire_levels (circuit x) ≡ levels.levels x
unfolding page2.wire_levels levels.levels
levels_is x = over-gates levels.gate_level page2.gate_level level_is x.gates (replicate x.inputs 0)

greatest_is : (l : List ℕ) → page2.highest l ≡ levels.greatest l
unfolding page2.highest levels.greatest
greatest_is [] = refl
greatest_is (n ∷ l) = greater_is n (page2.highest l) ∙ ap (levels.greater n) (greatest_is l)

pub rounds_is : (x : own.Circuit) → page2.round_count (circuit x) ≡ levels.round_count x
rounds_is x = ap (λ (l : List ℕ). page2.highest l + 1) (levels_is x) ∙ ap (λ (n : ℕ). n + 1) (greatest_is (levels.levels x))

-- ---- gates

pub length-gates : (gs : List own.Gate) → length (map gate gs) ≡ length gs
length-gates [] = refl
length-gates (g ∷ gs) = ap suc (length-gates gs)

pub is-and : (g : own.Gate) → page2.is_and (gate g) ≡ own.is_and g
unfolding gate
is-and (own.Xor a b) = refl
is-and (own.And a b) = refl
is-and (own.Not a) = refl

pub ands_is : (gs : List own.Gate) → page2.ands (map gate gs) ≡ own.ands_in gs
unfolding page2.ands own.ands_in page.when◌then◌else◌
ands_is [] = refl
ands_is (g ∷ gs) = ap₂ (λ (t : Bool) (n : ℕ). choose t 1 0 + n) (is-and g) (ands_is gs)

pub gate-at : (gs : List own.Gate) (i : ℕ) → get_or (map gate gs) i (page2.Not 0) ≡ gate (get_or gs i (own.Not 0))
unfolding gate
gate-at [] i = refl
gate-at (g ∷ gs) zero = refl
gate-at (g ∷ gs) (suc i) = gate-at gs i

pub take-gates : (gs : List own.Gate) (i : ℕ) → take i (map gate gs) ≡ map gate (take i gs)
take-gates gs zero = refl
take-gates [] (suc i) = refl
take-gates (g ∷ gs) (suc i) = ap (λ (l : List page2.Gate). gate g ∷ l) (take-gates gs i)

pub drop-gates : (gs : List own.Gate) (i : ℕ) → drop i (map gate gs) ≡ map gate (drop i gs)
drop-gates gs zero = refl
drop-gates [] (suc i) = refl
drop-gates (g ∷ gs) (suc i) = drop-gates gs i

-- ---- writing

abbrev W : List ℕ → List ℕ
W = page.each page.write_number

gate-written : (g : own.Gate) (r : List ℕ) → W (page2.gate_numbers (gate g) ++ r) ≡ writing.write_gate g ++ W r
unfolding gate page2.gate_numbers writing.write_gate page.each page.write_number numbers.write_number page.when◌then◌else◌
gate-written (own.Xor a b) r =
    let n = numbers.write_number in
    ap (λ (l : List ℕ). n 1 ++ l) (sym (append_assoc (n a) (n b) (W r))) ∙ sym (append_assoc (n 1) (n a ++ n b) (W r))
gate-written (own.And a b) r =
    let n = numbers.write_number in
    ap (λ (l : List ℕ). n 2 ++ l) (sym (append_assoc (n a) (n b) (W r))) ∙ sym (append_assoc (n 2) (n a ++ n b) (W r))
gate-written (own.Not a) r = let n = numbers.write_number in sym (append_assoc (n 3) (n a) (W r))

gates-written : (gs : List own.Gate) (r : List ℕ) → W (page.each page2.gate_numbers (map gate gs) ++ r) ≡ writing.write_gates gs ++ W r
unfolding page.each writing.write_gates
gates-written [] r = refl
gates-written (g ∷ gs) r =
    ap W (append_assoc (page2.gate_numbers (gate g)) (page.each page2.gate_numbers (map gate gs)) r)
    ∙ gate-written g (page.each page2.gate_numbers (map gate gs) ++ r)
    ∙ ap (λ (l : List ℕ). writing.write_gate g ++ l) (gates-written gs r)
    ∙ sym (append_assoc (writing.write_gate g) (writing.write_gates gs) (W r))

wires-written : (l : List ℕ) → W l ≡ writing.write_wires l
unfolding page.each writing.write_wires page.write_number numbers.write_number page.when◌then◌else◌
wires-written [] = refl
wires-written (w ∷ l) = ap (λ (r : List ℕ). numbers.write_number w ++ r) (wires-written l)

pub written_is : (x : own.Circuit) → page2.write_circuit (circuit x) ≡ writing.write_circuit x
unfolding page2.write_circuit writing.write_circuit page.each page.write_number numbers.write_number page.when◌then◌else◌
written_is x =
    let n = numbers.write_number in
    ap₂ (λ (k : ℕ) (l : List ℕ). n x.inputs ++ (n k ++ (n (length x.outputs) ++ l))) (length-gates x.gates)
    (gates-written x.gates x.outputs ∙ ap (λ (l : List ℕ). writing.write_gates x.gates ++ l) (wires-written x.outputs))
