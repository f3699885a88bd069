-- Wires in memory: the fresh wires, the share of an AND, and the outputs. Assumes nothing.
use Prim.Native.Nat.{ℕ, suc, ◌+◌, ◌-◌, ◌≤◌, ◌<◌}
use mathlib.Core.List.{List, [], ◌∷◌, ◌++◌, append_assoc}
use mathlib.Core.Path.{◌≡◌, refl, sym, ap, ◌∙◌, subst}
use native.Mathlib.Numerals.{add-one}
use native.Mathlib.Omega.{arith}
use lib.ListN.{length, get_or, take, drop, set, replicate, length-map}
use lib.Seq.{set_at, take-suc, drop-cons, drop-drop, length-take-le, get_or-drop}
use Rattle.circuit.proofs.Iterators.{AtOutput, next_output, output-left, output-read}
use Rattle.circuit.proofs.Lists.{FirstWire, first-wire}
use Rattle.circuit.specs.Answer.{content, HasLayout}
use Rattle.circuit.specs.Inner.Passing.{GaveOutput}
use Rattle.circuit.specs.Reading.{read_wire, read_wires}
use Rattle.circuit.specs.Value.{at_wires}
use Rattle.circuit.specs.declared.Layout.{Layout}
use Rattle.circuit.specs.declared.accepted.OutputWires.{OutputWires}
use Rattle.number.proofs.Places.{whole_is}
use Rattle.number.specs.Reading.{Whole}
use Rattle.circuit_run.specs.Inner.Places.{opened_with, given_and}
use Rattle.circuit_run.specs.declared.places.Asked.{Asked}
use Rattle.circuit_run.specs.declared.places.Spot.{Spot}

-- ---- fresh wires

-- the first shares, and zero past them
unfoldable pub filled : List ℕ → ℕ → List ℕ
filled shares i = take i shares ++ replicate (4096 - i) 0

module _ (shares : List ℕ) (i : ℕ) (few : length shares ≤ 4096) where
  pub filled_more : (wires : List ℕ) → i < length shares → wires ≡ filled shares i → set wires i (get_or shares i 0) ≡ filled shares (i + 1)
  unfolding filled
  filled_more wires h e =
      let x : ℕ = get_or shares i 0 in
      let r : List ℕ = replicate (4096 - (i + 1)) 0 in
      ap (λ (w : List ℕ). set w i x)
      (e ∙ ap (λ (n : ℕ). take i shares ++ replicate n 0) {x = 4096 - i} {y = suc (4096 - (i + 1))} (omega arith))
      ∙ set_at (take i shares) 0 r x i (length-take-le i shares (omega arith))
      ∙ sym (append_assoc (take i shares) (x ∷ []) r)
      ∙ ap (λ (l : List ℕ). l ++ r) (sym (ap (λ (n : ℕ). take n shares) (add-one i) ∙ take-suc shares i 0 h))

-- ---- the share of an AND

pub given : (a : Asked) (r : Spot) (wire : ℕ) (triples wires : List ℕ) (x : ℕ)
    → x ≡ opened_with a.role (get_or wires r.first_wire 0) (get_or wires r.second_wire 0) triples r.ands a.far_first a.far_second
    → set wires wire x ≡ given_and a r wire triples wires
unfolding given_and
given a r wire triples wires x e = ap (set wires wire) e

-- ---- outputs

-- the output wires of a circuit that was read
abbrev pub outputs_of : List ℕ → List ℕ
outputs_of s = (content s).outputs

pub record OutputTurn (s : List ℕ) (wires output₀ : List ℕ) (outputs limit : ℕ) (output : List ℕ) (at i : ℕ) : Type 0 where
  pub turns : i ≤ outputs
  pub end : ℕ
  pub read : read_wires (outputs - i) limit s at ≡ Whole (drop i (outputs_of s), end)
  pub written : output ≡ at_wires wires (take i (outputs_of s)) ++ drop i output₀

map_append : (wires xs ys : List ℕ) → at_wires wires (xs ++ ys) ≡ at_wires wires xs ++ at_wires wires ys
map_append wires [] ys = refl
map_append wires (x ∷ xs) ys = ap (λ (l : List ℕ). get_or wires x 0 ∷ l) (map_append wires xs ys)

module _ {s : List ℕ} {f : Layout} (o : HasLayout s f) {wires output₀ : List ℕ} (room : f.outputs ≤ length output₀) {output : List ℕ} {at i : ℕ}
    (turn : OutputTurn s wires output₀ f.outputs (f.inputs + f.gates) output at i) where
  module _ (more : i < f.outputs) where
    first : FirstWire (f.outputs - (i + 1)) (f.inputs + f.gates) s at (drop i (outputs_of s)) turn.end
    first =
        first-wire (f.outputs - (i + 1)) (f.inputs + f.gates) s at
        (ap (λ (n : ℕ). read_wires n (f.inputs + f.gates) s at) {x = suc (f.outputs - (i + 1))} {y = f.outputs - i} (omega arith) ∙ turn.read)

    output-next : {w next : ℕ} → Whole (w, next) ≡ read_wire (f.inputs + f.gates) s at
        → OutputTurn s wires output₀ f.outputs (f.inputs + f.gates) (set output i (get_or wires w 0)) next (i + 1)
    output-next {w} {next} read =
        let z : ◌≡◌ {A = ℕ × ℕ} (w, next) (first.wire, first.next) = whole_is (read ∙ first.reads) in
        let h : drop i (outputs_of s) ≡ w ∷ first.later = first.all ∙ ap (λ (p : ℕ × ℕ). p.0 ∷ first.later) (sym z) in
        let t : drop (i + 1) (outputs_of s) ≡ first.later = sym (drop-drop 1 i (outputs_of s)) ∙ ap (drop 1) h in
        let g : get_or (outputs_of s) i 0 ≡ w =
        ap (λ (n : ℕ). get_or (outputs_of s) n 0) {x = i} {y = i + 0} (omega arith) ∙ sym (get_or-drop i (outputs_of s) 0 0) ∙ ap (λ (l : List ℕ). get_or l 0 0) h in
        let k : take (i + 1) (outputs_of s) ≡ take i (outputs_of s) ++ (w ∷ []) =
        ap (λ (n : ℕ). take n (outputs_of s)) (add-one i) ∙ take-suc (outputs_of s) i 0 (omega (arith, o.outputs))
        ∙ ap (λ (x : ℕ). take i (outputs_of s) ++ (x ∷ [])) g in
        let v : ℕ = get_or wires w 0 in
        let p : List ℕ = at_wires wires (take i (outputs_of s)) in
        record {
          turns = omega arith;
          end = turn.end;
          read =
              ap (λ (q : ℕ × ℕ). read_wires (f.outputs - (i + 1)) (f.inputs + f.gates) s q.1) z
              ∙ first.rest
              ∙ ap (λ (l : List ℕ). Whole (l, turn.end)) (sym t);
          written =
              ap (λ (l : List ℕ). set l i v) (turn.written ∙ ap (λ (l : List ℕ). p ++ l) (drop-cons output₀ i 0 (omega arith)))
              ∙ set_at p (get_or output₀ i 0) (drop (suc i) output₀) v i
              (length-map (take i (outputs_of s)) (λ (w : ℕ). get_or wires w 0) ∙ length-take-le i (outputs_of s) (omega (arith, o.outputs)))
              ∙ sym (append_assoc p (v ∷ []) (drop (suc i) output₀))
              ∙ ap (λ (l : List ℕ). l ++ drop (suc i) output₀) (sym (ap (at_wires wires) k ∙ map_append wires (take i (outputs_of s)) (w ∷ [])))
              ∙ ap (λ (n : ℕ). at_wires wires (take (i + 1) (outputs_of s)) ++ drop n output₀) (sym (add-one i));
        }

-- ---- outputs, by the iterator over the output wires

-- the turn at the output where the iterator stands
pub record OutputAt (s : List ℕ) (f : Layout) (wires output₀ : List ℕ) (left : OutputWires) (output : List ℕ) (i : ℕ) : Type 0 where
  pub here : AtOutput s f left i
  pub turn : OutputTurn s wires output₀ f.outputs (f.inputs + f.gates) output left.at i

module _ {s : List ℕ} {f : Layout} (o : HasLayout s f) {wires output₀ : List ℕ} (room : f.outputs ≤ length output₀) {left : OutputWires}
    {output : List ℕ} {i : ℕ} (loop : OutputAt s f wires output₀ left output i) where
  module _ {wire : ℕ} {after : OutputWires} (gave : GaveOutput left wire after) where
    pub outputs-next : {x : ℕ} → x ≡ get_or wires wire 0 → OutputAt s f wires output₀ after (set output i x) (i + 1)
    outputs-next {x} e =
        record {
          here = next_output loop.here gave;
          turn =
              subst (λ (x : ℕ). OutputTurn s wires output₀ f.outputs (f.inputs + f.gates) (set output i x) after.at (i + 1)) (sym e)
              (output-next o room loop.turn (output-left loop.here gave) (output-read loop.here gave));
        }
