-- Inner: no promise cites this file. That numbers are the layout of a circuit has one proof at most, so a struct may hold it.
use Rattle.std.specs.Prelude.{ℕ, ◌+◌, ◌≤◌, List, ◌≡◌, length}
use mathlib.Core.HLevel.{Σ_prop_path}
use mathlib.Core.Path.{sym, ap, ◌∙◌}
use denote.Struct.Props.{props}
use Rattle.number.specs.Reading.{Reading, Whole, Refused, Parsed}
use Rattle.circuit.specs.Admitted.{most_wires}
use Rattle.circuit.specs.Answer.{content, HasLayout}
use Rattle.circuit.specs.Content.{Gate, Circuit, ands_in}
use Rattle.circuit.specs.declared.Layout.{Layout}

gate-set : IsSet Gate
gate-set = Prim.hlevel props

circuit-set : IsSet Circuit
circuit-set = Prim.hlevel (props, gate-set)

read-set : IsSet (Reading Circuit)
read-set = Prim.hlevel (props, circuit-set)

gates-set : IsSet (Parsed (List Gate))
gates-set = Prim.hlevel (props, gate-set)

wires-set : IsSet (Parsed (List ℕ))
wires-set = Prim.hlevel props

end_of : {A : Type 0} → Parsed A → ℕ
end_of (Whole r) = r.1
end_of (Refused k) = 0

-- the place after what was read is one
end-prop : {A : Type 0} → IsSet (Parsed A) → (x : Parsed A) (y : A) → IsProp ((end : ℕ) × (x ≡ Whole (y, end)))
unfolding end_of
end-prop {A} set x y p q = Σ_prop_path (λ end. set x (Whole (y, end))) (ap end_of (sym p.1 ∙ q.1))

pub HasLayout-prop : (s : List ℕ) (f : Layout) → IsProp (HasLayout s f)
HasLayout-prop s f x y =
    let inputs : IsProp (f.inputs ≡ (content s).inputs) = Prim.hlevel props in
    let gates : IsProp (f.gates ≡ length (content s).gates) = Prim.hlevel props in
    let outputs : IsProp (f.outputs ≡ length (content s).outputs) = Prim.hlevel props in
    let ands : IsProp (f.ands ≡ ands_in (content s).gates) = Prim.hlevel props in
    let some : IsProp (1 ≤ f.inputs) = Prim.hlevel props in
    let most : IsProp (f.inputs + f.gates ≤ most_wires) = Prim.hlevel props in
    λ i. record {
      whole = read-set _ _ x.whole y.whole i;
      inputs = inputs x.inputs y.inputs i;
      gates = gates x.gates y.gates i;
      outputs = outputs x.outputs y.outputs i;
      ands = ands x.ands y.ands i;
      body = gates-set _ _ x.body y.body i;
      tail = end-prop wires-set _ _ x.tail y.tail i;
      some = some x.some y.some i;
      most = most x.most y.most i;
    }
