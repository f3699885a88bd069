-- The page describes circuits as the library does.
use Prim.Native.Nat.{ℕ}
use mathlib.Core.Path.{◌≡◌, refl, sym, ap, ◌∙◌}
use mathlib.Core.List.{List, [], ◌∷◌}
use lib.ListN.{length}
use Rattle.circuit.specs.Content as own
use Rattle.circuit_describe.specs.Describe as library
use Rattle.circuit_describe.specs.declared.DescribedCircuit.{DescribedCircuit}
use Rattle.number.specs.Reading.{Reading, after_reading}
use Rattle.page.specs.Document01 as page
use Rattle.page_two.specs.Document02 as page2
use Rattle.page_two.proofs.Circuits.Content.{length-gates, ands_is, rounds_is}
use Rattle.page_two.proofs.Circuits.Reading.{Agrees, whole, no, reads}

abbrev pub circuit_return : library.CircuitDescription → page.Return
circuit_return d =
    let a = d.answer in
    page.returned a.number (a.inputs ∷ a.gates ∷ a.outputs ∷ a.ands ∷ a.rounds ∷ []) (d.source ∷ []) []

pub describe-circuit_is : (source : List ℕ) → page2.describe_circuit source ≡ circuit_return (library.describe_circuit source)
unfolding library.describe_circuit page2.circuit_described after_reading
describe-circuit_is source = go _ _ (reads source)
  where
    go : (r : page.Read page2.Circuit) (r' : Reading own.Circuit) → Agrees r r'
        → page2.circuit_described source r ≡ circuit_return (library.description_of (after_reading r' library.refused library.said) source)
    go r r' (whole x next) =
        λ k. page.returned 0 (x.inputs ∷ length-gates x.gates k ∷ length x.outputs ∷ ands_is x.gates k ∷ rounds_is x k ∷ []) (source ∷ []) []
    go r r' (no k) = refl

pub circuit-described : (r : DescribedCircuit) (source source' : List ℕ) → library.description_of r source' ≡ library.describe_circuit source
    → page.returned r.number (r.inputs ∷ r.gates ∷ r.outputs ∷ r.ands ∷ r.rounds ∷ []) (source' ∷ []) [] ≡ page2.describe_circuit source
circuit-described r source source' e = ap circuit_return e ∙ sym (describe-circuit_is source)
