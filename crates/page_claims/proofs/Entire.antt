-- Demand 3, entire.
use Prim.Native.Nat.{ℕ, ◌+◌, ◌-◌, ◌*◌, ◌≤◌, ◌<◌}
use mathlib.Core.Path.{◌≡◌, refl, sym, ap, ap₂, ◌∙◌}
use mathlib.Core.List.{List, [], ◌∷◌}
use lib.ListN.{take, drop, get_or}
use Rattle.algebra.specs.Field.{Value}
use Rattle.dealing.specs.Input.{Input}
use Rattle.dealing.specs.Vectors as vectors
use Rattle.claims.specs.Correlation.{lent_element}
use Rattle.claims.specs.Source.{dealt_by}
use Rattle.claims.proofs.Entire as claims
use Rattle.page.specs.Document01 as page
use Rattle.page_claims.specs.Statements as says
use Rattle.page.proofs.Trees.{word-at}
use Rattle.page.proofs.Fields.{kind_is}
use Rattle.page.proofs.Dealing.{deal_is}
use Rattle.page.proofs.Pads.{noise-pads, scalar-pads}
use Rattle.page_claims.proofs.Outputs.{input_of, u_is, v_is, w_is, outputs_hold}
use Rattle.page_claims.proofs.Lists.{lists}

-- an element whose words are lent as bytes
pub element-lent : (I : Input) (l : List ℕ) (k : ℕ) (e : Value (vectors.field I)) → page.block_at l k ≡ (vectors.field I).elements.words e → lent_element (dealt_by I) l k ≡ e
element-lent I l k e p =
    ap (λ (w : List ℕ). (vectors.field I).elements.read w 0)
    (ap₂ (λ (x y : ℕ). x ∷ y ∷ []) (sym (word-at l (k * 16))) (sym (word-at l (k * 16 + 8))) ∙ p)
    ∙ (kind_is I.field).back e

-- pad calls of both ends on one dealing of field 1
module _ (D : page.Input) (one : D.head.field ≡ 1) (a b : List ℕ) (dealt : (page.deal D a b).number ≡ 0)
    (first c : ℕ) (vs choices out : List ℕ) (noise : (page.noise_pads first c vs choices out).number ≡ 0)
    (first' c' : ℕ) (ws out' : List ℕ) (scalar : (page.scalar_pads first' c' ws D.Δ out').number ≡ 0)
    (x : ℕ) (below : x < D.head.n) (window : (first ≤ x) × (x < first + c)) (window' : (first' ≤ x) × (x < first' + c'))
    (v_lent : page.block_at vs (x - first) ≡ says.v D x) (u_lent : get_or choices (x - first) 0 ∷ [] ≡ says.u D x)
    (w_lent : page.block_at ws (x - first') ≡ says.w D x) where
  abbrev I : Input
  I = input_of D

  abbrev number : page.Return → ℕ
  number r = r.number

  named : take 16 (drop (16 * (x - first)) (says.slice (page.noise_pads first c vs choices out).outputs 0))
      ≡ take 16 (drop (32 * (x - first') + 16 * get_or choices (x - first) 0) (says.slice (page.scalar_pads first' c' ws D.Δ out').outputs 0))
  named =
      ap (λ (r : page.Return). take 16 (drop (16 * (x - first)) (says.slice r.outputs 0))) (noise-pads first c vs choices out)
      ∙ claims.pads I one a b (sym (ap number (deal_is I a b)) ∙ dealt)
      first c vs choices out (sym (ap number (noise-pads first c vs choices out)) ∙ noise)
      first' c' ws D.Δ out' (sym (ap number (scalar-pads first' c' ws D.Δ out')) ∙ scalar) x below window window'
      (record {
        v_lent = element-lent I vs (x - first) (vectors.v I x) (v_lent ∙ v_is I x);
        u_lent =
            (kind_is D.head.field).num_same _ _
            ((kind_is D.head.field).num_read choices (x - first) ∙ ap (λ (l : List ℕ). get_or l 0 0) (u_lent ∙ u_is I x ∙ (kind_is D.head.field).one (vectors.u I x)));
        w_lent = element-lent I ws (x - first') (vectors.w I x) (w_lent ∙ w_is I x);
        Δ-lent = refl;
      })
      ∙ sym (ap (λ (r : page.Return). take 16 (drop (32 * (x - first') + 16 * get_or choices (x - first) 0) (says.slice r.outputs 0))) (scalar-pads first' c' ws D.Δ out'))

pub demand3 : says.Demand3
demand3 = record { outputs = λ D a b e x below. outputs_hold (input_of D) a b e x; lists = lists; pads = named }
