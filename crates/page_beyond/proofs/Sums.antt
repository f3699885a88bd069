-- u, v and w of layers, over the page, are those of the workings, so that w = Δu + v.
use Prim.Native.Nat.{ℕ, zero, suc, ◌^◌, ◌<◌}
use native.Mathlib.Omega.{arith}
use mathlib.Core.Path.{◌≡◌, refl, sym, ap, ap₂, ◌∙◌}
use mathlib.Core.List.{List}
use lib.ListN.{get_or}
use Rattle.algebra.specs.Row as rows
use Rattle.field.specs.Kind.{kind_of}
use Rattle.dealing.specs.Input.{Input}
use Rattle.dealing.specs.Vectors as vectors
use Rattle.window.specs.Head.{row}
use Rattle.layer_claims.specs.Layers as layers
use Rattle.layer_claims.specs.Layers.{input_at}
use Rattle.layer_claims.proofs.Sums.{layers-correlated}
use Rattle.layer_claims.proofs.Outputs.{one-layer}
use Rattle.page.specs.Document01 as page
use Rattle.page.proofs.Fields.{KindIs, kind_is, sum_is}
use Rattle.page.proofs.Dealing.{input, scalar-words, delta-words}
use Rattle.page_claims.specs.Statements as alone
use Rattle.page_claims.proofs.Outputs as dealt
use Rattle.page_claims.proofs.Outputs.{input_of, entry_is, noise_is}
use Rattle.page_claims.proofs.Lists.{setting}
use Rattle.page_beyond.specs.Beyond as says

-- the layers, in workings
unfoldable pub layered : says.Layered → layers.Layers
unfolding setting
layered L =
    record {
      count = L.k;
      some = L.some;
      layer = λ i. setting (input_of (L.input i)) (L.setting i);
      alike = λ i h.
          let a = L.alike i h in
          record { field = a.0; depth = a.1; terms = a.2; outputs = a.3; code_key = a.4; delta = a.5 };
    }

-- equal terms below k give equal sums
sum_below : (S : page.Space) (k : ℕ) (f g : ℕ → List ℕ) → ((i : ℕ) → i < k → f i ≡ g i) → page.sum S k f ≡ page.sum S k g
unfolding page.sum
sum_below S zero f g e = refl
sum_below S (suc k) f g e = ap₂ S.plus (sum_below S k f g (λ i h. e i (omega arith))) (e k (omega arith))

module _ (L : says.Layered) where
  abbrev W : layers.Layers
  W = layered L

  abbrev I : Input
  I = input_of (L.input 0)

  abbrev same : KindIs (page.field_of I.field) (kind_of I.field)
  same = kind_is I.field

  -- the input of a layer is what the layers share with its own parts
  same-input : (i : ℕ) → i < L.k → L.input i ≡ input (input_at W i)
  unfolding layered setting
  same-input i h =
      let a = L.alike i h in
      let D = L.input i in
      λ t. record {
        head = record {
          field = a.0 t;
          d = a.1 t;
          g = D.head.g;
          t = D.head.t;
          ℓ = a.2 t;
          n = a.3 t;
          code_key = a.4 t;
          label = D.head.label;
        };
        roots = D.roots;
        positions = D.positions;
        values = D.values;
        Δ = a.5 t;
      }

  noise-sum : (j : ℕ)
      → page.sum (page.field_of I.field).noise_values L.k (λ i. page.μ (page.dealt_trees (L.input i)) (L.input i).head.t j)
      ≡ (layers.field W).noise_values.words (layers.mu W j)
  unfolding layered setting layers.mu
  noise-sum j =
      sum_below _ L.k _ _ (λ i h. ap (λ (D : page.Input). page.μ (page.dealt_trees D) D.head.t j) (same-input i h))
      ∙ sum_is same.noise_values L.k _ _ (λ i. noise_is (input_at W i) j)

  module _ (x : ℕ) where
    pub u_is : says.u_sum L x ≡ (layers.field W).noise_values.words (layers.u W x)
    unfolding layered setting says.u_sum layers.u rows.row_times
    u_is =
        sum_is same.noise_values (2 ^ I.depth) _ _ λ j.
        ap₂ (page.field_of I.field).noise_values.multiple (entry_is I x j) (noise-sum j)
        ∙ same.noise_values.multiple (rows.entry (row (vectors.head I) x) j) (layers.mu W j)

    pub v_is : says.sum_of alone.v L x ≡ (layers.field W).elements.words (layers.v W x)
    unfolding layered setting says.sum_of layers.v
    v_is =
        sum_below _ L.k _ _ (λ i h. ap (λ (D : page.Input). alone.v D x) (same-input i h))
        ∙ sum_is same.elements L.k _ _ (λ i. dealt.v_is (input_at W i) x)

    pub w_is : says.sum_of alone.w L x ≡ (layers.field W).elements.words (layers.w W x)
    unfolding layered setting says.sum_of layers.w
    w_is =
        sum_below _ L.k _ _ (λ i h. ap (λ (D : page.Input). alone.w D x) (same-input i h))
        ∙ sum_is same.elements L.k _ _ (λ i. dealt.w_is (input_at W i) x)

    pub correlated : alone.Correlated (L.input 0) (says.u_sum L x) (says.sum_of alone.v L x) (says.sum_of alone.w L x)
    unfolding layered setting
    correlated =
        w_is
        ∙ ap (layers.field W).elements.words (layers-correlated W x)
        ∙ sym (same.elements.plus _ (layers.v W x))
        ∙ ap₂ (page.field_of I.field).elements.plus
        (sym (same.elements.multiple (layers.u W x) (vectors.delta I))
        ∙ ap₂ (page.field_of I.field).elements.multiple (sym (ap (λ (l : List ℕ). get_or l 0 0) (u_is ∙ same.one _)))
        (sym (scalar-words I ∙ delta-words I)))
        (sym v_is)

    -- one layer
    pub alone_is : L.k ≡ 1
        → (says.u_sum L x ≡ alone.u (L.input 0) x) × (says.sum_of alone.v L x ≡ alone.v (L.input 0) x)
        × (says.sum_of alone.w L x ≡ alone.w (L.input 0) x)
    unfolding layered setting
    alone_is e =
        let A = one-layer W e in (
          u_is ∙ ap (layers.field W).noise_values.words (A.u x) ∙ sym (dealt.u_is I x),
          v_is ∙ ap (layers.field W).elements.words (A.v x) ∙ sym (dealt.v_is I x),
          w_is ∙ ap (layers.field W).elements.words (A.w x) ∙ sym (dealt.w_is I x),
        )
