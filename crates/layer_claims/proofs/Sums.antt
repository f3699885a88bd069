-- Each layer's own facts, carried along what the layers share, and what holds of their sums: u, v and w are rows' outputs of the added
-- vectors, and w = Δu + v.
use mathlib.Core.Path.{◌≡◌, sym, ap, ◌∙◌, subst}
use mathlib.Core.Bool.{true}
use mathlib.Core.List.{[], ◌∷◌}
use mathlib.Core.Logic.{◌⊎◌, inl, inr}
use Prim.Native.Nat.{ℕ, ◌^◌, ◌<◌}
use native.Mathlib.Omega.{arith}
use lib.ListN.{get_or}
use Rattle.algebra.proofs.Correlation.{sum-correlated}
use Rattle.algebra.proofs.Linear.{accumulate-sum, output-sum, output-element}
use Rattle.algebra.proofs.Sum.{itself_laws, sum_cong}
use Rattle.algebra.specs.Coding.{flat}
use Rattle.algebra.specs.Expansion.{Correlated}
use Rattle.algebra.specs.Field.{Field, NoiseValue, Value}
use Rattle.algebra.specs.Group.{Element, itself}
use Rattle.algebra.specs.Row.{output, entry, row_times}
use Rattle.algebra.specs.Sum.{sum, accumulate}
use Rattle.field.proofs.BothKinds.{kind_laws, noise_facts}
use Rattle.field.specs.ByNumber.{is_field}
use Rattle.field.specs.Kind.{KindLaws}
use Rattle.number.specs.Reading.{Whole}
use Rattle.record.specs.Reading.{read_noise, read_scalar}
use Rattle.window.proofs.Rows.{row_within}
use Rattle.window.specs.Head.{kind, places, row}
use Rattle.dealing.specs.Admitted.{Admitted}
use Rattle.dealing.specs.Input.{Input, delta_words}
use Rattle.dealing.specs.Parts.{noise_part, scalar_part}
use Rattle.dealing.specs.Vectors as dealt
use Rattle.dealing.specs.Vectors.{head, delta}
use Rattle.ends.specs.Noise.Offline as noise_offline
use Rattle.ends.specs.Scalar.Offline as scalar_offline
use Rattle.claims.proofs.Lists as alone
use Rattle.claims.proofs.Outputs.{admitted-correlated}
use Rattle.claims.specs.Correlation.{Setting, noise_expanded, scalar_expanded, scalar_delta}
use Rattle.layer_claims.specs.Layers.{Layers, input_at, shared, field, mu, u, v, w}

-- what a setting leaves, where J is its input
pub record Left (S : Setting) (J : Input) : Type 0 where
  pub admitted : Admitted J
  pub noise-read : read_noise (noise_expanded S).lent.source ≡ Whole (noise_part J)
  pub scalar_read : read_scalar (scalar_expanded S).lent.source ≡ Whole (scalar_part J)
  pub noise : noise_offline.noise_of (noise_expanded S)
      ≡ flat (dealt.field J).noise_values (2 ^ J.depth) (accumulate (dealt.field J).ring.group (dealt.mu J))
  pub v : noise_offline.v_of (noise_expanded S)
      ≡ flat (dealt.field J).elements (2 ^ J.depth) (accumulate (dealt.field J).scaled.group (dealt.v0 J))
  pub w : scalar_offline.w_of (scalar_expanded S)
      ≡ flat (dealt.field J).elements (2 ^ J.depth) (accumulate (dealt.field J).scaled.group (dealt.w0 J))
  pub delta : scalar_delta S ≡ get_or (delta_words J) 0 0 ∷ get_or (delta_words J) 1 0 ∷ []

own : (S : Setting) → Left S S.input
own S =
    record {
      admitted = alone.A S;
      noise-read = alone.noise-start S;
      scalar_read = alone.scalar-start S;
      noise = alone.noise-front S;
      v = alone.v_front S;
      w = alone.w_front S;
      delta = (alone.lists S [] []).scalar-words;
    }

known-field : (f : ℕ) → (f ≡ 1) ⊎ (f ≡ 2) → is_field f ≡ true
known-field f (inl e) = rw e
known-field f (inr e) = rw e

module _ (L : Layers) where
  abbrev I : Input
  I = shared L

  abbrev F : Field
  F = field L

  laws : KindLaws (kind (head I))
  laws = kind_laws I.field

  module _ (i : ℕ) (h : i < L.count) where
    -- the input of a layer is what the layers share with its own parts
    same-input : (L.layer i).input ≡ input_at L i
    same-input =
        let a = L.alike i h in
        let J = (L.layer i).input in
        λ t. record {
          field = a.field t;
          depth = a.depth t;
          branch_bits = J.branch_bits;
          trees = J.trees;
          terms = a.terms t;
          outputs = a.outputs t;
          roots = J.roots;
          positions = J.positions;
          values = J.values;
          delta = a.delta t;
          code_key = a.code_key t;
          label = J.label;
        }

    pub layer-left : Left (L.layer i) (input_at L i)
    layer-left = subst (Left (L.layer i)) same-input (own (L.layer i))

  pub first-admitted : Admitted (input_at L 0)
  first-admitted = (layer-left 0 (omega (arith, L.some))).admitted

  pub known : is_field I.field ≡ true
  known = known-field I.field first-admitted.field

  -- the added vectors
  unfoldable pub acc_mu : ℕ → NoiseValue F
  acc_mu j = sum F.ring.group L.count (λ i. accumulate F.ring.group (dealt.mu (input_at L i)) j)

  unfoldable pub acc_v0 : ℕ → Value F
  acc_v0 j = sum F.scaled.group L.count (λ i. accumulate F.scaled.group (dealt.v0 (input_at L i)) j)

  unfoldable pub acc_w0 : ℕ → Value F
  acc_w0 j = sum F.scaled.group L.count (λ i. accumulate F.scaled.group (dealt.w0 (input_at L i)) j)

  -- rows' outputs of them
  module _ (x : ℕ) where
    matrix : (f : ℕ → NoiseValue F)
        → output (itself F.ring) (row (head I) x) (accumulate F.ring.group f)
        ≡ row_times (itself F.ring) (places (head I)) (entry (row (head I) x)) f
    matrix = (noise_facts I.field).matrix (places (head I)) (row (head I) x) (row_within (head I) first-admitted.terms.2 x)

    -- on the accumulated noise, the matrix row times Σμ
    pub u_is : output (itself F.ring) (row (head I) x) acc_mu ≡ u L x
    unfolding acc_mu u mu
    u_is =
        ap (output (itself F.ring) (row (head I) x))
        (λ t j. sym (accumulate-sum F.ring.group laws.field.ring.group L.count (λ i. dealt.mu (input_at L i)) j) t)
        ∙ matrix (mu L)

    pub v_is : output F.scaled (row (head I) x) acc_v0 ≡ v L x
    unfolding acc_v0 v dealt.v
    v_is = output-sum F.ring F.scaled laws.field.scaled (row (head I) x) L.count _

    pub w_is : output F.scaled (row (head I) x) acc_w0 ≡ w L x
    unfolding acc_w0 w dealt.w
    w_is = output-sum F.ring F.scaled laws.field.scaled (row (head I) x) L.count _

    -- u is the sum of the layers' own
    pub u-sum : u L x ≡ sum F.ring.group L.count (λ i. dealt.u (input_at L i) x)
    unfolding acc_mu dealt.u
    u-sum =
        sym u_is
        ∙ output-sum F.ring (itself F.ring) (itself_laws F.ring laws.field.ring) (row (head I) x) L.count _
        ∙ sum_cong F.ring.group L.count _ _ (λ i h. matrix (dealt.mu (input_at L i)))

    pub u_element : (i : ℕ) → Element F.ring.group (dealt.u (input_at L i) x)
    unfolding dealt.u
    u_element i =
        subst (Element F.ring.group) (matrix (dealt.mu (input_at L i)))
        (output-element F.ring (itself F.ring) (itself_laws F.ring laws.field.ring) (row (head I) x) _)

    -- w = Δu + v at every index
    pub layers-correlated : Correlated F.scaled (delta I) (u L x) (v L x) (w L x)
    unfolding v w
    layers-correlated =
        sum-correlated F.ring F.scaled laws.field.ring laws.field.scaled (delta I) L.count
        (λ i. dealt.u (input_at L i) x) (λ i. dealt.v (input_at L i) x) (λ i. dealt.w (input_at L i) x)
        (λ i h. u_element i) (λ i h. admitted-correlated (input_at L i) (layer-left i h).admitted x)
        ∙ ap (λ a. F.scaled.group.add (F.scaled.scale a (delta I)) (v L x)) (sym u-sum)
