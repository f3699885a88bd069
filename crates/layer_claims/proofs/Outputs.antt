-- Layers are a source, so what stands on sources stands on them; and one layer is the dealing itself.
use mathlib.Core.Path.{◌≡◌, ap, ◌∙◌}
use Prim.Native.Nat.{ℕ}
use Rattle.algebra.proofs.Linear.{sum_one, output-element}
use Rattle.algebra.specs.Sum.{sum}
use Rattle.field.proofs.BothKinds.{kind_laws}
use Rattle.window.specs.Head.{row}
use Rattle.dealing.specs.Vectors as dealt
use Rattle.dealing.specs.Vectors.{head}
use Rattle.claims.proofs.Entire.{of_dealing}
use Rattle.claims.proofs.Triples.{sources_form}
use Rattle.claims.proofs.Messages.{source-messages}
use Rattle.claims.proofs.Pads.{pads_of}
use Rattle.claims.specs.Source.{Binary}
use Rattle.layer_claims.specs.Layers.{Layers, input_at, shared, field, u, v, w}
use Rattle.layer_claims.specs.Outputs.{added_by, LayerOutputs, LayersServe, LayersForm, OneLayer}
use Rattle.layer_claims.proofs.Sums.{layers-correlated, u-sum, u_element}

pub layer-outputs : LayerOutputs
layer-outputs L x h = layers-correlated L x

-- layers of field 1 are a source of field 1
abbrev pub of_layers : (L : Layers) → (shared L).field ≡ 1 → Binary
of_layers L one = record { source = added_by L; binary = one; correlates = layer-outputs L }

pub layers_serve : LayersServe
layers_serve L one = record { pads = pads_of (of_layers L one); messages = source-messages (of_layers L one) }

pub layers-form : LayersForm
layers-form =
    record {
      both = λ L L' e e'. sources_form (of_layers L e) (of_layers L' e');
      first = λ L D e. sources_form (of_layers L e) (of_dealing D);
      second = λ D L e. sources_form (of_dealing D) (of_layers L e);
    }

-- ---- one layer

module _ (L : Layers) (single : L.count ≡ 1) (x : ℕ) where
  u_alone : u L x ≡ dealt.u (shared L) x
  u_alone =
      u-sum L x
      ∙ ap (λ (k : ℕ). sum (field L).ring.group k (λ i. dealt.u (input_at L i) x)) single
      ∙ sum_one (field L).ring.group (kind_laws (shared L).field).field.ring.group (λ i. dealt.u (input_at L i) x) (u_element L x 0)

  v_alone : v L x ≡ dealt.v (shared L) x
  unfolding v dealt.v
  v_alone =
      ap (λ (k : ℕ). sum (field L).scaled.group k (λ i. dealt.v (input_at L i) x)) single
      ∙ sum_one (field L).scaled.group (kind_laws (shared L).field).field.scaled.group (λ i. dealt.v (input_at L i) x)
      (output-element (field L).ring (field L).scaled (kind_laws (shared L).field).field.scaled (row (head (shared L)) x) _)

  w_alone : w L x ≡ dealt.w (shared L) x
  unfolding w dealt.w
  w_alone =
      ap (λ (k : ℕ). sum (field L).scaled.group k (λ i. dealt.w (input_at L i) x)) single
      ∙ sum_one (field L).scaled.group (kind_laws (shared L).field).field.scaled.group (λ i. dealt.w (input_at L i) x)
      (output-element (field L).ring (field L).scaled (kind_laws (shared L).field).field.scaled (row (head (shared L)) x) _)

pub one-layer : OneLayer
one-layer L single = record { u = u_alone L single; v = v_alone L single; w = w_alone L single }
