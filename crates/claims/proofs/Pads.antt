-- The choice bit names the matching pad: the choice law of `pads`, at the outputs of a source of field 1.
use mathlib.Core.Path.{◌≡◌, refl, sym, ap, ◌∙◌}
use mathlib.Core.List.{List, [], ◌∷◌}
use Prim.Native.Nat.{ℕ, zero, suc, ◌+◌, ◌-◌, ◌*◌, ◌<◌}
use native.Mathlib.Omega.{arith}
use lib.ListN.{get_or}
use Rattle.algebra.specs.Expansion.{Correlated}
use Rattle.algebra.specs.Field.{NoiseValue, Value}
use Rattle.field.specs.Bytes.{word_at}
use Rattle.field.specs.Kind.{kind_of}
use Rattle.field.specs.ByNumber.{element_of}
use Rattle.pads.proofs.Choice.{choice}
use Rattle.pads.specs.Calls.{noise_pads, scalar_pads}
use Rattle.pads.specs.Choice.{InWindow, pad_at, one_of_two_at}
use Rattle.pads.specs.Pad.{pad}
use Rattle.claims.specs.Correlation.{PadsLent, PadsOf}
use Rattle.claims.specs.Source.{Source, source_delta, Correlates, Binary}

-- two accepted pad calls and an index in both windows
module _ (first count : ℕ) (vs choices pads : List ℕ) (noise-accepted : (noise_pads first count vs choices pads).number ≡ 0)
    (first' count' : ℕ) (ws Δs pads' : List ℕ) (scalar-accepted : (scalar_pads first' count' ws Δs pads').number ≡ 0)
    (x : ℕ) (in-noise : InWindow first count x) (in-scalar : InWindow first' count' x) where
  -- in the field of byte f, which is 1
  by_field : (f : ℕ) → f ≡ 1 → (u : NoiseValue (kind_of f).field) (v w Δ : Value (kind_of f).field)
      → Correlated (kind_of f).field.scaled Δ u v w
      → (kind_of f).field.elements.read (word_at vs ((x - first) * 16) ∷ word_at vs ((x - first) * 16 + 8) ∷ []) 0 ≡ v
      → (kind_of f).field.noise_values.read choices (x - first) ≡ u
      → (kind_of f).field.elements.read (word_at ws ((x - first') * 16) ∷ word_at ws ((x - first') * 16 + 8) ∷ []) 0 ≡ w
      → (kind_of f).field.elements.read (element_of f (word_at Δs 0) (word_at Δs 8)) 0 ≡ Δ
      → pad_at (noise_pads first count vs choices pads).lent.pads first x
      ≡ one_of_two_at (scalar_pads first' count' ws Δs pads').lent.pads first' x (get_or choices (x - first) 0)
  by_field zero e u v w Δ c a b d g = absurd (omega arith)
  by_field (suc zero) e u v w Δ c a b d g =
      choice pad first count vs choices pads noise-accepted first' count' ws Δs pads' scalar-accepted x in-noise in-scalar
      v w Δ (get_or choices (x - first) 0)
      (record {
        v_lent = a;
        u_lent = refl;
        w_lent = d;
        Δ-lent = g;
        correlated = c ∙ ap (λ s. Rattle.field.specs.Binary.block_add (Rattle.field.specs.Binary.block_scale s Δ) v) (sym b);
      })
  by_field (suc (suc n)) e u v w Δ c a b d g = absurd (omega arith)

  pub source-pads : (s : Source) → Correlates s → s.field ≡ 1 → x < s.outputs → PadsLent s x first vs choices first' ws Δs
      → pad_at (noise_pads first count vs choices pads).lent.pads first x
      ≡ one_of_two_at (scalar_pads first' count' ws Δs pads').lent.pads first' x (get_or choices (x - first) 0)
  source-pads s C one h L =
      by_field s.field one (s.u x) (s.v x) (s.w x) (source_delta s) (C x h)
      L.v_lent L.u_lent L.w_lent
      (ap (λ l. (kind_of s.field).field.elements.read (element_of s.field (word_at l 0) (word_at l 8)) 0) L.Δ-lent)

pub pads_of : (S : Binary) → PadsOf S.source
pads_of S first count vs choices out noise-accepted first' count' ws Δs out' scalar-accepted x h in-noise in-scalar lent =
    source-pads first count vs choices out noise-accepted first' count' ws Δs out' scalar-accepted x in-noise in-scalar
    S.source S.correlates S.binary h lent
