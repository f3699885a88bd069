-- The pair program finds every output of a dealing's own records held.
use mathlib.Core.Path.{◌≡◌, sym, ap₂, ◌∙◌}
use mathlib.Core.Bool.{true}
use Prim.Native.Nat.{ℕ}
use Rattle.algebra.proofs.Same.{accumulate-same, output-same}
use Rattle.algebra.specs.Group.{itself}
use Rattle.field.proofs.BothKinds.{noise_facts}
use Rattle.window.proofs.Rows.{row_within}
use Rattle.window.specs.Head.{places, row}
use Rattle.dealing.proofs.Laws as dealing
use Rattle.dealing.specs.Admitted.{Admitted}
use Rattle.dealing.specs.Input.{Input}
use Rattle.dealing.specs.Parts.{noise_part, scalar_part}
use Rattle.dealing.specs.Vectors.{head, field, delta, mu, v0, w0, u, v, w}
use Rattle.ends.specs.Noise.Vectors as noise_vectors
use Rattle.ends.specs.Scalar.Vectors as scalar_vectors
use Rattle.pairing.proofs.Laws.{held-at, correlated-held}
use Rattle.pairing.specs.Verdict.{u_at, v_at, w_at, pair_of, held_at}
use Rattle.claims.specs.Pairing.{Held}
use Rattle.claims.proofs.Dealt.{mu_dealt, v0_dealt, w0_dealt}
use Rattle.claims.proofs.Outputs.{admitted-correlated}

module _ (I : Input) (A : Admitted I) (x : ℕ) where
  u-at : u_at (noise_part I) x ≡ u I x
  unfolding u
  u-at =
      output-same (field I).ring (itself (field I).ring) (places (head I)) (row (head I) x) (row_within (head I) A.terms.2 x) _ _
      (accumulate-same (field I).ring.group (places (head I)) (noise_vectors.mu (noise_part I)) (mu I) (λ j h. mu_dealt I A j))
      ∙ (noise_facts I.field).matrix (places (head I)) (row (head I) x) (row_within (head I) A.terms.2 x) (mu I)

  v-at : v_at (noise_part I) x ≡ v I x
  unfolding v
  v-at =
      output-same (field I).ring (field I).scaled (places (head I)) (row (head I) x) (row_within (head I) A.terms.2 x) _ _
      (accumulate-same (field I).scaled.group (places (head I)) (noise_vectors.v0 (noise_part I)) (v0 I) (v0_dealt I A))

  w_at_lem : w_at (scalar_part I) x ≡ w I x
  unfolding w
  w_at_lem =
      output-same (field I).ring (field I).scaled (places (head I)) (row (head I) x) (row_within (head I) A.terms.2 x) _ _
      (accumulate-same (field I).scaled.group (places (head I)) (scalar_vectors.w0 (scalar_part I)) (w0 I) (λ j h. w0_dealt I A j))

  dealt-held : held_at (pair_of (noise_part I) (scalar_part I)) x ≡ true
  dealt-held =
      held-at (pair_of (noise_part I) (scalar_part I)) x
      (w_at_lem ∙ admitted-correlated I A x
      ∙ ap₂ (λ a b. (field I).scaled.group.add ((field I).scaled.scale a (delta I)) b) (sym u-at) (sym v-at))

pub held : Held
held I M a b z small =
    let A = (dealing.deal-number I a b z).admitted in
    correlated-held _ _ (pair_of (noise_part I) (scalar_part I)) (dealing.noise-reads I a b z M) (dealing.scalar-reads I a b z M)
    (record { small = small; held = λ x h. dealt-held I A x })
