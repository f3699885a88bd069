-- What the readings of both records say of the verdict, test by test. Assumes nothing.
use mathlib.Core.Path.{◌≡◌, sym, ◌∙◌}
use mathlib.Core.Bool.{Bool, true, false}
use mathlib.Core.List.{List}
use Prim.Native.Nat.{ℕ, ◌^◌, ◌≤◌, ◌<◌}
use Rattle.std.specs.Prelude.{Ok, Err}
use Rattle.answer.specs.declared.Refusal.{Refusal}
use Rattle.answer.specs.Refused.{number_of}
use Rattle.number.specs.Reading.{Whole, Refused}
use Rattle.record.specs.Content.{Head}
use Rattle.record.specs.Reading.{read_head, read_noise, read_scalar}
use Rattle.record.proofs.Callers.{noise-refused, scalar-refused}
use Rattle.record.specs.Answer.{head_of, head_if_whole}
use Rattle.record.specs.declared.Layout.{Layout}
use Rattle.ends.specs.Inner.Noise as noise
use Rattle.ends.proofs.noise.Content as noise_content
use Rattle.ends.specs.Inner.Scalar as scalar
use Rattle.pairing.specs.declared.Finding.TheVariants as finding
use Rattle.pairing.specs.Answer.{verdict_of}
use Rattle.pairing.specs.Verdict.{same_dealing, verdict}
use Rattle.pairing.proofs.Laws.{noise_refusal, scalar_refusal, noise_large, scalar_large, not_same}
use Rattle.pairing_tests.proofs.Same.{dealing-equal}

-- ---- reading

module _ (s t : List ℕ) where
  pub noise-number : (r : Refusal) → Refused (number_of r) ≡ head_if_whole (read_noise s) (read_head 1 s) → verdict_of (Err r) ≡ verdict s t
  noise-number r e = sym (noise_refusal s t (noise-refused s (sym e)))

  pub scalar-number : {p : Layout} → Whole (head_of s p, p.body) ≡ head_if_whole (read_noise s) (read_head 1 s) → (r : Refusal)
      → Refused (number_of r) ≡ head_if_whole (read_scalar t) (read_head 2 t) → verdict_of (Err r) ≡ verdict s t
  scalar-number here r e = sym (scalar_refusal s t (noise_content.ready s here).read (scalar-refused t (sym e)))

-- ---- two accepted records

module _ (s : List ℕ) (p : Layout) (t : List ℕ) (q : Layout) (here : noise.Ready s p) (there : scalar.Ready t q) {n : ℕ} (leaves : n ≡ 2 ^ p.depth) where
  pub first_large : 1024 < n → verdict_of (Ok finding.TooLarge) ≡ verdict s t
  first_large h = sym (noise_large s t here.read there.read (rw leaves at h))

  module _ (few : n ≤ 1024) {m : ℕ} (others : m ≡ 2 ^ q.depth) where
    pub second_large : 1024 < m → verdict_of (Ok finding.TooLarge) ≡ verdict s t
    second_large h = sym (scalar_large s t here.read there.read (rw leaves at few) (rw others at h))

    module _ (fewer : m ≤ 1024) {r : Bool} (same : r ≡ same_dealing (head_of s p) (head_of t q)) where
      pub other-dealing : r ≡ false → verdict_of (Ok finding.Different) ≡ verdict s t
      other-dealing e = sym (not_same s t here.read there.read (rw leaves at few) (rw others at fewer) (sym same ∙ e))

pub one-dealing : {h k : Head} {r : Bool} → r ≡ same_dealing h k → r ≡ true → k ≡ h
one-dealing {h} {k} {r} same e = sym (dealing-equal h k (sym same ∙ e))
