-- What is found of two records, case by case, and that correlated records are found to hold at every output. Assumes nothing.
use mathlib.Core.Path.{◌≡◌, refl, ap, ap₂, ◌∙◌}
use mathlib.Core.Bool.{true, false}
use mathlib.Core.List.{List}
use Prim.Native.Nat.{ℕ, zero, suc, ◌+◌, ◌≤◌, ◌<◌}
use native.Mathlib.Omega.{arith}
use native.Mathlib.Numerals.{add-one}
use borrow.Author.Tests.{le-ltb, lt-ltb}
use Rattle.algebra.proofs.Choice.{choose-true}
use Rattle.number.specs.Reading.{Whole, Refused}
use Rattle.record.specs.Content.{NoisePart, ScalarPart}
use Rattle.record.specs.Reading.{read_noise, read_scalar}
use Rattle.window.specs.Head.{field_of, places}
use Rattle.ends.specs.Scalar.Vectors as scalar_end
use Rattle.pairing.specs.AllHeld.{CorrelatedHeld}
use Rattle.pairing.specs.Line.{text}
use Rattle.pairing.specs.Verdict.{Refusal, TooLarge, Different, Checked, same_dealing, paired, verdict}
use Rattle.pairing.specs.Verdict.{u_at, v_at, w_at, holds, Pair, noise_of, scalar_of, pair_of, held_at, held_of}
use Rattle.pairing.proofs.Same.{same_refl, same-dealing}

-- ---- a record is refused

pub noise_refusal : (noise scalar : List ℕ) {k : ℕ} → read_noise noise ≡ Refused k → verdict noise scalar ≡ Refusal k
unfolding verdict
noise_refusal noise scalar e = rw e

pub scalar_refusal : (noise scalar : List ℕ) {P : NoisePart} {k : ℕ} → read_noise noise ≡ Whole P → read_scalar scalar ≡ Refused k
    → verdict noise scalar ≡ Refusal k
unfolding verdict
scalar_refusal noise scalar e f = rw (e, f)

-- ---- both are accepted

module _ (noise scalar : List ℕ) {P : NoisePart} {Q : ScalarPart} (read : read_noise noise ≡ Whole P) (other : read_scalar scalar ≡ Whole Q) where
  pub both-whole : verdict noise scalar ≡ paired P Q
  unfolding verdict
  both-whole = rw (read, other)

  pub noise_large : 1024 < places P.head → verdict noise scalar ≡ TooLarge
  unfolding paired
  noise_large h = both-whole ∙ rw (lt-ltb 1024 (places P.head) h)

  pub scalar_large : places P.head ≤ 1024 → 1024 < places Q.head → verdict noise scalar ≡ TooLarge
  unfolding paired
  scalar_large h g = both-whole ∙ rw (le-ltb 1024 (places P.head) h, lt-ltb 1024 (places Q.head) g)

  module _ (small : places P.head ≤ 1024) (small_too : places Q.head ≤ 1024) where
    pub not_same : same_dealing P.head Q.head ≡ false → verdict noise scalar ≡ Different
    unfolding paired
    not_same e = both-whole ∙ rw (le-ltb 1024 (places P.head) small, le-ltb 1024 (places Q.head) small_too, e)

    pub same_checked : same_dealing P.head Q.head ≡ true
        → verdict noise scalar ≡ Checked P.head.outputs (held_of (pair_of P Q) P.head.outputs)
    unfolding paired
    same_checked e = both-whole ∙ rw (le-ltb 1024 (places P.head) small, le-ltb 1024 (places Q.head) small_too, e)

-- ---- correlated records

-- equal sides are held
pub held-at : (D : Pair) (x : ℕ)
    → w_at (scalar_of D) x
    ≡ (field_of D.head).scaled.group.add ((field_of D.head).scaled.scale (u_at (noise_of D) x) (scalar_end.delta (scalar_of D))) (v_at (noise_of D) x)
    → held_at D x ≡ true
unfolding held_at holds
held-at D x e = rw e (same_refl _)

-- where all of the first n hold, n are counted
pub all-counted : (D : Pair) (n : ℕ) → ((x : ℕ) → x < n → held_at D x ≡ true) → held_of D n ≡ n
unfolding held_of
all-counted D zero h = refl
all-counted D (suc n) h =
    ap₂ (λ (a b : ℕ). a + b) (all-counted D n (λ x k. h x (omega arith))) (choose-true (held_at D n) 1 0 (h n (omega arith))) ∙ add-one n

pub correlated-held : CorrelatedHeld
unfolding text
correlated-held noise scalar D read other C =
    let found : verdict noise scalar ≡ Checked D.head.outputs D.head.outputs =
    same_checked noise scalar read other C.small C.small (same-dealing D.head)
    ∙ ap (Checked D.head.outputs) (all-counted D D.head.outputs C.held) in
    record { found = found; line = ap text found }
