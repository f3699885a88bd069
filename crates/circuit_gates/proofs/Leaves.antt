-- The needs and returns of the small functions that tests do not close by themselves. Assumes nothing.
use Prim.Native.Nat.{ℕ, ◌+◌, ◌*◌, ◌%◌, ◌≤◌}
use mathlib.Core.List.{List}
use mathlib.Core.Path.{◌≡◌, ap, ap₂, ◌∙◌}
use native.Mathlib.Omega.{arith}
use lib.ListN.{get_or}
use Rattle.circuit_run.proofs.Bits.{xor-bit, flipped-bit, share-bit}
use Rattle.circuit_run.specs.Step.{flipped}
use Rattle.circuit_run.specs.Inner.RoundGates.{AndHas, opened_by}
use Rattle.circuit_run.specs.Inner.Places.{opened_with}
use Rattle.circuit_run.specs.Round.{share_of, known_as}

-- a share is a bit
share-small : (x : ℕ) → x % 2 ≤ 1
share-small x = omega arith

-- ---- an AND

module _ (role x y : ℕ) (triples : List ℕ) (ands : ℕ) (far : List ℕ) (passed : ℕ) {r a b : ℕ} (first : a ≡ share_of x) (second : b ≡ share_of y)
    (e : r ≡ opened_with role a b triples ands (get_or far (2 * passed) 0) (get_or far (2 * passed + 1) 0)) where
  share_is : r ≡ opened_by role x y triples ands far passed
  unfolding opened_by
  share_is = e ∙ ap₂ (λ (v w : ℕ). opened_with role v w triples ands (get_or far (2 * passed) 0) (get_or far (2 * passed + 1) 0)) first second

  pub opened_is : known_as r ≡ known_as (opened_by role x y triples ands far passed)
  opened_is = ap known_as share_is

  pub opened-small : AndHas triples ands far passed → r ≤ 1
  unfolding opened_by opened_with
  opened-small h =
      let t = h.triple_bits in
      let b =
      share-bit role (xor-bit (xor-bit (share-small x) (t (ands * 3))) (h.far_bits (2 * passed)))
      (xor-bit (xor-bit (share-small y) (t (ands * 3 + 1))) (h.far_bits (2 * passed + 1)))
      (t (ands * 3)) (t (ands * 3 + 1)) (t (ands * 3 + 2)) in
      omega (arith, b, share_is)

-- ---- a NOT

pub not-small : (role x : ℕ) {s r : ℕ} → s ≡ share_of x → r ≡ flipped role s → r ≤ 1
not-small role x first e = omega (arith, e ∙ ap (flipped role) first, flipped-bit role (share-small x))
