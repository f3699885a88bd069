-- The round keys of the child keys, made one after another.
use mathlib.Core.Path.{◌≡◌, refl, ap, sym, ◌∙◌}
use mathlib.Core.Bool.{Bool, true, false}
use mathlib.Core.List.{List, []}
use Prim.Native.Nat.{ℕ, ◌+◌, ◌^◌, ◌≤◌, ◌<◌}
use native.Mathlib.Omega.{arith}
use lib.Dec.{eqb}
use lib.ListN.{length, set, length-set}
use lib.Pow.{pow_mono}
use lib.Seq.{get_or-set_same, get_or-set_other}
use borrow.Author.Tests.{eqb-true, eqb-false}
use Rattle.aes128.specs.Cipher.{key_expansion}
use Rattle.aes128.specs.Inner.Words.{round_keys}
use Rattle.tree.specs.Child.{child_key}
use Rattle.tree.specs.Inner.Keys.{keys_for}
use Rattle.tree.specs.KeySchedules.{OfChildKeys}

-- a child's number is below eight
module _ (g c : ℕ) {count : ℕ} (e : count ≡ 2 ^ g) (b : g ≤ 3) (l : c < count) where
  pub key_below : c < 8
  key_below = omega (arith, pow_mono {i = g} {j = 3} b)

-- those of child c stored at place c, after those before
pub record Made (keys : List (List ℕ)) (c : ℕ) : Type 0 where
  pub own : OfChildKeys c (keys_for keys)
  pub size : length keys ≡ 8

pub made-next : (keys : List (List ℕ)) (c : ℕ) (r : List ℕ) → Made keys c → c < 8 → round_keys r ≡ key_expansion (child_key c)
    → Made (set keys c r) (c + 1)
made-next keys c r m l e = record { own = λ b h. decide b h (eqb b c) refl; size = length-set keys c r ∙ m.size }
  where
    decide : (b : ℕ) → b < c + 1 → (t : Bool) → eqb b c ≡ t → keys_for (set keys c r) b ≡ key_expansion (child_key b)
    decide b h true q =
        let same : b ≡ c = eqb-true b c q in
        ap (keys_for (set keys c r)) same
        ∙ ap round_keys (get_or-set_same keys c r [] (omega (arith, m.size)))
        ∙ e
        ∙ ap (λ i. key_expansion (child_key i)) (sym same)
    decide b h false q = ap round_keys (get_or-set_other keys c b r [] (eqb-false b c q)) ∙ m.own b (omega (arith, eqb-false b c q))
