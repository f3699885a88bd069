-- The page's signed amounts are the library's (request 13).
use Prim.Native.Nat.{ℕ, suc, ◌-◌}
use mathlib.Core.Path.{◌≡◌, refl, sym, ap, ◌∙◌}
use mathlib.Core.Bool.{Bool, true, false, ◌||◌}
use lib.Dec.{leb, ltb, leb-suc-suc}
use lib.IntN.{ℤ, pos, negsuc}
use Rattle.algebra.specs.Choice.{choose}
use Rattle.amounts.specs.Calls.{read_amount, write_amount, written_as}
use Rattle.amounts.specs.declared.Amount.{Amount}
use Rattle.amounts.specs.declared.WrittenAmount.{WrittenAmount}
use Rattle.prime.specs.Prime.{prime}
use Rattle.prime.specs.declared.prime.Prime.{Prime}
use Rattle.std.specs.Prelude.{Some, None}
use Rattle.prime.specs.Signed.{signed_of, from_signed, signed_element}
use Rattle.page.specs.Document01 as page
use Rattle.page.proofs.Basics.{if_both}
use Rattle.page_two.specs.Document02 as page2

abbrev pub amount_of : Amount → ℕ × ℤ
amount_of r = (r.number, r.amount)

pub read_is : (x : ℕ) → page2.read_amount x ≡ amount_of (read_amount x)
unfolding page2.read_amount read_amount signed_of
read_is x =
    if_both (λ a b. a ≡ amount_of b) (ltb x page.p) _ _ _ _
    (ap (λ (z : ℤ). (0, z)) (if_both (λ a b. a ≡ b) (leb x page2.greatest) _ _ _ _ refl refl)) refl

-- an amount that a test refuses, or its element
by_test : (t : Bool) (a : Prime) → written_as (page.when◌then◌else◌ t None (Some a)) ≡ written_as (choose t None (Some a))
unfolding page.when◌then◌else◌
by_test t a = refl

or-false : (t : Bool) → t ≡ (t || false)
or-false true = refl
or-false false = refl

pub write_is : (z : ℤ) → page2.write_amount z ≡ write_amount z
unfolding page2.write_amount write_amount from_signed signed_element
write_is (pos n) = by_test (ltb page2.greatest n) (prime n)
write_is (negsuc n) =
    let low = leb-suc-suc page2.greatest n ∙ or-false (leb page2.greatest n) in
    ap (λ (t : Bool). written_as (page.when◌then◌else◌ t None (Some (prime (page.p - suc n))))) low
    ∙ by_test (leb page2.greatest n || false) (prime (page.p - suc n))

pub read-returned : (r : Amount) (x : ℕ) → r ≡ read_amount x → (r.number, r.amount) ≡ page2.read_amount x
read-returned r x e = ap amount_of e ∙ sym (read_is x)

pub write-returned : (r : WrittenAmount) (z : ℤ) → r ≡ write_amount z → r ≡ page2.write_amount z
write-returned r z e = e ∙ sym (write_is z)
