-- Signed amounts over the page, from the law of `amounts`.
use Prim.Native.Nat.{ℕ, ◌+◌, ◌-◌, ◌%◌, ◌<◌}
use mathlib.Core.Path.{◌≡◌, refl, sym, ap, ap₂, ◌∙◌}
use native.Mathlib.Omega.{arith}
use lib.IntN.{ℤ, neg_ℤ, ◌+ℤ◌}
use Rattle.amounts.specs.Agree.{InRange}
use Rattle.amounts.specs.Calls as library
use Rattle.amounts.specs.declared.WrittenAmount.{WrittenAmount}
use Rattle.amounts.proofs.Agreeing.{agree}
use Rattle.prime.specs.Prime.{prime_add, prime_sub}
use Rattle.prime.specs.Signed.{from_signed, prime_negate}
use Rattle.prime.specs.declared.prime.Prime.{Prime}
use Rattle.std.specs.Prelude.{Option, Some, None}
use Rattle.page.specs.Document01 as page
use Rattle.page_two.specs.Document02 as page2
use Rattle.page_two.proofs.Amounts.{amount_of, read_is, write_is}
use Rattle.page_two_claims.specs.Statements as says

there : (z : ℤ) → says.InRange z → InRange z
there z h = record { from_least = h.0; to_greatest = h.1 }

-- what is read of a written amount's element
read_at : (x : ℕ) (z : ℤ) → library.read_amount x ≡ library.read 0 z → page2.read_amount x ≡ page2.amount 0 z
read_at x z e = read_is x ∙ ap amount_of e

element_is : (z : ℤ) → (page2.write_amount z).element ≡ (library.write_amount z).element
element_is z = ap (λ (r : WrittenAmount). r.element) (write_is z)

amount_is : (x : ℕ) → (page2.read_amount x).1 ≡ (library.read_amount x).amount
amount_is x = ap (λ (r : ℕ × ℤ). r.1) (read_is x)

-- an answer that is not accepted is that of an amount out of range
not_written : (a : Option Prime) → ((library.written_as a).number ≡ 0 → ⊥)
    → ((library.written_as a).number ≡ 19) × ((library.written_as a).element ≡ 0)
not_written (Some a) refused = absurd (refused refl)
not_written None refused = (refl, refl)

pub amounts : says.Amounts
unfolding prime_add prime_sub prime_negate library.write_amount
amounts =
    record {
      reads = λ x.
          let n = ap (λ (r : ℕ × ℤ). r.0) (read_is x) in
          (λ h. n ∙ (agree.reads x).0 h, λ e. (agree.reads x).1 (sym n ∙ e));
      writes = λ z.
          let n = ap (λ (r : WrittenAmount). r.number) (write_is z) in
          (λ h. n ∙ (agree.writes z).0 (there z h), λ e. let r = (agree.writes z).1 (sym n ∙ e) in (r.from_least, r.to_greatest));
      out_of_range = λ z far.
          let r = not_written (from_signed z) (λ e. let g = (agree.writes z).1 e in far (g.from_least, g.to_greatest)) in
          (ap (λ (w : WrittenAmount). w.number) (write_is z) ∙ r.0, element_is z ∙ r.1);
      read-written = λ z h. ap page2.read_amount (element_is z) ∙ read_at _ z (agree.read-written z (there z h));
      written_read = λ x h.
          let e = ap page2.write_amount (amount_is x) ∙ write_is _ ∙ agree.written_read x h in
          (ap (λ (r : WrittenAmount). r.number) e, ap (λ (r : WrittenAmount). r.element) e);
      sums = λ a b h g f.
          ap₂ (λ (x y : ℕ). page2.read_amount ((x + y) % page.p)) (element_is a) (element_is b)
          ∙ read_at _ (a +ℤ b) (agree.sums a b (there a h) (there b g) (there (a +ℤ b) f));
      negation = λ x h.
          ap page2.read_amount (less x h)
          ∙ read_at _ _ (agree.negation x h)
          ∙ ap (λ (z : ℤ). page2.amount 0 (neg_ℤ z)) (sym (amount_is x));
    }
  where
    less : (x : ℕ) → x < page.p → (page.p - x) % page.p ≡ (0 + (page.p - x % page.p)) % page.p
    less x h =
        let e : x % page.p ≡ x = omega arith in
        let f : page.p - x ≡ 0 + (page.p - x) = omega arith in
        ap (λ (y : ℕ). y % page.p) f ∙ ap (λ (y : ℕ). (0 + (page.p - y)) % page.p) (sym e)
