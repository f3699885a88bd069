-- `dealing_tests::tests::every_noise` meets its contract: each value is tested. Assumes nothing.
use Rattle.std.proofs.Common.{rules, ◌≡◌, ◌<◌, ◌↔◌, ℕ, Bool, true, false, refl, sym, get_or}
use Rattle.std.specs.Prelude.{IsTrue, EachIndex}
use Rattle.algebra.specs.Every.{every}
use Rattle.algebra.proofs.Every.{every_at, every-all}
use Rattle.field.specs.ByNumber.{is_noise}
use Rattle.dealing_tests.proofs.tests.every_noise.Goals as goal

-- a test of each index below n is `every`
every_is : (t : Bool) (n : ℕ) (f : ℕ → Bool) → (t ≡ true ↔ ((k : ℕ) → k < n → f k ≡ true)) → t ≡ every n f
every_is true n f h = sym (every-all f n (h.0 refl))
every_is false n f h = no (every n f) (λ e. h.1 (λ k g. every_at f k n e g))
  where
    no : (b : Bool) → (b ≡ true → false ≡ true) → false ≡ b
    no true g = g refl
    no false g = refl

pub returns : goal.returns
returns c =
    let each : IsTrue c.all.result ↔ EachIndex c.args.values.now (λ k. IsTrue (is_noise c.args.field (get_or c.args.values.now k 0))) = search rules in
    every_is _ _ _ each
