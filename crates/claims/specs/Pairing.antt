-- The pair program on a dealing's own records (document 01, 'Cases'): every output tried is held. Of workings: the promise is `Held` of
-- `page_claims`, over the page.
use Rattle.std.specs.Prelude.{◌≡◌, List, ℕ, ◌^◌, ◌≤◌}
use Rattle.dealing.specs.Admitted.{InMemory}
use Rattle.dealing.specs.Deal.{deal, noise_record_of, scalar_record_of}
use Rattle.dealing.specs.Input.{Input}
use Rattle.pairing.specs.AllHeld.{AllHeld}

-- for an accepted dealing of at most 1,024 leaves all n outputs are found to hold, and the line is `checked n held n`
abbrev pub Held : Type 0
Held =
    (I : Input) → InMemory I → (a b : List ℕ) → (deal I a b).number ≡ 0 → 2 ^ I.depth ≤ 1024
    → AllHeld (noise_record_of (deal I a b)) (scalar_record_of (deal I a b)) I.outputs
