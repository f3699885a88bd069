-- Two accepted records of one dealing where w = Δu + v at every output: what is found of them, and their line.
use Rattle.std.specs.Prelude.{◌≡◌, true, List, ◌++◌, ℕ, ◌≤◌, ◌<◌}
use Rattle.number.specs.Reading.{Whole}
use Rattle.record.specs.Reading.{read_noise, read_scalar}
use Rattle.window.specs.Head.{places}
use Rattle.pairing.specs.Verdict.{Checked, Pair, noise_of, scalar_of, held_at, verdict}
use Rattle.pairing.specs.Line.{decimal, checked_text, held_text, text}

-- a pair of at most 1,024 leaves, and w = Δu + v at each of its outputs
pub record CorrelatedPair (D : Pair) : Type 0 where
  pub small : places D.head ≤ 1024
  pub held : (x : ℕ) → x < D.head.outputs → held_at D x ≡ true

-- all outputs are found to hold, and the line is `checked n held n`
pub record AllHeld (noise scalar : List ℕ) (n : ℕ) : Type 0 where
  pub found : verdict noise scalar ≡ Checked n n
  pub line : text (verdict noise scalar) ≡ checked_text ++ (decimal n ++ (held_text ++ decimal n))

-- any two records that read as those of such a pair are found to hold at all n outputs, and print `checked n held n`
abbrev pub CorrelatedHeld : Type 0
CorrelatedHeld = (noise scalar : List ℕ) (D : Pair) → read_noise noise ≡ Whole (noise_of D) → read_scalar scalar ≡ Whole (scalar_of D)
    → CorrelatedPair D → AllHeld noise scalar D.head.outputs
