-- One of document 01's two fields ('Two fields'), as one parameter: the ring of noise values, the group of elements that it
-- scales, and how both lie in words.
use Rattle.algebra.specs.Group.{Ring, Scaled, RingLaws, ScaledLaws}
use Rattle.algebra.specs.Coding.{Coding, CodingLaws}

pub record Field : Type 1 where
  pub ring : Ring
  pub scaled : Scaled ring
  pub noise_values : Coding ring.group.Of
  pub elements : Coding scaled.group.Of

-- the noise values, which scale the elements; document 01's scalar Δ is an element
abbrev pub NoiseValue : Field → Type 0
NoiseValue F = F.ring.group.Of

-- the elements
abbrev pub Value : Field → Type 0
Value F = F.scaled.group.Of

-- the laws of its ring, of the group that the ring scales, and of both codings
pub record FieldLaws (F : Field) : Type 0 where
  pub ring : RingLaws F.ring
  pub scaled : ScaledLaws F.ring F.scaled
  pub noise_values : CodingLaws F.noise_values
  pub elements : CodingLaws F.elements
