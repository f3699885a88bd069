-- Commutative groups, commutative rings, and groups that a ring scales (document 01, 'Questions a reader of the promises may
-- put', the last answer): the operations, and the laws apart from them.
-- A carrier may have values that are no elements, as a word of p or more. The operations make elements of whatever they get.
use Rattle.std.specs.Prelude.{◌≡◌, Bool, true}

-- the parts of a commutative group, whose laws are `GroupLaws`: its carrier, which values are its elements, zero, sum and difference
pub record Group : Type 1 where
  pub Of : Type 0
  pub is_element : Of → Bool
  pub zero : Of
  pub add : Of → Of → Of
  pub sub : Of → Of → Of

-- the value is an element
abbrev pub Element : (G : Group) → G.Of → Type 0
Element G a = G.is_element a ≡ true

-- the laws of a commutative group
pub record GroupLaws (G : Group) : Type 0 where
  pub zero-element : Element G G.zero
  pub add-element : (a b : G.Of) → Element G (G.add a b)
  pub sub-element : (a b : G.Of) → Element G (G.sub a b)
  pub add_comm : (a b : G.Of) → G.add a b ≡ G.add b a
  pub add_assoc : (a b c : G.Of) → G.add (G.add a b) c ≡ G.add a (G.add b c)
  pub zero-add : (a : G.Of) → Element G a → G.add G.zero a ≡ a
  pub add-sub : (a b : G.Of) → Element G a → Element G b → G.add b (G.sub a b) ≡ a

-- the parts of a commutative ring, whose laws are `RingLaws`: a commutative group with one and a product
pub record Ring : Type 1 where
  pub group : Group
  pub one : group.Of
  pub mul : group.Of → group.Of → group.Of

-- a commutative group that a ring scales
pub record Scaled (R : Ring) : Type 1 where
  pub group : Group
  pub scale : R.group.Of → group.Of → group.Of

-- the laws of a commutative ring
pub record RingLaws (R : Ring) : Type 0 where
  pub group : GroupLaws R.group
  pub one-element : Element R.group R.one
  pub mul-element : (a b : R.group.Of) → Element R.group (R.mul a b)
  pub mul_comm : (a b : R.group.Of) → R.mul a b ≡ R.mul b a
  pub mul_assoc : (a b c : R.group.Of) → R.mul (R.mul a b) c ≡ R.mul a (R.mul b c)
  pub one-mul : (a : R.group.Of) → Element R.group a → R.mul R.one a ≡ a
  pub mul-add : (a b c : R.group.Of) → R.mul a (R.group.add b c) ≡ R.group.add (R.mul a b) (R.mul a c)

-- the laws of a group that a ring scales
pub record ScaledLaws (R : Ring) (S : Scaled R) : Type 0 where
  pub group : GroupLaws S.group
  pub scale-element : (c : R.group.Of) (a : S.group.Of) → Element S.group a → Element S.group (S.scale c a)
  pub one-scale : (a : S.group.Of) → Element S.group a → S.scale R.one a ≡ a
  pub zero-scale : (a : S.group.Of) → S.scale R.group.zero a ≡ S.group.zero
  pub scale-add : (c : R.group.Of) (a b : S.group.Of) → S.scale c (S.group.add a b) ≡ S.group.add (S.scale c a) (S.scale c b)
  pub add-scale : (c d : R.group.Of) (a : S.group.Of) → Element R.group c → Element R.group d
      → S.scale (R.group.add c d) a ≡ S.group.add (S.scale c a) (S.scale d a)
  pub mul-scale : (c d : R.group.Of) (a : S.group.Of) → Element R.group c → Element R.group d
      → S.scale (R.mul c d) a ≡ S.scale c (S.scale d a)

-- a ring scales its own group, by its product
abbrev pub itself : (R : Ring) → Scaled R
itself R = record { group = R.group; scale = R.mul }
