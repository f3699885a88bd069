-- Which input a dealing admits (document 01, 'Sizes', 'Dealing'), apart from the numbers of the call.
use Rattle.std.specs.Prelude.{◌≡◌, ◌⊎◌, ℕ, ◌-◌, ◌*◌, ◌/◌, ◌%◌, ◌^◌, ◌≤◌, ◌<◌, length, get_or}
use Rattle.algebra.specs.Expansion.{Rising}
use Rattle.field.specs.Bytes.{word_at}
use Rattle.prime.specs.Prime.{modulus}
use Rattle.dealing.specs.Input.{Input, position}

-- what lies in lent memory: bytes below 256, positions of 32 bits, words of 64
pub record InMemory (I : Input) : Type 0 where
  pub roots : (i : ℕ) → get_or I.roots i 0 < 256
  pub positions : (i : ℕ) → get_or I.positions i 0 < 2 ^ 32
  pub values : (i : ℕ) → get_or I.values i 0 < 2 ^ 64
  pub delta : (i : ℕ) → get_or I.delta i 0 < 256
  pub code_key : (i : ℕ) → get_or I.code_key i 0 < 256
  pub label : (i : ℕ) → get_or I.label i 0 < 256

-- Δ: never zero; in field 2 the first eight bytes as an LE word are below p and the rest are 00
pub record DeltaAdmitted (I : Input) : Type 0 where
  pub binary : I.field ≡ 1 → (word_at I.delta 0 ≡ 0) × (word_at I.delta 8 ≡ 0) → ⊥
  pub prime : I.field ≡ 2 → (0 < word_at I.delta 0) × (word_at I.delta 0 < modulus) × (word_at I.delta 8 ≡ 0)

-- a noise value: 1 in field 1, 1 to p − 1 in field 2
pub record NoiseAdmitted (field value : ℕ) : Type 0 where
  pub binary : field ≡ 1 → value ≡ 1
  pub prime : field ≡ 2 → (1 ≤ value) × (value ≤ modulus - 1)

-- admitted input: sizes, lengths, positions, noise values, Δ
pub record Admitted (I : Input) : Type 0 where
  pub field : (I.field ≡ 1) ⊎ (I.field ≡ 2)
  pub depth : (1 ≤ I.depth) × (I.depth ≤ 16)
  pub branch : (1 ≤ I.branch_bits) × (I.branch_bits ≤ 3) × (I.depth % I.branch_bits ≡ 0)
  pub trees : (1 ≤ I.trees) × (I.trees ≤ 64) × (I.trees ≤ 2 ^ I.depth)
  pub terms : (1 ≤ I.terms) × (I.terms ≤ 32) × (I.terms ≤ 2 ^ I.depth)
  pub outputs : (1 ≤ I.outputs) × (I.outputs ≤ 2 ^ I.depth / 2)
  pub roots : length I.roots ≡ 16 * I.trees
  pub positions : length I.positions ≡ I.trees
  pub values : length I.values ≡ I.trees
  pub delta : length I.delta ≡ 16
  pub code_key : length I.code_key ≡ 16
  pub label : length I.label ≡ 16
  pub rising : Rising I.trees (position I)
  pub below : (i : ℕ) → i < I.trees → position I i < 2 ^ I.depth
  pub noise : (i : ℕ) → i < I.trees → NoiseAdmitted I.field (get_or I.values i 0)
  pub scalar : DeltaAdmitted I
