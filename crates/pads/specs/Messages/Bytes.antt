-- Bits and blocks in bytes (document 02, 1: bits take a byte each; messages and answers lie as the pads do, 32 bytes an
-- output).
use Rattle.std.specs.Prelude.{List, [], ◌∷◌, ◌++◌, ℕ, ◌+◌, ◌*◌, get_or}
use Rattle.std.specs.Int.Bits.{bit_xor}
use Rattle.algebra.specs.Coding.{Coding, flat}

-- one byte
abbrev pub byte : Coding ℕ
byte = record { width = 1; words = λ b. b ∷ []; read = λ l k. get_or l k 0 }

-- a block: byte i of its 16
abbrev pub Sixteen : Type 0
Sixteen = ℕ → ℕ

-- it takes 16 bytes
abbrev pub sixteen : Coding Sixteen
sixteen = record { width = 16; words = flat byte 16; read = λ l k i. get_or l (k + i) 0 }

-- blocks 0 and 1 of an output
pub record Two : Type 0 where
  pub block0 : Sixteen
  pub block1 : Sixteen

-- they take 32 bytes: block 0, then block 1
abbrev pub thirty_two : Coding Two
thirty_two =
    record {
      width = 32;
      words = λ t. sixteen.words t.block0 ++ sixteen.words t.block1;
      read = λ l k. record { block0 = sixteen.read l k; block1 = sixteen.read l (k + 16) };
    }

-- the block of output k, 16 bytes an output
abbrev pub one_of : List ℕ → ℕ → Sixteen
one_of bytes k = sixteen.read bytes (16 * k)

-- block 0 or 1 of output k, 32 bytes an output
abbrev pub one_of_two : List ℕ → ℕ → ℕ → Sixteen
one_of_two bytes k bit = sixteen.read bytes (32 * k + 16 * bit)

-- a block masked by another: the exclusive or of their bytes
abbrev pub masked : Sixteen → Sixteen → Sixteen
masked a b i = bit_xor (a i) (b i)
