-- Two layers of each field, computed: a small dealing of `example`, and a second one with its field, d, ℓ, n, Δ and code key and with g, t,
-- roots, positions and label of its own. Their vectors are added by the call, and u, v and w of the source are the sums.
use Rattle.std.specs.Prelude.{◌≡◌, List, [], ◌∷◌, ℕ, replicate}
use Rattle.algebra.specs.Coding.{flat}
use Rattle.algebra.specs.Order.{term, ◌into◌}
use Rattle.dealing.specs.Input.{Input}
use Rattle.example.specs.Worked.{bytes_from, Numbers, Worked, binary_input, prime_input}
use Rattle.layer_claims.specs.Correlation.{Orders, noise_end, scalar_end}
use Rattle.layer_claims.specs.Layers.{Layers, field, u, v, w}

-- the second: one tree of two levels, two children a node, from root 21 .. 30, with noise 1 at place 2; label 1
abbrev pub second : Input → Input
second I =
    record {
      field = I.field;
      depth = I.depth;
      branch_bits = 1;
      trees = 1;
      terms = I.terms;
      outputs = I.outputs;
      roots = bytes_from 16 33;
      positions = 2 ∷ [];
      values = 1 ∷ [];
      delta = I.delta;
      code_key = I.code_key;
      label = 1 ∷ replicate 15 0;
    }

-- its numbers in field 1: u is 1 at both outputs
abbrev pub second_binary : Numbers
second_binary =
    record {
      leaves =
          (0x0573e179bb0485b5 ∷ 0xca3e928ce06dcfb1 ∷ 0xdaa5942af3c9ec84 ∷ 0x838e4cf7ade27c3c
          ∷ 0xf1a84d22fc249acc ∷ 0xa85925209b74f047 ∷ 0x4778a8fdba8b2481 ∷ 0xf80ac8f8ec585985 ∷ []) ∷ [];
      corrections = 0xf1a84d22fc249acf ∷ 0xad5925209b74f047 ∷ [];
      noise = 0 ∷ 0 ∷ 1 ∷ 1 ∷ [];
      v =
          0x0573e179bb0485b5 ∷ 0xca3e928ce06dcfb1 ∷ 0xdfd6755348cd6931 ∷ 0x49b0de7b4d8fb38d
          ∷ 0x2e7e3871b4e9f3fe ∷ 0xe4e9fb5bd6fb43ca ∷ 0x6906908c0e62d77f ∷ 0x1ce333a33aa31a4f ∷ [];
      w =
          0x0573e179bb0485b5 ∷ 0xca3e928ce06dcfb1 ∷ 0xdfd6755348cd6931 ∷ 0x49b0de7b4d8fb38d
          ∷ 0x2e7e3871b4e9f3fd ∷ 0xe1e9fb5bd6fb43ca ∷ 0x6906908c0e62d77c ∷ 0x19e333a33aa31a4f ∷ [];
      places = (0 ∷ 2 ∷ []) ∷ (1 ∷ 3 ∷ []) ∷ [];
      coefficients =
          (1 ∷ 1 ∷ []) ∷ (1 ∷ 1 ∷ []) ∷ [];
      us = 1 ∷ 1 ∷ [];
      vs =
          0x2b0dd9080fed764b ∷ 0x2ed769d736968c7b ∷ 0xb6d0e5df46afbe4e ∷ 0x5553edd8772ca9c2 ∷ [];
      ws =
          0x2b0dd9080fed7648 ∷ 0x2bd769d736968c7b ∷ 0xb6d0e5df46afbe4d ∷ 0x5053edd8772ca9c2 ∷ [];
    }

-- and in field 2
abbrev pub second_prime : Numbers
second_prime =
    record {
      leaves =
          (392905505456293301 ∷ 1920103728343018634 ∷ 1272351707386649299 ∷ 538365963180647555 ∷ []) ∷ [];
      corrections = 1272351707386649296 ∷ [];
      noise = 0 ∷ 0 ∷ 1 ∷ 1 ∷ [];
      v =
          392905505456293301 ∷ 7166224585617984 ∷ 1279517931972267280 ∷ 1817883895152914835 ∷ [];
      w =
          392905505456293301 ∷ 7166224585617984 ∷ 1279517931972267283 ∷ 1817883895152914838 ∷ [];
      places = (0 ∷ 2 ∷ []) ∷ (1 ∷ 3 ∷ []) ∷ [];
      coefficients =
          (1020967784227163273 ∷ 623321709412308499 ∷ []) ∷ (1373473595023407967 ∷ 1077320958373125376 ∷ []) ∷ [];
      us = 623321709412308499 ∷ 1077320958373125376 ∷ [];
      vs =
          548882418709818881 ∷ 1391659782185687607 ∷ [];
      ws =
          113004537733050427 ∷ 11936638877675833 ∷ [];
    }

-- the sums: the vectors in memory once one is added to the other, and u, v and w at each output
pub record Sums : Type 0 where
  pub noise : List ℕ
  pub v : List ℕ
  pub w : List ℕ
  pub us : List ℕ
  pub vs : List ℕ
  pub ws : List ℕ

-- field 1: u is 1 at output 0, where w = v exclusive-or Δ, and 0 at output 1, where w = v
abbrev pub binary_sums : Sums
binary_sums =
    record {
      noise = 1 ∷ 1 ∷ 0 ∷ 1 ∷ [];
      v =
          0x9f5bfa189efa1ca8 ∷ 0xcf2db1e48af6ef92 ∷ 0x2fcf09ed6dc0f6ef ∷ 0x90e63cab1ef2dd11
          ∷ 0xe2aa074ec3094902 ∷ 0x5da428209b3b497b ∷ 0xa16ae63d6d6d2dc4 ∷ 0x04a3371773e905dd ∷ [];
      w =
          0x9f5bfa189efa1cab ∷ 0xca2db1e48af6ef92 ∷ 0x2fcf09ed6dc0f6ec ∷ 0x95e63cab1ef2dd11
          ∷ 0xe2aa074ec3094902 ∷ 0x5da428209b3b497b ∷ 0xa16ae63d6d6d2dc7 ∷ 0x01a3371773e905dd ∷ [];
      us = 1 ∷ 0 ∷ [];
      vs =
          0x7df1fd565df355aa ∷ 0x928999c411cda6e9 ∷ 0x8ea5efd000addb2b ∷ 0x94450bbc6d1bd8cc ∷ [];
      ws =
          0x7df1fd565df355a9 ∷ 0x978999c411cda6e9 ∷ 0x8ea5efd000addb2b ∷ 0x94450bbc6d1bd8cc ∷ [];
    }

-- field 2: w = 3 u + v modulo p
abbrev pub prime_sums : Sums
prime_sums =
    record {
      noise = 5 ∷ 5 ∷ 6 ∷ 4 ∷ [];
      v =
          2278045001974097800 ∷ 974020134043806523 ∷ 17727921187204956 ∷ 215955913619733402 ∷ [];
      w =
          2278045001974097815 ∷ 974020134043806538 ∷ 17727921187204974 ∷ 215955913619733414 ∷ [];
      us = 1927240149968585506 ∷ 1953279771754765535 ∷ [];
      vs =
          551835935738693943 ∷ 1767022436196387457 ∷ [];
      ws =
          1721870367217062559 ∷ 709332723819602209 ∷ [];
    }

-- these are the numbers of the second layer and of the sum of both, the second added into the first
pub record TwoLayers (I : Input) (N : Numbers) (A : Sums) : Type 0 where
  pub layers : Layers
  pub two : layers.count ≡ 2
  pub first-input : (layers.layer 0).input ≡ I
  pub second-input : (layers.layer 1).input ≡ second I
  pub second-numbers : Worked (second I) N
  pub orders : Orders layers
  pub second-into-first : orders.w ≡ term 1 into term 0
  pub noise : (noise_end layers orders).start.noise ≡ A.noise
  pub v_accumulated : (noise_end layers orders).start.v ≡ A.v
  pub w_accumulated : (scalar_end layers orders).start.w ≡ A.w
  pub u_outputs : flat (field layers).noise_values 2 (u layers) ≡ A.us
  pub v_outputs : flat (field layers).elements 2 (v layers) ≡ A.vs
  pub w_outputs : flat (field layers).elements 2 (w layers) ≡ A.ws

pub record LayersExample : Type 0 where
  pub binary : TwoLayers binary_input second_binary binary_sums
  pub prime : TwoLayers prime_input second_prime prime_sums
