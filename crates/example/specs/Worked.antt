-- The numbers of three small dealings, which can be checked by hand: two in field 1 and one in field 2 (document 01, 'Dealing',
-- 'Offline and online'), each with d = g = t = ℓ = n = 2. So N = 4, a tree is one level of four leaves, leaf c being the child under
-- key c of its root, and a row has a place in {0, 1} and one in {2, 3}.
use Rattle.std.specs.Prelude.{◌≡◌, List, [], ◌∷◌, ◌++◌, ℕ, zero, suc, ◌-◌, replicate}
use Rattle.algebra.specs.Coding.{flat}
use Rattle.algebra.specs.Sum.{accumulate}
use Rattle.prime.specs.Prime.{modulus}
use Rattle.dealing.specs.Input.{Input}
use Rattle.dealing.specs.Vectors.{head, field, leaf, tree_correction, mu, v0, w0, u, v, w}
use Rattle.window.specs.Head.{places, row}
use Rattle.tree.specs.Tree.{listed}

-- n bytes, each one more than the one before
abbrev pub bytes_from : ℕ → ℕ → List ℕ
bytes_from zero byte = []
bytes_from (suc n) byte = byte ∷ bytes_from n (suc byte)

-- ---- inputs

-- positions 0 and 3; roots 01 .. 10 and 11 .. 20; the code key and the label 00 .. 00
abbrev pub small : ℕ → List ℕ → List ℕ → Input
small field values delta =
    record {
      field = field;
      depth = 2;
      branch_bits = 2;
      trees = 2;
      terms = 2;
      outputs = 2;
      roots = bytes_from 32 1;
      positions = 0 ∷ 3 ∷ [];
      values = values;
      delta = delta;
      code_key = replicate 16 0;
      label = replicate 16 0;
    }

abbrev pub binary_input : Input
binary_input = small 1 (1 ∷ 1 ∷ []) (3 ∷ (replicate 14 0 ++ (5 ∷ [])))

-- noise values 5 and p − 2, and Δ = 3
abbrev pub prime_input : Input
prime_input = small 2 (5 ∷ (modulus - 2) ∷ []) (3 ∷ replicate 15 0)

-- another dealing of field 1: positions 0 and 1, roots 21 .. 30 and 31 .. 40, the code key 00 .. 0f, label 1
abbrev pub second_input : Input
second_input =
    record {
      field = 1;
      depth = 2;
      branch_bits = 2;
      trees = 2;
      terms = 2;
      outputs = 2;
      roots = bytes_from 32 33;
      positions = 0 ∷ 1 ∷ [];
      values = 1 ∷ 1 ∷ [];
      delta = 13 ∷ (replicate 14 0 ++ (9 ∷ []));
      code_key = bytes_from 16 0;
      label = 1 ∷ replicate 15 0;
    }

-- ---- the numbers

-- what a dealing gives, in words: an element takes two in field 1, one in field 2
pub record Numbers : Type 0 where
  -- of each tree the elements of its leaves, and its correction
  pub leaves : List (List ℕ)
  pub corrections : List ℕ
  -- accumulated at each place: the noise, v0 and w0
  pub noise : List ℕ
  pub v : List ℕ
  pub w : List ℕ
  -- of each row the places and the coefficients
  pub places : List (List ℕ)
  pub coefficients : List (List ℕ)
  -- at each output
  pub us : List ℕ
  pub vs : List ℕ
  pub ws : List ℕ

-- these are the numbers of the dealing
pub record Worked (I : Input) (N : Numbers) : Type 0 where
  pub leaves : listed I.trees (λ i. flat (field I).elements (places (head I)) (leaf I i)) ≡ N.leaves
  pub corrections : flat (field I).elements I.trees (tree_correction I) ≡ N.corrections
  pub noise : flat (field I).noise_values (places (head I)) (accumulate (field I).ring.group (mu I)) ≡ N.noise
  pub v_accumulated : flat (field I).elements (places (head I)) (accumulate (field I).scaled.group (v0 I)) ≡ N.v
  pub w_accumulated : flat (field I).elements (places (head I)) (accumulate (field I).scaled.group (w0 I)) ≡ N.w
  pub row-places : listed I.outputs (λ x. listed I.terms (row (head I) x).place) ≡ N.places
  pub coefficients : listed I.outputs (λ x. flat (field I).noise_values I.terms (row (head I) x).coefficient) ≡ N.coefficients
  pub u_outputs : flat (field I).noise_values I.outputs (u I) ≡ N.us
  pub v_outputs : flat (field I).elements I.outputs (v I) ≡ N.vs
  pub w_outputs : flat (field I).elements I.outputs (w I) ≡ N.ws

-- field 1: u is 0 at output 0, where w = v, and 1 at output 1, where w = v exclusive-or Δ
abbrev pub binary_numbers : Numbers
binary_numbers =
    record {
      leaves =
          (0x0000bac0bb299d64 ∷ 0x85daf747a8ec9cf2 ∷ 0x3cb93fa45a302e32 ∷ 0x92e30c64f1c1b4b8
          ∷ 0x5a6ac35570162236 ∷ 0x91a6af6e60ec64e2 ∷ 0xcfefafedb18b33b2 ∷ 0xc6aa7102332a0fba ∷ [])
          ∷ (0x9a28a1a19ed7047a ∷ 0x85c9d42fc277bcd1 ∷ 0x5688587b5ac328f1 ∷ 0x4ea6cddcc827fa07
          ∷ 0x66a780d422fb0714 ∷ 0xf1bd9ec57e5100cf ∷ 0xcb57e663a56473f6 ∷ 0x62a7a6cd37a01a99 ∷ [])
          ∷ [];
      corrections =
          0x0000bac0bb299d67 ∷ 0x80daf747a8ec9cf2 ∷ 0xcb57e663a56473f5 ∷ 0x67a7a6cd37a01a99 ∷ [];
      noise = 1 ∷ 1 ∷ 1 ∷ 0 ∷ [];
      v =
          0x9a281b6125fe991d ∷ 0x051323686a9b2023 ∷ 0xf0197cbe250d9fde ∷ 0xd956e2d0537d6e9c
          ∷ 0xccd43f3f77e0bafc ∷ 0xb94dd37b4dc00ab1 ∷ 0xc86c76b1630ffabb ∷ 0x184004b4494a1f92 ∷ [];
      w =
          0x9a281b6125fe991e ∷ 0x001323686a9b2023 ∷ 0xf0197cbe250d9fdd ∷ 0xdc56e2d0537d6e9c
          ∷ 0xccd43f3f77e0baff ∷ 0xbc4dd37b4dc00ab1 ∷ 0xc86c76b1630ffabb ∷ 0x184004b4494a1f92 ∷ [];
      places = (0 ∷ 2 ∷ []) ∷ (1 ∷ 3 ∷ []) ∷ [];
      coefficients = (1 ∷ 1 ∷ []) ∷ (1 ∷ 1 ∷ []) ∷ [];
      us = 0 ∷ 1 ∷ [];
      vs =
          0x56fc245e521e23e1 ∷ 0xbc5ef013275b2a92 ∷ 0x38750a0f46026565 ∷ 0xc116e6641a37710e ∷ [];
      ws =
          0x56fc245e521e23e1 ∷ 0xbc5ef013275b2a92 ∷ 0x38750a0f46026566 ∷ 0xc416e6641a37710e ∷ [];
    }

-- field 2: w = 3 u + v modulo p
abbrev pub prime_numbers : Numbers
prime_numbers =
    record {
      leaves =
          (205336936553828 ∷ 2069755478873746995 ∷ 1903548564237591096 ∷ 1148329865423565752 ∷ [])
          ∷ (1884934159581250686 ∷ 1623644952494024947 ∷ 479493533946545943 ∷ 817375173042009084 ∷ [])
          ∷ [];
      corrections =
          205336936553813 ∷ 817375173042009090 ∷ [];
      noise = 5 ∷ 5 ∷ 5 ∷ 3 ∷ [];
      v =
          1885139496517804499 ∷ 966853909458188539 ∷ 1044052998428631627 ∷ 703915027680512518 ∷ [];
      w =
          1885139496517804514 ∷ 966853909458188554 ∷ 1044052998428631642 ∷ 703915027680512527 ∷ [];
      places = (0 ∷ 2 ∷ []) ∷ (1 ∷ 3 ∷ []) ∷ [];
      coefficients =
          (1020967784227163273 ∷ 623321709412308499 ∷ [])
          ∷ (1373473595023407967 ∷ 1077320958373125376 ∷ [])
          ∷ [];
      us = 1303918440556277007 ∷ 875958813381640159 ∷ [];
      vs =
          2953517028875062 ∷ 375362654010699850 ∷ [];
      ws =
          1608865829484012132 ∷ 697396084941926376 ∷ [];
    }

-- field 1, the other dealing: u is 1 at output 0 and 0 at output 1
abbrev pub second_numbers : Numbers
second_numbers =
    record {
      leaves =
          (0xc86519b39b697519 ∷ 0x87fcfe2e6ae66c46 ∷ 0xf6926a8166ee3252 ∷ 0xe6d06f2df6607544
          ∷ 0x160ea8f9dec9bd20 ∷ 0x7b4bd907674d2779 ∷ 0x7d5eef6a22982c3e ∷ 0x3e268cc9637ef36a ∷ [])
          ∷ (0x5935c446fb4d399f ∷ 0x3ce60bb68a2a50ea ∷ 0x169b0953dce0853a ∷ 0x8f6e44feb108a259
          ∷ 0xe713ff804e5d12f8 ∷ 0xcdde7f575ab47585 ∷ 0x6c4f941435dcb126 ∷ 0xbd74de7a130ad6ac ∷ [])
          ∷ [];
      corrections =
          0xc86519b39b697514 ∷ 0x8efcfe2e6ae66c46 ∷ 0x169b0953dce08537 ∷ 0x866e44feb108a259 ∷ [];
      noise = 1 ∷ 0 ∷ 0 ∷ 0 ∷ [];
      v =
          0x9150ddf560244c8b ∷ 0xb21af598e0cc3cac ∷ 0x7159be27da2afbee ∷ 0xd2a4de4ba7a4ebb1
          ∷ 0x8044e95e4abe5436 ∷ 0x6431781b9a5db94d ∷ 0x915592205dfac92e ∷ 0xe7632aa8ea299c8b ∷ [];
      w =
          0x9150ddf560244c86 ∷ 0xbb1af598e0cc3cac ∷ 0x7159be27da2afbee ∷ 0xd2a4de4ba7a4ebb1
          ∷ 0x8044e95e4abe5436 ∷ 0x6431781b9a5db94d ∷ 0x915592205dfac92e ∷ 0xe7632aa8ea299c8b ∷ [];
      places = (0 ∷ 3 ∷ []) ∷ (1 ∷ 3 ∷ []) ∷ [];
      coefficients = (1 ∷ 1 ∷ []) ∷ (1 ∷ 1 ∷ []) ∷ [];
      us = 1 ∷ 0 ∷ [];
      vs =
          0x00054fd53dde85a5 ∷ 0x5579df300ae5a027 ∷ 0xe00c2c0787d032c0 ∷ 0x35c7f4e34d8d773a ∷ [];
      ws =
          0x00054fd53dde85a8 ∷ 0x5c79df300ae5a027 ∷ 0xe00c2c0787d032c0 ∷ 0x35c7f4e34d8d773a ∷ [];
    }

pub record WorkedDealings : Type 0 where
  pub binary : Worked binary_input binary_numbers
  pub prime : Worked prime_input prime_numbers
  pub second : Worked second_input second_numbers
