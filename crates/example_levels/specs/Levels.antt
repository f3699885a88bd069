-- Two dealings whose trees have more than one level, so that the order of a path's digits and of a tree's siblings shows: one with d = 4
-- and g = 2, two levels of four children, and one with d = 3 and g = 1, three levels of two (document 01, 'Trees'; document 02, 10). Each
-- has one tree, punctured at a place whose digits read backwards give another place: 6, which is 1 2 in base 4 and 1 1 0
-- in base 2. Both are of field 1, where the words of a leaf's element are those of its block.
use Rattle.std.specs.Prelude.{◌≡◌, List, [], ◌∷◌, ◌++◌, map, ℕ, replicate}
use Rattle.field.specs.Bytes.{word_at}
use Rattle.dealing.specs.Input.{Input}
use Rattle.dealing.specs.Parts.{noise_tree}
use Rattle.example.specs.Worked.{bytes_from, Numbers, Worked}

-- one tree, the noise value 1, three outputs
abbrev pub one_tree : ℕ → ℕ → ℕ → ℕ → List ℕ → List ℕ → List ℕ → List ℕ → Input
one_tree depth branch_bits terms position root delta code_key label =
    record {
      field = 1;
      depth = depth;
      branch_bits = branch_bits;
      trees = 1;
      terms = terms;
      outputs = 3;
      roots = root;
      positions = position ∷ [];
      values = 1 ∷ [];
      delta = delta;
      code_key = code_key;
      label = label;
    }

-- root 01 .. 10, the code key and the label 00 .. 00
abbrev pub two_levels : Input
two_levels = one_tree 4 2 3 6 (bytes_from 16 1) (3 ∷ (replicate 14 0 ++ (5 ∷ []))) (replicate 16 0) (replicate 16 0)

-- root 21 .. 30, the code key 02 .. 11, label 1
abbrev pub three_levels : Input
three_levels = one_tree 3 1 2 6 (bytes_from 16 33) (13 ∷ (replicate 14 0 ++ (9 ∷ []))) (bytes_from 16 2) (1 ∷ replicate 15 0)

-- the siblings that tree i's part of the noise record has, each as its two LE words
abbrev pub sibling_words : Input → ℕ → List (List ℕ)
sibling_words I i = map (λ (b : List ℕ). word_at b 0 ∷ word_at b 8 ∷ []) (noise_tree I i).siblings

-- leaf 6 is child 2 of child 1 of the root; in v the correction stands there
abbrev pub two_level_numbers : Numbers
two_level_numbers =
    record {
      leaves =
          (0xd4d5284001553446 ∷ 0x453d7feb7a846e57 ∷ 0xdb365663fe281211 ∷ 0xf5ab3516f187d064
          ∷ 0xf286b7eebc8302e6 ∷ 0x815116f8b16efc7e ∷ 0x8cf00fa57cea71f9 ∷ 0xd1292551b0fba64d
          ∷ 0x57c67de4271aaec7 ∷ 0x189be771e3d7cbae ∷ 0xcd9c4d8bdf29f807 ∷ 0x3c5005a5b63edf2c
          ∷ 0xde7d5c79f48a0952 ∷ 0xe3e632d6cb1d6d1f ∷ 0xcaec3b115aca6f15 ∷ 0xe372e8b0a431ca96
          ∷ 0xc94896305b85aec3 ∷ 0xe680a4e3014b6522 ∷ 0x5f382ef52514095c ∷ 0x7d34de040ce91800
          ∷ 0x4bdb7c8380aede1c ∷ 0xf78bb6404fadf909 ∷ 0x8ff0828af26c5727 ∷ 0xc475ffd89391dcc5
          ∷ 0x68df05786278ef58 ∷ 0x65c8b0d7adcd434d ∷ 0x793a11a4f2a107f2 ∷ 0x8663f87bec313c12
          ∷ 0xd8e5b320696d5fa9 ∷ 0x65c4bfe17b6adf2b ∷ 0x7b29587d93f9b0e8 ∷ 0x6eefc6f3f78cb8e7 ∷ [])
          ∷ [];
      corrections = 0xde7d5c79f48a0951 ∷ 0xe6e632d6cb1d6d1f ∷ [];
      noise = 0 ∷ 0 ∷ 0 ∷ 0 ∷ 0 ∷ 0 ∷ 1 ∷ 1 ∷ 1 ∷ 1 ∷ 1 ∷ 1 ∷ 1 ∷ 1 ∷ 1 ∷ 1 ∷ [];
      v =
          0xd4d5284001553446 ∷ 0x453d7feb7a846e57 ∷ 0x0fe37e23ff7d2657 ∷ 0xb0964afd8b03be33
          ∷ 0xfd65c9cd43fe24b1 ∷ 0x31c75c053a6d424d ∷ 0x7195c6683f145548 ∷ 0xe0ee79548a96e400
          ∷ 0x2653bb8c180efb8f ∷ 0xf8759e2569412fae ∷ 0xebcff607c7270388 ∷ 0xc4259b80df7ff082
          ∷ 0x35b2aa7e33ad0ad9 ∷ 0x22c3a95614629d9d ∷ 0xff5e916f696765cc ∷ 0xc1b141e6b053570b
          ∷ 0x3616075f32e2cb0f ∷ 0x2731e505b1183229 ∷ 0x692e29aa17f6c253 ∷ 0x5a053b01bdf12a29
          ∷ 0x22f5552997581c4f ∷ 0xad8e8d41f25cd320 ∷ 0xad05d7a365344b68 ∷ 0x69fb729961cd0fe5
          ∷ 0xc5dad2db074ca430 ∷ 0x0c33c24ecc004ca8 ∷ 0xbce0c37ff5eda3c2 ∷ 0x8a503a35203170ba
          ∷ 0x6405705f9c80fc6b ∷ 0xef9485d45b5baf91 ∷ 0x1f2c28220f794c83 ∷ 0x817b4327acd71776 ∷ [];
      w =
          0xd4d5284001553446 ∷ 0x453d7feb7a846e57 ∷ 0x0fe37e23ff7d2657 ∷ 0xb0964afd8b03be33
          ∷ 0xfd65c9cd43fe24b1 ∷ 0x31c75c053a6d424d ∷ 0x7195c6683f145548 ∷ 0xe0ee79548a96e400
          ∷ 0x2653bb8c180efb8f ∷ 0xf8759e2569412fae ∷ 0xebcff607c7270388 ∷ 0xc4259b80df7ff082
          ∷ 0x35b2aa7e33ad0ada ∷ 0x27c3a95614629d9d ∷ 0xff5e916f696765cf ∷ 0xc4b141e6b053570b
          ∷ 0x3616075f32e2cb0c ∷ 0x2231e505b1183229 ∷ 0x692e29aa17f6c250 ∷ 0x5f053b01bdf12a29
          ∷ 0x22f5552997581c4c ∷ 0xa88e8d41f25cd320 ∷ 0xad05d7a365344b6b ∷ 0x6cfb729961cd0fe5
          ∷ 0xc5dad2db074ca433 ∷ 0x0933c24ecc004ca8 ∷ 0xbce0c37ff5eda3c1 ∷ 0x8f503a35203170ba
          ∷ 0x6405705f9c80fc68 ∷ 0xea9485d45b5baf91 ∷ 0x1f2c28220f794c80 ∷ 0x847b4327acd71776 ∷ [];
      places = (2 ∷ 5 ∷ 14 ∷ []) ∷ (3 ∷ 7 ∷ 12 ∷ []) ∷ (2 ∷ 7 ∷ 11 ∷ []) ∷ [];
      coefficients = (1 ∷ 1 ∷ 1 ∷ []) ∷ (1 ∷ 1 ∷ 1 ∷ []) ∷ (1 ∷ 1 ∷ 1 ∷ []) ∷ [];
      us = 1 ∷ 0 ∷ 0 ∷ [];
      vs = 0x72af4f951859db52 ∷ 0x1a764251be491d5e ∷ 0x4b1185dc513f94b4 ∷ 0x2d6cfafcf6c5ffa3
          ∷ 0xaf3e8f014fad0a15 ∷ 0x998d6f7aebf31aa3 ∷ [];
      ws = 0x72af4f951859db51 ∷ 0x1f764251be491d5e ∷ 0x4b1185dc513f94b4 ∷ 0x2d6cfafcf6c5ffa3
          ∷ 0xaf3e8f014fad0a15 ∷ 0x998d6f7aebf31aa3 ∷ [];
    }

-- the siblings top first, rising within a level: children 0, 2 and 3 of the root, then leaves 4, 5 and 7, as they stand above
abbrev pub two_level_siblings : List (List ℕ)
two_level_siblings =
    (0x0000bac0bb299d64 ∷ 0x85daf747a8ec9cf2 ∷ [])
    ∷ (0x5a6ac35570162236 ∷ 0x91a6af6e60ec64e2 ∷ [])
    ∷ (0xcfefafedb18b33b2 ∷ 0xc6aa7102332a0fba ∷ [])
    ∷ (0x57c67de4271aaec7 ∷ 0x189be771e3d7cbae ∷ [])
    ∷ (0xcd9c4d8bdf29f807 ∷ 0x3c5005a5b63edf2c ∷ [])
    ∷ (0xcaec3b115aca6f15 ∷ 0xe372e8b0a431ca96 ∷ [])
    ∷ []

-- leaf 6 is child 0 of child 1 of child 1 of the root
abbrev pub three_level_numbers : Numbers
three_level_numbers =
    record {
      leaves =
          (0x074434ded0ab17a4 ∷ 0x368af4ed88a40fbf ∷ 0x9439ab928d8c108f ∷ 0xd48f6a29c0a0e620
          ∷ 0x5fffd8a973624535 ∷ 0x9cb2e467cc2b4431 ∷ 0xaf02d1e23c9147bd ∷ 0xe9c69c8c52e7fcc6
          ∷ 0x994be8cc78d398ee ∷ 0x5fe782b9fdfc2af3 ∷ 0x4f99a455d3cf12b4 ∷ 0xe9002414ccaf54ce
          ∷ 0x0f46d0a45111550a ∷ 0x6448665d26c0b503 ∷ 0x38bf3881735e4fc5 ∷ 0x3ff9741e80caeba9 ∷ [])
          ∷ [];
      corrections = 0x0f46d0a451115507 ∷ 0x6d48665d26c0b503 ∷ [];
      noise = 0 ∷ 0 ∷ 0 ∷ 0 ∷ 0 ∷ 0 ∷ 1 ∷ 1 ∷ [];
      v =
          0x074434ded0ab17a4 ∷ 0x368af4ed88a40fbf ∷ 0x937d9f4c5d27072b ∷ 0xe2059ec44804e99f
          ∷ 0xcc8247e52e45421e ∷ 0x7eb77aa3842fadae ∷ 0x6380960712d405a3 ∷ 0x9771e62fd6c85168
          ∷ 0xfacb7ecb6a079d4d ∷ 0xc89664962b347b9b ∷ 0xb552da9eb9c88ff9 ∷ 0x21964082e79b2f55
          ∷ 0xba140a3ae8d9dafe ∷ 0x4cde26dfc15b9a56 ∷ 0x82ab32bb9b87953b ∷ 0x732752c1419171ff ∷ [];
      w =
          0x074434ded0ab17a4 ∷ 0x368af4ed88a40fbf ∷ 0x937d9f4c5d27072b ∷ 0xe2059ec44804e99f
          ∷ 0xcc8247e52e45421e ∷ 0x7eb77aa3842fadae ∷ 0x6380960712d405a3 ∷ 0x9771e62fd6c85168
          ∷ 0xfacb7ecb6a079d4d ∷ 0xc89664962b347b9b ∷ 0xb552da9eb9c88ff9 ∷ 0x21964082e79b2f55
          ∷ 0xba140a3ae8d9daf3 ∷ 0x45de26dfc15b9a56 ∷ 0x82ab32bb9b879536 ∷ 0x7a2752c1419171ff ∷ [];
      places = (0 ∷ 6 ∷ []) ∷ (1 ∷ 6 ∷ []) ∷ (1 ∷ 4 ∷ []) ∷ [];
      coefficients = (1 ∷ 1 ∷ []) ∷ (1 ∷ 1 ∷ []) ∷ (1 ∷ 1 ∷ []) ∷ [];
      us = 1 ∷ 1 ∷ 0 ∷ [];
      vs = 0xbd503ee43872cd5a ∷ 0x7a54d23249ff95e9 ∷ 0x29699576b5feddd5 ∷ 0xaedbb81b895f73c9
          ∷ 0x69b6e18737209a66 ∷ 0x2a93fa5263309204 ∷ [];
      ws = 0xbd503ee43872cd57 ∷ 0x7354d23249ff95e9 ∷ 0x29699576b5feddd8 ∷ 0xa7dbb81b895f73c9
          ∷ 0x69b6e18737209a66 ∷ 0x2a93fa5263309204 ∷ [];
    }

-- the siblings: child 0 of the root, child 0 of its child 1, and leaf 7, as it stands above
abbrev pub three_level_siblings : List (List ℕ)
three_level_siblings =
    (0xc86519b39b697519 ∷ 0x87fcfe2e6ae66c46 ∷ [])
    ∷ (0xf1a84d22fc249acc ∷ 0xa85925209b74f047 ∷ [])
    ∷ (0x38bf3881735e4fc5 ∷ 0x3ff9741e80caeba9 ∷ [])
    ∷ []

pub record WorkedLevels : Type 0 where
  pub two : Worked two_levels two_level_numbers
  pub two-siblings : sibling_words two_levels 0 ≡ two_level_siblings
  pub three : Worked three_levels three_level_numbers
  pub three-siblings : sibling_words three_levels 0 ≡ three_level_siblings
