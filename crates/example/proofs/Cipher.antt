-- The cipher with the S-box and the products by 2 and 3 looked up, equal to FIPS 197's by its definitions: so that a block costs the
-- checker a fraction of what the rules cost.
use mathlib.Core.Path.{◌≡◌, refl, sym, ap, ◌∙◌}
use mathlib.Core.Bool.{Bool, true, false}
use mathlib.Core.List.{List, [], ◌∷◌, ◌++◌}
use Prim.Native.Nat.{ℕ, zero, suc, ◌+◌, ◌-◌, ◌/◌, ◌%◌, ◌^◌}
use borrow.Author.Tests.{ltb-true, eqb-true}
use lib.Bits.{bit_xor}
use lib.Dec.{eqb, ltb}
use lib.ListN.{get_or}
use Rattle.algebra.specs.Choice.{choose}
use Rattle.algebra.specs.Every.{every}
use Rattle.algebra.proofs.Every.{every_at}
use Rattle.aes_sbox.specs.Byte.{xtime, multiples, mul_bytes, squares, inverse, from_bits, affine, s_box}
use Rattle.aes128.specs.State.{four, column, byte_at, xor_word}
use Rattle.aes128.specs.Cipher.{sub_bytes, shift_rows, mix_column, mix_columns, add_round_key, round_key, rounds, cipher, rot_word, rcon, temp, schedule_words, keys_of, key_expansion}

-- ---- tables of 256 bytes, as four numbers of 64 bytes each, least byte first

-- entry x of such a table
abbrev pub entry : List ℕ → ℕ → ℕ
entry t x = get_or t (x / 64) 0 / 256 ^ (x % 64) % 256

-- the table below 256, the rule from there on
unfoldable pub looked_from : List ℕ → (ℕ → ℕ) → Bool → ℕ → ℕ
looked_from t f true x = entry t x
looked_from t f false x = f x

unfoldable pub looked : List ℕ → (ℕ → ℕ) → ℕ → ℕ
looked t f x = looked_from t f (ltb x 256) x

-- a table whose entries are the rule's at 0 to 255 gives the rule everywhere
looked_is : (t : List ℕ) (f : ℕ → ℕ) → every 256 (λ x. eqb (entry t x) (f x)) ≡ true → f ≡ looked t f
unfolding looked looked_from
looked_is t f h i x = from x (ltb x 256) refl i
  where
    from : (x : ℕ) (b : Bool) → ltb x 256 ≡ b → f x ≡ looked_from t f (ltb x 256) x
    from x true e = rw e (sym (eqb-true (entry t x) (f x) (every_at (λ y. eqb (entry t y) (f y)) x 256 h (ltb-true x 256 e))))
    from x false e = rw e

-- the S-box, and the products by 2 and by 3
abbrev pub s_boxes : List ℕ
s_boxes =
    0x75b227ebe28012079a059618c323c7041531d871f1e5a534ccf73f362693fdb7c072a49cafa2d4adf04759fa7dc982ca76abd7fe2b670130c56f6bf27b777c63
    ∷ 0xd2f3ff1021dab6bcf5389d928f40a351a89f3c507f02f94585334d43fbaaefd0cf584c4a39becb6a5bb1fc20ed00d153842fe329b3d63b52a05a6e1b1a2c8309
    ∷ 0x08ae7a65eaf4566ca94ed58d6d37c8e779e4959162acd3c25c2406490a3a32e0db0b5ede14b8ee4688902a22dc4f816073195d643d7ea7c41744975fec130ccd
    ∷ 0x16bb54b00f2d99416842e6bf0d89a18cdf2855cee9871e9b948ed9691198f8e19e1dc186b95735610ef6034866b53e708a8bbd4b1f74dde8c6b4a61c2e2578ba
    ∷ []

abbrev pub doubles : List ℕ
doubles =
    0x7e7c7a78767472706e6c6a68666462605e5c5a58565452504e4c4a48464442403e3c3a38363432302e2c2a28262422201e1c1a18161412100e0c0a0806040200
    ∷ 0xfefcfaf8f6f4f2f0eeeceae8e6e4e2e0dedcdad8d6d4d2d0cecccac8c6c4c2c0bebcbab8b6b4b2b0aeacaaa8a6a4a2a09e9c9a98969492908e8c8a8886848280
    ∷ 0x656761636d6f696b757771737d7f797b454741434d4f494b555751535d5f595b252721232d2f292b353731333d3f393b050701030d0f090b151711131d1f191b
    ∷ 0xe5e7e1e3edefe9ebf5f7f1f3fdfff9fbc5c7c1c3cdcfc9cbd5d7d1d3dddfd9dba5a7a1a3adafa9abb5b7b1b3bdbfb9bb858781838d8f898b959791939d9f999b
    ∷ []

abbrev pub triples : List ℕ
triples =
    0x414247444d4e4b48595a5f5c55565350717277747d7e7b78696a6f6c65666360212227242d2e2b28393a3f3c35363330111217141d1e1b18090a0f0c05060300
    ∷ 0x818287848d8e8b88999a9f9c95969390b1b2b7b4bdbebbb8a9aaafaca5a6a3a0e1e2e7e4edeeebe8f9fafffcf5f6f3f0d1d2d7d4dddedbd8c9cacfccc5c6c3c0
    ∷ 0xdad9dcdfd6d5d0d3c2c1c4c7cecdc8cbeae9ecefe6e5e0e3f2f1f4f7fefdf8fbbab9bcbfb6b5b0b3a2a1a4a7aeada8ab8a898c8f86858083929194979e9d989b
    ∷ 0x1a191c1f16151013020104070e0d080b2a292c2f26252023323134373e3d383b7a797c7f76757073626164676e6d686b4a494c4f46454043525154575e5d585b
    ∷ []

s_box_looked : s_box ≡ looked s_boxes s_box
unfolding every xtime multiples mul_bytes squares inverse from_bits affine s_box
s_box_looked = looked_is s_boxes s_box refl

double_looked : mul_bytes 2 ≡ looked doubles (mul_bytes 2)
unfolding every xtime multiples mul_bytes
double_looked = looked_is doubles (mul_bytes 2) refl

triple_looked : mul_bytes 3 ≡ looked triples (mul_bytes 3)
unfolding every xtime multiples mul_bytes
triple_looked = looked_is triples (mul_bytes 3) refl

-- ---- the cipher over any S-box and any products by 2 and 3

module _ (sub double triple : ℕ → ℕ) where
  -- one column of MixColumns
  unfoldable pub mix_by : List ℕ → List ℕ
  mix_by s =
      let s0 = get_or s 0 0 in
      let s1 = get_or s 1 0 in
      let s2 = get_or s 2 0 in
      let s3 = get_or s 3 0 in
      bit_xor (bit_xor (bit_xor (double s0) (triple s1)) s2) s3
      ∷ bit_xor (bit_xor (bit_xor s0 (double s1)) (triple s2)) s3
      ∷ bit_xor (bit_xor (bit_xor s0 s1) (double s2)) (triple s3)
      ∷ bit_xor (bit_xor (bit_xor (triple s0) s1) s2) (double s3)
      ∷ []

  -- SubBytes
  unfoldable pub sub_by : List (List ℕ) → List (List ℕ)
  sub_by s = four (λ c. four (λ r. sub (byte_at s r c)))

  -- one round, and n rounds after the first AddRoundKey
  unfoldable pub round_by : List (List ℕ) → List (List ℕ) → List (List ℕ)
  round_by k s = let t = shift_rows (sub_by s) in add_round_key (four (λ c. mix_by (column t c))) k

  unfoldable pub rounds_by : List (List (List ℕ)) → ℕ → List (List ℕ) → List (List ℕ)
  rounds_by w zero s = add_round_key s (round_key w 0)
  rounds_by w (suc n) s = round_by (round_key w (suc n)) (rounds_by w n s)

  -- Cipher
  unfoldable pub cipher_by : List (List (List ℕ)) → List (List ℕ) → List (List ℕ)
  cipher_by w s = add_round_key (shift_rows (sub_by (rounds_by w 9 s))) (round_key w 10)

  -- what KeyExpansion adds to w[i - 4], and its words w[0] to w[n + 3]
  unfoldable pub temp_by : ℕ → List ℕ → List ℕ
  temp_by i t = choose (eqb (i % 4) 0) (xor_word (four (λ r. sub (get_or (rot_word t) r 0))) (rcon (i / 4))) t

  unfoldable pub words_by : List (List ℕ) → ℕ → List (List ℕ)
  words_by key zero = key
  words_by key (suc n) =
      let w = words_by key n in
      w ++ (xor_word (get_or w (n + 4 - 4) []) (temp_by (n + 4) (get_or w (n + 4 - 1) [])) ∷ [])

-- at the rules themselves it is FIPS 197's
rounds-by : (w : List (List (List ℕ))) (n : ℕ) (s : List (List ℕ)) → rounds w n s ≡ rounds_by s_box (mul_bytes 2) (mul_bytes 3) w n s
unfolding rounds rounds_by round_by mix_columns mix_column mix_by sub_bytes sub_by
rounds-by w zero s = refl
rounds-by w (suc n) s = ap (round_by s_box (mul_bytes 2) (mul_bytes 3) (round_key w (suc n))) (rounds-by w n s)

words-by : (key : List (List ℕ)) (n : ℕ) → schedule_words key n ≡ words_by s_box (mul_bytes 2) (mul_bytes 3) key n
unfolding schedule_words words_by temp temp_by
words-by key zero = refl
words-by key (suc n) =
    ap (λ w. w ++ (xor_word (get_or w (n + 4 - 4) []) (temp (n + 4) (get_or w (n + 4 - 1) [])) ∷ [])) (words-by key n)

-- ---- so the cipher is the one that looks up

unfoldable pub looked_cipher : List (List (List ℕ)) → List (List ℕ) → List (List ℕ)
looked_cipher = cipher_by (looked s_boxes s_box) (looked doubles (mul_bytes 2)) (looked triples (mul_bytes 3))

unfoldable pub looked_words : List (List ℕ) → ℕ → List (List ℕ)
looked_words = words_by (looked s_boxes s_box) (looked doubles (mul_bytes 2)) (looked triples (mul_bytes 3))

pub cipher_looked : (w : List (List (List ℕ))) (s : List (List ℕ)) → cipher w s ≡ looked_cipher w s
unfolding cipher cipher_by sub_bytes sub_by looked_cipher
cipher_looked w s =
    ap (λ t. add_round_key (shift_rows (sub_bytes t)) (round_key w 10)) (rounds-by w 9 s)
    ∙ (λ i. cipher_by (s_box_looked i) (double_looked i) (triple_looked i) w s)

pub words_looked : (key : List (List ℕ)) (n : ℕ) → schedule_words key n ≡ looked_words key n
unfolding looked_words
words_looked key n = words-by key n ∙ (λ i. words_by (s_box_looked i) (double_looked i) (triple_looked i) key n)

unfoldable pub looked_keys : List (List ℕ) → List (List (List ℕ))
looked_keys key = keys_of (looked_words key 40) 11

pub keys_looked : (key : List (List ℕ)) → key_expansion key ≡ looked_keys key
unfolding key_expansion looked_keys
keys_looked key = ap (λ w. keys_of w 11) (words_looked key 40)
