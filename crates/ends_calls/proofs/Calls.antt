-- Each return of the calls gives what the definition says there: what was read, and which tests were met before it.
use mathlib.Core.Path.{◌≡◌, refl, sym, ap, ◌∙◌}
use mathlib.Core.Bool.{Bool, true, false, not, ◌&&◌}
use mathlib.Core.List.{List, ◌++◌}
use Prim.Native.Nat.{ℕ, ◌*◌, ◌^◌, ◌≤◌, ◌<◌}
use native.Mathlib.Omega.{arith}
use lib.ListN.{length, take, drop}
use lib.Seq.{length-take-le}
use mir.Syntax.{w64}
use mir.Val.{Fits}
use Rattle.answer.specs.Tests.{first_fault, AllMet}
use Rattle.answer.specs.Numbers.{accepted as accepted_is, not_element}
use Rattle.answer.specs.Outcome.{TwoWritten, refused_one, refused_two, wrote}
use Rattle.answer.specs.Refused.{number_of}
use Rattle.answer.specs.declared.Refusal.{Refusal}
use Rattle.answer.proofs.Faults.{admitted_by}
use Rattle.algebra.specs.Coding.{Coding, flat, over}
use Rattle.algebra.specs.Sum.{accumulate}
use Rattle.field.specs.Kind.{kind_of, element_words}
use Rattle.number.proofs.Records.{read-refused}
use Rattle.number.specs.Reading.{Whole, Refused}
use Rattle.record.specs.Reading.{read_head, read_noise, read_scalar}
use Rattle.record.specs.Answer.{head_of, head_if_whole}
use Rattle.record.specs.declared.Layout.{Layout}
use Rattle.aes128.specs.Cipher.{aes}
use Rattle.algebra.specs.Choice.{choose}
use Rattle.algebra.proofs.Every.{every-both}
use Rattle.code.specs.Row.{term_block, row_of_blocks}
use Rattle.code.specs.Inner.Rows.{term_block_by}
use Rattle.code.specs.declared.Window.{Window}
use Rattle.window.specs.Head.{field_of, of_noise}
use Rattle.window.specs.Inner.Numbers.{length_tests, element_tests}
use Rattle.window.specs.Inner.Outputs.{code_keys, shape_of, rows_of, window_over}
use Rattle.window.specs.Inner.Testing.{Fitting, elements_used}
use Rattle.window.specs.Usable.{window_usable}
use Rattle.window.proofs.Numbers.{count_fits, passed_fits, elements-alone}
use Rattle.window.proofs.Tested.{test-passed, test-failed}
use Rattle.ends.specs.Noise.Online as noise_online
use Rattle.ends.specs.Scalar.Online as scalar_online
use Rattle.ends.specs.Noise.Offline as noise_offline
use Rattle.ends.specs.Noise.Vectors.{mu, v0}
use Rattle.ends.specs.Scalar.Offline as scalar_offline
use Rattle.ends.specs.Scalar.Vectors.{w0, delta_out}
use Rattle.ends.specs.Inner.Noise as noise_ready
use Rattle.ends.specs.Inner.Scalar as scalar_ready
use Rattle.answer.proofs.Returns.{first_short, second_short, both-written, lengths-refused, words-refused, words-written}
use Rattle.ends.proofs.Vectors.{one_word}
use Rattle.ends.proofs.noise.Content as noise_content
use Rattle.ends.proofs.noise.Laws as noise_laws
use Rattle.ends.proofs.scalar.Content as scalar_content
use Rattle.ends.proofs.scalar.Laws as scalar_laws

-- ---- the fronts of buffers

-- the front of a buffer has as many words as a vector
pub front-size : {n m : ℕ} (l : List ℕ) → n ≤ length l → n ≡ m → length (take n l) ≡ m
front-size {n} l h e = length-take-le n l h ∙ e

-- the words of a vector before the rest of a buffer
front-written : {A : Type 0} (C : Coding A) (N : ℕ) (f : ℕ → A) (l : List ℕ) {part : List ℕ} {n : ℕ} → part ≡ flat C N f → n ≡ N * C.width
    → part ++ drop n l ≡ over C N f l
unfolding over
front-written C N f l p e = rw (p, e)

-- ---- the noise end

-- a record that is refused
module _ (s : List ℕ) {k : ℕ} (opens : Refused k ≡ read_noise s) where
  pub noise-fault : (noise v : List ℕ) → refused_two (noise_offline.offline_with s noise v) k ≡ noise_offline.offline s noise v
  unfolding noise_offline.offline
  noise-fault noise v = read-refused _ _ _ _ k (sym opens) refl

  pub noise-online-fault : (noise v u_out v_out : List ℕ) (first count : ℕ)
      → refused_two (noise_online.lent_with s noise v u_out v_out) k ≡ noise_online.online (noise_online.lent_with s noise v u_out v_out) first count
  unfolding noise_online.online
  noise-online-fault noise v u_out v_out first count = read-refused _ _ _ _ k (sym opens) refl

module _ (s : List ℕ) {f : Layout} (opens : Whole (head_of s f, f.body) ≡ head_if_whole (read_noise s) (read_head 1 s)) where
  module _ (noise v : List ℕ) where
    module _ {size : ℕ} (se : size ≡ 2 ^ f.depth) where
      pub noise-short : length noise < size → refused_two (noise_offline.offline_with s noise v) 13 ≡ noise_offline.offline s noise v
      noise-short h = first_short _ _ _ _ (length noise) (length v) se h ∙ sym (noise_laws.offline-whole s noise v (noise_content.ready s opens).read)

      module _ (h : size ≤ length noise) {words : ℕ} (we : words ≡ 2 ^ f.depth * element_words f.field) where
        pub v_short : length v < words → refused_two (noise_offline.offline_with s noise v) 13 ≡ noise_offline.offline s noise v
        v_short k = second_short _ _ _ _ (length noise) (length v) se h we k ∙ sym (noise_laws.offline-whole s noise v (noise_content.ready s opens).read)

        pub noise-expanded : words ≤ length v → {a b : List ℕ}
            → a ≡ flat (kind_of f.field).field.noise_values (2 ^ f.depth)
            (accumulate (kind_of f.field).field.ring.group (mu (noise_ready.content_of s f)))
            → b ≡ flat (kind_of f.field).field.elements (2 ^ f.depth)
            (accumulate (kind_of f.field).field.scaled.group (v0 (noise_ready.content_of s f)))
            → wrote {Written = TwoWritten} (record { first_written = size; second_written = words }) (noise_offline.offline_with s (a ++ drop size noise) (b ++ drop words v))
            ≡ noise_offline.offline s noise v
        unfolding noise_offline.expanded
        noise-expanded k {a} {b} p q =
            let x = front-written _ _ _ noise p (se ∙ sym (one_word (head_of s f) (2 ^ f.depth))) in
            let y = front-written _ _ _ v q we in
            both-written _ _ _ _ (length noise) (length v) se h we k (λ i. record { source = s; noise = x i; v = y i })
            ∙ sym (noise_laws.offline-whole s noise v (noise_content.ready s opens).read)

-- a window of the accumulated vectors
module _ (s noise v u_out v_out : List ℕ) (first count : ℕ) {f : Layout} (opens : Whole (head_of s f, f.body) ≡ head_if_whole (read_noise s) (read_head 1 s)) where
  module _ {n : ℕ}
      (number : n ≡ first_fault (length_tests f (length noise) (length v) (record { first = first; count = count }) (length u_out) (length v_out))) where
    abbrev a : Window
    a = record { first = first; count = count }

    abbrev l : noise_online.Lent
    l = noise_online.lent_with s noise v u_out v_out

    accepted : noise_ready.Ready s f
    accepted = noise_content.ready s opens

    pub noise-refused : (n ≡ 0 → ⊥)
        → refused_two (noise_online.lent_with s noise v u_out v_out) n ≡ noise_online.online (noise_online.lent_with s noise v u_out v_out) first count
    noise-refused h = lengths-refused _ _ _ _ _ _ number h ∙ sym (noise_laws.online-whole l first count accepted.read)

    module _ (z : n ≡ 0) where
      met : AllMet (length_tests f (length noise) (length v) a (length u_out) (length v_out))
      met = admitted_by _ n refl number z

      pub u_fitting : Fitting 1 (shape_of f) (rows_of f (record { first = first; count = count })) (length noise) (length u_out)
      u_fitting =
          passed_fits 1 s f (length noise) a (length u_out) accepted.sizes
          (omega (arith, met.all)) (omega (arith, met.all)) (omega (arith, met.all))

      pub v_fitting : Fitting (element_words f.field) (shape_of f) (rows_of f (record { first = first; count = count })) (length v) (length v_out)
      v_fitting =
          passed_fits (element_words f.field) s f (length v) a (length v_out) accepted.sizes
          (omega (arith, met.all)) (omega (arith, met.all)) (omega (arith, met.all))

      pub noise-words : {width : ℕ} → width ≡ element_words f.field → Fits w64 (count * width)
      noise-words we = count_fits f.field we first count v_fitting.testing.within

      -- the test of the words that the rows use, place by place and vector by vector
      abbrev used : Bool
      used =
          elements_used (of_noise (kind_of f.field).field) (code_keys (head_of s f)) (shape_of f) (rows_of f (record { first = first; count = count })) noise
          && elements_used (kind_of f.field).field (code_keys (head_of s f)) (shape_of f) (rows_of f (record { first = first; count = count })) v

      used_lem : used ≡ window_usable (noise_online.usable (field_of (head_of s f)) l) (head_of s f) first count
      unfolding elements_used window_usable noise_online.usable row_of_blocks term_block term_block_by aes
      used_lem = simp every-both

      module _ {x y : List ℕ}
          (x_is : x ≡ choose used (window_over (of_noise (kind_of f.field).field) (kind_of f.field).coefficient (code_keys (head_of s f)) (shape_of f)
          (rows_of f (record { first = first; count = count })) noise u_out) u_out)
          (y_is : y ≡ choose used (window_over (kind_of f.field).field (kind_of f.field).coefficient (code_keys (head_of s f)) (shape_of f)
          (rows_of f (record { first = first; count = count })) v v_out) v_out) where
        pub noise_unfit : (e : Refusal) → number_of e ≡ choose used accepted_is not_element
            → refused_two (noise_online.lent_with s noise v x y) (number_of e) ≡ noise_online.online (noise_online.lent_with s noise v u_out v_out) first count
        noise_unfit e told =
            let g : used ≡ false = test-failed used e told in
            let p : x ≡ u_out = x_is ∙ rw g in
            let q : y ≡ v_out = y_is ∙ rw g in
            let k : number_of e ≡ not_element = told ∙ rw g in
            rw (p, q, k) (words-refused _ _ _ _ _ _ number refl z used_lem (ap not g) ∙ sym (noise_laws.online-whole l first count accepted.read))

        pub noise-written : accepted_is ≡ choose used accepted_is not_element → {width : ℕ} → width ≡ element_words f.field → {both : TwoWritten}
            → both ≡ record { first_written = count; second_written = count * width }
            → wrote both (noise_online.lent_with s noise v x y) ≡ noise_online.online (noise_online.lent_with s noise v u_out v_out) first count
        unfolding noise_online.filled term_block term_block_by aes
        noise-written told we be =
            let g : used ≡ true = test-passed used told in
            let p : x ≡ window_over (of_noise (kind_of f.field).field) (kind_of f.field).coefficient (code_keys (head_of s f)) (shape_of f) (rows_of f a) noise u_out =
            x_is ∙ rw g in
            let q : y ≡ window_over (kind_of f.field).field (kind_of f.field).coefficient (code_keys (head_of s f)) (shape_of f) (rows_of f a) v v_out =
            y_is ∙ rw g in
            words-written _ _ _ _ _ _ number refl z used_lem (ap not g)
            (be ∙ λ i. record { first_written = count; second_written = count * we i }) (λ i. record { source = s; noise = noise; v = v; u_out = p i; v_out = q i })
            ∙ sym (noise_laws.online-whole l first count accepted.read)

-- ---- the scalar end

-- a record that is refused
module _ (s : List ℕ) {k : ℕ} (opens : Refused k ≡ read_scalar s) where
  pub scalar-fault : (w d : List ℕ) → refused_two (scalar_offline.offline_with s w d) k ≡ scalar_offline.offline s w d
  unfolding scalar_offline.offline
  scalar-fault w d = read-refused _ _ _ _ k (sym opens) refl

  pub scalar-online-fault : (w out : List ℕ) (first count : ℕ)
      → refused_one (scalar_online.lent_with s w out) k ≡ scalar_online.online (scalar_online.lent_with s w out) first count
  unfolding scalar_online.online
  scalar-online-fault w out first count = read-refused _ _ _ _ k (sym opens) refl

module _ (s : List ℕ) {f : Layout} (opens : Whole (head_of s f, f.body) ≡ head_if_whole (read_scalar s) (read_head 2 s)) where
  module _ (w d : List ℕ) where
    module _ {words : ℕ} (we : words ≡ 2 ^ f.depth * element_words f.field) where
      pub w_short : length w < words → refused_two (scalar_offline.offline_with s w d) 13 ≡ scalar_offline.offline s w d
      w_short h = first_short _ _ _ _ (length w) (length d) we h ∙ sym (scalar_laws.offline-whole s w d (scalar_content.ready s opens).read)

      module _ (h : words ≤ length w) where
        pub delta-short : length d < 2 → refused_two (scalar_offline.offline_with s w d) 13 ≡ scalar_offline.offline s w d
        delta-short k = second_short _ _ _ _ (length w) (length d) we h refl k ∙ sym (scalar_laws.offline-whole s w d (scalar_content.ready s opens).read)

        pub scalar-expanded : 2 ≤ length d → {a b : List ℕ}
            → a ≡ flat (kind_of f.field).field.elements (2 ^ f.depth)
            (accumulate (kind_of f.field).field.scaled.group (w0 (scalar_ready.content_of s f)))
            → b ≡ delta_out (scalar_ready.content_of s f) ++ drop 2 d
            → wrote {Written = TwoWritten} (record { first_written = words; second_written = 2 }) (scalar_offline.offline_with s (a ++ drop words w) b)
            ≡ scalar_offline.offline s w d
        unfolding scalar_offline.expanded
        scalar-expanded k {a} {b} p q =
            let x = front-written _ _ _ w p we in
            both-written _ _ _ _ (length w) (length d) we h refl k (λ i. record { source = s; w = x i; delta = q i })
            ∙ sym (scalar_laws.offline-whole s w d (scalar_content.ready s opens).read)

-- a window of the accumulated vector; the code has the tests of the noise too, which it meets
module _ (s w out : List ℕ) (first count : ℕ) {f : Layout} (opens : Whole (head_of s f, f.body) ≡ head_if_whole (read_scalar s) (read_head 2 s)) where
  module _ {size : ℕ} (se : size ≡ 2 ^ f.depth) {n : ℕ}
      (number : n ≡ first_fault (length_tests f size (length w) (record { first = first; count = count }) count (length out))) where
    abbrev a' : Window
    a' = record { first = first; count = count }

    abbrev l' : scalar_online.Lent
    l' = scalar_online.lent_with s w out

    accepted' : scalar_ready.Ready s f
    accepted' = scalar_content.ready s opens

    number' : n ≡ first_fault (element_tests f (length w) a' (length out))
    number' = number ∙ elements-alone f (length w) a' (length out) se

    pub scalar-refused : (n ≡ 0 → ⊥) → refused_one (scalar_online.lent_with s w out) n ≡ scalar_online.online (scalar_online.lent_with s w out) first count
    scalar-refused h = lengths-refused _ _ _ _ _ _ number' h ∙ sym (scalar_laws.online-whole l' first count accepted'.read)

    module _ (z : n ≡ 0) where
      met' : AllMet (element_tests f (length w) a' (length out))
      met' = admitted_by _ n refl number' z

      pub w_fitting : Fitting (element_words f.field) (shape_of f) (rows_of f (record { first = first; count = count })) (length w) (length out)
      w_fitting =
          passed_fits (element_words f.field) s f (length w) a' (length out) accepted'.sizes
          (omega (arith, met'.all)) (omega (arith, met'.all)) (omega (arith, met'.all))

      pub scalar-words : {width : ℕ} → width ≡ element_words f.field → Fits w64 (count * width)
      scalar-words we = count_fits f.field we first count w_fitting.testing.within

      abbrev used' : Bool
      used' = elements_used (kind_of f.field).field (code_keys (head_of s f)) (shape_of f) (rows_of f (record { first = first; count = count })) w

      used'_lem : used' ≡ window_usable (scalar_online.usable (field_of (head_of s f)) l') (head_of s f) first count
      unfolding elements_used window_usable scalar_online.usable row_of_blocks term_block term_block_by aes
      used'_lem = refl

      module _ {x : List ℕ}
          (x_is : x ≡ choose used' (window_over (kind_of f.field).field (kind_of f.field).coefficient (code_keys (head_of s f)) (shape_of f)
          (rows_of f (record { first = first; count = count })) w out) out) where
        pub scalar_unfit : (e : Refusal) → number_of e ≡ choose used' accepted_is not_element
            → refused_one (scalar_online.lent_with s w x) (number_of e) ≡ scalar_online.online (scalar_online.lent_with s w out) first count
        scalar_unfit e told =
            let g : used' ≡ false = test-failed used' e told in
            let p : x ≡ out = x_is ∙ rw g in
            let k : number_of e ≡ not_element = told ∙ rw g in
            rw (p, k) (words-refused _ _ _ _ _ _ number' refl z used'_lem (ap not g) ∙ sym (scalar_laws.online-whole l' first count accepted'.read))

        pub scalar-written : accepted_is ≡ choose used' accepted_is not_element → {width : ℕ} → width ≡ element_words f.field
            → wrote (count * width) (scalar_online.lent_with s w x) ≡ scalar_online.online (scalar_online.lent_with s w out) first count
        unfolding scalar_online.filled term_block term_block_by aes
        scalar-written told we =
            let g : used' ≡ true = test-passed used' told in
            let p : x ≡ window_over (kind_of f.field).field (kind_of f.field).coefficient (code_keys (head_of s f)) (shape_of f) (rows_of f a') w out =
            x_is ∙ rw g in
            words-written _ _ _ _ _ _ number' refl z used'_lem (ap not g) (λ i. count * we i) (λ i. record { source = s; w = w; w_out = p i })
            ∙ sym (scalar_laws.online-whole l' first count accepted'.read)
