-- What accumulated buffers tell, over the page, from the law of `claims`.
use Prim.Native.Nat.{ℕ, ◌≤◌, ◌<◌}
use native.Mathlib.Nat.{zero-mul}
use mathlib.Core.Path.{◌≡◌, refl, sym, ap, ap₂, subst, ◌∙◌}
use mathlib.Core.List.{List, [], ◌∷◌, map}
use mathlib.Core.Logic.{◌↔◌}
use lib.ListN.{get_or}
use Rattle.algebra.specs.Coding.{at}
use Rattle.algebra.specs.Expansion.{Correlated}
use Rattle.algebra.specs.Field.{NoiseValue, Value}
use Rattle.claims.specs.Buffers.{Below}
use Rattle.claims.proofs.Buffers as law
use Rattle.ends.specs.Noise.Offline as noise_off
use Rattle.ends.specs.Scalar.Offline as scalar_off
use Rattle.number.specs.Reading.{Whole, Bytes}
use Rattle.record.specs.Content.{Head, NoiseTree, NoisePart, ScalarPart}
use Rattle.record.specs.Reading as rec
use Rattle.window.specs.Head.{field_of}
use Rattle.page.specs.Document01 as page
use Rattle.page.proofs.Calls.{noise_off_return, noise-offline, scalar_off_return, scalar-offline}
use Rattle.page.proofs.Fields.{kind_is}
use Rattle.page.proofs.Rows.{head, head_of}
use Rattle.page.proofs.Vectors.{tree, mu_is, v0_is, w0_is}
use Rattle.page_claims.specs.Statements as first
use Rattle.page_claims.proofs.Records.{noise-given, scalar-given}
use Rattle.page_two_claims.specs.Statements as says
use Rattle.page_two_claims.proofs.Bench.{noise-expanded, scalar-expanded}

-- w = Δu + v in words exactly when it holds of the values
module _ (h : Head) (d u v w : List ℕ) (y : NoiseValue (field_of h)) (b c : Value (field_of h))
    (u_is : u ≡ (field_of h).noise_values.words y) (v_is : v ≡ (field_of h).elements.words b) (w_is : w ≡ (field_of h).elements.words c) where
  abbrev total : Value (field_of h)
  total = (field_of h).scaled.group.add ((field_of h).scaled.scale y ((field_of h).elements.read d 0)) b

  total_is : (page.F (head h)).elements.plus ((page.F (head h)).elements.multiple (get_or u 0 0) d) v ≡ (field_of h).elements.words total
  total_is =
      let K = kind_is h.field in
      let S = (page.F (head h)).elements in
      let num : get_or u 0 0 ≡ K.num y = ap (λ (l : List ℕ). get_or l 0 0) (u_is ∙ K.one y) in
      ap₂ (λ (n : ℕ) (l : List ℕ). S.plus (S.multiple n d) l) num v_is
      ∙ K.multiple-read (K.num y) d _
      ∙ ap (λ (l : List ℕ). S.plus l ((field_of h).elements.words b)) (K.elements.multiple y _)
      ∙ K.elements.plus _ b

  to_values : says.Holds (head h) d u v w → Correlated (field_of h).scaled ((field_of h).elements.read d 0) y b c
  to_values e =
      let back = (kind_is h.field).back in
      sym (back c) ∙ ap (λ (l : List ℕ). (field_of h).elements.read l 0) (sym w_is ∙ e ∙ total_is) ∙ back total

  to_words : Correlated (field_of h).scaled ((field_of h).elements.read d 0) y b c → says.Holds (head h) d u v w
  to_words e = w_is ∙ ap (field_of h).elements.words e ∙ sym total_is

-- what a call wrote, by the library
noise-wrote : (s a b : List ℕ) (i : ℕ) → first.wrote (page.noise_offline s a b) i ≡ first.wrote (noise_off_return (noise_off.offline s a b)) i
noise-wrote s a b i = ap (λ (r : page.Return). first.wrote r i) (noise-offline s a b)

scalar-wrote : (s a b : List ℕ) (i : ℕ) → first.wrote (page.scalar_offline s a b) i
    ≡ first.wrote (scalar_off_return (scalar_off.offline s a b)) i
scalar-wrote s a b i = ap (λ (r : page.Return). first.wrote r i) (scalar-offline s a b)

-- the claim for records of one head
abbrev Told : (s s' a b a' b' : List ℕ) → page.Head × List page.Tree × List ℕ × List (List ℕ) → Type 0
Told s s' a b a' b' (h, trees, Δ, roots) =
    (k : ℕ) → k ≤ page.N h
    → ((j : ℕ) → j < k → says.Holds h (first.wrote (page.scalar_offline s' a' b') 1)
    (page.value_at (page.F h).noise_values (first.wrote (page.noise_offline s a b) 0) j)
    (page.value_at (page.F h).elements (first.wrote (page.noise_offline s a b) 1) j)
    (page.value_at (page.F h).elements (first.wrote (page.scalar_offline s' a' b') 0) j))
    ↔ ((j : ℕ) → j < k → says.Holds h Δ (page.μ trees h.t j) (page.v0 h trees j) (page.w0 h roots j))

module _ (s s' a b a' b' : List ℕ) (P : NoisePart) (delta : List ℕ) (roots : List (List ℕ))
    (bytes : first.Below 256 s) (read : rec.read_noise s ≡ Whole P)
    (read' : rec.read_scalar s' ≡ Whole (record { head = P.head; delta = delta; roots = roots }))
    (e : (page.noise_offline s a b).number ≡ 0) (e' : (page.scalar_offline s' a' b').number ≡ 0) where
  abbrev h : Head
  h = P.head

  abbrev Q : ScalarPart
  Q = record { head = h; delta = delta; roots = roots }

  abbrev E : noise_off.Expanded h
  E = noise-expanded s a b P read e

  abbrev D : scalar_off.Expanded h
  D = scalar-expanded s' a' b' Q read' e'

  -- values of the words that the calls wrote
  u-at : (j : ℕ) → page.value_at (page.F (head h)).noise_values (first.wrote (page.noise_offline s a b) 0) j
      ≡ (field_of h).noise_values.words (at (field_of h).noise_values (noise_off.noise_of (noise_off.after E)) j)
  u-at j =
      ap (λ (l : List ℕ). page.value_at (page.F (head h)).noise_values l j) (noise-wrote s a b 0)
      ∙ (kind_is h.field).noise_values.place _ j

  v-at : (j : ℕ) → page.value_at (page.F (head h)).elements (first.wrote (page.noise_offline s a b) 1) j
      ≡ (field_of h).elements.words (at (field_of h).elements (noise_off.v_of (noise_off.after E)) j)
  v-at j = ap (λ (l : List ℕ). page.value_at (page.F (head h)).elements l j) (noise-wrote s a b 1) ∙ (kind_is h.field).elements.place _ j

  w_at : (j : ℕ) → page.value_at (page.F (head h)).elements (first.wrote (page.scalar_offline s' a' b') 0) j
      ≡ (field_of h).elements.words (at (field_of h).elements (scalar_off.w_of (scalar_off.after D)) j)
  w_at j =
      ap (λ (l : List ℕ). page.value_at (page.F (head h)).elements l j) (scalar-wrote s' a' b' 0) ∙ (kind_is h.field).elements.place _ j

  d_at : (field_of h).elements.read (first.wrote (page.scalar_offline s' a' b') 1) 0
      ≡ at (field_of h).elements (scalar_off.delta_of (scalar_off.after D)) 0
  d_at = ap₂ (field_of h).elements.read (scalar-wrote s' a' b' 1) (sym (zero-mul (field_of h).elements.width))

  abbrev Wrote : ℕ → Value (field_of h) → Type 0
  Wrote j d =
      Correlated (field_of h).scaled d (at (field_of h).noise_values (noise_off.noise_of (noise_off.after E)) j)
      (at (field_of h).elements (noise_off.v_of (noise_off.after E)) j) (at (field_of h).elements (scalar_off.w_of (scalar_off.after D)) j)

  told : Told s s' a b a' b' (head h, map tree P.trees, delta, roots)
  unfolding Bytes
  told k most =
      let both = (law.buffers).correlation h E bytes D k most in (
        λ f j l.
            to_words h delta _ _ _ _ _ _ (mu_is P j) (v0_is P j) (w0_is Q j)
            (both.0 (λ i m. subst (Wrote i) d_at (to_values h _ _ _ _ _ _ _ (u-at i) (v-at i) (w_at i) (f i m))) j l),
        λ f j l.
            to_words h _ _ _ _ _ _ _ (u-at j) (v-at j) (w_at j)
            (subst (Wrote j) (sym d_at)
            (both.1 (λ i m. to_values h delta _ _ _ _ _ _ (mu_is P i) (v0_is P i) (w0_is Q i) (f i m)) j l)),
      )

-- parts of trees
part_is : (f : page.Tree → ℕ) (g : NoiseTree → ℕ) → ((t : NoiseTree) → f (tree t) ≡ g t) → (l : List NoiseTree) → map f (map tree l)
    ≡ map g l
part_is f g e [] = refl
part_is f g e (t ∷ l) = ap₂ (λ (x : ℕ) (m : List ℕ). x ∷ m) (e t) (part_is f g e l)

module _ (s s' a b a' b' : List ℕ) (h : page.Head) (trees trees' : List page.Tree) (bytes : first.Below 256 s) (bytes' : first.Below 256 s')
    (g : first.Gives (page.read_noise s 0) (h, trees)) (g' : first.Gives (page.read_noise s' 0) (h, trees'))
    (e : (page.noise_offline s a b).number ≡ 0) (e' : (page.noise_offline s' a' b').number ≡ 0)
    (same : first.wrote (page.noise_offline s a b) 0 ≡ first.wrote (page.noise_offline s' a' b') 0) where
  abbrev head_in : page.Head × List page.Tree → Head
  head_in x = head_of x.0

  noise-told : (map (λ (x : page.Tree). x.position) trees ≡ map (λ (x : page.Tree). x.position) trees')
      × (map (λ (x : page.Tree). x.value) trees ≡ map (λ (x : page.Tree). x.value) trees')
  unfolding Bytes
  noise-told =
      let G = noise-given s (h, trees) g in
      let G' = noise-given s' (h, trees') g' in
      let P = G.0 in
      let P' = G'.0 in
      let one : P'.head ≡ P.head = ap head_in G'.2 ∙ sym (ap head_in G.2) in
      let Q : NoisePart = record { head = P.head; trees = P'.trees } in
      let read' : rec.read_noise s' ≡ Whole Q = G'.1 ∙ ap (λ (x : Head). Whole (record { head = x; trees = P'.trees })) one in
      let r = (law.buffers).noise P.head (noise-expanded s a b P G.1 e) (noise-expanded s' a' b' Q read' e') bytes bytes'
      (sym (noise-wrote s a b 0) ∙ same ∙ noise-wrote s' a' b' 0) in
      let l = ap (λ (x : page.Head × List page.Tree). x.1) G.2 in
      let l' = ap (λ (x : page.Head × List page.Tree). x.1) G'.2 in (
        sym (ap (map (λ (x : page.Tree). x.position)) l) ∙ part_is (λ x. x.position) (λ x. x.position) (λ t. refl) P.trees
            ∙ r.0
            ∙ sym (part_is (λ x. x.position) (λ x. x.position) (λ t. refl) P'.trees) ∙ ap (map (λ (x : page.Tree). x.position)) l',
        sym (ap (map (λ (x : page.Tree). x.value)) l) ∙ part_is (λ x. x.value) (λ x. x.value) (λ t. refl) P.trees
            ∙ r.1
            ∙ sym (part_is (λ x. x.value) (λ x. x.value) (λ t. refl) P'.trees) ∙ ap (map (λ (x : page.Tree). x.value)) l',
      )

pub buffers : says.Buffers
buffers =
    record {
      correlation = λ s s' a b a' b' h trees Δ roots bytes g g' e e'.
          let G = noise-given s (h, trees) g in
          let G' = scalar-given s' (h, Δ, roots) g' in
          let P = G.0 in
          let Q = G'.0 in
          let one : Q.head ≡ P.head = ap (λ (x : page.Head × List ℕ × List (List ℕ)). head_of x.0) G'.2
          ∙ sym (ap (λ (x : page.Head × List page.Tree). head_of x.0) G.2) in
          let read' = G'.1 ∙ ap (λ (x : Head). Whole (record { head = x; delta = Q.delta; roots = Q.roots })) one in
          subst (Told s s' a b a' b') (λ i. ((G.2 i).0, (G.2 i).1, (G'.2 i).1, (G'.2 i).2))
          (told s s' a b a' b' P Q.delta Q.roots bytes G.1 read' e e');
      noise = noise-told;
    }
