-- How many gates wait, and the bits to send for them: two for each, at the place that those before it leave. Assumes nothing.
use Prim.Native.Nat.{ℕ, zero, suc, ◌+◌, ◌*◌, ◌≤◌, ◌<◌}
use mathlib.Core.Bool.{Bool, true, false, ◌&&◌, true≢false}
use mathlib.Core.List.{List, [], ◌∷◌, ◌++◌}
use mathlib.Core.Path.{◌≡◌, refl, sym, ap, ap₂, ◌∙◌}
use native.Mathlib.Nat.{add-zero}
use native.Mathlib.Omega.{arith}
use lib.Dec.{eqb}
use lib.ListN.{length, get_or, take, drop, length-append}
use lib.Seq.{take-nil, drop-drop, get_or-drop}
use Rattle.algebra.specs.Choice.{choose}
use Rattle.circuit.specs.Content.{Gate, Not, Circuit, is_and}
use Rattle.circuit.specs.Levels.{ands_of}
use Rattle.circuit_run.specs.Round.{waits, shares_in, waiting, opened_bits}
use Rattle.circuit_run.specs.Step.{masked_first, masked_second}
use Rattle.circuit_claims.proofs.Bytes.{later_at}

-- ---- how many wait

abbrev pub one_if : Bool → ℕ
one_if b = choose b 1 0

wait_front : (n : ℕ) (xs : List ℕ) → waiting (take (suc n) xs) ≡ one_if (waits (get_or xs 0 0)) + waiting (take n (drop 1 xs))
unfolding waiting
wait_front n [] = omega (arith, ap waiting (take-nil {A = ℕ} n))
wait_front n (x ∷ xs) = refl

wait_at : (n k : ℕ) (bytes : List ℕ) → waiting (take (suc n) (drop k bytes)) ≡ one_if (waits (get_or bytes k 0)) + waiting (take n (drop (k + 1) bytes))
wait_at n k bytes =
    wait_front n (drop k bytes)
    ∙ ap₂ (λ (x : ℕ) (l : List ℕ). one_if (waits x) + waiting (take n l))
    (get_or-drop k bytes 0 0 ∙ ap (λ (j : ℕ). get_or bytes j 0) (add-zero k)) (drop-drop 1 k bytes)

-- none waits
pub wait_none : (n k : ℕ) (bytes : List ℕ) → ((j : ℕ) → j < n → waits (get_or bytes (k + j) 0) ≡ false) → waiting (take n (drop k bytes)) ≡ 0
unfolding waiting
wait_none zero k bytes none = refl
wait_none (suc n) k bytes none =
    wait_at n k bytes
    ∙ ap₂ (λ (b : Bool) (m : ℕ). one_if b + m) (ap (λ (j : ℕ). waits (get_or bytes j 0)) (sym (add-zero k)) ∙ none 0 (omega arith))
    (wait_none n (k + 1) bytes
    (λ j h. ap (λ (i : ℕ). waits (get_or bytes i 0)) {x = k + 1 + j} {y = k + suc j} (omega arith) ∙ none (suc j) (omega arith)))

pub none-waits : (n k : ℕ) (bytes : List ℕ) → waiting (take n (drop k bytes)) ≡ 0 → (j : ℕ) → j < n → waits (get_or bytes (k + j) 0) ≡ false
none-waits zero k bytes e j h = absurd (omega arith)
none-waits (suc n) k bytes e zero h =
    ap (λ (i : ℕ). waits (get_or bytes i 0)) (add-zero k) ∙ of (waits (get_or bytes k 0)) (sym (wait_at n k bytes) ∙ e)
  where
    of : (b : Bool) → one_if b + waiting (take n (drop (k + 1) bytes)) ≡ 0 → b ≡ false
    of true z = absurd (omega arith)
    of false z = refl
none-waits (suc n) k bytes e (suc j) h =
    ap (λ (i : ℕ). waits (get_or bytes i 0)) {x = k + suc j} {y = k + 1 + j} (omega arith)
    ∙ none-waits n (k + 1) bytes (omega (arith, wait_at n k bytes, e)) j (omega arith)

-- as many as there are ANDs of a level, if just those wait
pub wait_ands : (m : ℕ) (gs : List Gate) (xs ls : List ℕ)
    → ((j : ℕ) → j < length gs → waits (get_or xs j 0) ≡ (is_and (get_or gs j (Not 0)) && eqb (get_or ls j 0) m))
    → waiting (take (length gs) xs) ≡ ands_of m gs ls
unfolding waiting ands_of
wait_ands m [] xs ls same = refl
wait_ands m (g ∷ gs) xs ls same =
    wait_front (length gs) xs
    ∙ ap₂ (λ (b : Bool) (n : ℕ). one_if b + n) (same 0 (omega arith))
    (wait_ands m gs (drop 1 xs) (drop 1 ls)
    (λ j h. ap waits (later_at xs j) ∙ same (suc j) (omega arith)
    ∙ ap (λ (n : ℕ). is_and (get_or gs j (Not 0)) && eqb n m) (sym (later_at ls j))))

-- ---- the bits to send

module _ (c : Circuit) (triples bytes : List ℕ) where
  abbrev bits_from : ℕ → List Gate → List ℕ
  bits_from i gs = opened_bits c triples bytes i gs

  abbrev two : ℕ → List ℕ
  two i = masked_first c triples (shares_in bytes) i ∷ masked_second c triples (shares_in bytes) i ∷ []

  pub sent-length : (gs : List Gate) (i : ℕ) → length (bits_from i gs) ≡ 2 * waiting (take (length gs) (drop (c.inputs + i) bytes))
  unfolding opened_bits waiting
  sent-length [] i = refl
  sent-length (g ∷ gs) i =
      length-append (choose (waits (get_or bytes (c.inputs + i) 0)) (two i) []) (bits_from (i + 1) gs)
      ∙ omega (
        arith,
        of (waits (get_or bytes (c.inputs + i) 0)),
        sent-length gs (i + 1),
        wait_at (length gs) (c.inputs + i) bytes,
        ap (λ (n : ℕ). waiting (take (length gs) (drop n bytes))) {x = c.inputs + i + 1} {y = c.inputs + (i + 1)} (omega arith),
      )
    where
      of : (b : Bool) → length (choose b (two i) []) ≡ 2 * one_if b
      of true = refl
      of false = refl

  -- those of a gate that waits
  pub sent-at : (gs : List Gate) (i j : ℕ) → j < length gs → waits (get_or bytes (c.inputs + (i + j)) 0) ≡ true
      → (get_or (bits_from i gs) (2 * waiting (take j (drop (c.inputs + i) bytes))) 0 ≡ masked_first c triples (shares_in bytes) (i + j))
      × (get_or (bits_from i gs) (2 * waiting (take j (drop (c.inputs + i) bytes)) + 1) 0 ≡ masked_second c triples (shares_in bytes) (i + j))
  unfolding opened_bits waiting
  sent-at [] i j h e = absurd (omega arith)
  sent-at (g ∷ gs) i zero h e =
      of (waits (get_or bytes (c.inputs + i) 0)) (ap (λ (n : ℕ). waits (get_or bytes (c.inputs + n) 0)) (sym (add-zero i)) ∙ e)
    where
      of : (b : Bool) → b ≡ true
          → (get_or (choose b (two i) [] ++ bits_from (i + 1) gs) 0 0 ≡ masked_first c triples (shares_in bytes) (i + 0))
          × (get_or (choose b (two i) [] ++ bits_from (i + 1) gs) 1 0 ≡ masked_second c triples (shares_in bytes) (i + 0))
      of true t = (ap (masked_first c triples (shares_in bytes)) (sym (add-zero i)), ap (masked_second c triples (shares_in bytes)) (sym (add-zero i)))
      of false t = absurd (true≢false (sym t))
  sent-at (g ∷ gs) i (suc j) h e =
      let near : waits (get_or bytes (c.inputs + (i + 1 + j)) 0) ≡ true =
      ap (λ (n : ℕ). waits (get_or bytes (c.inputs + n) 0)) {x = i + 1 + j} {y = i + suc j} (omega arith) ∙ e in
      let later = sent-at gs (i + 1) j (omega arith) near in
      let same : i + 1 + j ≡ i + suc j = omega arith in
      of (waits (get_or bytes (c.inputs + i) 0)) (waiting (take j (drop (c.inputs + (i + 1)) bytes)))
      (wait_at j (c.inputs + i) bytes
      ∙ ap (λ (n : ℕ). one_if (waits (get_or bytes (c.inputs + i) 0)) + waiting (take j (drop n bytes)))
      {x = c.inputs + i + 1} {y = c.inputs + (i + 1)} (omega arith))
      (later.0 ∙ ap (masked_first c triples (shares_in bytes)) same) (later.1 ∙ ap (masked_second c triples (shares_in bytes)) same)
    where
      of : (b : Bool) (p : ℕ) {q x y : ℕ} → q ≡ one_if b + p → get_or (bits_from (i + 1) gs) (2 * p) 0 ≡ x → get_or (bits_from (i + 1) gs) (2 * p + 1) 0 ≡ y
          → (get_or (choose b (two i) [] ++ bits_from (i + 1) gs) (2 * q) 0 ≡ x) × (get_or (choose b (two i) [] ++ bits_from (i + 1) gs) (2 * q + 1) 0 ≡ y)
      of true p {q} {x} {y} e f g = (
        ap (λ (n : ℕ). get_or (two i ++ bits_from (i + 1) gs) n 0) {x = 2 * q} {y = suc (suc (2 * p))} (omega arith) ∙ f,
        ap (λ (n : ℕ). get_or (two i ++ bits_from (i + 1) gs) n 0) {x = 2 * q + 1} {y = suc (suc (2 * p + 1))} (omega arith) ∙ g,
      )
      of false p {q} {x} {y} e f g = (
        ap (λ (n : ℕ). get_or (bits_from (i + 1) gs) n 0) {x = 2 * q} {y = 2 * p} (omega arith) ∙ f,
        ap (λ (n : ℕ). get_or (bits_from (i + 1) gs) n 0) {x = 2 * q + 1} {y = 2 * p + 1} (omega arith) ∙ g,
      )

  -- each is a bit
  pub sent-bits : ((i : ℕ) → (masked_first c triples (shares_in bytes) i ≤ 1) × (masked_second c triples (shares_in bytes) i ≤ 1))
      → (gs : List Gate) (i k : ℕ) → get_or (bits_from i gs) k 0 ≤ 1
  unfolding opened_bits
  sent-bits all [] i k = omega arith
  sent-bits all (g ∷ gs) i k = of (sent-bits all gs (i + 1)) (waits (get_or bytes (c.inputs + i) 0)) k
    where
      of : ((n : ℕ) → get_or (bits_from (i + 1) gs) n 0 ≤ 1) → (b : Bool) (n : ℕ) → get_or (choose b (two i) [] ++ bits_from (i + 1) gs) n 0 ≤ 1
      of later true zero = (all i).0
      of later true (suc zero) = (all i).1
      of later true (suc (suc n)) = later n
      of later false n = later n
