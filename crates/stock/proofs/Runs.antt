-- Sums, indices and replies over every list of calls, by induction over the list.
use mathlib.Core.Path.{◌≡◌, refl, sym, ap, subst, fun_ext, ◌∙◌}
use mathlib.Core.Bool.{Bool}
use mathlib.Core.List.{List, [], ◌∷◌, ◌++◌, append-nil}
use mathlib.Core.Logic.{⊎_elim}
use mathlib.Core.Option.{some, none-ne-some, some-injective}
use Prim.Native.Nat.{ℕ, zero, suc, ◌+◌, ◌≤◌, ◌<◌}
use native.Mathlib.Omega.{arith}
use lib.ListN.{get_elem?}
use lib.Seq.{append_snoc}
use borrow.Author.Tests.{eq-eqb, ne_eqb}
use Rattle.stock.specs.declared.Stock.{Stock}
use Rattle.stock.specs.Label.{number_of}
use Rattle.stock.specs.Stock.{next_of, end_of, remaining, held, sum_of}
use Rattle.stock.specs.Calls.{opening_share}
use Rattle.stock.specs.Lists.{Call, draws, previews, passes, StockMade, make, calls_made, last, those, a_draw, draws_of, draws_under, handed_by, handed, stocks, held_first, held_last, since_passage, outputs_in, share_in, HandsOut, Unchanged, Previews}
use Rattle.stock.proofs.Cases.{by_order, by_equality}
use Rattle.stock.proofs.Blocks.{Well}
use Rattle.stock.proofs.Picked.{up_to_passed, since_passed, up_to_not, since_not, outputs_more, handed_more}
use Rattle.stock.proofs.Steps.{kept, step, label-rises, Free, hands, free_before}

-- ---- sums

pub last_well : (s : Stock) → Well s → (calls : List Call) → Well (last s calls)
unfolding last
last_well s W [] = W
last_well s W (c ∷ calls) = last_well (make s c).after (kept s W c).well calls

-- what every call hands out by a test is what a measure of the stock falls by, and so over a list
pub sums-run : (p : Call → Bool) (f : Stock → ℕ) → ((s : Stock) → Well s → (c : Call) → handed_by p (make s c) + f (make s c).after ≡ f s)
    → (s : Stock) → Well s → (calls : List Call) → handed p (calls_made s calls) + f (last s calls) ≡ f s
unfolding last calls_made handed
sums-run p f each s W [] = omega arith
sums-run p f each s W (c ∷ calls) = omega (arith, sums-run p f each (make s c).after (kept s W c).well calls, each s W c)

-- ---- labels

-- a call under a label that is not in use hands out nothing
other-part : (s : Stock) → Well s → (c : Call) (L : ℕ) → (L ≡ number_of s.label → ⊥) → handed_by (draws_under L) (make s c) ≡ 0
other-part s W c L d = ⊎_elim (λ S. S.other L d) (λ M. M.other L) (step s W c)

-- a label below the one in use is out of use
pub record Over (L : ℕ) (s : Stock) (calls : List Call) : Type 0 where
  pub handed-none : handed (draws_under L) (calls_made s calls) ≡ 0
  pub last_none : (none : ℕ) → held_last L none (stocks s calls) ≡ none
  pub first-none : held_first L (stocks s calls) ≡ 0

over : (L : ℕ) (s : Stock) → Well s → (calls : List Call) → L < number_of s.label → Over L s calls
unfolding calls_made handed stocks held_first held_last
over L s W [] h =
    let n = ne_eqb L (number_of s.label) (λ e. omega arith) in
    record { handed-none = refl; last_none = λ none. cc; first-none = cc }
over L s W (c ∷ calls) h =
    let n = ne_eqb L (number_of s.label) (λ e. omega arith) in
    let r = label-rises s W c in
    let ih = over L (make s c).after (kept s W c).well calls (omega arith) in
    record {
      handed-none = omega (arith, other-part s W c L (λ e. omega arith), ih.handed-none);
      last_none = λ none. cc (ih.last_none none);
      first-none = cc ih.first-none;
    }

-- the label in use
in_use_lem : (s : Stock) → Well s → (calls : List Call) (L : ℕ) → L ≡ number_of s.label → (none : ℕ)
    → handed (draws_under L) (calls_made s calls) + held_last L none (stocks s calls) ≡ held s
unfolding calls_made handed stocks held_last
in_use_lem s W [] L e none = rw (eq-eqb L (number_of s.label) e) (omega arith)
in_use_lem s W (c ∷ calls) L e none =
    let t = (make s c).after in
    let T = (kept s W c).well in
    let q : held_last L none (s ∷ stocks t calls) ≡ held_last L (held s) (stocks t calls) = cc (eq-eqb L (number_of s.label) e) in
    ⊎_elim
    (λ S.
    let p : handed_by (draws_under L) (make s c) ≡ handed_by a_draw (make s c) = rw e S.under in
    omega (arith, in_use_lem t T calls L (e ∙ ap number_of (sym S.label)) (held s), (kept s W c).held))
    (λ M.
    let a = M.above in
    let o = over L t T calls (omega arith) in
    omega (arith, M.other L, o.handed-none, o.last_none (held s)))
    (step s W c)

first_head : (s : Stock) (calls : List Call) (L : ℕ) → L ≡ number_of s.label → held_first L (stocks s calls) ≡ held s
unfolding stocks held_first
first_head s [] L e = rw (eq-eqb L (number_of s.label) e)
first_head s (c ∷ calls) L e = rw (eq-eqb L (number_of s.label) e)

-- a label in use or out of use
not_later : (s : Stock) → Well s → (calls : List Call) (L : ℕ) → L ≤ number_of s.label
    → handed (draws_under L) (calls_made s calls) + held_last L 0 (stocks s calls) ≡ held_first L (stocks s calls)
not_later s W calls L h =
    by_equality L (number_of s.label)
    (λ e. in_use_lem s W calls L e 0 ∙ sym (first_head s calls L e))
    (λ d. let o = over L s W calls (omega arith) in omega (arith, o.handed-none, o.last_none 0, o.first-none))

-- and one that comes into use later, or never
pub labels-run : (s : Stock) → Well s → (calls : List Call) (L : ℕ)
    → handed (draws_under L) (calls_made s calls) + held_last L 0 (stocks s calls) ≡ held_first L (stocks s calls)
unfolding calls_made handed stocks held_first held_last
labels-run s W [] L =
    by_order (number_of s.label) L (λ b. rw (ne_eqb L (number_of s.label) (λ e. omega arith)) (omega arith)) (not_later s W [] L)
labels-run s W (c ∷ calls) L =
    by_order (number_of s.label) L
    (λ b.
    let n = ne_eqb L (number_of s.label) (λ e. omega arith) in
    let t = stocks (make s c).after calls in
    let p : held_last L 0 (s ∷ t) ≡ held_last L 0 t = cc in
    let q : held_first L (s ∷ t) ≡ held_first L t = cc in
    omega (arith, other-part s W c L (λ e. omega arith), labels-run (make s c).after (kept s W c).well calls L))
    (not_later s W (c ∷ calls) L)

-- ---- no pair of label and index twice

-- a made call at a place hands out index x under a label of number L
abbrev HandsAt : List StockMade → ℕ → ℕ → ℕ → Type 0
HandsAt [] i L x = ⊥
HandsAt (m ∷ h) zero L x = HandsOut m L x
HandsAt (m ∷ h) (suc i) L x = HandsAt h i L x

pub hands_at : (h : List StockMade) (i : ℕ) (m : StockMade) → get_elem? h i ≡ some m → (L x : ℕ) → HandsOut m L x → HandsAt h i L x
hands_at [] i m e L x o = absurd (none-ne-some m e)
hands_at (n ∷ h) zero m e L x o = subst (λ (k : StockMade). HandsOut k L x) (sym (some-injective n m e)) o
hands_at (n ∷ h) (suc i) m e L x o = hands_at h i m e L x o

-- what is handed out is handed out under the label in use or a later one
hands_later : (s : Stock) → Well s → (calls : List Call) (i L x : ℕ) → HandsAt (calls_made s calls) i L x → number_of s.label ≤ L
unfolding calls_made
hands_later s W [] i L x o = absurd o
hands_later s W (c ∷ calls) zero L x o = omega (arith, (hands s W c L x o).label)
hands_later s W (c ∷ calls) (suc i) L x o = omega (arith, hands_later (make s c).after (kept s W c).well calls i L x o, label-rises s W c)

-- what is handed out anywhere in a list under the label in use was free before it
free_run : (s : Stock) → Well s → (calls : List Call) (i L x : ℕ) → HandsAt (calls_made s calls) i L x → L ≡ number_of s.label → Free s x
unfolding calls_made
free_run s W [] i L x o e = absurd o
free_run s W (c ∷ calls) zero L x o e = (hands s W c L x o).free
free_run s W (c ∷ calls) (suc i) L x o e =
    let t = (make s c).after in
    let T = (kept s W c).well in
    ⊎_elim
    (λ S. free_before s (make s c) (kept s W c) S x (free_run t T calls i L x o (e ∙ ap number_of (sym S.label))))
    (λ M. absurd (omega (arith, M.above, hands_later t T calls i L x o)))
    (step s W c)

-- not after a call has handed it out
twice : (s : Stock) → Well s → (c : Call) (calls : List Call) (i L x : ℕ) → HandsOut (make s c) L x → HandsAt (calls_made (make s c).after calls) i L x → ⊥
twice s W c calls i L x o p =
    let g = hands s W c L x o in
    g.gone (free_run (make s c).after (kept s W c).well calls i L x p (g.label ∙ ap number_of (sym g.stays)))

pub once-run : (s : Stock) → Well s → (calls : List Call) (i j L x : ℕ) → HandsAt (calls_made s calls) i L x → HandsAt (calls_made s calls) j L x → i ≡ j
unfolding calls_made
once-run s W [] i j L x o p = absurd o
once-run s W (c ∷ calls) zero zero L x o p = refl
once-run s W (c ∷ calls) zero (suc j) L x o p = absurd (twice s W c calls j L x o p)
once-run s W (c ∷ calls) (suc i) zero L x o p = absurd (twice s W c calls i L x p o)
once-run s W (c ∷ calls) (suc i) (suc j) L x o p = ap suc (once-run (make s c).after (kept s W c).well calls i j L x o p)

-- ---- the blocks of the label in use

-- after an opening and made calls h: each caller's block, its next index by what it was handed since the last accepted passage,
-- and what it holds by all that it was handed
pub record InUse (outputs : ℕ) (shares : List ℕ) (h : List StockMade) (s : Stock) : Type 0 where
  pub next : (k : ℕ) → k < s.callers → next_of s k ≡ sum_of k (share_in shares h) + handed (draws_of k) (since_passage h)
  pub end : (k : ℕ) → k < s.callers → end_of s k ≡ sum_of (suc k) (share_in shares h)
  pub within : sum_of 8 (share_in shares h) ≤ outputs_in outputs h
  pub left : (k : ℕ) → handed (draws_of k) h + remaining s k ≡ opening_share shares k

module _ (outputs : ℕ) (shares : List ℕ) where
  module _ (h : List StockMade) (s : Stock) (W : Well s) (I : InUse outputs shares h s) (c : Call) where
    abbrev now : StockMade
    now = make s c

    abbrev more : List StockMade
    more = h ++ (now ∷ [])

    left_more : (k : ℕ) → handed (draws_of k) more + remaining now.after k ≡ opening_share shares k
    left_more k = omega (arith, handed_more now (draws_of k) h, I.left k, (kept s W c).remaining k)

    in_use-step : InUse outputs shares more now.after
    unfolding held handed
    in_use-step =
        ⊎_elim
        -- a call under which the label stays
        (λ S.
        let n = S.not_passed in
        let same : share_in shares more ≡ share_in shares h = fun_ext λ j. cc (up_to_not now n h) in
        record {
          next = λ k b.
              rw (same, since_not now n h, handed_more now (draws_of k) (since_passage h))
              (omega (arith, I.next k (rw (kept s W c).callers at b), S.next k));
          end = λ k b. rw same (S.end k ∙ I.end k (rw (kept s W c).callers at b));
          within = rw (same, outputs_more now outputs h, n) I.within;
          left = left_more;
        })
        -- an accepted passage
        (λ M.
        let y = M.is_passed in
        let same : share_in shares more ≡ remaining now.after = fun_ext λ j. rw (up_to_passed now y h) (omega (arith, left_more j)) in
        record {
          next = λ k b. rw (same, since_passed now y h) (omega (arith, M.next k (rw (kept s W c).callers at b)));
          end = λ k b. rw same (M.end k (rw (kept s W c).callers at b));
          within = rw (same, outputs_more now outputs h, y) M.room;
          left = left_more;
        })
        (step s W c)

  pub use-run : (h : List StockMade) (s : Stock) → Well s → InUse outputs shares h s → (calls : List Call)
      → InUse outputs shares (h ++ calls_made s calls) (last s calls)
  unfolding calls_made last
  use-run h s W I [] = rw (append-nil h) I
  use-run h s W I (c ∷ calls) =
      let m = make s c in
      subst (λ (g : List StockMade). InUse outputs shares g (last m.after calls)) (append_snoc h m (calls_made m.after calls))
      (use-run (h ++ (m ∷ [])) m.after (kept s W c).well (in_use-step h s W I c) calls)

-- ---- previews

unchanged : (s : Stock) (calls : List Call) → Unchanged s calls
unfolding calls_made last those make
unchanged s [] = record { others = refl; stock = refl }
unchanged s (draws l k c ∷ calls) =
    let ih = unchanged (make s (draws l k c)).after calls in record { others = cc ih.others; stock = ih.stock }
unchanged s (previews l k c ∷ calls) = let ih = unchanged s calls in record { others = ih.others; stock = ih.stock }
unchanged s (passes l n ∷ calls) =
    let ih = unchanged (make s (passes l n)).after calls in record { others = cc ih.others; stock = ih.stock }

pub previews_nothing : Previews
previews_nothing = unchanged
