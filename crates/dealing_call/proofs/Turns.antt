-- The loop that writes the trees of a noise record: the first i trees stand after the head. Assumes nothing.
use mathlib.Core.Path.{◌≡◌, refl, sym, ap, ◌∙◌, subst}
use mathlib.Core.List.{List, [], ◌++◌}
use Prim.Native.Nat.{ℕ, zero, suc, ◌+◌, ◌-◌, ◌*◌, ◌^◌, ◌≤◌, ◌<◌}
use native.Mathlib.Nat.{add-zero, zero-add}
use native.Mathlib.Omega.{arith}
use lib.ListN.{length, get_or, length-append}
use lib.Pow.{pow_mono}
use lib.Seq.{length-sets}
use Rattle.algebra.proofs.Rising.{rises}
use Rattle.number.proofs.Places.{wrote_then, room-front, room_back}
use Rattle.number.specs.Inner.Written.{Room, Wrote}
use Rattle.record.specs.Content.{NoiseTree}
use Rattle.record.specs.Writing.{write_head, write_tree, write_noise}
use Rattle.record.proofs.Lengths.{length-head}
use Rattle.record.specs.Inner.Heads.{head_from}
use Rattle.record.specs.declared.Layout.{Layout}
use Rattle.tree.specs.Columns.{columns_at}
use Rattle.tree.specs.Inner.Keys.{keys_for}
use Rattle.tree.specs.KeySchedules.{OfChildKeys}
use Rattle.dealing.specs.Input.{Input, position}
use Rattle.dealing.specs.Parts.{noise_tree, noise_part}
use Rattle.dealing.specs.Inner.Steps.{input_from}
use Rattle.dealing_call.specs.Inner.Steps.{planned, planned_tree, trees_bytes, Placed, TreesPlaced, NoisePlaced}
use Rattle.dealing_call.specs.declared.noise.Planned.{Planned}
use Rattle.dealing_call.proofs.Written.{first, base_at, first-none, first_more, base_none, base_next, first-length, own-tree}

tree-position : (I : Input) (i : ℕ) → (noise_tree I i).position ≡ position I i
unfolding noise_tree
tree-position I i = refl

module _ (f : Layout) (roots positions values delta b : List ℕ) where
  -- tree i
  abbrev tree : ℕ → NoiseTree
  tree i = noise_tree (input_from f roots positions values delta [] []) i

  -- i trees have been written after the head
  pub record Turn (keys : List (List ℕ)) (out : List ℕ) (at base i : ℕ) : Type 0 where
    pub ready : TreesPlaced f roots positions values delta b
    pub child-keys : OfChildKeys (2 ^ f.branch_bits) (keys_for keys)
    pub turns : i ≤ f.trees
    pub next : base ≡ base_at f.field tree i
    pub wrote : Wrote b f.body (first f.field tree i) at out

  pub turn_start : {keys : List (List ℕ)} → TreesPlaced f roots positions values delta b → OfChildKeys (2 ^ f.branch_bits) (keys_for keys)
      → Turn keys b f.body 0 0
  turn_start R L =
      record {
        ready = R;
        child-keys = L;
        turns = omega arith;
        next = sym (base_none f.field tree);
        wrote = rw (first-none f.field tree) (record { place = sym (add-zero f.body); stored = refl });
      }

  module _ (R : TreesPlaced f roots positions values delta b) where
    small-leaves : 2 ^ f.depth ≤ 65536
    small-leaves = pow_mono R.depth

    -- the first i trees have room
    enough : (i : ℕ) → i ≤ f.trees → f.body + length (first f.field tree i) ≤ length b
    enough i h =
        let all : length (first f.field tree (i + (f.trees - i))) ≡ length (first f.field tree f.trees) =
        ap (λ n. length (first f.field tree n)) (omega arith) in
        omega (arith, first-length f.field tree (f.trees - i) i, all, R.room.fits)

    base_below : (i : ℕ) → i < f.trees → base_at f.field tree i ≤ get_or positions i 0
    base_below zero h = omega (arith, base_none f.field tree)
    base_below (suc i) h =
        let e : base_at f.field tree (suc i) ≡ get_or positions i 0 + 1 =
        ap (base_at f.field tree) {x = suc i} {y = i + 1} (omega arith) ∙ base_next f.field tree i
        ∙ ap (λ n. n + 1) (tree-position (input_from f roots positions values delta [] []) i) in
        omega (arith, e, rises f.trees (λ i. get_or positions i 0) R.rising i h)

  module _ {keys : List (List ℕ)} {out : List ℕ} {at base i : ℕ} (T : Turn keys out at base i) where
    pub turn_long : length out ≡ length b
    turn_long = ap length T.wrote.stored ∙ length-sets b f.body (first f.field tree i)

    module _ (h : i < f.trees) where
      module _ {t : Planned} (made : t ≡ planned f positions values i base at) where
        module _ {root : List (List ℕ)} (node : root ≡ columns_at roots (16 * i)) where
          own : planned_tree t root delta ≡ tree i
          own = rw (made, node) (own-tree (input_from f roots positions values delta [] []) i base at)

          more : first f.field tree (i + 1) ≡ first f.field tree i ++ write_tree t.layout.field t.base (planned_tree t root delta)
          more = first_more f.field tree i ∙ rw (own, made, T.next)

          pub turn_asks : Placed t root delta out
          turn_asks =
              record {
                depth = rw made T.ready.depth;
                branch_least = rw made T.ready.branch_least;
                branch-most = rw made T.ready.branch-most;
                scalar = T.ready.scalar;
                rising = rw made (omega (arith, T.next, base_below T.ready i h));
                below = rw made (omega (arith, T.ready.below i h, small-leaves T.ready));
                room =
                    record {
                      fits =
                          omega (
                            arith,
                            enough T.ready (i + 1) (omega arith),
                            ap length more,
                            ap (λ x. x.at) made,
                            length-append (first f.field tree i) (write_tree t.layout.field t.base (planned_tree t root delta)),
                            T.wrote.place,
                            turn_long,
                          );
                    };
              }

          pub turn_next : {after : ℕ} {out₁ : List ℕ} → Wrote out t.at (write_tree t.layout.field t.base (planned_tree t root delta)) after out₁
              → Turn keys out₁ after (t.position + 1) (i + 1)
          turn_next {after} {out₁} w =
              record {
                ready = T.ready;
                child-keys = T.child-keys;
                turns = omega arith;
                next =
                    ap (λ x. x.position + 1) made ∙ ap (λ n. n + 1) (sym (tree-position (input_from f roots positions values delta [] []) i))
                    ∙ sym (base_next f.field tree i);
                wrote =
                    rw more (wrote_then T.wrote
                    (subst (λ n. Wrote out n (write_tree t.layout.field t.base (planned_tree t root delta)) after out₁) (ap (λ x. x.at) made) w));
              }

-- ---- the head and the trees

module _ (f : Layout) (roots positions values delta key label : List ℕ) (out : List ℕ)
    (P : NoisePlaced f (input_from f roots positions values delta key label) (length out)) where
  -- the trees do not look at the code key and the label
  noise-bytes : write_noise (noise_part (input_from f roots positions values delta key label))
      ≡ write_head 1 (head_from f key label) ++ trees_bytes f roots positions values delta
  unfolding write_noise noise_tree
  noise-bytes = refl

  noise-room : Room out 0 (write_head 1 (head_from f key label) ++ trees_bytes f roots positions values delta)
  noise-room = record { fits = omega (arith, P.room, ap length noise-bytes) }

  pub noise-head : Room out 0 (write_head 1 (head_from f key label))
  noise-head = room-front (write_head 1 (head_from f key label)) _ noise-room

  pub noise-key : length key ≡ 16
  noise-key = P.admitted.code_key

  pub noise-label : length label ≡ 16
  noise-label = P.admitted.label

  module _ {at : ℕ} {out₁ : List ℕ} (w : Wrote out 0 (write_head 1 (head_from f key label)) at out₁) where
    begins : at ≡ f.body
    begins = w.place ∙ rw (zero-add, length-head 1 (head_from f key label) noise-key noise-label) (sym P.writable.body)

    pub noise-trees : TreesPlaced f roots positions values delta out₁
    noise-trees =
        record {
          depth = P.admitted.depth.1;
          branch_least = P.admitted.branch.0;
          branch-most = P.admitted.branch.1;
          trees = P.admitted.trees.1;
          root-bytes = P.admitted.roots;
          position-count = P.admitted.positions;
          value-count = P.admitted.values;
          scalar = P.admitted.delta;
          rising = P.admitted.rising;
          below = P.admitted.below;
          room = rw begins at (room_back (write_head 1 (head_from f key label)) (trees_bytes f roots positions values delta) w noise-room);
        }

    pub noise-wrote : {next : ℕ} {out₂ : List ℕ} → Wrote out₁ f.body (trees_bytes f roots positions values delta) next out₂
        → Wrote out 0 (write_noise (noise_part (input_from f roots positions values delta key label))) next out₂
    noise-wrote v = rw noise-bytes (wrote_then w (rw (← begins) at v))
