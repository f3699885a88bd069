-- Inner: no promise cites this file. The ranges of the sizes of a head that was read, and that its code key and its
-- label stand before the body.
use Rattle.std.specs.Prelude.{ℕ, ◌%◌, ◌^◌, ◌≤◌, List, ◌≡◌, length}
use Rattle.record.specs.Content.{Head}
use Rattle.tree.specs.Inner.Branches.{IsBranch}

pub record Sizes (s : List ℕ) (h : Head) (body : ℕ) : Type 0 where
  pub depth : h.depth ≤ 16
  pub branch : IsBranch h.branch_bits
  pub divides : h.depth % h.branch_bits ≡ 0
  pub some : 1 ≤ h.terms
  pub terms : h.terms ≤ 32
  pub full : h.terms ≤ 2 ^ h.depth
  pub outputs : h.outputs ≤ 32768
  pub key : 32 ≤ body
  pub room : body ≤ length s
