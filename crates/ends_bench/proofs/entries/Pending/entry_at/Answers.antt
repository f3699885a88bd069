-- `ends_bench::entries::entry_at` meets its contract. Assumes nothing.
use Rattle.ends_bench.proofs.Rows.{entry_with, entry_without}
use borrow.Author.Rules.{rules}
use Rattle.ends_bench.proofs.entries.Pending.entry_at.Goals as goal

pub returns-then-self-j : goal.returns-then-self-j
returns-then-self-j c = search (rules, entry_without)

pub returns : goal.returns
returns c = search entry_with
