use Rattle.std.proofs.Common.{◌≡◌, ℕ, rules}
use Rattle.std.proofs.lemmas.Fn.{always_returns_same}
use Rattle.std.proofs.lemmas.List.Sorted.{IsNonDecreasingBy-from_sort_by_key}
use Rattle.saga_report.specs.declared.sagas.Entry.{Entry}
use Rattle.saga_report.proofs.entries.ordered_entries.Goals as goal

number : Entry → ℕ
number e = e.number

pub returns : goal.returns
unfolding number
returns c = record {
  all = rw c.in_ok-entries.ensures at c.in_ok-sort_by_key.ensures.permutation;
  ascending = IsNonDecreasingBy-from_sort_by_key number _ c.in_ok-sort_by_key.ensures.sorted (λ a r q k. search rules);
  stable = rw c.in_ok-entries.ensures at (c.in_ok-sort_by_key.ensures.stable number (always_returns_same _ (λ a r. r ≡ number a.0.now) _ (λ a r q k. search rules)));
}
