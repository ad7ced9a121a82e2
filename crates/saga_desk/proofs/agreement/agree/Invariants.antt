use Rattle.std.proofs.Common.{◌≡◌, ◌≤◌, length}
use Rattle.std.specs.List.{sum_by}
use Rattle.saga_desk.specs.Merges.{HaveCommonMerge}
use Rattle.saga_desk.specs.Agreement.{histories_of, receipts_of}
use Rattle.saga_desk.specs.Rests.{rests}
use Rattle.saga_desk.proofs.agreement.agree.Given as goal

abbrev pub invariant-loop-shard : goal.invariant-loop-shard
invariant-loop-shard l = record {
  shards : length l.taken ≡ length l.books;
  seats : length l.told ≡ length l.seats;
  first : l.first ≤ length l.seats;
  to : HaveCommonMerge (rests (histories_of l.books) l.taken) (rests (receipts_of l.seats) l.told) → HaveCommonMerge (histories_of l.books) (receipts_of l.seats);
  from : HaveCommonMerge (histories_of l.books) (receipts_of l.seats) → HaveCommonMerge (rests (histories_of l.books) l.taken) (rests (receipts_of l.seats) l.told);
}

abbrev pub decreases-loop-shard : goal.decreases-loop-shard
decreases-loop-shard l = sum_by length (rests (receipts_of l.seats) l.told)
