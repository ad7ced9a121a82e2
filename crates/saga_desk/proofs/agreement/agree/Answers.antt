use Rattle.std.proofs.Common.{◌≡◌, sym, ◌∙◌, ap, arith, subst, get_or, length, List, ◌+◌, map, length-set}
use Rattle.std.proofs.lemmas.List.{length-replicate, length-map}
use Rattle.std.proofs.lemmas.Bool.{both_ways}
use Rattle.saga_desk.specs.Merges.{HaveCommonMerge}
use Rattle.saga_desk.specs.Agreement.{histories_of, receipts_of, marks_of}
use Rattle.saga_desk.specs.Rests.{rests}
use Rattle.saga_core.specs.Book.{Book}
use Rattle.saga_desk.specs.Seat.{Seat}
use Rattle.saga_history.specs.Changes.{mark_of}
use Rattle.saga_desk.specs.declared.receipts.Receipt.{Receipt}
use Rattle.saga_desk.proofs.StepLemmas.{Kept, kept_on, smaller, rests_none, ends_to, ends_from, count_hs}
use Rattle.saga_desk.proofs.agreement.agree.Goals as goal

pub loop-shard-init : goal.loop-shard-init
loop-shard-init c =
    let hs = c.args.books.now in
    let ss = c.args.seats.now in
    let th : length c.args.taken.now ≡ length hs = ap length c.requires.books ∙ length-replicate (length hs) 0 in
    let ts : length c.args.told.now ≡ length ss = ap length c.requires.seats ∙ length-replicate (length ss) 0 in
    let eh : rests (histories_of hs) c.args.taken.now ≡ histories_of hs = ap (rests (histories_of hs)) c.requires.books ∙ rests_none (histories_of hs) (length hs) (sym (count_hs hs)) in
    let es : rests (receipts_of ss) c.args.told.now ≡ receipts_of ss = ap (rests (receipts_of ss)) c.requires.seats ∙ rests_none (receipts_of ss) (length ss) (sym (length-map ss (λ (s : Seat). s.receipts))) in
    record {
      shards = th;
      seats = ts;
      first = omega arith;
      to = λ a. subst (λ (p : List (List Receipt) × List (List Receipt)). HaveCommonMerge p.0 p.1) (cc (eh, es)) a;
      from = λ a. subst (λ (p : List (List Receipt) × List (List Receipt)). HaveCommonMerge p.0 p.1) (cc (sym eh, sym es)) a;
    }

pub loop-shard-smaller : goal.loop-shard-smaller
loop-shard-smaller c =
    let ss = c.args.seats.now in
    let n = c.in-Some.ensures.some in
    smaller (receipts_of ss) c.loop-shard.told c.in-Some.seat n.0 n.2.0 (c.loop-shard.invariant.seats ∙ sym (length-map ss (λ (s : Seat). s.receipts))) n.2.1

pub loop-shard-preserved : goal.loop-shard-preserved
loop-shard-preserved c =
    let hs = c.args.books.now in
    let ss = c.args.seats.now in
    let kept = kept_on (marks_of hs) (receipts_of ss) c.loop-shard.taken c.loop-shard.told c.in-Some.shard c.in-Some.seat
    (c.loop-shard.invariant.shards ∙ sym (length-map hs (λ (b : Book). map mark_of b.history)))
    (c.loop-shard.invariant.seats ∙ sym (length-map ss (λ (s : Seat). s.receipts)))
    c.in-Some.ensures.some
    (record { to = c.loop-shard.invariant.to; from = c.loop-shard.invariant.from }) in
    record {
      shards = length-set c.loop-shard.taken c.in-Some.shard (get_or c.loop-shard.taken c.in-Some.shard 0 + 1) ∙ c.loop-shard.invariant.shards;
      seats = length-set c.loop-shard.told c.in-Some.seat (get_or c.loop-shard.told c.in-Some.seat 0 + 1) ∙ c.loop-shard.invariant.seats;
      first = (let lt = c.in-Some.ensures.within.1 in omega arith);
      to = kept.to;
      from = kept.from;
    }

pub returns-then-are_taken : goal.returns-then-are_taken
returns-then-are_taken c =
    let hs = c.args.books.now in
    let ss = c.args.seats.now in
    let kept : Kept (marks_of hs) (receipts_of ss) c.loop-shard.taken c.loop-shard.told = record { to = c.loop-shard.invariant.to; from = c.loop-shard.invariant.from } in (
      λ yes'. ends_to hs ss c.loop-shard.taken c.loop-shard.told c.loop-shard.invariant.shards c.loop-shard.invariant.seats kept
          (c.are_taken.ensures.0 c.if-are_taken.true) (c.are_told.ensures.0 yes'),
      λ a. c.are_told.ensures.1 (ends_from hs ss c.loop-shard.taken c.loop-shard.told c.loop-shard.invariant.shards c.loop-shard.invariant.seats kept
          (λ k i. c.in_default.ensures.none k i) a).1,
    )

pub returns-else-are_taken : goal.returns-else-are_taken
returns-else-are_taken c =
    let hs = c.args.books.now in
    let ss = c.args.seats.now in
    let kept : Kept (marks_of hs) (receipts_of ss) c.loop-shard.taken c.loop-shard.told = record { to = c.loop-shard.invariant.to; from = c.loop-shard.invariant.from } in (
      λ yes'. absurd (both_ways _ c.if-are_taken.false yes'),
      λ a. c.are_taken.ensures.1 (ends_from hs ss c.loop-shard.taken c.loop-shard.told c.loop-shard.invariant.shards c.loop-shard.invariant.seats kept
          (λ k i. c.in_default.ensures.none k i) a).0,
    )
