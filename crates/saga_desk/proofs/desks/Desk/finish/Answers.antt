use Rattle.std.proofs.Common.{ap, arith, refl, rules, [], ◌∷◌}
use Rattle.std.proofs.lemmas.List.Elements.{All-append, All-cons, All-nil}
use Rattle.std.specs.List.{All}
use Rattle.saga_def.specs.Sound.{IsSound}
use Rattle.saga_history.specs.Changes.{past}
use Rattle.saga_history.proofs.HeadlineLemmas.{headline_holds}
use Rattle.saga_core.specs.Book.{Book}
use Rattle.saga_desk.specs.Agreement.{Agree, histories_of, receipts_of}
use Rattle.saga_desk.specs.Desk.{Desk}
use Rattle.saga_desk.specs.Finish.{AreAll, AreBooks, AreOfShards, KeepLegalHistories}
use Rattle.saga_desk.specs.Told.{HoldsTold}
use Rattle.saga_desk.proofs.BridgeLemmas.{did_one_history}
use Rattle.saga_desk.proofs.FinishLemmas.{merges_legal}
use Rattle.saga_desk.proofs.MergeLemmas.{all_of-common}
use Rattle.saga_desk.proofs.desks.Desk.finish.Goals as goal

pub loop-slot-preserved : goal.loop-slot-preserved
loop-slot-preserved g c =
    let H : Book → Type 0 = HoldsTold g.P.Policy.may g.P.Policy.may_abort in
    let one : All H (c.into_book.result ∷ []) = All-cons H c.into_book.result [] c.into_book.ensures (All-nil H) in
    let more = All-append H c.loop-slot.books.items (c.into_book.result ∷ []) c.loop-slot.invariant.5 one in
    (tt, tt, search rules, search rules, search rules, rw c.push_reserved.ensures.items more)

pub returns-clause-named : goal.returns-clause-named
returns-clause-named g c =
    let agree : Agree c.loop-slot.books.items c.args.seats.items = search rules in
    all_of-common (histories_of c.loop-slot.books.items) (receipts_of c.args.seats.items) agree

pub returns-clause-history : goal.returns-clause-history
returns-clause-history g c =
    let agree : Agree c.loop-slot.books.items c.args.seats.items = search rules in
    let of : AreOfShards c.args.self.shelf c.args.self.shards c.loop-slot.books.items = search rules in
    let keep : KeepLegalHistories c.loop-slot.books.items = rw c.as_slice-2.ensures.value at c.see_histories.ensures in
    did_one_history c.args.self.shelf c.loop-slot.books.items c.args.seats.items agree (merges_legal c.args.self.shelf c.args.self.shards c.loop-slot.books.items of keep)

pub returns-clause-legal : goal.returns-clause-legal
returns-clause-legal g c =
    let of : AreOfShards c.args.self.shelf c.args.self.shards c.loop-slot.books.items = search rules in
    let keep : KeepLegalHistories c.loop-slot.books.items = rw c.as_slice-2.ensures.value at c.see_histories.ensures in
    merges_legal c.args.self.shelf c.args.self.shards c.loop-slot.books.items of keep

pub returns-clause-headline : goal.returns-clause-headline
returns-clause-headline g c =
    let of : AreOfShards c.args.self.shelf c.args.self.shards c.loop-slot.books.items = search rules in
    let keep : KeepLegalHistories c.loop-slot.books.items = rw c.as_slice-2.ensures.value at c.see_histories.ensures in
    let sound : All IsSound c.args.self.shelf = search rules in
    λ m merge. headline_holds c.args.self.shelf (past m) sound (merges_legal c.args.self.shelf c.args.self.shards c.loop-slot.books.items of keep m merge)

pub returns-then-not-are_of_shards-clause-why : goal.returns-then-not-are_of_shards-clause-why
returns-then-not-are_of_shards-clause-why g c =
    let all : AreAll c.args.self c.args.seats.items = search rules in
    let books : AreBooks c.args.self.shards c.loop-slot.books.items = record {
      all = omega (arith, c.loop-slot.invariant.3, c.loop-slot.invariant.4, c.in-None.ensures.steps.0, c.loop-slot.books.ok, c.len-count.ensures, ap (λ (d : Desk). d.shards) c.self.view_is);
      legal = rw c.as_slice-2.ensures.value at c.see_histories.ensures;
    } in
    let unfit : AreOfShards c.args.self.shelf c.args.self.shards c.loop-slot.books.items × Agree c.loop-slot.books.items c.args.seats.items → ⊥ = search rules in
    (refl, all, books, unfit)

pub returns-then-not-agree-clause-why : goal.returns-then-not-agree-clause-why
returns-then-not-agree-clause-why g c =
    let all : AreAll c.args.self c.args.seats.items = search rules in
    let books : AreBooks c.args.self.shards c.loop-slot.books.items = record {
      all = omega (arith, c.loop-slot.invariant.3, c.loop-slot.invariant.4, c.in-None.ensures.steps.0, c.loop-slot.books.ok, c.len-count.ensures, ap (λ (d : Desk). d.shards) c.self.view_is);
      legal = rw c.as_slice-2.ensures.value at c.see_histories.ensures;
    } in
    let unfit : AreOfShards c.args.self.shelf c.args.self.shards c.loop-slot.books.items × Agree c.loop-slot.books.items c.args.seats.items → ⊥ = search rules in
    (refl, all, books, unfit)
