use Rattle.std.proofs.Common.{◌≡◌, sym, ◌∙◌, ap, arith, get_or, length, List, [], ◌∷◌}
use Rattle.std.proofs.lemmas.List.{drop_all}
use Rattle.saga_desk.specs.declared.receipts.Receipt.{Receipt}
use Rattle.saga_desk.proofs.StepLemmas.{seat_rest, if_some, if_none, next_some, next_none}
use Rattle.saga_desk.proofs.agreement.next_of_seat.Goals as goal

pub returns-then-number-receipts-clause-none : goal.returns-then-number-receipts-clause-none
returns-then-number-receipts-clause-none c = λ i n.
    let left = seat_rest c.args.seats.now c.args.told.now c.args.seat c.index-seats-seat.result c.requires.seats c.requires.within c.index-seats-seat.is in
    let l = ap length c.receipts-receipts.ensures in
    let none = drop_all (get_or c.args.told.now c.args.seat 0) c.index-seats-seat.result.receipts (omega arith) in
    let e : ◌≡◌ {A = List Receipt} [] (n.0 ∷ n.2.0) = sym none ∙ (sym left ∙ n.2.1) in
    absurd cc

pub returns-clause-some : goal.returns-clause-some
returns-clause-some c =
    if_some c.book_of.result c.book_of.ensures.some (λ i m.
    next_some c.args.books.now c.args.taken.now c.args.seats.now c.args.told.now c.args.seat i c.index-seats-seat.result c.receipts-receipts.result.now _
    c.requires.seats c.requires.within c.index-seats-seat.is c.receipts-receipts.ensures c.if-number-receipts.false m)

pub returns-clause-none : goal.returns-clause-none
returns-clause-none c =
    if_none c.book_of.result c.book_of.ensures.none (λ none i n. none i
    (next_none c.args.books.now c.args.taken.now c.args.seats.now c.args.told.now c.args.seat i c.index-seats-seat.result c.receipts-receipts.result.now _
    c.requires.seats c.requires.within c.index-seats-seat.is c.receipts-receipts.ensures n))
