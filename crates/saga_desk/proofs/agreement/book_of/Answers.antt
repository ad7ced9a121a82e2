use Rattle.std.proofs.Common.{◌≡◌, sym, ◌∙◌, ap, arith, get_or, length}
use Rattle.saga_desk.proofs.RestLemmas.{meets_from, meets_to, read_at, read_back}
use Rattle.std.proofs.Common.{true}
use Rattle.std.proofs.lemmas.List.{length-map}
use Rattle.saga_history.specs.Changes.{mark_of}
use Rattle.std.proofs.lemmas.Bool.{both_ways}
use Rattle.saga_desk.proofs.agreement.book_of.Goals as goal

pub returns-then-shard-books-clause-none : goal.returns-then-shard-books-clause-none
returns-then-shard-books-clause-none c = λ i m.
    let t = meets_to c.args.books.now c.args.taken.now i c.args.receipt c.requires m in omega (arith, t.0, t.1)

pub returns-then-place-receipt-clause-none : goal.returns-then-place-receipt-clause-none
returns-then-place-receipt-clause-none c = λ i m.
    let t = meets_to c.args.books.now c.args.taken.now i c.args.receipt c.requires m in
    c.if-place-receipt.true (ap (λ k. get_or c.args.taken.now k 0) t.1 ∙ sym t.2)

pub returns-then-place-history-clause-none : goal.returns-then-place-history-clause-none
returns-then-place-history-clause-none c = λ i m.
    let t = meets_to c.args.books.now c.args.taken.now i c.args.receipt c.requires m in
    let u = t.3 c.index-books-shard.result (c.index-books-shard.is ∙ ap (λ k. get_or c.args.books.now k c.index-books-shard.result) t.1) in
    omega (arith, u.0, length-map c.index-books-shard.result.history mark_of, ap length c.history-history.ensures.value)

pub returns-then-not-is_same-clause-none : goal.returns-then-not-is_same-clause-none
returns-then-not-is_same-clause-none c = λ i m.
    let t = meets_to c.args.books.now c.args.taken.now i c.args.receipt c.requires m in
    let u = t.3 c.index-books-shard.result (c.index-books-shard.is ∙ ap (λ k. get_or c.args.books.now k c.index-books-shard.result) t.1) in
    let differs : c.is_same.result ≡ true → ⊥ = λ e. both_ways _ c.if-not-is_same.true e in
    differs (c.is_same.ensures.1 (c.mark.ensures ∙ ap mark_of c.index-history-place.is ∙ read_at c.index-books-shard.result.history c.history-history.result.now (get_or c.args.taken.now c.args.receipt.shard 0) c.args.receipt.place _ c.args.receipt.mark
    c.history-history.ensures.value c.if-place-receipt.false (omega (arith, u.0, length-map c.index-books-shard.result.history mark_of)) u.1))

pub returns-clause-some : goal.returns-clause-some
returns-clause-some c =
    meets_from c.args.books.now c.args.taken.now c.args.receipt c.index-books-shard.result c.requires c.if-shard-books.false c.index-books-shard.is
    (sym c.if-place-receipt.false)
    (let l = ap length c.history-history.ensures.value in let e = c.if-place-receipt.false in let w = c.if-place-history.false in omega (arith, length-map c.index-books-shard.result.history mark_of))
    (read_back c.index-books-shard.result.history c.history-history.result.now (get_or c.args.taken.now c.args.receipt.shard 0) c.args.receipt.place _ c.args.receipt.mark
    c.history-history.ensures.value c.if-place-receipt.false c.if-place-history.false (ap mark_of (sym c.index-history-place.is) ∙ (sym c.mark.ensures ∙ c.is_same.ensures.0 c.if-not-is_same.false)))
