use Rattle.std.proofs.Common.{◌≡◌, true, false, IsTrue, arith, rules}
use Rattle.std.proofs.lemmas.Bool.{both_ways}
use Rattle.saga_desk.proofs.FinishLemmas.{same_at, same_lists, same_more}
use Rattle.saga_desk.proofs.desks.finish.is_same_shelf.Goals as goal

pub returns-then-not-are_alike : goal.returns-then-not-are_alike
returns-then-not-are_alike c =
    let wrong : IsTrue false → c.args.a.now ≡ c.args.b.now = search rules in
    let differs : c.are_alike.result ≡ true → ⊥ = λ e. both_ways _ c.if-not-are_alike.true e in
    (wrong, λ same. absurd (differs (c.are_alike.ensures.1 (same_at c.args.a.now c.args.b.now c.loop-i.i c.index-a-i.result c.index-b-i.result c.loop-i-test.true c.index-a-i.is c.index-b-i.is same))))

pub loop-i-preserved : goal.loop-i-preserved
loop-i-preserved c =
    same_more c.args.a.now c.args.b.now c.loop-i.i c.index-a-i.result c.index-b-i.result c.if-a-b.false c.loop-i-test.true c.loop-i.invariant c.index-a-i.is c.index-b-i.is (c.are_alike.ensures.0 c.if-not-are_alike.false)

pub returns : goal.returns
returns c =
    let right : c.args.a.now ≡ c.args.b.now → IsTrue true = search rules in
    (λ yes. same_lists c.args.a.now c.args.b.now c.if-a-b.false (λ k d lt. c.loop-i.invariant k d (let e = c.loop-i-test.false in omega arith)), right)
