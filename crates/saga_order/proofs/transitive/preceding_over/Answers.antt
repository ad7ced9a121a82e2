use Rattle.std.proofs.Common.{◌≡◌, get_or}
use Rattle.std.proofs.lemmas.List.{take_more}
use Rattle.saga_order.specs.TransitiveClosure.{set_at}
use Rattle.saga_order.proofs.ListLemmas.{set_at-read}
use Rattle.saga_order.proofs.TransitiveLemmas.{preceding_more}
use Rattle.saga_order.proofs.transitive.preceding_over.Goals as goal

pub loop-on-preserved : goal.loop-on-preserved
loop-on-preserved c =
    let i = c.loop-on.on-index in
    let on = c.index-closure-on in
    let read : on.result ≡ set_at c.args.closure.now (get_or c.args.needed.now i 0) =
    set_at-read c.args.closure.now (get_or c.args.needed.now i 0) on.result (c.requires.within i 0 c.loop-on-test.true) on.is in
    rw (take_more c.args.needed.now i 0 c.loop-on-test.true)
    (preceding_more _ _ c.args.closure.now c.loop-on.preceding c.insert.new.self c.add_all.new.self c.loop-on.invariant c.insert.ensures (rw read at c.add_all.ensures))
