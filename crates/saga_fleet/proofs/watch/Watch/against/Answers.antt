use Rattle.std.proofs.Common.{ℕ, List, sym, subst}
use Rattle.saga_fleet.specs.Records.{Fails, MayFollow, Says}
use Rattle.saga_fleet.specs.declared.events.Event.{Event}
use Rattle.saga_fleet.specs.declared.events.Event.TheVariants.{TookOver}
use Rattle.saga_fleet.proofs.watch.Watch.against.Goals as goal

pub returns-in-TookOver : goal.returns-in-TookOver
returns-in-TookOver c =
    subst (λ (e : Event). Says c.against_takeover.result
    (MayFollow c.args.synchronous c.args.self.now.log c.args.self.now.digests.items c.args.self.now.tallies.items e)
    (Fails c.args.synchronous c.args.self.now.log c.args.self.now.digests.items c.args.self.now.tallies.items e))
    (sym c.in-TookOver.is)
    (subst (λ (ds : List ℕ). Says c.against_takeover.result
    (MayFollow c.args.synchronous c.args.self.now.log ds c.args.self.now.tallies.items (TookOver c.in-TookOver.epoch c.in-TookOver.read c.in-TookOver.digest))
    (Fails c.args.synchronous c.args.self.now.log ds c.args.self.now.tallies.items (TookOver c.in-TookOver.epoch c.in-TookOver.read c.in-TookOver.digest)))
    c.as_slice-digests.ensures.value
    (c.against_takeover.ensures c.args.synchronous c.args.self.now.tallies.items))
