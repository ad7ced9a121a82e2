use Rattle.std.proofs.Common.{sym, subst}
use Rattle.saga_fleet.specs.Records.{DeedFails, May, Says}
use Rattle.saga_fleet.proofs.watch.Tally.against.Goals as goal

pub returns-in-Written : goal.returns-in-Written
returns-in-Written c =
    subst (λ d. Says c.against_commit.result (May c.args.synchronous c.args.now c.args.digests.now c.args.self d) (DeedFails c.args.synchronous c.args.now c.args.digests.now c.args.self d))
    (sym c.in-Written.is) (c.against_commit.ensures c.args.synchronous)

pub returns-in-Heard : goal.returns-in-Heard
returns-in-Heard c =
    subst (λ d. Says c.against_answer.result (May c.args.synchronous c.args.now c.args.digests.now c.args.self d) (DeedFails c.args.synchronous c.args.now c.args.digests.now c.args.self d))
    (sym c.in-Heard.is) (c.against_answer.ensures c.args.digests.now)
