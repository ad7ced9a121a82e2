use Rattle.saga_audit.specs.Groups.{IsFirstIn, IsTallied, everything}
use Rattle.saga_audit.proofs.GroupLemmas.{no_from, yes_from}
use Rattle.saga_audit.proofs.audits.answer_of.Goals as goal

pub returns-in-Legal : goal.returns-in-Legal
returns-in-Legal c =
    let told : IsTallied c.args.shelf.now everything c.args.events.now c.in-Legal.tally = rw c.in-Legal.is at c.requires in
    yes_from c.args.shelf.now c.args.events.now c.in-Legal.tally c.headline.ensures told

pub returns-in-Refused : goal.returns-in-Refused
returns-in-Refused c =
    let told : IsFirstIn c.args.shelf.now everything c.args.events.now c.in-Refused.position c.in-Refused.reason = rw c.in-Refused.is at c.requires in
    no_from c.args.shelf.now c.args.events.now c.in-Refused.position c.in-Refused.reason told
