use Rattle.std.proofs.Common.{◌≡◌, ◌∙◌, List, Ok, subst, string_bytes}
use Rattle.saga_history.specs.declared.events.Event.{Event}
use Rattle.saga_history.specs.Changes.{past}
use Rattle.saga_history.specs.Rules.{IsLegal}
use Rattle.saga_log.specs.Logs.{log_of as history_of}
use Rattle.saga_texts.proofs.runs.account_of.Goals as goal

pub returns-clause-read_back : goal.returns-clause-read_back
returns-clause-read_back c =
    subst (λ (h : List Event). IsLegal c.args.shelf.now (past h) → history_of (string_bytes c.in_ok-log.log) ≡ Ok h)
    (c.deref-2.ensures.value ∙ c.in_ok-events.ensures) (c.in_ok-log.ensures.legal c.args.shelf.now)
