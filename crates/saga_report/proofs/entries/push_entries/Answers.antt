use Rattle.std.proofs.Common.{◌∙◌, ◌++◌, ◌∷◌, [], ap, sym, append-nil}
use Rattle.saga_report.specs.Reports.{entry}
use Rattle.saga_report.proofs.EntryLemmas.{opened_more}
use Rattle.saga_report.proofs.entries.push_entries.Goals as goal
use Rattle.saga_report.proofs.entries.push_entries.Goals.{in-Some+in_ok-push-in-Some, in-None}

pub loop-event-preserved : goal.loop-event-preserved
loop-event-preserved c =
    let place = c.args.place in
    let before = c.args.entries.now.items in
    let more = opened_more place before c.args.events.now c.loop-event.event-index c.event-item.result in
    elim c.match-opened_by.branch [
      | in-Some+in_ok-push-in-Some w ↦ rw w.entries-is (w.in_ok-push-in-Some.ensures.items ∙ (ap (λ x. x ++ entry place w.in-Some.number ∷ []) c.loop-event.invariant ∙ more (w.in-Some.number ∷ []) c.loop-event-test.true c.event-item.is w.in-Some.ensures))
      | in-None w ↦ rw w.entries-is (c.loop-event.invariant ∙ (sym (append-nil _) ∙ more [] c.loop-event-test.true c.event-item.is w.in-None.ensures))
    ]
