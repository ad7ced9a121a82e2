use Rattle.std.proofs.Common.{◌∙◌, ◌++◌, ap, map, take}
use Rattle.saga_report.specs.Opened.{opened_sagas}
use Rattle.saga_report.specs.Reports.{entry, entries_from}
use Rattle.saga_report.proofs.EntryLemmas.{entries_more_at}
use Rattle.saga_report.proofs.entries.entries_of.Goals as goal

pub loop-place-preserved : goal.loop-place-preserved
loop-place-preserved c =
    let k = c.loop-place.place in
    let d = c.index-histories-place.result in
    c.in_ok-push_entries.ensures
    ∙ (ap (λ front. front ++ map (entry k) (opened_sagas d.now)) c.loop-place.invariant
    ∙ (ap (λ h. entries_from 0 (map (λ g. g.now) (take k c.args.histories.now)) ++ map (entry k) (opened_sagas h.now)) c.index-histories-place.is ∙ entries_more_at c.args.histories.now k d c.loop-place-test.true))
