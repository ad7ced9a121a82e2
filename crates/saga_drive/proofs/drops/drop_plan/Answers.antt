use Rattle.std.proofs.Common.{rules, ◌≡◌, ◌++◌, string_bytes}
use Rattle.saga_history.specs.declared.events.Event.TheVariants as event
use Rattle.saga_core.specs.Book.{with_event}
use Rattle.saga_log.specs.Logs.{event_line}
use Rattle.saga_drive.proofs.DropLemmas.{drops_more, drops_same}
use Rattle.saga_drive.proofs.drops.drop_plan.Goals.{in-Ok, in-Err}
use Rattle.saga_drive.proofs.drops.drop_plan.Goals as goal

pub returns-clause-more : goal.returns-clause-more
returns-clause-more c start drops =
    elim c.match-drop_plan.branch [
      | in-Ok w ↦
          let dropped : c.drop_plan.new.self ≡ with_event c.args.book.now (event.DropPlan c.args.saga) = search rules in
          let told : string_bytes c.match-drop_plan.lines ≡ string_bytes c.args.lines.now ++ event_line (event.DropPlan c.args.saga) = search rules in
          drops_more start c.args.book.now c.drop_plan.new.self _ _ c.args.saga drops dropped c.in_ok-line.ensures.back told
      | in-Err w ↦
          let same : c.drop_plan.new.self ≡ c.args.book.now = search rules in
          let silent : string_bytes c.match-drop_plan.lines ≡ string_bytes c.args.lines.now = search rules in
          drops_same start c.args.book.now c.drop_plan.new.self _ _ drops same silent
    ]
