use Rattle.std.proofs.Common.{◌∙◌, ◌<◌, ◌∷◌, [], ap, append-nil, length, refl, subst, sym}
use Rattle.saga_history.specs.Changes.{step_event}
use Rattle.saga_log.specs.Back.{IsReadBack}
use Rattle.saga_log.specs.Logs.{event_line}
use Rattle.saga_drive.proofs.BookLemmas.{starts_step, of_step}
use Rattle.saga_drive.proofs.KnownLemmas.{in_saga, unknown}
use Rattle.saga_drive.proofs.PlanLemmas.{more_after}
use Rattle.saga_drive.specs.Starts.{start_of}
use Rattle.saga_drive.proofs.starts.start_step.Goals as goal

pub unreachable-requires : goal.unreachable-requires
unreachable-requires c =
    unknown c.args.book.now c.args.saga (λ d l. c.args.step < length d.steps) c.in_default.ensures
    (of_step c.args.book.now c.args.kind c.args.saga c.args.step c.requires)

pub taken_text-requires : goal.taken_text-requires
taken_text-requires c =
    in_saga c.args.book.now c.args.saga c.in-Some.found (λ d l. c.args.step < length d.steps) c.in-Some.ensures
    (of_step c.args.book.now c.args.kind c.args.saga c.args.step c.requires)

pub returns-in-Ok-clause-ok : goal.returns-in-Ok-clause-ok
returns-in-Ok-clause-ok c =
    let e = step_event c.args.saga c.args.step (start_of c.args.kind) in
    let item = c.in_ok-item.ensures in
    let event = c.of_step.ensures.value ∙ ap (step_event c.args.saga c.args.step) c.start_of.ensures in
    record {
      gained = e ∷ [];
      told = _;
      grows = c.in-Ok.ensures.ok;
      back = (subst IsReadBack event item.back, tt);
      more = more_after c.args.telling.now c.make_room.new.self c.add.new.self _ _ _ _ c.make_room.ensures.same c.add.ensures
          item.told (item.lines ∙ ap event_line event ∙ sym (append-nil (event_line e)));
      allowed = c.requires;
      begins = starts_step c.args.book.now c.args.kind c.args.saga c.args.step _ _
          (record { only = refl; saga = c.in-Some.found; is = c.in-Some.ensures; told_is = c.in_ok-text.ensures });
    }
