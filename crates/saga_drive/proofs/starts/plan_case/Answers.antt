use Rattle.std.proofs.Common.{◌≡◌, ◌∙◌, ◌++◌, ◌∷◌, [], ap, refl, rules}
use Rattle.saga_case.specs.declared.answers.Answer.{Answer}
use Rattle.saga_history.specs.declared.events.Event.TheVariants as event
use Rattle.saga_drive.proofs.PairLemmas.{right_is_paired}
use Rattle.saga_drive.proofs.KnownLemmas.{known}
use Rattle.saga_drive.proofs.PlanLemmas.{grown, holds_plan, more_after, right_now, two_lines}
use Rattle.saga_drive.specs.Replies.{plan_text}
use Rattle.saga_drive.specs.Tellings.{told_of}
use Rattle.saga_drive.proofs.starts.plan_case.Goals as goal

pub item_of_plan-requires : goal.item_of_plan-requires
item_of_plan-requires c = right_is_paired _ c.in_ok-answer.answer c.in_ok-answer.ensures.right

pub end_plan-requires : goal.end_plan-requires
end_plan-requires c =
    let begun : c.start_plan.new.book ≡ record c.args.book.now { history = c.args.book.now.history ++ event.StartPlan c.args.saga ∷ [] } = search rules in
    let same : c.in-Ok.verdict.case ≡ c.args.case = search rules in
    record { planned = rw (begun, same) (holds_plan c.args.book.now c.args.saga c.args.case c.requires.case) }

pub phase_in-requires : goal.phase_in-requires
phase_in-requires c =
    let mid = c.start_plan.new.book in
    rw c.end_plan.ensures.adopted (known mid (event.Adopt c.args.saga c.in-Ok.verdict.answer) c.args.saga refl c.end_plan.ensures.allowed)

pub returns-clause-ok : goal.returns-clause-ok
returns-clause-ok c =
    let book = c.args.book.now in
    let answer : Answer = c.in_ok-answer.answer in
    let item = c.in_ok-item.item in
    let begun : c.start_plan.new.book ≡ record book { history = book.history ++ event.StartPlan c.args.saga ∷ [] } = search rules in
    let same : c.in-Ok.verdict.answer ≡ answer = search rules in
    let all : c.end_plan.new.book ≡ record book { history = book.history ++ event.StartPlan c.args.saga ∷ event.Adopt c.args.saga answer ∷ [] } =
    grown book c.start_plan.new.book c.end_plan.new.book (event.StartPlan c.args.saga) (event.Adopt c.args.saga answer) begun (rw same at c.end_plan.ensures.adopted) in
    record {
      gained = event.StartPlan c.args.saga ∷ event.Adopt c.args.saga answer ∷ [];
      told = plan_text answer c.phase_in.result c.args.saga;
      grows = all;
      back = (c.in_ok-item.ensures.begin, (c.in_ok-item.ensures.end, tt));
      more = more_after c.args.telling.now c.make_room.new.self c.add.new.self _ _ _ _ c.make_room.ensures.same c.add.ensures
          (ap (told_of item) c.word_of.ensures.word ∙ c.in_ok-item.ensures.told c.phase_in.result)
          (c.in_ok-item.ensures.lines ∙ two_lines (event.StartPlan c.args.saga) (event.Adopt c.args.saga answer));
      allowed = c.requires.allowed;
      begins = record {
        answer = answer;
        right = right_now book c.args.saga c.args.case answer c.requires.case c.in_ok-answer.ensures.right;
        both = refl;
        phase = c.phase_in.result;
        stands = rw all at c.phase_in.ensures;
        told_is = refl;
      };
    }
