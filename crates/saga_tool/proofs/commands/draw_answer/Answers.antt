use Rattle.std.proofs.Common.{rules, inl}
use Rattle.saga_tool.proofs.commands.draw_answer.Goals as goal

pub returns : goal.returns
returns g c =
    inl (
      c.in_ok-definition.definition.items,
      c.in_ok-definition.ensures.text,
      inl (
        c.in_ok-case.case.items,
        c.in_ok-case.ensures.text,
        inl (c.in_ok-answer.answer.items, c.in_ok-answer.ensures.text, search rules),
      ),
    )
