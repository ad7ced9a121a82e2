use Rattle.std.proofs.Common.{rules, inl, map}
use Rattle.saga_tool.proofs.commands.audit.Goals as goal

pub returns : goal.returns
returns g c =
    inl (
      c.in_ok-history.history.items,
      c.in_ok-history.ensures.text,
      inl (map (λ t. t.items) c.in_ok-texts.texts.items, c.in_ok-texts.ensures.texts, search rules),
    )
