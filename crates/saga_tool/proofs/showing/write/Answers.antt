use Rattle.std.proofs.Common.{rules, inr, subst, List, ℕ}
use Rattle.saga_tool.specs.Program.{IsPrinted}
use Rattle.saga_tool.proofs.showing.write.Goals as goal

pub returns-else-write_log : goal.returns-else-write_log
returns-else-write_log g c = inr (record {
  printed = subst (λ (text : List ℕ). IsPrinted (g.W.Outside.world c.args.outside.now) text) c.as_str.ensures.value (c.print.ensures.done (search rules));
  log = c.in_ok-log.log.now;
  log_is = search rules;
  path_is = search rules;
  logged = search rules;
})
