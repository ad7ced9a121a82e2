use Rattle.std.proofs.Common.{◌≡◌, ◌<◌, arith, rules, length, map, true, List, ℕ, Bor}
use Rattle.std.proofs.lemmas.Grind.{common_steps}
use Rattle.saga_tool.proofs.ReplyLemmas.{fleet_misused}
use Rattle.saga_tool.proofs.commands.audit_by.Goals as goal

pub returns-in_ok-misused : goal.returns-in_ok-misused
returns-in_ok-misused g c =
    let defs : List (List ℕ) = map (λ (s : Bor (List ℕ)). s.now) c.args.definitions.now in
    let is : c.args.fleet ≡ true = search rules in
    let some : 0 < length defs = grind (arith, common_steps) in
    fleet_misused (g.W.Outside.world c.args.outside.now) c.args.fleet c.args.log.now defs c.in_ok-misused.field-0 c.alone.result is some c.in_ok-misused.ensures c.alone.ensures
