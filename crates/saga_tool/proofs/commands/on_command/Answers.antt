use Rattle.std.proofs.Common.{List, ℕ}
use Rattle.saga_tool.specs.declared.forms.Name.{Name}
use Rattle.saga_tool.specs.declared.forms.Name.TheVariants.{Check, Plan, Draw}
use Rattle.saga_tool.specs.Program.{CommandReplies, Ends}
use Rattle.saga_tool.proofs.ReplyLemmas.{of_three, of_two, audit_replies}
use Rattle.saga_tool.proofs.commands.on_command.Goals as goal

pub returns-in-Check-len3 : goal.returns-in-Check-len3
returns-in-Check-len3 g c =
    of_three (λ (n : Name) (fs : List (List ℕ)). Ends (CommandReplies (g.W.Outside.world c.args.outside.now) c.args.found.now.given n fs) c.check.result)
    c.args.found.now.name Check c.args.found.now.given.files.items c.as_slice.result.now _ c.in-Check-len3.is-0 c.as_slice.ensures.value
    c.in-Check-len3.len_at_least c.in-Check-len3.len_below c.check.ensures

pub returns-in-Plan-len2 : goal.returns-in-Plan-len2
returns-in-Plan-len2 g c =
    of_two (λ (n : Name) (fs : List (List ℕ)). Ends (CommandReplies (g.W.Outside.world c.args.outside.now) c.args.found.now.given n fs) c.plan.result)
    c.args.found.now.name Plan c.args.found.now.given.files.items c.as_slice.result.now _ c.in-Plan-len2.is-0 c.as_slice.ensures.value
    c.in-Plan-len2.len_at_least c.in-Plan-len2.len_below c.plan.ensures

pub returns-in-Draw-len2 : goal.returns-in-Draw-len2
returns-in-Draw-len2 g c =
    of_two (λ (n : Name) (fs : List (List ℕ)). Ends (CommandReplies (g.W.Outside.world c.args.outside.now) c.args.found.now.given n fs) c.draw_case.result)
    c.args.found.now.name Draw c.args.found.now.given.files.items c.as_slice.result.now _ c.in-Draw-len2.is-0 c.as_slice.ensures.value
    c.in-Draw-len2.len_at_least c.in-Draw-len2.len_below c.draw_case.ensures

pub returns-in-Draw-len3 : goal.returns-in-Draw-len3
returns-in-Draw-len3 g c =
    of_three (λ (n : Name) (fs : List (List ℕ)). Ends (CommandReplies (g.W.Outside.world c.args.outside.now) c.args.found.now.given n fs) c.draw_answer.result)
    c.args.found.now.name Draw c.args.found.now.given.files.items c.as_slice.result.now _ c.in-Draw-len3.is-0 c.as_slice.ensures.value
    c.in-Draw-len3.len_at_least c.in-Draw-len3.len_below c.draw_answer.ensures

pub returns-in-Audit-len1-up : goal.returns-in-Audit-len1-up
returns-in-Audit-len1-up g c =
    audit_replies (g.W.Outside.world c.args.outside.now) c.args.found.now.given c.args.found.now.name c.args.found.now.given.files.items c.as_slice.result.now
    c.audit_by.result _ c.in-Audit-len1-up.is-0 c.as_slice.ensures.value c.in-Audit-len1-up.len_at_least c.audit_by.ensures
