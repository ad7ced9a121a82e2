use Rattle.std.proofs.Common.{ap, codes, map, option_map, refl, subst, sym, List, ℕ, Bor}
use Rattle.saga_tool.specs.declared.responses.Response.{Response}
use Rattle.saga_tool.specs.Responses.{IsAlone}
use Rattle.saga_tool.specs.Program.{IsMisused}
use Rattle.saga_tool.proofs.ReplyLemmas.{lines_with_log, from_without_lines}
use Rattle.saga_tool.proofs.commands.drive.Goals as goal

pub returns-in_ok-misused-in-true-Some-default : goal.returns-in_ok-misused-in-true-Some-default
returns-in_ok-misused-in-true-Some-default g c =
    let world = g.W.Outside.world c.args.outside.now in
    let given = c.args.given.now in
    let log = option_map (λ s. s.now) given.log in
    let from = option_map (λ s. s.now) given.from in
    let here = c.in-true-Some-default in
    lines_with_log world given.lines log from here.field-0-1.now (map (λ s. s.now) given.files.items) c.alone.result here.is-0
    (ap (option_map (λ (s : Bor (List ℕ)). s.now)) here.is-1)
    (subst (λ (r : Response). IsAlone (IsMisused (codes "error: the argument '--lines' cannot be used with '--log <F>'")) r) (sym c.alone.ensures) (record {
      replies = c.in_ok-misused-in-true-Some-default.ensures;
      none = refl;
    }))

pub returns-in_ok-misused-in-false-default-Some : goal.returns-in_ok-misused-in-false-default-Some
returns-in_ok-misused-in-false-default-Some g c =
    let world = g.W.Outside.world c.args.outside.now in
    let given = c.args.given.now in
    let log = option_map (λ s. s.now) given.log in
    let from = option_map (λ s. s.now) given.from in
    let here = c.in-false-default-Some in
    from_without_lines world given.lines log from here.field-0-2.now (map (λ s. s.now) given.files.items) c.alone-in-false-default-Some.result here.is-0
    (ap (option_map (λ (s : Bor (List ℕ)). s.now)) here.is-2)
    (subst (λ (r : Response). IsAlone (IsMisused (codes "error: the argument '--from <F>' cannot be used without '--lines'")) r) (sym c.alone-in-false-default-Some.ensures)
    (record { replies = c.in_ok-misused-in-false-default-Some.ensures; none = refl }))
