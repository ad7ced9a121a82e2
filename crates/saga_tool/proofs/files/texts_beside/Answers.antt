use Rattle.std.proofs.Common.{◌≡◌, rules, List, ℕ, inr, refl, subst, sym}
use Rattle.std.specs.Prelude.{Ok, Err}
use Rattle.saga_serve.specs.Limits.{max_beside}
use Rattle.saga_texts.specs.Beside.{HoldsNone}
use Rattle.saga_serve.specs.Outside.{beside}
use Rattle.saga_tool.specs.Program.{IsNoDefinitions}
use Rattle.saga_tool.specs.Responses.{IsAlone}
use Rattle.saga_tool.specs.declared.responses.Response.{Response}
use Rattle.saga_tool.proofs.ReplyLemmas.{kept_unread}
use Rattle.saga_tool.proofs.files.texts_beside.Goals as goal

pub returns-in_err-file-clause-stop : goal.returns-in_err-file-clause-stop
returns-in_err-file-clause-stop g c =
    let gives = (g.W.Outside.world c.args.outside.now).file_gives in
    let path : c.as_str.result.now ≡ beside c.args.log.now = search rules in
    let is : c.from_residual-in_err-file.result ≡ Err c.in_err-file.field-0.0 = search rules in
    rw is (kept_unread gives c.args.log.now c.as_str.result.now c.in_err-file.field-0.0 path c.in_err-file.ensures.stop)

pub returns-in_default-clause-stop : goal.returns-in_default-clause-stop
returns-in_default-clause-stop g c =
    let gives = (g.W.Outside.world c.args.outside.now).file_gives in
    let found = c.in_ok-file.file.items in
    let path : c.as_str.result.now ≡ beside c.args.log.now = search rules in
    let none : HoldsNone found = search rules in
    inr (
      found,
      subst (λ (p : List ℕ). gives p max_beside (Ok found)) path c.in_ok-file.ensures.text,
      none,
      subst (λ (r : Response). IsAlone IsNoDefinitions r) (sym c.alone.ensures) (record { replies = c.in_ok-no_definitions.ensures; none = refl }),
    )
