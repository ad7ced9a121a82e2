use Rattle.std.proofs.Common.{◌≡◌, rules, inl, map, option_map, refl, subst, sym, List, ℕ}
use Rattle.std.specs.Prelude.{Err}
use Rattle.std.specs.Borrow.{Bor}
use Rattle.saga_serve.specs.Drives.{IsDriveOutput}
use Rattle.saga_tool.specs.declared.responses.Response.{Response}
use Rattle.saga_tool.specs.Responses.{IsAlone}
use Rattle.saga_tool.specs.Program.{AreFor, IsUnreadFor, StopsBy}
use Rattle.saga_tool.proofs.ReplyLemmas.{drive_unread}
use Rattle.saga_tool.proofs.commands.drive_sagas.Goals as goal

pub returns-in_err-texts : goal.returns-in_err-texts
returns-in_err-texts g c =
    let world = g.W.Outside.world c.args.outside.now in
    let is : c.from_residual.result ≡ Err c.in_err-texts.field-0.0 = search rules in
    let stops = subst (λ (fs : List (Bor (List ℕ))). StopsBy (IsUnreadFor world.file_gives (option_map (λ s. s.now) c.args.given.now.log) (map (λ s. s.now) fs)) c.in_err-texts.field-0.0)
    c.deref.ensures.value c.in_err-texts.ensures.stop in
    rw is (drive_unread world _ _ c.in_err-texts.field-0.0 stops)

pub returns : goal.returns
returns g c =
    let world = g.W.Outside.world c.args.outside.now in
    let log = option_map (λ s. s.now) c.args.given.now.log in
    let texts = map (λ t. t.items) c.in_ok-texts.texts.items in
    inl (
      texts,
      subst (λ (fs : List (Bor (List ℕ))). AreFor world.file_gives (option_map (λ s. s.now) c.args.given.now.log) (map (λ s. s.now) fs) texts) c.deref.ensures.value c.in_ok-texts.ensures.texts,
      subst (λ (r : Response). IsAlone (IsDriveOutput world.drive log texts) r) (sym c.alone.ensures) (record {
        replies = c.drive.ensures.drives log texts c.in_ok-output.output (search rules);
        none = refl;
      }),
    )
