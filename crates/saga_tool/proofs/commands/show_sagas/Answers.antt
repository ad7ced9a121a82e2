use Rattle.std.proofs.Common.{◌≡◌, rules, inl, map, refl, subst, sym, List, ℕ}
use Rattle.std.specs.Prelude.{Err, None}
use Rattle.std.specs.Borrow.{Bor}
use Rattle.saga_serve.specs.Drives.{IsLinesOutput}
use Rattle.saga_tool.specs.declared.responses.Response.{Response}
use Rattle.saga_tool.specs.Responses.{IsAlone}
use Rattle.saga_tool.specs.Program.{AreFor, IsUnreadFor, StopsBy}
use Rattle.saga_tool.proofs.ReplyLemmas.{show_unread, show_unread_from}
use Rattle.saga_tool.proofs.commands.show_sagas.Goals as goal

pub returns-in_err-texts : goal.returns-in_err-texts
returns-in_err-texts g c =
    let world = g.W.Outside.world c.args.outside.now in
    let is : c.from_residual.result ≡ Err c.in_err-texts.field-0.0 = search rules in
    let stops = subst (λ (fs : List (Bor (List ℕ))). StopsBy (IsUnreadFor world.file_gives None (map (λ s. s.now) fs)) c.in_err-texts.field-0.0)
    c.deref.ensures.value c.in_err-texts.ensures.stop in
    rw is (show_unread world _ _ c.in_err-texts.field-0.0 stops)

pub returns-in_err-text : goal.returns-in_err-text
returns-in_err-text g c =
    let world = g.W.Outside.world c.args.outside.now in
    let texts = map (λ t. t.items) c.in_ok-texts.texts.items in
    let is : c.from_residual-in_err-text.result ≡ Err c.in_err-text.field-0.0 = search rules in
    let given = subst (λ (fs : List (Bor (List ℕ))). AreFor world.file_gives None (map (λ s. s.now) fs) texts) c.deref.ensures.value c.in_ok-texts.ensures.texts in
    rw is (show_unread_from world _ _ texts c.in_err-text.field-0.0 given c.in_err-text.ensures.stop)

pub returns : goal.returns
returns g c =
    let world = g.W.Outside.world c.args.outside.now in
    let texts = map (λ t. t.items) c.in_ok-texts.texts.items in
    let text = c.in_ok-text.text.items in
    inl (
      texts,
      subst (λ (fs : List (Bor (List ℕ))). AreFor world.file_gives None (map (λ s. s.now) fs) texts) c.deref.ensures.value c.in_ok-texts.ensures.texts,
      inl (
        text,
        c.in_ok-text.ensures.text,
        subst (λ (r : Response). IsAlone (IsLinesOutput world.drive text texts) r) (sym c.alone.ensures) (record {
          replies = c.drive.ensures.shows text texts c.in_ok-output.output (search rules);
          none = refl;
        }),
      ),
    )
