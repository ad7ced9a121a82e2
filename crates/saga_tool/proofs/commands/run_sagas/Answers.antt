use Rattle.std.proofs.Common.{◌≡◌, arith, rules, inl, inr, map, refl, subst, List, ℕ}
use Rattle.std.specs.Prelude.{Err}
use Rattle.std.specs.Borrow.{Bor}
use Rattle.saga_text.specs.Limits.{max_definition}
use Rattle.saga_tool.specs.Program.{AreGiven, IsFirstUnreadable, StopsBy}
use Rattle.saga_tool.proofs.ReplyLemmas.{run_shown, run_unread}
use Rattle.saga_tool.proofs.commands.run_sagas.Goals as goal

pub returns-in_err-texts : goal.returns-in_err-texts
returns-in_err-texts g c =
    let world = g.W.Outside.world c.args.outside.now in
    let is : c.from_residual-in_err-texts.result ≡ Err c.in_err-texts.field-0.0 = search rules in
    let stops = subst (λ (fs : List (Bor (List ℕ))). StopsBy (IsFirstUnreadable world.file_gives max_definition (map (λ s. s.now) fs)) c.in_err-texts.field-0.0)
    c.deref.ensures.value c.in_err-texts.ensures.stop in
    rw is (run_unread world _ c.in_ok-script.script.items _ c.args.given.now.shards _ c.in_err-texts.field-0.0 c.in_ok-script.ensures.text stops)

pub returns-then-not-may_log : goal.returns-then-not-may_log
returns-then-not-may_log g c =
    let gives = (g.W.Outside.world c.args.outside.now).file_gives in
    let texts = map (λ t. t.items) c.in_ok-texts.texts.items in
    inl (
      c.in_ok-script.script.items,
      c.in_ok-script.ensures.text,
      inl (
        texts,
        subst (λ (fs : List (Bor (List ℕ))). AreGiven gives max_definition (map (λ s. s.now) fs) texts) c.deref.ensures.value c.in_ok-texts.ensures.texts,
        inr (c.may_log.ensures.taken (search rules), search rules),
      ),
    )

pub returns : goal.returns
returns g c =
    let gives = (g.W.Outside.world c.args.outside.now).file_gives in
    let texts = map (λ t. t.items) c.in_ok-texts.texts.items in
    inl (
      c.in_ok-script.script.items,
      c.in_ok-script.ensures.text,
      inl (
        texts,
        subst (λ (fs : List (Bor (List ℕ))). AreGiven gives max_definition (map (λ s. s.now) fs) texts) c.deref.ensures.value c.in_ok-texts.ensures.texts,
        inl (
          c.may_log.ensures.free (search rules),
          record {
            shown = c.in_ok-output.field-0;
            runs = run_shown _ _ _ _ _ _ c.in_ok-output.field-0 c.in_ok-output.ensures (search rules) (search rules) (omega (arith, c.requires.shards));
            output_is = refl;
            log_is = c.in_ok-log_for.ensures;
          },
        ),
      ),
    )
