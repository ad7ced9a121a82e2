use Rattle.std.proofs.Common.{◌∙◌, ap, map, subst}
use Rattle.std.proofs.lemmas.Result.{IfOk-weaker}
use Rattle.clap.specs.Words.{App, fault_of, is_simple, is_simple_and_free, matches_of, FailsBy}
use Rattle.saga_tool.specs.Forms.{app_by, outline_of}
use Rattle.saga_tool.proofs.ParseLemmas.{all_hold, is_simply, suits_simply, no_kind, its_kind}
use Rattle.saga_tool.proofs.arguments.matches_by.Goals as goal

pub returns-clause-rows : goal.returns-clause-rows
returns-clause-rows c =
    let app_is = c.in_ok-command.ensures in
    let words = map (λ s. s.now) c.args.words.now in
    IfOk-weaker c.try_get_matches_from_mut.result _ _ (λ m ok. (ok.2 (ap is_simple app_is ∙ is_simply (app_by (outline_of c.args.form.now)) c.requires.suited)).0
    ∙ ap (λ (a : App). matches_of a words) app_is) c.try_get_matches_from_mut.ensures.ok

pub returns-clause-taken : goal.returns-clause-taken
returns-clause-taken c =
    let app_is = c.in_ok-command.ensures in
    let words = map (λ s. s.now) c.args.words.now in
    no_kind _ c.try_get_matches_from_mut.result (subst (λ (a : App). FailsBy (fault_of a words) c.try_get_matches_from_mut.result) app_is
    (c.try_get_matches_from_mut.ensures.kinds (ap is_simple_and_free app_is ∙ suits_simply (app_by (outline_of c.args.form.now)) c.requires.suited)))

pub returns-clause-holds : goal.returns-clause-holds
returns-clause-holds c =
    IfOk-weaker c.try_get_matches_from_mut.result _ _ (λ m ok. all_hold c.in_ok-command.command m (outline_of c.args.form.now) c.in_ok-command.ensures c.requires.suited
    (record { built = c.try_get_matches_from_mut.new.self; from = ok.0; parsed = ok.1 })) c.try_get_matches_from_mut.ensures.ok

pub returns-clause-kinds : goal.returns-clause-kinds
returns-clause-kinds c =
    let app_is = c.in_ok-command.ensures in
    let words = map (λ s. s.now) c.args.words.now in
    its_kind _ c.try_get_matches_from_mut.result (subst (λ (a : App). FailsBy (fault_of a words) c.try_get_matches_from_mut.result) app_is
    (c.try_get_matches_from_mut.ensures.kinds (ap is_simple_and_free app_is ∙ suits_simply (app_by (outline_of c.args.form.now)) c.requires.suited)))
