use Rattle.std.proofs.Common.{◌≡◌, ◌∙◌, ap, sym, subst, map, [], ◌∷◌, inr, inl}
use Rattle.std.proofs.lemmas.Result.{IfOk-weaker}
use Rattle.clap.specs.Words.{App, HasKind, fault_of, is_simple_and_free}
use Rattle.clap.specs.declared.error.kind.ErrorKind.TheVariants as kind
use Rattle.saga_tool.proofs.FaultLemmas.{option_kind, or_first, or_next, plain_kind, sagas_is_simple}
use Rattle.saga_tool.proofs.words.without_command.Goals as goal

pub returns-then-not-may_be_option : goal.returns-then-not-may_be_option
returns-then-not-may_be_option c =
    let words = map (λ s. s.now) c.args.first.now in
    IfOk-weaker c.error.result _ _ (λ e k. plain_kind words e (sym c.may_be_option.ensures ∙ c.if-not-may_be_option.true) (inr (inl k))) c.error.ensures.kind

pub returns-in-Err : goal.returns-in-Err
returns-in-Err c =
    let is = c.in_ok-sagas.ensures in
    let words = map (λ s. s.now) c.args.first.now in
    option_kind words c.in-Err.error (sym c.may_be_option.ensures ∙ c.if-not-may_be_option.false) (or_first _ (kind.InvalidSubcommand ∷ []) c.in-Err.error
    (subst (λ (a : App). HasKind (fault_of a words) c.in-Err.error) is (c.in-Err.ensures.kinds (ap is_simple_and_free is ∙ sagas_is_simple))))

pub returns : goal.returns
returns c =
    let is = c.in_ok-sagas.ensures in
    let words = map (λ s. s.now) c.args.first.now in
    let none = subst (λ (a : App). fault_of a words ≡ []) is (c.in-Ok.ensures.kinds (ap is_simple_and_free is ∙ sagas_is_simple)) in
    IfOk-weaker c.error-in-Ok.result _ _ (λ e k. option_kind words e (sym c.may_be_option.ensures ∙ c.if-not-may_be_option.false)
    (or_next _ (kind.InvalidSubcommand ∷ []) e none (inr (inl k)))) c.error-in-Ok.ensures.kind
