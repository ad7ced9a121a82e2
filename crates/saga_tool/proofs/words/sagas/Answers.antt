use Rattle.std.proofs.Common.{rules, ◌≡◌, ◌∙◌, ap₂, codes, true}
use Rattle.std.proofs.lemmas.Result.{IfOk-weaker}
use Rattle.clap.specs.Words.{App, Rule, app_of, rule_of, new_app, with_rule}
use Rattle.saga_tool.specs.declared.forms.Kind.TheVariants.{File}
use Rattle.saga_tool.specs.Forms.{rule_by}
use Rattle.saga_tool.proofs.words.sagas.Goals as goal

abbrev bare : App
bare = record (new_app (codes "sagas")) { top = record (new_app (codes "sagas")).top { no_binary_name = true; has_version = true } }

abbrev rule : Rule
rule = record (rule_by File (codes "COMMAND")) { value_names = 0 }

pub returns : goal.returns
returns c =
    let bare_is : app_of c.after_help.result ≡ bare = search rules in
    let rule_is : rule_of c.help-command.result ≡ rule = search rules in
    IfOk-weaker c.arg.result _ _ (λ r adds. adds.shape (search rules) ∙ ap₂ with_rule bare_is rule_is) c.arg.ensures
