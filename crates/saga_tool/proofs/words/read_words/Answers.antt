use Rattle.std.proofs.Common.{◌≡◌, rules, subst, sym, map, true}
use Rattle.clap.specs.Words.{HasKind, fault_of}
use Rattle.saga_tool.specs.Forms.{Outline, app_by}
use Rattle.saga_tool.specs.Suited.{is_suited}
use Rattle.saga_tool.proofs.FaultLemmas.{command_fault}
use Rattle.saga_tool.proofs.TableLemmas.{all_suited}
use Rattle.saga_tool.proofs.words.read_words.Goals as goal

pub read_by-requires : goal.read_by-requires
read_by-requires c = record {
  suited = subst (λ (o : Outline). is_suited (app_by o) ≡ true) (sym c.form_of-form.ensures.outline) (all_suited c.in-Some-named.name);
}

pub returns-in_err-given-clause-fault : goal.returns-in_err-given-clause-fault
returns-in_err-given-clause-fault c =
    let rest = map (λ s. s.now) c.in-Some.rest.now in
    let error = c.in_err-given.field-0.0 in
    command_fault c.from_residual.result (map (λ s. s.now) c.args.words.now) c.in-Some-named.name rest error (search rules)
    (subst (λ (o : Outline). HasKind (fault_of (app_by o) rest) error) c.form_of-form.ensures.outline c.in_err-given.ensures.kinds)
    c.from_residual.ensures.1
