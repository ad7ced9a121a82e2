use Rattle.std.proofs.Common.{◌≡◌, refl}
use Rattle.std.specs.Prelude.{false}
use Rattle.std.proofs.lemmas.Bool.{false≢true}
use Rattle.saga_def.specs.Rules.{IsName}
use Rattle.saga_script.specs.Statements.{is_name}
use Rattle.saga_script.proofs.NameLemmas.{name-test, other-test, name-utf8}
use Rattle.saga_script.proofs.statements.name_of.Goals as goal

pub returns-then-is_name : goal.returns-then-is_name
returns-then-is_name c =
    let same : c.in-Ok.name.now ≡ c.args.part.now = c.in-Ok.ensures.cases.0 in
    let name : IsName c.args.part.now = rw same at (c.if-is_name.ensures.0 refl) in
    rw (name-test c.args.part.now name, same) refl

pub returns-else-is_name : goal.returns-else-is_name
returns-else-is_name c =
    let same : c.in-Ok.name.now ≡ c.args.part.now = c.in-Ok.ensures.cases.0 in
    let other : is_name c.args.part.now ≡ false = other-test c.args.part.now (λ name. false≢true (c.if-is_name.ensures.1 (rw same name))) in
    rw other refl

pub returns-in-Err : goal.returns-in-Err
returns-in-Err c =
    let other : is_name c.args.part.now ≡ false = other-test c.args.part.now (λ name. c.in-Err.ensures.cases.0 (name-utf8 c.args.part.now name)) in
    rw other refl
