use Rattle.std.proofs.lemmas.Result.{err_from_is_err_and}
use Rattle.serde_json.specs.View.{view}
use Rattle.saga_cert.specs.WrittenCases.{written}
use Rattle.saga_cert.proofs.FaultLemmas.{reads_case_fault, reads_case_made}
use Rattle.saga_cert.proofs.texts.read_case.Goals as goal

pub returns-in_err-written : goal.returns-in_err-written
returns-in_err-written c =
    let p = err_from_is_err_and c.from_residual-in_err-written.result c.from_residual-in_err-written.ensures.1 in
    rw (p.1, p.2) (reads_case_fault c.args.definition.now c.args.bytes.now (view c.in_ok-value.value) _ c.in_ok-value.ensures.text c.in_err-written.ensures)

pub returns : goal.returns
returns c =
    reads_case_made c.args.definition.now c.args.bytes.now (written c.in_ok-written.written) c.case_of.result (view c.in_ok-value.value, c.in_ok-value.ensures.text, c.in_ok-written.ensures) c.case_of.ensures.made c.case_of.ensures.fault
