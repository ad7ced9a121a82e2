use Rattle.std.proofs.Common.{◌≡◌, ◌<◌, ◌≤◌, length, Ok, arith}
use Rattle.std.proofs.lemmas.Bool.{false≢true}
use Rattle.std.proofs.lemmas.Result.{err_from_is_err_and}
use Rattle.toml.specs.View.{table_view}
use Rattle.saga_text.specs.declared.limits.TheConstants.{MAX_DEFINITION}
use Rattle.saga_text.specs.Drafts.{written}
use Rattle.saga_text.specs.Format.{contents_of, contents_from}
use Rattle.saga_text.proofs.FaultLemmas.{reads_fault, reads_built}
use Rattle.saga_text.proofs.definitions.read_definition.Goals as goal

pub returns-in_err-draft-clause-reads : goal.returns-in_err-draft-clause-reads
returns-in_err-draft-clause-reads c =
    let long : MAX_DEFINITION < length c.args.bytes.now → ⊥ = λ h. false≢true (c.if-is_too_long.ensures.1 h) in
    let short : length c.args.bytes.now ≤ MAX_DEFINITION = omega arith in
    let p = err_from_is_err_and c.from_residual-in_err-draft.result c.from_residual-in_err-draft.ensures.1 in
    rw (p.1, p.2) (reads_fault c.args.bytes.now (table_view c.in_ok-top.top) _ short c.in_ok-top.ensures c.in_err-draft.ensures)

pub returns-clause-reads : goal.returns-clause-reads
returns-clause-reads c =
    let long : MAX_DEFINITION < length c.args.bytes.now → ⊥ = λ h. false≢true (c.if-is_too_long.ensures.1 h) in
    let short : length c.args.bytes.now ≤ MAX_DEFINITION = omega arith in
    let top = table_view c.in_ok-top.top in
    let held : contents_of top ≡ Ok (contents_from (written c.in_ok-draft.draft)) = rw c.in_ok-draft.ensures in
    reads_built c.args.bytes.now (contents_from (written c.in_ok-draft.draft)) c.build.result (short, (top, c.in_ok-top.ensures, held)) c.build.ensures.built c.build.ensures.fault
