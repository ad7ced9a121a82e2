use Rattle.std.proofs.Common.{◌≡◌, ℕ, arith}
use Rattle.std.proofs.lemmas.Bool.{eq-eqb}
use Rattle.saga_audit.specs.Groups.{everything, is_in}
use Rattle.saga_audit.proofs.AnswerLemmas.{yes_exactly}
use Rattle.saga_audit.proofs.GroupLemmas.{finds_same}
use Rattle.saga_audit.proofs.audits.audit.Goals as goal

one_group : (i : ℕ) → is_in 1 0 i ≡ everything i
one_group i = eq-eqb _ 0 (omega arith)

pub answer_of-requires : goal.answer_of-requires
answer_of-requires c = finds_same c.args.shelf.now (is_in 1 0) everything c.args.events.now one_group c.in_ok-found.found c.in_ok-found.ensures

pub returns-clause-exact : goal.returns-clause-exact
returns-clause-exact c = yes_exactly c.args.shelf.now c.args.events.now c.answer_of.result c.answer_of.ensures
