use Rattle.std.proofs.Common.{rules}
use Rattle.std.proofs.lemmas.Slice.Eq.{slice_eq-Decides}
use denote.Enum.Bare.{same_true, true_same}
use Rattle.saga_case.specs.contracts.states.StepState.{the_type}
use Rattle.saga_case.proofs.cases.are_same.Goals as goal

pub returns : goal.returns
returns c = slice_eq-Decides (λ a b. (same_true the_type (search rules) a b, true_same the_type a b)) c.args.left.now c.args.right.now c.eq.result c.eq.ensures
