use Rattle.saga_closure.proofs.SearchLemmas.{IsWordOn}
use Rattle.saga_closure.proofs.searching.label_word.Given as goal

abbrev pub invariant-loop-rest : goal.invariant-loop-rest
invariant-loop-rest l = IsWordOn l.at l.word l.level l.initial.found l.rest l.found

abbrev pub decreases-loop-rest : goal.decreases-loop-rest
decreases-loop-rest l = l.rest
