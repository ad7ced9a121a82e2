use Rattle.saga_closure.proofs.SearchLemmas.{IsSetOn}
use Rattle.saga_closure.proofs.searching.label_all.Given as goal

abbrev pub invariant-loop-place : goal.invariant-loop-place
invariant-loop-place l = IsSetOn l.set l.level l.initial.found l.place l.found
