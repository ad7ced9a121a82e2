-- How actions and compensations end.
use Rattle.std.proofs.Common.{◌≡◌, ℕ, ◌+◌, Bool, true, false, List, refl, sym, subst, arith}
use Rattle.std.specs.Prelude.{nat_lt, if◌then◌else◌}
use Rattle.std.proofs.lemmas.Bool.{lt-ltb, le-ltb}
use Rattle.saga_def.specs.Contents.{Contents}
use Rattle.saga_history.specs.declared.tasks.Kind.{Kind}
use Rattle.saga_history.specs.declared.tasks.Kind.TheVariants as kind
use Rattle.saga_history.specs.declared.tasks.Outcome.{Outcome}
use Rattle.saga_history.specs.declared.tasks.Outcome.TheVariants.{Done, Void, Failed}
use Rattle.saga_history.specs.declared.transitions.Transition.{Transition}
use Rattle.saga_history.specs.declared.transitions.Transition.TheVariants as transition
use Rattle.saga_history.specs.Changes.{Change}
use Rattle.saga_history.specs.Rules.{StepMay, misses_of, tries, undo_misses_of, undo_tries}
use Rattle.saga_history.specs.Tasks.{IsEndOf, end_of, missed, tries_of}

either : (P : Transition → Type 0) (b : Bool) (t u : Transition) → P t → P u → P (if b then t else u)
either P true t u p q = p
either P false t u p q = q

-- what holds of each end
pub of_end : (P : Kind → Outcome → Transition → Type 0)
    → P kind.Run Done transition.Commit → P kind.Run Void transition.Void → P kind.Run Failed transition.Missed
    → P kind.Run Failed transition.Fail → P kind.Undo Done transition.Undone → P kind.Undo Void transition.Undone
    → P kind.Undo Failed transition.UndoMissed → P kind.Undo Failed transition.UndoFail
    → (k : Kind) (o : Outcome) (t : Transition) → IsEndOf k o t → P k o t
of_end P commit void miss fail undone undo_void undo_miss undo_fail k o t (m, n, is) = subst (P k o) (sym is) (at k o)
  where
    at : (k : Kind) (o : Outcome) → P k o (end_of k o m n)
    at kind.Run Done = commit
    at kind.Run Void = void
    at kind.Run Failed = either (P kind.Run Failed) (nat_lt (m + 1) n) transition.Missed transition.Fail miss fail
    at kind.Undo Done = undone
    at kind.Undo Void = undo_void
    at kind.Undo Failed = either (P kind.Undo Failed) (nat_lt (m + 1) n) transition.UndoMissed transition.UndoFail undo_miss undo_fail

-- where it is allowed, the misses and the tries of the step decide which it is
pub end_is : (d : Contents) (l : List Change) (s : ℕ) (k : Kind) (o : Outcome) (t : Transition)
    → IsEndOf k o t → StepMay d l s t → t ≡ end_of k o (missed k l s) (tries_of k d s)
end_is d l s = of_end (λ k o t. StepMay d l s t → t ≡ end_of k o (missed k l s) (tries_of k d s))
    (λ may. refl)
    (λ may. refl)
    (λ may. rw (lt-ltb (misses_of l s + 1) (tries d s) may.condition) refl)
    (λ may. rw (le-ltb (misses_of l s + 1) (tries d s) (omega (arith, may.condition))) refl)
    (λ may. refl)
    (λ may. refl)
    (λ may. rw (lt-ltb (undo_misses_of l s + 1) (undo_tries d s) may.condition) refl)
    (λ may. rw (le-ltb (undo_misses_of l s + 1) (undo_tries d s) (omega (arith, may.condition))) refl)
