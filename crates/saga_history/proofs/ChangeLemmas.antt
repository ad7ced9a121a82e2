-- What one more change says of one step.
use Rattle.std.proofs.Common.{◌≡◌, ℕ, false, List, ◌∷◌, eqb, refl, sym, ap, subst, ◌⊎◌, inl, inr}
use Rattle.std.proofs.lemmas.Bool.{cases_Bool, eqb-true}
use Rattle.saga_def.specs.Contents.{Contents}
use Rattle.saga_history.specs.declared.transitions.Transition.{Transition}
use Rattle.saga_history.specs.Changes.{Change, opens, moves, starts_plan}
use Rattle.saga_history.specs.States.{same_transition, state_after, transitions, state, end_state}
use Rattle.saga_history.specs.Rules.{StepMay}
use Rattle.saga_history.specs.Headline.{starts_undo_of}
use Rattle.saga_history.proofs.SagaLemmas.{IsLegalUnder}
use Rattle.saga_history.specs.declared.transitions.Transition.TheVariants as transition

-- it leaves the step
pub record LeavesStep (s : ℕ) (e : Change) (l : List Change) : Type 0 where
  pub stays : transitions (e ∷ l) s ≡ transitions l s
  pub silent : starts_undo_of s e ≡ false

-- it moves the step
pub record MovesStep (s : ℕ) (e : Change) (l : List Change) : Type 0 where
  pub move : Transition
  pub is : e ≡ moves s move
  pub grows : transitions (e ∷ l) s ≡ move ∷ transitions l s
  pub begins : starts_undo_of s e ≡ same_transition transition.StartUndo move

abbrev pub LeavesOrMoves : ℕ → Change → List Change → Type 0
LeavesOrMoves s e l = LeavesStep s e l ⊎ MovesStep s e l

pub leaves_or_moves : (s : ℕ) (e : Change) (l : List Change) → LeavesOrMoves s e l
leaves_or_moves s (opens k) l = inl (record { stays = refl; silent = refl })
leaves_or_moves s (moves t m) l = elim (cases_Bool (eqb s t)) [
  | inl own ↦
      let same : t ≡ s = sym (eqb-true s t own) in
      inr (record { move = m; is = ap (λ (v : ℕ). moves v m) same; grows = rw own refl; begins = rw own refl })
  | inr other ↦ inl (record { stays = rw other refl; silent = rw other refl })
]
leaves_or_moves s starts_plan l = inl (record { stays = refl; silent = refl })
leaves_or_moves s _ l = inl (record { stays = refl; silent = refl })

pub moved_state : (s : ℕ) (e : Change) (l : List Change) → (q : MovesStep s e l) → state (e ∷ l) s ≡ state_after q.move
moved_state s e l q = ap end_state q.grows

-- what came before the last change of a legal saga is legal
pub legal_tail : (d : Contents) (e : Change) (l : List Change) → IsLegalUnder d (e ∷ l) → IsLegalUnder d l
legal_tail d (opens k) l legal = rw legal tt
legal_tail d _ l legal = legal.1

pub step_may : (d : Contents) (e : Change) (l : List Change) (s : ℕ) (m : Transition) → IsLegalUnder d (e ∷ l) → e ≡ moves s m → StepMay d l s m
step_may d e l s m legal is = let r : IsLegalUnder d (moves s m ∷ l) = subst (λ (v : Change). IsLegalUnder d (v ∷ l)) is legal in r.0
