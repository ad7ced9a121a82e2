-- A step and one that it needs directly.
use Rattle.std.proofs.Common.{◌≡◌, ℕ, Bool, true, false, List, [], ◌∷◌, refl, sym, ap, ◌∙◌, subst, inl, inr}
use Rattle.std.specs.Prelude.{IsTrue}
use Rattle.saga_def.specs.Contents.{Contents}
use Rattle.saga_def.specs.Order.{NeedsDirectly}
use Rattle.saga_case.specs.declared.states.StepState.{StepState}
use Rattle.saga_case.specs.declared.states.StepState.TheVariants.{Waiting, Running, Committed, Void, Failed, Undoing, Undone, Fixed}
use Rattle.saga_history.specs.declared.transitions.Transition.{Transition}
use Rattle.saga_history.specs.declared.transitions.Transition.TheVariants as transition
use Rattle.saga_history.specs.Changes.{Change, moves}
use Rattle.saga_history.specs.States.{state_before, state_after, unvoided, state, is_standing, is_off}
use Rattle.saga_history.specs.Rules.{MeetsCondition}
use Rattle.saga_history.proofs.SagaLemmas.{IsLegalUnder}
use Rattle.saga_history.specs.Tallies.{has_committed, SuitsNeed}
use Rattle.saga_history.proofs.VoidLemmas.{is_standing-unvoided, is_off-unvoided, user_unvoided, needed_unvoided}
use Rattle.saga_history.proofs.ChangeLemmas.{LeavesOrMoves, leaves_or_moves, legal_tail, step_may}

-- running, committed, undoing or fixed: what the step needs must stand
abbrev pub is_active : StepState → Bool
is_active Waiting = false
is_active Failed = false
is_active Undone = false
is_active _ = true

abbrev pub is_waiting : StepState → Bool
is_waiting Waiting = true
is_waiting _ = false

stood : (a : StepState) → IsTrue (is_standing a) → IsTrue (has_committed a)
stood Committed t = refl
stood Void t = refl
stood Fixed t = refl
stood _ t = cc

-- the step that needs moves
user_moves : (m : Transition) (z a : StepState) → z ≡ state_before m → (m ≡ transition.StartRun → IsTrue (is_standing a)) → SuitsNeed z a → SuitsNeed (state_after m) a
user_moves transition.StartRun z a f start fit = start refl
user_moves transition.Missed z a f start fit = tt
user_moves transition.Fail z a f start fit = let k : SuitsNeed Running a = rw f at fit in stood a k
user_moves transition.Undone z a f start fit = let k : SuitsNeed Undoing a = rw f at fit in stood a k
user_moves m z a f start fit = let k : SuitsNeed (state_before m) a = rw f at fit in k

from_waiting : (b y : StepState) → is_waiting b ≡ true → SuitsNeed b y
from_waiting Waiting y t = tt
from_waiting _ y t = cc

waiting_from : (b a : StepState) → has_committed a ≡ false → SuitsNeed b a → is_waiting b ≡ true
waiting_from Waiting a never fit = refl
waiting_from Failed a never fit = cc
waiting_from Undone a never fit = cc
waiting_from _ a never fit = let c = stood a fit in cc

from_off : (b y : StepState) → IsTrue (is_off b) → IsTrue (has_committed y) → SuitsNeed b y
from_off Waiting y t c = tt
from_off Failed y t c = c
from_off Undone y t c = c
from_off _ y t c = cc

off_from : (b a : StepState) → is_standing a ≡ false → SuitsNeed b a → IsTrue (is_off b)
off_from Waiting a never fit = refl
off_from Failed a never fit = refl
off_from Undone a never fit = refl
off_from _ a never fit = cc

-- the needed step moves
needed_moves : (b z : StepState) (m : Transition) → z ≡ state_before m → (m ≡ transition.StartUndo → IsTrue (is_off b)) → SuitsNeed b z → SuitsNeed b (state_after m)
needed_moves b z transition.StartUndo f off fit = from_off b Undoing (off refl) refl
needed_moves b z transition.Undone f off fit = from_off b Undone (off_from b z (ap is_standing f) fit) refl
needed_moves b z transition.UndoMissed f off fit = from_off b Committed (off_from b z (ap is_standing f) fit) refl
needed_moves b z transition.UndoFail f off fit = from_off b Fixed (off_from b z (ap is_standing f) fit) refl
needed_moves b z m f off fit = from_waiting b (state_after m) (waiting_from b z (ap has_committed f) fit)

pub starts_standing : (d : Contents) (l : List Change) (s a : ℕ) (m : Transition) → NeedsDirectly d.needs s a → MeetsCondition d l s m → m ≡ transition.StartRun → IsTrue (is_standing (state l a))
starts_standing d l s a m need condition is = let f : MeetsCondition d l s transition.StartRun = subst (MeetsCondition d l s) is condition in f.2 a need

pub undo_off : (d : Contents) (l : List Change) (s b : ℕ) (m : Transition) → NeedsDirectly d.needs b s → MeetsCondition d l s m → m ≡ transition.StartUndo → IsTrue (is_off (state l b))
undo_off d l s b m need condition is = let f : MeetsCondition d l s transition.StartUndo = subst (MeetsCondition d l s) is condition in f.2 b need

-- a step that needs itself never moves
itself : (z : StepState) (m : Transition) → z ≡ state_before m → (m ≡ transition.StartRun → IsTrue (is_standing z)) → (m ≡ transition.StartUndo → IsTrue (is_off z)) → SuitsNeed z z → ⊥
itself z transition.StartRun f start go fit = let s = start refl in let t : IsTrue (is_standing Waiting) = rw f at s in cc
itself z transition.StartUndo f start go fit = let s = go refl in let t : IsTrue (is_off Committed) = rw f at s in cc
itself z m f start go fit = let t : SuitsNeed (state_before m) (state_before m) = rw f at fit in cc

same_step : (b a : ℕ) (m n : Transition) (e : Change) → e ≡ moves b m → e ≡ moves a n → a ≡ b
same_step b a m n e p q = let both = sym p ∙ q in cc

pairs_step : (d : Contents) (e : Change) (l : List Change) → IsLegalUnder d (e ∷ l) → (b a : ℕ) → NeedsDirectly d.needs b a → LeavesOrMoves b e l → LeavesOrMoves a e l → SuitsNeed (state l b) (state l a) → SuitsNeed (state (e ∷ l) b) (state (e ∷ l) a)
pairs_step d e l legal b a need (inl p) (inl q) fit = rw (p.stays, q.stays) fit
pairs_step d e l legal b a need (inr p) (inl q) fit =
    let may = step_may d e l b p.move legal p.is in
    rw (p.grows, q.stays) (user_moves p.move (unvoided (state l b)) (state l a) may.begins (starts_standing d l b a p.move need may.condition) (user_unvoided (state l b) (state l a) fit))
pairs_step d e l legal b a need (inl p) (inr q) fit =
    let may = step_may d e l a q.move legal q.is in
    rw (p.stays, q.grows) (needed_moves (state l b) (unvoided (state l a)) q.move may.begins (undo_off d l a b q.move need may.condition) (needed_unvoided (state l b) (state l a) fit))
pairs_step d e l legal b a need (inr p) (inr q) fit =
    let may = step_may d e l b p.move legal p.is in
    let same : a ≡ b = same_step b a p.move q.move e p.is q.is in
    let self : NeedsDirectly d.needs b b = subst (λ (v : ℕ). NeedsDirectly d.needs b v) same need in
    absurd (itself (unvoided (state l b)) p.move may.begins
    (λ is. is_standing-unvoided (state l b) ∙ starts_standing d l b b p.move self may.condition is)
    (λ is. is_off-unvoided (state l b) ∙ undo_off d l b b p.move self may.condition is)
    (needed_unvoided (unvoided (state l b)) (state l b) (user_unvoided (state l b) (state l b)
    (subst (λ (v : ℕ). SuitsNeed (state l b) (state l v)) same fit))))

pub pairs : (d : Contents) (l : List Change) → IsLegalUnder d l → (b a : ℕ) → NeedsDirectly d.needs b a → SuitsNeed (state l b) (state l a)
pairs d [] legal b a need = tt
pairs d (e ∷ l) legal b a need = pairs_step d e l legal b a need (leaves_or_moves b e l) (leaves_or_moves a e l) (pairs d l (legal_tail d e l legal) b a need)
