-- Compensations stand in reverse order.
use Rattle.std.proofs.Common.{◌≡◌, ℕ, zero, suc, Bool, true, false, List, [], ◌∷◌, refl, sym, ap, ◌∙◌, subst, inl, inr}
use Rattle.std.proofs.lemmas.Bool.{false_from_ne_true}
use Rattle.std.specs.Prelude.{IsTrue}
use Rattle.saga_def.specs.declared.steps.Need.{Need}
use Rattle.saga_def.specs.Contents.{Contents}
use Rattle.saga_def.specs.Order.{NeedsDirectly, Leads, Precedes}
use Rattle.saga_case.specs.declared.states.StepState.{StepState}
use Rattle.saga_case.specs.declared.states.StepState.TheVariants.{Waiting, Committed, Void, Failed, Undoing, Undone, Fixed}
use Rattle.saga_history.specs.declared.transitions.Transition.{Transition}
use Rattle.saga_history.specs.declared.transitions.Transition.TheVariants as transition
use Rattle.saga_history.specs.Changes.{Change, moves}
use Rattle.saga_history.specs.States.{same_transition, state_before, state_after, unvoided, state, is_standing, is_off}
use Rattle.saga_history.specs.Rules.{StepMay}
use Rattle.saga_history.specs.Headline.{starts_undo_of, before_last}
use Rattle.saga_history.proofs.SagaLemmas.{IsLegalUnder}
use Rattle.saga_history.specs.Tallies.{has_committed, has_undone, SuitsNeed}
use Rattle.saga_history.proofs.VoidLemmas.{itself_but_committed, has_committed-unvoided}
use Rattle.saga_history.proofs.ChangeLemmas.{LeavesStep, LeavesOrMoves, leaves_or_moves, moved_state, legal_tail, step_may}
use Rattle.saga_history.proofs.NeedLemmas.{is_active, pairs, undo_off}

pub active_stands : (b a : StepState) → is_active b ≡ true → SuitsNeed b a → is_standing a ≡ true
active_stands Waiting a t fit = cc
active_stands Failed a t fit = cc
active_stands Undone a t fit = cc
active_stands _ a t fit = fit

pub stands_active : (a : StepState) → is_standing a ≡ true → is_active a ≡ true
stands_active Committed t = refl
stands_active Void t = refl
stands_active Fixed t = refl
stands_active _ t = cc

-- where a step is active, all that a chain of needs leads to is
active_down : (d : Contents) (l : List Change) → IsLegalUnder d l → (n q p : ℕ) → Leads d.needs n q p → is_active (state l q) ≡ true → is_active (state l p) ≡ true
active_down d l legal zero q p leads now = rw (ap (state l) (sym leads)) now
active_down d l legal (suc n) q p (c, need, rest) now =
    active_down d l legal n c p rest (stands_active (state l c) (active_stands (state l q) (state l c) now (pairs d l legal q c need)))

-- the last need of a chain
abbrev LastNeed : List Need → ℕ → ℕ → Type 0
LastNeed needs q p = (b : ℕ) × (n : ℕ) × Leads needs n q b × NeedsDirectly needs b p

last_need : (needs : List Need) (n q p : ℕ) → Leads needs (suc n) q p → LastNeed needs q p
last_need needs zero q p (c, need, same) = (q, zero, refl, subst (λ (v : ℕ). NeedsDirectly needs q v) same need)
last_need needs (suc n) q p (c, need, rest) =
    let u = last_need needs n c p rest in
    (u.0, suc u.1, (c, need, u.2), u.3)

-- what precedes an active step stands
pub held : (d : Contents) (l : List Change) → IsLegalUnder d l → (p q : ℕ) → Precedes d.needs p q → is_active (state l q) ≡ true → is_standing (state l p) ≡ true
held d l legal p q order now =
    let u = last_need d.needs order.between q p order.chain in
    active_stands (state l u.0) (state l p) (active_down d l legal u.1 q u.0 u.2 now) (pairs d l legal u.0 p u.3)

off_inactive : (a : StepState) → IsTrue (is_off a) → is_active a ≡ false
off_inactive Waiting t = refl
off_inactive Failed t = refl
off_inactive Undone t = refl
off_inactive _ t = cc

-- where those that need p directly are off, none that it precedes is active
dependants_off : (d : Contents) (l : List Change) → IsLegalUnder d l → (p q : ℕ) → Precedes d.needs p q → ((b : ℕ) → NeedsDirectly d.needs b p → IsTrue (is_off (state l b))) → is_active (state l q) ≡ true → ⊥
dependants_off d l legal p q order off now =
    let u = last_need d.needs order.between q p order.chain in
    let away : is_active (state l u.0) ≡ false = off_inactive (state l u.0) (off u.0 u.3) in
    let up : is_active (state l u.0) ≡ true = active_down d l legal u.1 q u.0 u.2 now in
    cc

undone_from : (x : StepState) → is_active x ≡ false → has_committed x ≡ true → has_undone x ≡ true
undone_from Undone a c = refl
undone_from _ a c = cc

is_active-unvoided : (x : StepState) → is_active (unvoided x) ≡ is_active x
is_active-unvoided Void = refl
is_active-unvoided _ = refl

was_active : (m : Transition) (z : StepState) → z ≡ state_before m → has_committed (state_after m) ≡ true → is_active z ≡ true
was_active transition.StartRun z f c = cc
was_active transition.Missed z f c = cc
was_active transition.Fail z f c = cc
was_active _ z f c = ap is_active f

-- undoing or undone
abbrev pub is_leaving : StepState → Bool
is_leaving Undoing = true
is_leaving Undone = true
is_leaving _ = false

leaving_down : (x : StepState) → is_leaving x ≡ true → is_standing x ≡ true → ⊥
leaving_down Waiting l s = cc
leaving_down _ l s = cc

-- the claim: a step that is leaving, and one that it precedes and that has committed
abbrev pub WasUndoneBefore : List Change → ℕ → ℕ → Type 0
WasUndoneBefore l p q = is_leaving (state l p) ≡ true → has_committed (state l q) ≡ true → has_undone (state (before_last (starts_undo_of p) l) q) ≡ true

-- q does not move to a committed state while p is leaving
q_stays : (d : Contents) (e : Change) (l : List Change) → IsLegalUnder d (e ∷ l) → (p q : ℕ) → Precedes d.needs p q → is_leaving (state l p) ≡ true → LeavesOrMoves q e l → has_committed (state (e ∷ l) q) ≡ true → has_committed (state l q) ≡ true
q_stays d e l legal p q order leaving (inl quiet) committed = rw quiet.stays at committed
q_stays d e l legal p q order leaving (inr t) committed =
    let x : has_committed (state_after t.move) ≡ true = rw t.grows at committed in
    let act : is_active (state l q) ≡ true = sym (is_active-unvoided (state l q)) ∙ was_active t.move (unvoided (state l q)) (step_may d e l q t.move legal t.is).begins x in
    absurd (leaving_down (state l p) leaving (held d l (legal_tail d e l legal) p q order act))

-- the change leaves p
p_stays : (d : Contents) (e : Change) (l : List Change) → IsLegalUnder d (e ∷ l) → (p q : ℕ) → Precedes d.needs p q → LeavesStep p e l → WasUndoneBefore l p q → WasUndoneBefore (e ∷ l) p q
p_stays d e l legal p q order quiet rec = λ leaving committed.
    let now : is_leaving (state l p) ≡ true = rw quiet.stays at leaving in
    rw quiet.silent (rec now (q_stays d e l legal p q order now (leaves_or_moves q e l) committed))

-- as p begins to leave, q has committed before
had : (d : Contents) (e : Change) (l : List Change) (p q : ℕ) → unvoided (state l p) ≡ Committed → e ≡ moves p transition.StartUndo → LeavesOrMoves q e l → has_committed (state (e ∷ l) q) ≡ true → has_committed (state l q) ≡ true
had d e l p q was is (inl quiet) committed = rw quiet.stays at committed
had d e l p q was is (inr t) committed =
    let same : q ≡ p = let both = sym t.is ∙ is in cc in
    ap (λ v. has_committed (state l v)) same ∙ sym (has_committed-unvoided (state l p)) ∙ ap has_committed was

-- p moves
p_moves : (d : Contents) (e : Change) (l : List Change) → IsLegalUnder d (e ∷ l) → (p q : ℕ) → Precedes d.needs p q → (m : Transition) → StepMay d l p m → state (e ∷ l) p ≡ state_after m → starts_undo_of p e ≡ same_transition transition.StartUndo m → e ≡ moves p m → WasUndoneBefore l p q → WasUndoneBefore (e ∷ l) p q
p_moves d e l legal p q order transition.StartUndo may now begins is rec = λ leaving committed.
    let quiet : is_active (state l q) ≡ false = false_from_ne_true _ (dependants_off d l (legal_tail d e l legal) p q order (λ b need. undo_off d l p b transition.StartUndo need may.condition refl)) in
    rw begins (undone_from (state l q) quiet (had d e l p q may.begins is (leaves_or_moves q e l) committed))
p_moves d e l legal p q order transition.Undone may now begins is rec = λ leaving committed.
    let going : is_leaving (state l p) ≡ true = ap is_leaving (itself_but_committed (state l p) Undoing (λ is. cc) may.begins) in
    rw begins (rec going (q_stays d e l legal p q order going (leaves_or_moves q e l) committed))
p_moves d e l legal p q order m may now begins is rec = λ leaving committed. let t : is_leaving (state_after m) ≡ true = ap is_leaving (sym now) ∙ leaving in cc

was_step : (d : Contents) (e : Change) (l : List Change) → IsLegalUnder d (e ∷ l) → (p q : ℕ) → Precedes d.needs p q → LeavesOrMoves p e l → WasUndoneBefore l p q → WasUndoneBefore (e ∷ l) p q
was_step d e l legal p q order (inl quiet) rec = p_stays d e l legal p q order quiet rec
was_step d e l legal p q order (inr t) rec = p_moves d e l legal p q order t.move (step_may d e l p t.move legal t.is) (moved_state p e l t) t.begins t.is rec

pub was_undone_before : (d : Contents) (l : List Change) → IsLegalUnder d l → (p q : ℕ) → Precedes d.needs p q → WasUndoneBefore l p q
was_undone_before d [] legal p q order = λ leaving committed. cc
was_undone_before d (e ∷ l) legal p q order = was_step d e l legal p q order (leaves_or_moves p e l) (was_undone_before d l (legal_tail d e l legal) p q order)
