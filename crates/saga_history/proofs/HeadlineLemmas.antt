-- The headline.
use Rattle.std.proofs.Common.{◌≢◌, ap, ◌≡◌, ℕ, ◌<◌, ◌≤◌, Bool, true, false, List, [], ◌∷◌, length, Option, Some, None, refl, sym, ◌∙◌, subst, ◌⊎◌, inl, inr, arith, get_or}
use Rattle.std.specs.Prelude.{All, IsTrue, slice_get, if◌then◌else◌}
use Rattle.std.proofs.lemmas.Bool.{cases_lt}
use Rattle.std.proofs.lemmas.Option.{slice_get-get_or, slice_get_past}
use Rattle.saga_def.specs.Contents.{Contents}
use Rattle.saga_def.specs.Sound.{IsSound}
use Rattle.saga_def.specs.Order.{IsClosed}
use Rattle.saga_case.specs.declared.answers.Answer.{Answer}
use Rattle.saga_case.specs.declared.answers.Answer.TheVariants as answer
use Rattle.saga_case.specs.declared.states.StepState.{StepState}
use Rattle.saga_case.specs.declared.states.StepState.TheVariants.{Waiting, Committed, Void, Failed, Undone, Fixed}
use Rattle.saga_def.specs.declared.steps.Price.TheVariants.{Never}
use Rattle.saga_case.specs.Prices.{stand_of}
use Rattle.saga_case.specs.Terms.{terms_of, price_in}
use Rattle.saga_case.specs.Right.{IsRight, Settles}
use Rattle.saga_case.proofs.Duality.{IsLeast-plan}
use Rattle.saga_case.proofs.ChainLemmas.{NoneIsAllowed-chain}
use Rattle.saga_history.specs.declared.events.Event.{Event}
use Rattle.saga_history.specs.Changes.{Change, opens, moves, starts_plan, drops_plan, adopts, aborts, saga_of, change_of, changes}
use Rattle.saga_history.specs.States.{transitions, state, is_standing, is_off}
use Rattle.saga_history.specs.Turns.{aborted, opened_with, present_case, goal}
use Rattle.saga_history.specs.Rules.{tries, undo_tries, IsEnded, definition_at, definition, IsAllowedChange, EachEvent, IsLegal, SagaMay}
use Rattle.saga_history.specs.Headline.{AllowedSetsHoldNoneLost, starts_undo_of, before_last, CompensatesInOrder, HasExactlyItsGoal, SettlesPresentCase, AdoptionSettles, Headline}
use Rattle.saga_history.proofs.SagaLemmas.{saga_is_legal, IsLegalUnder, legal_under, holds_at}
use Rattle.saga_history.specs.Tallies.{one, has_committed, has_undone, Tally}
use Rattle.saga_history.proofs.TransitionLemmas.{tally, in_sequence}
use Rattle.saga_history.proofs.ChangeLemmas.{legal_tail}
use Rattle.saga_history.proofs.TurnLemmas.{priced, price_at, step_at, stand_failed, stand_undone}
use Rattle.saga_history.proofs.OrderLemmas.{is_leaving, was_undone_before}

pub tally_of : (d : Contents) (l : List Change) (s : ℕ) → IsLegalUnder d l → Tally (transitions l s) (state l s)
tally_of d l s legal = tally (tries d s) (undo_tries d s) (transitions l s) (in_sequence d s l legal)

some_one : (b : Bool) (n : ℕ) → n ≡ one b → 0 < n → b ≡ true
some_one true n e lt = refl
some_one false n e lt = absurd (omega arith)

one_some : (b : Bool) (n : ℕ) → n ≡ one b → b ≡ true → 0 < n
one_some true n e t = omega arith
one_some false n e t = cc

leaves : (x : StepState) → has_undone x ≡ true → is_leaving x ≡ true
leaves Undone t = refl
leaves _ t = cc

-- what came before the last change that passes is legal too
before_run : (d : Contents) (p : Change → Bool) (l : List Change) → IsLegalUnder d l → IsLegalUnder d (before_last p l)
before_run d p [] legal = legal
before_run d p (e ∷ l) legal = elim (p e) as (λ b. IsLegalUnder d (if b then l else before_last p l)) [ true ↦ legal_tail d e l legal | false ↦ before_run d p l (legal_tail d e l legal) ]

pub in_order : (d : Contents) (l : List Change) → IsLegalUnder d l → CompensatesInOrder d l
in_order d l legal = record {
  order = λ p q order undone committed.
      let u : has_undone (state l p) ≡ true = some_one _ _ (tally_of d l p legal).undone undone in
      let c : has_committed (state l q) ≡ true = some_one _ _ (tally_of d l q legal).committed committed in
      let t = before_last (starts_undo_of p) l in
      let was : has_undone (state t q) ≡ true = was_undone_before d l legal p q order (leaves (state l p) u) c in
      one_some _ _ (tally_of d t q (before_run d (starts_undo_of p) l legal)).undone was;
}

closed_answer : (d : Contents) (l : List Change) (a : Answer) → IsRight (terms_of (present_case d l)) a → IsClosed d.needs (goal l) → IsClosed d.needs (goal (adopts a ∷ l))
closed_answer d l (answer.Plan plan) right was = record { holds = right.closed.holds }
closed_answer d l (answer.Blocked chain) right was = was

-- the goal is closed
pub goal_closed : (d : Contents) (l : List Change) → IsLegalUnder d l → IsClosed d.needs (goal l)
goal_closed d [] legal = record { holds = λ a b here order. refl }
goal_closed d (opens k ∷ l) legal = rw legal (record { holds = λ a b here order. refl })
goal_closed d (adopts a ∷ l) legal = closed_answer d l a legal.0.1 (goal_closed d l legal.1)
goal_closed d (_ ∷ l) legal = goal_closed d l legal.1

stands_once : (x : StepState) (c u : ℕ) → IsTrue (is_standing x) → c ≡ one (has_committed x) → u ≡ one (has_undone x) → (c ≡ 1) × (u ≡ 0)
stands_once Committed c u t p q = (p, q)
stands_once Void c u t p q = (p, q)
stands_once Fixed c u t p q = (p, q)
stands_once _ c u t p q = cc

off_once : (x : StepState) (c u : ℕ) → IsTrue (is_off x) → 0 < c → c ≡ one (has_committed x) → u ≡ one (has_undone x) → (c ≡ 1) × (u ≡ 1)
off_once Waiting c u t some p q = absurd (omega arith)
off_once Failed c u t some p q = absurd (omega arith)
off_once Undone c u t some p q = (p, q)
off_once _ c u t some p q = cc

pub has_its_goal : (d : Contents) (l : List Change) → IsLegalUnder d l → IsEnded d l → HasExactlyItsGoal d l
has_its_goal d l legal ended = record {
  closed = goal_closed d l legal;
  kept = λ s is_step wanted. stands_once (state l s) _ _ (ended.stand s is_step wanted) (tally_of d l s legal).committed (tally_of d l s legal).undone;
  compensated = λ s is_step away some. off_once (state l s) _ _ (ended.off s is_step away) some (tally_of d l s legal).committed (tally_of d l s legal).undone;
}

settles : (d : Contents) (l : List Change) (a : Answer) → IsSound d → IsRight (terms_of (present_case d l)) a → Settles (terms_of (present_case d l)) a
settles d l (answer.Plan plan) sound right = IsLeast-plan (terms_of (present_case d l)) plan sound.known right
settles d l (answer.Blocked chain) sound right = NoneIsAllowed-chain (terms_of (present_case d l)) chain right

-- no allowed set holds a failed or an undone step
none_lost : (d : Contents) (l : List Change) → AllowedSetsHoldNoneLost d l
none_lost d l = λ set s allowed lt held.
    let t = terms_of (present_case d l) in
    let price : price_in t set s ≢ Never = priced t set s lt allowed.priced in
    let stand : price_in t set s ≡ stand_of (aborted l) (state l s) (step_at d s) = rw held (price_at (stand_of (aborted l)) d l s lt) in (
      λ failed. price (stand ∙ ap (λ x. stand_of (aborted l) x (step_at d s)) failed ∙ stand_failed (aborted l) (step_at d s)),
      λ undone. price (stand ∙ ap (λ x. stand_of (aborted l) x (step_at d s)) undone ∙ stand_undone (aborted l) (step_at d s)),
    )

settles_at : (shelf : List Contents) (d : Contents) (l : List Change) (e : Change) → IsSound d → definition shelf l ≡ Some d → IsAllowedChange shelf l e → SettlesPresentCase d l e
settles_at shelf d l (opens k) sound is allowed = tt
settles_at shelf d l (moves s m) sound is allowed = tt
settles_at shelf d l starts_plan sound is allowed = tt
settles_at shelf d l drops_plan sound is allowed = tt
settles_at shelf d l (adopts a) sound is allowed =
    let may : SagaMay d l (adopts a) = holds_at (definition shelf l) d (λ c. SagaMay c l (adopts a)) is allowed in
    (may.1, settles d l a sound may.1, none_lost d l)
settles_at shelf d l aborts sound is allowed = tt

-- a definition on a sound shelf is sound
at_sound : (shelf : List Contents) (k : ℕ) (d : Contents) → All IsSound shelf → (k < length shelf) ⊎ (length shelf ≤ k) → slice_get shelf k ≡ Some d → IsSound d
at_sound shelf k d sound (inl lt) is =
    let found : get_or shelf k d ≡ d = let e = slice_get-get_or shelf k d lt in cc in
    subst IsSound found (sound k d lt)
at_sound shelf k d sound (inr le) is = let e = slice_get_past shelf k le in let bad : None ≡ Some d = sym e ∙ is in cc

sound_at : (shelf : List Contents) (o : Option ℕ) (d : Contents) → All IsSound shelf → definition_at shelf o ≡ Some d → IsSound d
sound_at shelf None d sound is = cc
sound_at shelf (Some k) d sound is = at_sound shelf k d sound (cases_lt k (length shelf)) is

pub definition_sound : (shelf : List Contents) (l : List Change) (d : Contents) → All IsSound shelf → definition shelf l ≡ Some d → IsSound d
definition_sound shelf l d sound is = sound_at shelf (opened_with l) d sound is

pub all_settled : (shelf : List Contents) (h : List Event) → All IsSound shelf → IsLegal shelf h → EachEvent (AdoptionSettles shelf) h
all_settled shelf [] sound legal = tt
all_settled shelf (e ∷ h) sound legal =
    (λ d is. settles_at shelf d (changes (saga_of e) h) (change_of e) (definition_sound shelf (changes (saga_of e) h) d sound is) is legal.0, all_settled shelf h sound legal.1)

pub headline_holds : (shelf : List Contents) (h : List Event) → All IsSound shelf → IsLegal shelf h → Headline shelf h
headline_holds shelf h sound legal = record {
  ended = λ i d is ended. has_its_goal d (changes i h) (legal_under shelf d (changes i h) (saga_is_legal shelf i h legal) is) ended;
  in_order = λ i d is. in_order d (changes i h) (legal_under shelf d (changes i h) (saga_is_legal shelf i h legal) is);
  settled = all_settled shelf h sound legal;
}
