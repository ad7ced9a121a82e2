-- A void step in the place of a committed one.
use Rattle.std.proofs.Common.{◌≡◌, ◌≢◌, true, refl, sym}
use Rattle.saga_case.specs.declared.states.StepState.{StepState}
use Rattle.saga_case.specs.declared.states.StepState.TheVariants.{Waiting, Committed, Void, Failed, Undone}
use Rattle.saga_case.specs.States.{commits}
use Rattle.saga_history.specs.States.{unvoided, is_standing, is_busy, is_off}
use Rattle.saga_history.specs.Tallies.{has_committed, SuitsNeed}

-- any other state decides for itself
pub itself_but_committed : (x y : StepState) → y ≢ Committed → unvoided x ≡ y → x ≡ y
itself_but_committed Void y apart is = absurd (apart (sym is))
itself_but_committed _ y apart is = is

-- a step that counts as committed is compensated
pub unvoided-commits : (x : StepState) → commits x ≡ true → unvoided x ≡ Committed
unvoided-commits Committed is = refl
unvoided-commits Void is = refl
unvoided-commits _ is = cc

pub commits-unvoided : (x : StepState) → unvoided x ≡ Committed → commits x ≡ true
commits-unvoided Committed is = refl
commits-unvoided Void is = refl
commits-unvoided _ is = cc

pub is_standing-unvoided : (x : StepState) → is_standing (unvoided x) ≡ is_standing x
is_standing-unvoided Void = refl
is_standing-unvoided _ = refl

pub is_busy-unvoided : (x : StepState) → is_busy (unvoided x) ≡ is_busy x
is_busy-unvoided Void = refl
is_busy-unvoided _ = refl

pub is_off-unvoided : (x : StepState) → is_off (unvoided x) ≡ is_off x
is_off-unvoided Void = refl
is_off-unvoided _ = refl

pub has_committed-unvoided : (x : StepState) → has_committed (unvoided x) ≡ has_committed x
has_committed-unvoided Void = refl
has_committed-unvoided _ = refl

-- on either side of a need
pub user_unvoided : (b a : StepState) → SuitsNeed b a → SuitsNeed (unvoided b) a
user_unvoided Void a fit = fit
user_unvoided _ a fit = fit

pub needed_unvoided : (b a : StepState) → SuitsNeed b a → SuitsNeed b (unvoided a)
needed_unvoided Waiting a fit = tt
needed_unvoided Failed Void fit = refl
needed_unvoided Failed a fit = fit
needed_unvoided Undone Void fit = refl
needed_unvoided Undone a fit = fit
needed_unvoided _ Void fit = refl
needed_unvoided _ a fit = fit
