-- The phase that a report tells is the saga's.
use Rattle.std.proofs.Common.{◌≡◌, ◌∙◌, ℕ, ◌+◌, ◌<◌, List, Bool, true, false, length, get_or, refl, sym, ap, arith}
use Rattle.std.specs.Prelude.{IsTrue}
use Rattle.std.specs.List.{range_with_len}
use Rattle.std.proofs.lemmas.Bool.{false≢true}
use Rattle.std.proofs.lemmas.List.FromFn.{length-range_with_len, get_or-range_with_len}
use Rattle.std.proofs.lemmas.List.Sums.{AllPass-from_list_all, list_all-from_AllPass}
use Rattle.saga_def.specs.Contents.{Contents}
use Rattle.saga_case.specs.declared.states.StepState.{StepState}
use Rattle.saga_history.specs.Changes.{Change}
use Rattle.saga_history.specs.States.{state, is_standing, is_off}
use Rattle.saga_history.specs.Turns.{turn, goal}
use Rattle.saga_history.specs.Rules.{HasPhase, IsEnded}
use Rattle.saga_history.specs.declared.turns.Turn.{Turn}
use Rattle.saga_history.specs.declared.turns.Turn.TheVariants.{Going, Draining, Planning, Stuck}
use Rattle.saga_report.specs.Lines.{is_done, are_done, phase_by, phase_of, story_of}

done_at : List Change → ℕ → Bool
done_at l s = is_done (goal l s) (state l s)

stands : (b : Bool) (x : StepState) → is_done b x ≡ true → b ≡ true → IsTrue (is_standing x)
stands true x done in_goal = done
stands false x done in_goal = absurd (false≢true in_goal)

leaves : (b : Bool) (x : StepState) → is_done b x ≡ true → b ≡ false → IsTrue (is_off x)
leaves true x done out = absurd (false≢true (sym out))
leaves false x done out = done

done : (b : Bool) (x : StepState) → (b ≡ true → IsTrue (is_standing x)) → (b ≡ false → IsTrue (is_off x)) → is_done b x ≡ true
done true x stand off = stand refl
done false x stand off = off refl

at_step : (count s : ℕ) → s < count → get_or (range_with_len 0 count) s 0 ≡ s
at_step count s lt = let z : 0 + s ≡ s = omega arith in get_or-range_with_len 0 count s 0 lt ∙ z

all_done : (d : Contents) (l : List Change) → are_done d (story_of l) ≡ true → (s : ℕ) → s < length d.steps → done_at l s ≡ true
unfolding done_at
all_done d l all s lt =
    let within : s < length (range_with_len 0 (length d.steps)) = omega (arith, length-range_with_len 0 (length d.steps), lt) in
    sym (ap (done_at l) (at_step (length d.steps) s lt)) ∙ AllPass-from_list_all (done_at l) (range_with_len 0 (length d.steps)) all s 0 within

ended_done : (d : Contents) (l : List Change) → IsEnded d l → are_done d (story_of l) ≡ true
unfolding done_at
ended_done d l ended = list_all-from_AllPass (done_at l) (range_with_len 0 (length d.steps)) (λ k x lt.
    let within : k < length d.steps = omega (arith, length-range_with_len 0 (length d.steps), lt) in
    let z : 0 + k ≡ k = omega arith in
    ap (done_at l) (get_or-range_with_len 0 (length d.steps) k x within ∙ z) ∙ done (goal l k) (state l k) (ended.stand k within) (ended.off k within))

pub phase_is : (d : Contents) (l : List Change) → HasPhase d l (phase_of d (story_of l))
unfolding done_at
phase_is d l = go (turn l) refl (are_done d (story_of l)) refl
  where
    go : (t : Turn) → turn l ≡ t → (b : Bool) → are_done d (story_of l) ≡ b → HasPhase d l (phase_by t b)
    go Going is true all = record {
      going = is;
      stand = λ s lt in_goal. stands (goal l s) (state l s) (all_done d l all s lt) in_goal;
      off = λ s lt out. leaves (goal l s) (state l s) (all_done d l all s lt) out;
    }
    go Going is false all = (is, λ ended. false≢true (sym all ∙ ended_done d l ended))
    go _ is b all = is
