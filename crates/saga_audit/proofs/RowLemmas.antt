-- What a row that follows a legal saga allows, refuses and tells.
use Rattle.std.proofs.Common.{◌≡◌, ℕ, ◌<◌, ◌+◌, Bool, true, false, List, ◌∷◌, length, Option, Some, get_or, refl, sym, ap, ◌∙◌, subst, arith}
use Rattle.std.specs.Prelude.{◌↔◌, IsTrue, if◌then◌else◌}
use Rattle.std.specs.Cmp.{both_ways}
use Rattle.std.specs.List.{list_all, range_with_len}
use Rattle.std.proofs.lemmas.Bool.{and_parts, false≢true}
use Rattle.std.proofs.lemmas.List.FromFn.{get_or-range_with_len, length-range_with_len}
use Rattle.std.proofs.lemmas.List.Sums.{AllPass-from_list_all, list_all-from_AllPass}
use Rattle.saga_def.specs.Contents.{Contents}
use Rattle.saga_case.specs.Right.{IsRight}
use Rattle.saga_case.specs.Situation.{Situation}
use Rattle.saga_case.specs.Terms.{terms_of}
use Rattle.saga_history.specs.Changes.{Change, opens, moves, starts_plan, drops_plan, adopts, aborts}
use Rattle.saga_history.specs.Follower.{done_at}
use Rattle.saga_history.specs.Rules.{IsAllowedChange, IsEnded, IsLegalSaga, SagaMay}
use Rattle.saga_history.specs.States.{is_off, is_standing, state}
use Rattle.saga_history.specs.Turns.{goal, is_going, turn}
use Rattle.saga_history.specs.declared.turns.Turn.{Turn}
use Rattle.saga_history.specs.declared.turns.Turn.TheVariants.{Going, Stuck}
use Rattle.saga_history.proofs.SagaLemmas.{IsLegalUnder, allowed_known, legal_under}
use Rattle.saga_rows.specs.Row.{Row, RowIsEnded}
use Rattle.saga_rows.specs.Follows.{Follows}
use Rattle.saga_rows.proofs.FollowLemmas.{abort_from, abort_into, drained_for_planning, ended_from, ended_into, fits, follows_abort, follows_adopt, follows_drop, follows_move, follows_plan, has_room, may_from, may_into, plan_from, plan_into, present_same}
use Rattle.saga_audit.specs.declared.reasons.Reason.{Reason}
use Rattle.saga_audit.specs.Decisions.{HasRoomFor, IsDrainedForPlanning, RowTakes, row_then}
use Rattle.saga_audit.specs.Groups.{is_ended, is_ended_by, is_stuck, is_stuck_turn}
use Rattle.saga_audit.specs.Reasons.{IsRefused, reason_by, reason_opened}

module _ (shelf : List Contents) (row : Row) (l : List Change) (f : Follows shelf row l) where
  module _ (legal : IsLegalSaga shelf l) where
    under : IsLegalUnder row.definition l
    under = legal_under shelf row.definition l legal f.defined

    may_of : (c : Change) → RowTakes row c → SagaMay row.definition l c
    may_of (opens k) takes = absurd takes
    may_of (moves s t) takes = may_into shelf row l f s t under takes
    may_of starts_plan takes = plan_into shelf row l f takes
    may_of drops_plan takes = sym f.turn_is ∙ takes
    may_of (adopts a) takes = (sym f.turn_is ∙ takes.0, subst (λ (x : Situation). IsRight (terms_of x) a) (sym (present_same shelf row l f)) takes.1)
    may_of aborts takes = abort_into shelf row l f takes

    takes_of : (c : Change) → SagaMay row.definition l c → RowTakes row c
    takes_of (opens k) may = may
    takes_of (moves s t) may = may_from shelf row l f s t may
    takes_of starts_plan may = plan_from shelf row l f may
    takes_of drops_plan may = f.turn_is ∙ may
    takes_of (adopts a) may = (f.turn_is ∙ may.0, subst (λ (x : Situation). IsRight (terms_of x) a) (present_same shelf row l f) may.1)
    takes_of aborts may = abort_from shelf row l f may

    pub allowed_by : (c : Change) → RowTakes row c → IsAllowedChange shelf l c
    allowed_by c takes = (allowed_known shelf row.definition l c f.defined).1 (may_of c takes)

    pub refused_by : (c : Change) (why : Reason) → (RowTakes row c → ⊥) × (why ≡ reason_opened row.definition row.turn c) → IsRefused shelf l c why
    refused_by c why told = record {
      denied = λ allowed. told.0 (takes_of c ((allowed_known shelf row.definition l c f.defined).0 allowed));
      first = told.1 ∙ ap (λ (t : Turn). reason_opened row.definition t c) f.turn_is ∙ ap (λ (o : Option Contents). reason_by o (turn l) c) (sym f.defined);
    }

    pub room_for : (c : Change) → RowTakes row c → HasRoomFor row c
    room_for (moves s t) takes = let lt = (may_into shelf row l f s t under takes).is_step in (lt, has_room shelf row l f s t under lt)
    room_for (adopts a) takes = fits shelf row l f a (may_of (adopts a) takes).1
    room_for _ takes = tt

    pub follows_then : (c : Change) → RowTakes row c → Follows shelf (row_then row c) (c ∷ l)
    follows_then (opens k) takes = absurd takes
    follows_then (moves s t) takes = follows_move shelf row l f s t (may_into shelf row l f s t under takes).is_step
    follows_then starts_plan takes = follows_plan shelf row l f
    follows_then drops_plan takes = follows_drop shelf row l f
    follows_then (adopts a) takes = follows_adopt shelf row l f a (fits shelf row l f a (may_of (adopts a) takes).1)
    follows_then aborts takes = follows_abort shelf row l f

    pub drained : IsDrainedForPlanning row
    drained = λ planning. drained_for_planning shelf row l f under planning

-- ---- ended and stuck, as tests

done_from : (b stands off : Bool) → (b ≡ true → IsTrue stands) → (b ≡ false → IsTrue off) → (if b then stands else off) ≡ true
done_from true stands off f g = f refl
done_from false stands off f g = g refl

stands_from : (b stands off : Bool) → (if b then stands else off) ≡ true → b ≡ true → IsTrue stands
stands_from true stands off done wanted = done
stands_from false stands off done wanted = absurd (false≢true wanted)

off_from : (b stands off : Bool) → (if b then stands else off) ≡ true → b ≡ false → IsTrue off
off_from true stands off done away = absurd (false≢true (sym away))
off_from false stands off done away = done

at_step : (count s d : ℕ) → s < count → get_or (range_with_len 0 count) s d ≡ s
at_step count s d lt = let z : 0 + s ≡ s = omega arith in get_or-range_with_len 0 count s d lt ∙ z

module _ (d : Contents) (l : List Change) where
  all_done : list_all (done_at l) (range_with_len 0 (length d.steps)) ≡ true → (s : ℕ) → s < length d.steps → done_at l s ≡ true
  all_done all s lt =
      let within : s < length (range_with_len 0 (length d.steps)) = omega (arith, length-range_with_len 0 (length d.steps), lt) in
      sym (ap (done_at l) (at_step (length d.steps) s 0 lt)) ∙ AllPass-from_list_all (done_at l) (range_with_len 0 (length d.steps)) all s 0 within

  done_all : IsEnded d l → list_all (done_at l) (range_with_len 0 (length d.steps)) ≡ true
  done_all ended = list_all-from_AllPass (done_at l) (range_with_len 0 (length d.steps)) (λ k x lt.
      let within : k < length d.steps = omega (arith, length-range_with_len 0 (length d.steps), lt) in
      ap (done_at l) (at_step (length d.steps) k x within) ∙ done_from (goal l k) (is_standing (state l k)) (is_off (state l k)) (ended.stand k within) (ended.off k within))

  going_from : (t : Turn) → is_going t ≡ true → t ≡ Going
  going_from Going is = refl
  going_from _ is = absurd (false≢true is)

  ended_of : is_ended_by (Some d) l ≡ true → IsEnded d l
  ended_of is =
      let both = and_parts (is_going (turn l)) (list_all (done_at l) (range_with_len 0 (length d.steps))) is in
      record {
        going = going_from (turn l) both.0;
        stand = λ s lt wanted. stands_from (goal l s) (is_standing (state l s)) (is_off (state l s)) (all_done both.1 s lt) wanted;
        off = λ s lt away. off_from (goal l s) (is_standing (state l s)) (is_off (state l s)) (all_done both.1 s lt) away;
      }

  of_ended : IsEnded d l → is_ended_by (Some d) l ≡ true
  of_ended ended = rw (ended.going, done_all ended) refl

pub ended_same : (shelf : List Contents) (row : Row) (l : List Change) (b : Bool) → Follows shelf row l → (IsTrue b ↔ RowIsEnded row) → b ≡ is_ended shelf l
ended_same shelf row l b f told =
    both_ways b (is_ended_by (Some row.definition) l)
    (λ is. of_ended row.definition l (ended_into shelf row l f (told.0 is)))
    (λ is. told.1 (ended_from shelf row l f (ended_of row.definition l is)))
    ∙ ap (λ (o : Option Contents). is_ended_by o l) (sym f.defined)

stuck_from : (t : Turn) → is_stuck_turn t ≡ true → t ≡ Stuck
stuck_from Stuck is = refl
stuck_from _ is = absurd (false≢true is)

pub stuck_same : (shelf : List Contents) (row : Row) (l : List Change) (b : Bool) → Follows shelf row l → (IsTrue b ↔ (row.turn ≡ Stuck)) → b ≡ is_stuck l
stuck_same shelf row l b f told =
    both_ways b (is_stuck_turn row.turn) (λ is. ap is_stuck_turn (told.0 is)) (λ is. told.1 (stuck_from row.turn is)) ∙ ap is_stuck_turn f.turn_is
