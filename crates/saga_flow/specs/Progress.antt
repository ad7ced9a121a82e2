-- A flow during the computation of a maximum flow, and the bound on its rounds.
use Rattle.std.specs.Prelude.{ℕ, ◌≡◌, ◌+◌, ◌*◌, ◌≤◌, ◌==◌, if◌then◌else◌, nat_lt, List, length, slice_index}
use Rattle.saga_flow.specs.declared.nets.Arc.{Arc}
use Rattle.saga_flow.specs.declared.nets.Cap.{Cap}
use Rattle.saga_flow.specs.declared.nets.Cap.TheVariants.{Of, Unbounded}
use Rattle.saga_flow.specs.declared.residual_arcs.ResidualArc.{ResidualArc}
use Rattle.saga_flow.specs.declared.rounds.Progress.{Progress}
use Rattle.saga_flow.specs.Flows.{total, IsFlow, HasValue}
use Rattle.saga_flow.specs.Rounds.{IsReachedIn}
use Rattle.saga_flow.specs.Levels.{IsLevelled}
use Rattle.saga_flow.specs.Pushes.{IsPush}

-- 1 if an amount is below the capacity, and otherwise 0
abbrev pub along_share : Cap → ℕ → ℕ
along_share (Of c) x = if nat_lt x c then 1 else 0
along_share Unbounded x = 1

-- 1 if the amount is positive, and otherwise 0
abbrev pub back_share : ℕ → ℕ
back_share x = if nat_lt 0 x then 1 else 0

-- 1 if an arc between these levels is open in the direction that increases the level by one, and otherwise 0
abbrev pub up_share : ℕ → ℕ → Cap → ℕ → ℕ
up_share from to cap x =
    if to == from + 1 then along_share cap x else (if from == to + 1 then back_share x else 0)

-- the number of arcs that are open in the direction that increases the level by one
abbrev pub open_count : (ℕ → ℕ) → List Arc → List ℕ → ℕ
open_count level arcs on = total (λ (a : Arc) x. up_share (level a.from) (level a.to) a.cap x) arcs on

-- the number of rounds so far plus the number of these open arcs is at most the number of arcs times the sink's level
pub record IsBudgeted (nodes : ℕ) (arcs : List Arc) (on : List ℕ) (rounds : ℕ) : Type 0 where
  pub level : ℕ → ℕ
  pub levelled : IsLevelled arcs on level
  pub low : level 1 ≤ nodes
  pub spent : rounds + open_count level arcs on ≤ length arcs * level 1

-- a flow during the computation: its value, amounts that are at most this value, and the number of rounds to it
pub record IsProgress (nodes : ℕ) (arcs : List Arc) (on : List ℕ) (value rounds : ℕ) : Type 0 where
  pub flow : IsFlow arcs on
  pub worth : HasValue arcs on value
  pub limit : (k : ℕ) → slice_index on k ≤ value
  pub reached : IsReachedIn arcs on rounds
  pub few : rounds ≤ value
  pub budget : IsBudgeted nodes arcs on rounds

-- one more round: an augmentation along a path by the maximum amount that it carries
pub record AddsRound (arcs : List Arc) (path : List ResidualArc) (old new : Progress) : Type 0 where
  pub amount : ℕ
  pub push : IsPush arcs old.on.items path amount new.on.items
  pub value : new.value ≡ old.value + amount
  pub rounds : new.rounds ≡ old.rounds + 1
