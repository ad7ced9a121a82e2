-- What a path that climbs is good for: a round.
use Rattle.std.proofs.Common.{ℕ, ◌+◌, ◌^◌, ◌<◌, ◌≤◌, List, length}
use Rattle.std.specs.Prelude.{All}
use Rattle.saga_flow.specs.declared.nets.Arc.{Arc}
use Rattle.saga_flow.specs.declared.residual_arcs.ResidualArc.{ResidualArc}
use Rattle.saga_flow.specs.declared.rounds.Progress.{Progress}
use Rattle.saga_flow.specs.Network.{IsNetwork}
use Rattle.saga_flow.specs.Reached.{Reaches, HasUnbounded}
use Rattle.saga_flow.specs.Residual.{Carries}
use Rattle.saga_flow.specs.Rounds.{IsTrail}
use Rattle.saga_flow.specs.Levels.{Climbs, IsLevelled}
use Rattle.saga_flow.specs.Pushes.{NoArcTwice}
use Rattle.saga_flow.specs.Progress.{IsProgress, AddsRound}
use Rattle.saga_flow.proofs.LevelLemmas.{rising_once}
use Rattle.saga_flow.proofs.PathLemmas.{climbing_rises, climbing_open, open_carries, open_within}
use Rattle.saga_flow.proofs.RoundLemmas.{progress_fits, round_more}

module _ (nodes : ℕ) (arcs : List Arc) (on : List ℕ) (level : ℕ → ℕ) (path : List ResidualArc) (climb : IsTrail (Climbs arcs on level) 0 path 1) where
  pub climb_carries : All (Carries arcs on 1) path
  climb_carries = open_carries arcs on path 0 1 (climbing_open arcs on level path 0 1 climb)

  pub climb_within : All (λ (s : ResidualArc). s.arc < length arcs) path
  climb_within = open_within arcs on path 0 1 (climbing_open arcs on level path 0 1 climb)

  pub climb_once : NoArcTwice path
  climb_once = rising_once arcs level path 0 1 (climbing_rises arcs on level path 0 1 climb)

  pub climb_fits : (value rounds : ℕ) → IsNetwork (record { nodes = nodes; arcs = arcs }) → (Reaches (HasUnbounded arcs) 0 1 → ⊥) → IsProgress nodes arcs on value rounds → (more : ℕ) → All (Carries arcs on more) path → value + more < 2 ^ 63
  climb_fits value rounds net apart progress =
      progress_fits nodes arcs on value rounds path net apart progress (climbing_open arcs on level path 0 1 climb) climb_once

-- a round along it leads on, keeps the levels, and stays in range
pub climb_round : (nodes : ℕ) (arcs : List Arc) (old new : Progress) (level : ℕ → ℕ) (path : List ResidualArc) → IsNetwork (record { nodes = nodes; arcs = arcs }) → (Reaches (HasUnbounded arcs) 0 1 → ⊥) → IsProgress nodes arcs old.on.items old.value old.rounds → IsLevelled arcs old.on.items level → level 1 ≤ nodes → IsTrail (Climbs arcs old.on.items level) 0 path 1 → AddsRound arcs path old new → IsProgress nodes arcs new.on.items new.value new.rounds × IsLevelled arcs new.on.items level × (old.value < new.value) × (new.value < 2 ^ 63)
climb_round nodes arcs old new level path net apart progress levelled low climb round =
    let more = round_more nodes arcs old new level path progress levelled low (climbing_rises arcs old.on.items level path 0 1 climb) (climbing_open arcs old.on.items level path 0 1 climb) round in
    let fits = climb_fits nodes arcs old.on.items level path climb old.value old.rounds net apart progress round.amount round.push.carries in
    (more.0, more.1, more.2, rw round.value fits)
