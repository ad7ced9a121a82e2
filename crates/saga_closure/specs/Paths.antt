-- The steps that a need joins.
use Rattle.std.specs.Prelude.{ℕ, if◌then◌else◌, slice_index_or, ◌*◌, ◌-◌}
use Rattle.saga_def.specs.declared.steps.Need.{Need}
use Rattle.saga_case.specs.Terms.{Terms}
use Rattle.saga_flow.specs.declared.residual_arcs.ResidualArc.{ResidualArc}

abbrev pub no_need : Need
no_need = record { step = 0; on = 0 }

abbrev pub need_at : Terms → ℕ → Need
need_at t k = slice_index_or t.needs k no_need

-- the tail and the head of the residual arc of a need
abbrev pub tail_of : Terms → ResidualArc → ℕ
tail_of t s = if s.forward then (need_at t (s.arc - 2 * t.count)).step else (need_at t (s.arc - 2 * t.count)).on

abbrev pub head_of : Terms → ResidualArc → ℕ
head_of t s = if s.forward then (need_at t (s.arc - 2 * t.count)).on else (need_at t (s.arc - 2 * t.count)).step
