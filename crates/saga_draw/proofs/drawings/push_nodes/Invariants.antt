use Rattle.std.proofs.Common.{◌≡◌, ◌++◌, flat_map, string_bytes, slice_get, option_map}
use Rattle.std.specs.List.{range_with_len}
use Rattle.saga_draw.specs.Drawings.{node_at, state_in}
use Rattle.saga_draw.specs.Marks.{mark_in}
use Rattle.saga_draw.proofs.drawings.push_nodes.Given as goal

abbrev pub invariant-loop-step : goal.invariant-loop-step
invariant-loop-step l =
    string_bytes l.text ≡ string_bytes l.initial.text
    ++ flat_map (λ s. node_at (slice_get l.definition.steps s) (state_in (option_map (λ x. x.now) l.states) s) (mark_in l.marks s)) (range_with_len 0 l.step)
