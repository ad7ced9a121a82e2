use Rattle.std.proofs.Common.{◌≡◌, ◌++◌, flat_map, take, string_bytes}
use Rattle.saga_draw.specs.Drawings.{edge_at}
use Rattle.saga_draw.specs.Marks.{need_mark_in}
use Rattle.saga_draw.proofs.drawings.push_edges.Given as goal

abbrev pub invariant-loop-need : goal.invariant-loop-need
invariant-loop-need l =
    string_bytes l.text ≡ string_bytes l.initial.text
    ++ flat_map (edge_at l.steps (need_mark_in l.marks)) (take l.need-index l.needs)
