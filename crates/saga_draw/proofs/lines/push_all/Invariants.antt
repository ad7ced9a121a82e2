use Rattle.std.proofs.Common.{◌≡◌, ◌++◌, flat_map, take, string_bytes}
use Rattle.saga_draw.proofs.lines.push_all.Given as goal

abbrev pub invariant-loop-piece : goal.invariant-loop-piece
invariant-loop-piece l =
    string_bytes l.text ≡ string_bytes l.initial.text ++ flat_map (λ piece. piece.now) (take l.piece-index l.pieces)
