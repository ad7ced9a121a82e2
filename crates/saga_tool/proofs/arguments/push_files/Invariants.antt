use Rattle.std.proofs.Common.{◌≡◌, ◌++◌, map, drop}
use Rattle.saga_tool.proofs.arguments.push_files.Given as goal

abbrev pub invariant-loop-path : goal.invariant-loop-path
invariant-loop-path l =
    map (λ s. s.now) l.files.items ++ map (λ s. s.now) (drop l.path-index l.paths) ≡ map (λ s. s.now) l.initial.files.items ++ map (λ s. s.now) l.paths
