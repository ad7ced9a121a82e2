use Rattle.std.proofs.Common.{◌≡◌, ◌++◌, map, drop}
use Rattle.clap.specs.Words.{rows_of, found_of}
use Rattle.saga_tool.specs.Forms.{argument_of, outline_of}
use Rattle.saga_tool.specs.Given.{files_in}
use Rattle.saga_tool.proofs.arguments.files_of.Given as goal

abbrev pub invariant-loop-parameter : goal.invariant-loop-parameter
invariant-loop-parameter l =
    map (λ s. s.now) l.files.items ++ files_in (rows_of (found_of l.matches)) (map argument_of (drop l.parameter-index l.form.parameters.now))
    ≡ files_in (rows_of (found_of l.matches)) (outline_of l.form).arguments
