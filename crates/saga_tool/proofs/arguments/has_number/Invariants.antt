use Rattle.std.proofs.Common.{◌≡◌, map, drop}
use Rattle.saga_tool.specs.Forms.{argument_of, outline_of}
use Rattle.saga_tool.specs.Given.{has_number}
use Rattle.saga_tool.proofs.arguments.has_number.Given as goal

abbrev pub invariant-loop-parameter : goal.invariant-loop-parameter
invariant-loop-parameter l =
    has_number l.name (map argument_of (drop l.parameter-index l.form.parameters.now)) ≡ has_number l.name (outline_of l.form).arguments
