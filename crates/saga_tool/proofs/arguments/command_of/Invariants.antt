use Rattle.std.proofs.Common.{◌≡◌, map, drop, fold}
use Rattle.clap.specs.Words.{app_of}
use Rattle.saga_tool.specs.Forms.{added, argument_of, app_by, outline_of}
use Rattle.saga_tool.proofs.arguments.command_of.Given as goal

abbrev pub invariant-loop-parameter : goal.invariant-loop-parameter
invariant-loop-parameter l =
    fold added (app_of l.command) (map argument_of (drop l.parameter-index l.form.parameters.now)) ≡ app_by (outline_of l.form)
