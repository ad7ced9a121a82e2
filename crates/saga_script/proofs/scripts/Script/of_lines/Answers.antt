use Rattle.std.proofs.Common.{ap, arith}
use Rattle.saga_bytes.specs.Lines.{lines_of}
use Rattle.saga_script.specs.Progress.{told_after}
use Rattle.saga_script.proofs.TellLemmas.{told-empty}
use Rattle.saga_script.proofs.scripts.Script.of_lines.Goals as goal

pub loop-line-init : goal.loop-line-init
loop-line-init c = (λ q. ap (λ e. told_after q e 1 (lines_of c.args.bytes.now)) (told-empty c.new.result c.new.ensures.empty q), omega arith)
