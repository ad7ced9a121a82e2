use Rattle.saga_script.proofs.TellLemmas.{reads}
use Rattle.saga_script.proofs.scripts.Script.read.Goals as goal

pub returns : goal.returns
returns c = reads c.args.bytes.now c.of_lines.result c.if-bytes-gt-MAX_SCRIPT.false c.of_lines.ensures.ok c.of_lines.ensures.err
