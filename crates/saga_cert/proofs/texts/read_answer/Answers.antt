use Rattle.serde_json.specs.View.{view}
use Rattle.saga_cert.proofs.FaultLemmas.{reads_answer}
use Rattle.saga_cert.proofs.texts.read_answer.Goals as goal

pub returns : goal.returns
returns c = reads_answer c.args.bytes.now (view c.in_ok-value.value) c.answer_of_value.result c.in_ok-value.ensures.text c.answer_of_value.ensures
