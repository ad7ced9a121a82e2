use Rattle.saga_text.proofs.AnswerLemmas.{has_one_answer}
use Rattle.saga_text.proofs.laws.reading_laws.Goals as goal

pub returns-clause-one : goal.returns-clause-one
returns-clause-one c = has_one_answer c.fault_laws.ensures.one c.fault_laws.ensures.none
