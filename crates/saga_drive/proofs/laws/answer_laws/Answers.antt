use Rattle.saga_drive.proofs.LegalLemmas.{keeps_legal}
use Rattle.saga_drive.proofs.QuietLemmas.{one_text}
use Rattle.saga_drive.proofs.RoomLawLemmas.{keeps_room, plan_fits}
use Rattle.saga_drive.proofs.laws.answer_laws.Goals as goal

pub returns-clause-legal : goal.returns-clause-legal
returns-clause-legal c = keeps_legal

pub returns-clause-plans : goal.returns-clause-plans
returns-clause-plans c = plan_fits

pub returns-clause-keeps : goal.returns-clause-keeps
returns-clause-keeps c = keeps_room

pub returns-clause-one_text : goal.returns-clause-one_text
returns-clause-one_text c = one_text
