use Rattle.saga_drive.proofs.RestartLawLemmas.{not_refused, one_restart}
use Rattle.saga_drive.proofs.laws.restart_laws.Goals as goal

pub returns-clause-one : goal.returns-clause-one
returns-clause-one c = one_restart

pub returns-clause-alone : goal.returns-clause-alone
returns-clause-alone c = not_refused
