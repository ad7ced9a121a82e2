use Rattle.std.proofs.Common.{ap, sym}
use Rattle.saga_tool.specs.Forms.{outline_for}
use Rattle.saga_tool.proofs.forms.form_of.Goals as goal

pub returns-in-Check-clause-outline : goal.returns-in-Check-clause-outline
returns-in-Check-clause-outline c = ap outline_for (sym c.in-Check.is)

pub returns-in-Plan-clause-outline : goal.returns-in-Plan-clause-outline
returns-in-Plan-clause-outline c = ap outline_for (sym c.in-Plan.is)

pub returns-in-Run-clause-outline : goal.returns-in-Run-clause-outline
returns-in-Run-clause-outline c = ap outline_for (sym c.in-Run.is)

pub returns-in-Audit-clause-outline : goal.returns-in-Audit-clause-outline
returns-in-Audit-clause-outline c = ap outline_for (sym c.in-Audit.is)

pub returns-in-Draw-clause-outline : goal.returns-in-Draw-clause-outline
returns-in-Draw-clause-outline c = ap outline_for (sym c.in-Draw.is)

pub returns-in-Drive-clause-outline : goal.returns-in-Drive-clause-outline
returns-in-Drive-clause-outline c = ap outline_for (sym c.in-Drive.is)
