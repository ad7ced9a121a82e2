-- Each row of the table is suited.
use Rattle.std.proofs.Common.{◌≡◌, true, refl}
use Rattle.clap.proofs.OnLiterals.{clap_on_literals}
use Rattle.saga_tool.specs.Forms.{app_by, outline_for}
use Rattle.saga_tool.specs.Suited.{is_suited}
use Rattle.saga_tool.specs.declared.forms.Name.{Name}
use Rattle.saga_tool.specs.declared.forms.Name.TheVariants.{Check, Plan, Run, Audit, Draw, Drive}

pub all_suited : (name : Name) → is_suited (app_by (outline_for name)) ≡ true
unfolding clap_on_literals
all_suited Check = refl
all_suited Plan = refl
all_suited Run = refl
all_suited Audit = refl
all_suited Draw = refl
all_suited Drive = refl
