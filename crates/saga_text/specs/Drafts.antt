-- A draft, as contracts see it.
use Rattle.std.specs.Prelude.{ℕ, List, Vec, map}
use Rattle.std.specs.Borrow.{Bor}
use Rattle.std.specs.declared.alloc.Global.{Global}
use Rattle.saga_text.specs.declared.drafts.Draft.{Draft}
use Rattle.saga_text.specs.Format.{Written}

-- the names in a list of borrowed texts
abbrev pub names_of : Vec (Bor (List ℕ)) Global → List (List ℕ)
names_of names = map (λ name. name.now) names.items

-- the draft as its contents
abbrev pub written : Draft → Written
written draft = record { name = draft.name; steps = draft.steps.items; needs = map names_of draft.needs.items }
