use Rattle.std.proofs.Common.{List, ℕ}
use Rattle.std.specs.Prelude.{Contains}
use Rattle.std.specs.Bool.{Decides}
use Rattle.std.proofs.lemmas.Bool.Decides.{Decides-eqb}
use Rattle.std.proofs.lemmas.List.Elements.{contains_decides, Decides-contains}
use Rattle.std.specs.Prelude.{◌==◌}
use Rattle.saga_check.proofs.chains.has_need.Goals as goal

pub returns : goal.returns
returns c =
    let list : List ℕ = c.needs_of.result.now in
    let has : Decides c.contains.result (Contains list c.args.on) =
    Decides-contains list c.args.on c.contains.result (contains_decides (λ a b. a == b) Decides-eqb list c.args.on c.contains.result c.contains.ensures.cases) in
    (λ found. c.needs_of.ensures.exact.found c.args.on (has.0 found), λ direct. has.1 (c.needs_of.ensures.exact.all c.args.on direct))
