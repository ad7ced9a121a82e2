use Rattle.std.proofs.Common.{◌≡◌, ◌∷◌, [], codes, map, rules, subst, List, ℕ}
use Rattle.std.proofs.lemmas.Result.{IfOk-weaker}
use Rattle.saga_tool.specs.Program.{RepliesToWords}
use Rattle.saga_tool.proofs.FaultLemmas.{is_help}
use Rattle.saga_tool.proofs.program.help.Goals as goal

pub returns : goal.returns
returns g c =
    let world = g.W.Outside.world c.args.outside.now in
    let is : map (λ s. s.now) c.as_slice.result.now ≡ codes "--help" ∷ [] = search rules in
    IfOk-weaker c.on_words.result _ _
    (λ response r. is_help world response (subst (λ (words : List (List ℕ)). RepliesToWords world words response) is r)) c.on_words.ensures
