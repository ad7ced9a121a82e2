use Rattle.std.proofs.Common.{◌∙◌, ap, sym, option_map, List, ℕ, Bor}
use Rattle.clap.specs.Words.{found_of}
use Rattle.clap.proofs.WalkLemmas.{first_value-rows}
use Rattle.saga_tool.specs.Given.{is_set}
use Rattle.saga_tool.proofs.arguments.has_flag.Goals as goal

pub returns-in-Some : goal.returns-in-Some
returns-in-Some c =
    let first = c.get_str.ensures ∙ first_value-rows (found_of c.args.matches.now) c.args.name.now in
    c.eq.ensures ∙ ap is_set (ap (option_map (λ (s : Bor (List ℕ)). s.now)) (sym c.in-Some.is) ∙ first)

pub returns-in-None : goal.returns-in-None
returns-in-None c =
    let first = c.get_str.ensures ∙ first_value-rows (found_of c.args.matches.now) c.args.name.now in
    ap is_set (ap (option_map (λ (s : Bor (List ℕ)). s.now)) (sym c.in-None.is) ∙ first)
