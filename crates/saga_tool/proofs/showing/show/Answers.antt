use Rattle.std.proofs.Common.{◌≡◌, ◌++◌, inr, codes, option_map, rules, subst, Some, Option, List, ℕ, Bor}
use Rattle.saga_texts.specs.Lines.{line_feed}
use Rattle.saga_tool.specs.Program.{WritesBut}
use Rattle.saga_tool.proofs.showing.show.Goals as goal

pub returns-in_ok-format-in-Some : goal.returns-in_ok-format-in-Some
returns-in_ok-format-in-Some g c =
    let world = g.W.Outside.world c.args.outside.now in
    let line : c.as_str-in-Some.result.now ≡ codes "sagas: cannot write " ++ c.in-Some.path.now ++ line_feed = search rules in
    record {
      unwritten = Some c.in-Some.path.now;
      written = subst (λ (r : Option (Bor (List ℕ))). WritesBut world c.args.response.now (option_map (λ s. s.now) r)) c.in-Some.is c.write-unwritten.ensures;
      told = inr (record {
        none = c.has_line.ensures.none (search rules);
        told = subst (λ (text : List ℕ). world.complains text) line c.complain-in-Some.ensures;
        status_is = search rules;
      });
    }
