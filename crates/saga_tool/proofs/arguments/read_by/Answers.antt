use Rattle.std.proofs.Common.{◌∙◌, ap, subst, codes, List}
use Rattle.std.specs.List.{All}
use Rattle.clap.specs.Words.{Row, found_of, first_of, rows_of}
use Rattle.clap.proofs.WalkLemmas.{first_value-rows}
use Rattle.saga_tool.specs.Forms.{outline_of}
use Rattle.saga_tool.specs.Given.{Holds, IsNumber, files_in, is_set}
use Rattle.saga_tool.proofs.CountLemmas.{counted}
use Rattle.saga_tool.proofs.arguments.read_by.Goals as goal

pub returns-clause-given : goal.returns-clause-given
returns-clause-given c =
    let f = found_of c.in_ok-matches.matches in
    let args = (outline_of c.args.form.now).arguments in
    let is = c.in_ok-matches.ensures.rows in
    record {
      taken = c.in_ok-matches.ensures.taken;
      files = c.in_ok-files.ensures ∙ ap (λ (rows : List Row). files_in rows args) is;
      holds = subst (λ (rows : List Row). All (Holds rows) args) is c.in_ok-matches.ensures.holds;
      counted = counted (rows_of f) args c.in_ok-files.files.items c.in_ok-matches.ensures.holds c.in_ok-files.ensures;
      script = c.get_str-script.ensures ∙ (first_value-rows f (codes "script") ∙ ap (first_of (codes "script")) is);
      log = c.get_str-log.ensures ∙ (first_value-rows f (codes "log") ∙ ap (first_of (codes "log")) is);
      lines = c.has_flag-lines.ensures ∙ ap (λ (rows : List Row). is_set (first_of (codes "lines") rows)) is;
      from = c.get_str-from.ensures ∙ (first_value-rows f (codes "from") ∙ ap (first_of (codes "from")) is);
      fleet = c.has_flag-fleet.ensures ∙ ap (λ (rows : List Row). is_set (first_of (codes "fleet") rows)) is;
      workers = subst (λ (rows : List Row). IsNumber args rows (codes "workers") c.number_of-workers.result) is c.number_of-workers.ensures.number;
      workers_within = c.number_of-workers.ensures.within;
      shards = subst (λ (rows : List Row). IsNumber args rows (codes "shards") c.number_of-shards.result) is c.number_of-shards.ensures.number;
      shards_within = c.number_of-shards.ensures.within;
    }
