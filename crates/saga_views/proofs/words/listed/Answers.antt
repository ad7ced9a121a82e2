use Rattle.std.proofs.Common.{◌∙◌, codes, string_bytes}
use Rattle.std.proofs.lemmas.Result.{IfOk-weaker}
use Rattle.saga_views.proofs.RangeLemmas.{join_seen}
use Rattle.saga_views.proofs.words.listed.Goals as goal

pub returns : goal.returns
returns c = IfOk-weaker c.join.result _ _ (λ t is. is ∙ join_seen string_bytes (codes ",") c.args.texts.now) c.join.ensures.ok
