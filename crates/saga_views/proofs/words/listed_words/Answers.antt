use Rattle.std.proofs.Common.{◌∙◌, codes}
use Rattle.std.proofs.lemmas.Result.{IfOk-weaker}
use Rattle.saga_views.proofs.RangeLemmas.{join_seen}
use Rattle.saga_views.proofs.words.listed_words.Goals as goal

pub returns : goal.returns
returns c = IfOk-weaker c.join.result _ _ (λ t is. is ∙ join_seen (λ w. w.now) (codes "\",\"") c.args.words.now) c.join.ensures.ok
