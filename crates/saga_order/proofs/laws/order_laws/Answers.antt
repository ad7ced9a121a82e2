use Rattle.saga_order.specs.Shape.{shape_of}
use Rattle.saga_order.proofs.LawLemmas.{steps_are_ranked, ranks_rise, sets_have_first, sets_have_last, firsts_share_rank, lasts_share_rank, ordered_from_sound}
use Rattle.saga_order.proofs.laws.order_laws.Goals as goal

pub returns-clause-ranked : goal.returns-clause-ranked
returns-clause-ranked c = steps_are_ranked (shape_of c.args.definition.now) (ordered_from_sound c.args.definition.now c.steps.ensures.sound)

pub returns-clause-rises : goal.returns-clause-rises
returns-clause-rises c = ranks_rise (shape_of c.args.definition.now)

pub returns-clause-first : goal.returns-clause-first
returns-clause-first c = sets_have_first (shape_of c.args.definition.now) (ordered_from_sound c.args.definition.now c.steps.ensures.sound)

pub returns-clause-last : goal.returns-clause-last
returns-clause-last c = sets_have_last (shape_of c.args.definition.now) (ordered_from_sound c.args.definition.now c.steps.ensures.sound)

pub returns-clause-one_first : goal.returns-clause-one_first
returns-clause-one_first c = firsts_share_rank (shape_of c.args.definition.now)

pub returns-clause-one_last : goal.returns-clause-one_last
returns-clause-one_last c = lasts_share_rank (shape_of c.args.definition.now)
