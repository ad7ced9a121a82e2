-- Each step of the way back came from one that needs it.
use Rattle.std.proofs.Common.{◌≡◌, ◌∙◌, true, get_or, arith}
use Rattle.std.proofs.lemmas.List.{get_or_default}
use Rattle.saga_case.specs.Terms.{Terms}
use Rattle.saga_closure.specs.Nets.{terms_in}
use Rattle.saga_closure.proofs.ChainLemmas.{back_one, back_more, back_turned, needs_open}
use Rattle.saga_closure.proofs.PathLemmas.{came_in}
use Rattle.saga_closure.proofs.chains.chain_to.Goals as goal
use Rattle.saga_closure.proofs.chains.chain_to.Goals.{After-index}

-- the level that is read
read : (c : After-index) → c.index.result.now ≡ get_or c.args.found.now.level.items c.loop-goal.v 0
read c = c.index.ensures ∙ get_or_default c.args.found.now.level.items c.loop-goal.v c.index.result.now 0 (omega (arith, c.loop-goal.invariant.inside, c.requires.at.search.sized))

pub index-requires : goal.index-requires
index-requires c = omega (arith, c.loop-goal.invariant.inside, c.requires.at.search.sized, c.args.found.now.level.ok.0)

pub loop-goal-init : goal.loop-goal-init
loop-goal-init c = record {
  inside = c.requires.at.inside;
  low = omega (arith, c.requires.at.level);
  back = back_one (terms_in c.args.residual.now.net.now) c.args.goal.step c.push.new.self.items c.requires.at.inside (rw c.new-chain.ensures.items at c.in_ok-push.ensures.items);
}

pub came_by-v-requires-clause-above : goal.came_by-v-requires-clause-above
came_by-v-requires-clause-above c = omega (arith, read (goal.at.came_by-v-requires-clause-above c).After-index, c.loop-goal-test.true)

pub loop-goal-preserved : goal.loop-goal-preserved
loop-goal-preserved c =
    let t : Terms = terms_in c.args.residual.now.net.now in
    record {
      inside = c.came_by-v.ensures.inside;
      low = omega (arith, c.came_by-v.ensures.lower, c.loop-goal.invariant.low);
      back = rw c.in_ok-push-2.ensures.items (back_more t c.args.goal.step c.loop-goal.v _ c.loop-goal.chain.items c.loop-goal.invariant.back c.came_by-v.ensures.inside (needs_open t c.args.residual.now.on.now _ _ c.loop-goal.v c.requires.empty c.came_by-v.ensures.opened));
    }

pub loop-goal-smaller : goal.loop-goal-smaller
loop-goal-smaller c = omega (arith, c.came_by-v.ensures.lower)

pub returns : goal.returns
returns c =
    let t : Terms = terms_in c.args.residual.now.net.now in
    let found = c.args.found.now in
    let none_left : get_or found.level.items c.loop-goal.v 0 ≡ 0 = omega (arith, read (goal.at.returns c).After-index, c.loop-goal-test.false) in
    let goes = came_in t c.args.residual.now.on.now found c.args.goal c.loop-goal.v c.requires.at c.loop-goal.invariant.inside none_left in
    rw c.reverse.ensures.items (back_turned t c.args.residual.now.on.now c.args.goal.step c.loop-goal.v c.loop-goal.chain.items c.loop-goal.invariant.back (record { arc = c.loop-goal.v; forward = true }, goes))
