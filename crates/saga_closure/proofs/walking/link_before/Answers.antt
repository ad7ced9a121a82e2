-- Each entry is a need, over which a residual arc leads back to the step.
use Rattle.std.proofs.Common.{ℕ, ◌≡◌, ◌≤◌, ◌+◌, ◌*◌, inl, inr, length, get_or, arith}
use Rattle.std.proofs.lemmas.Bool.{cases_eq}
use Rattle.std.proofs.lemmas.Option.{slice_get_within}
use Rattle.saga_closure.specs.Nets.{terms_in}
use Rattle.saga_closure.proofs.ArcLemmas.{arcs_sized}
use Rattle.saga_closure.proofs.NeighbourLemmas.{opens_over, need_turned}
use Rattle.saga_closure.proofs.walking.link_before.Goals as goal
use Rattle.saga_closure.proofs.walking.link_before.Goals.{else-is_just_below-via-then-is_just_below+else-lets_through, else-is_just_below-via-else-is_just_below}

pub lets_through-requires : goal.lets_through-requires
lets_through-requires c =
    let net = c.args.residual.now.net.now in
    omega (arith, slice_get_within net.definition.now.needs _ _ (c.links_from.ensures.each c.loop-e.e (omega (arith, c.loop-e-test.true))), c.steps-links.ensures.count, c.args.residual.now.amounts, arcs_sized (terms_in net))

pub bounds-alive-u : goal.bounds-alive-u
bounds-alive-u c = omega (arith, c.links_from.ensures.inside c.loop-e.e (omega (arith, c.loop-e-test.true)), c.requires.alive)

pub returns-then-lets_through-clause-opened : goal.returns-then-lets_through-clause-opened
returns-then-lets_through-clause-opened c =
    let net = c.args.residual.now.net.now in
    let n : ℕ = length net.definition.now.steps in
    let place : ℕ = get_or c.links_from.result.1.now c.loop-e.e 0 in
    let u : ℕ = get_or c.links_from.result.0.now c.loop-e.e 0 in
    let arc : 2 * c.steps-links.result + place ≡ n + (n + place) = omega (arith, c.steps-links.ensures.count) in
    let at = rw need_turned at (c.links_from.ensures.each c.loop-e.e (omega (arith, c.loop-e-test.true))) in
    rw (← arc) at (opens_over net.definition.now net.caps.now c.args.residual.now.on.now place u c.args.v c.args.forward at (rw arc at (c.lets_through.ensures.0 c.if-lets_through.true)))

pub loop-e-preserved : goal.loop-e-preserved
loop-e-preserved c = λ e le lt pass up. elim (cases_eq e c.loop-e.e) [
  | inl same ↦ elim c.else-is_just_below.branch [
    | else-is_just_below-via-then-is_just_below+else-lets_through w ↦
        let n : ℕ = length c.args.residual.now.net.now.definition.now.steps in
        let arc : 2 * c.steps-links.result + get_or c.links_from.result.1.now c.loop-e.e 0 ≡ n + (n + get_or c.links_from.result.1.now c.loop-e.e 0) = omega (arith, c.steps-links.ensures.count) in
        absurd (cc (w.lets_through.ensures.1 (rw arc (rw same at pass)), w.if-lets_through.false))
    | else-is_just_below-via-else-is_just_below w ↦ absurd (cc (c.is_just_below.ensures.1 (rw same at up), w.if-is_just_below.false))
  ]
  | inr ne ↦ c.loop-e.invariant e le (omega (arith, lt, ne)) pass up
]

pub returns-clause-none : goal.returns-clause-none
returns-clause-none c = λ all k w at pass up.
    let entry = c.links_from.ensures.all k w (rw (need_turned c.args.forward c.args.v w) at) in
    let long : length c.links_from.result.0.now ≤ c.loop-e.e = omega (arith, c.loop-e-test.false) in
    c.loop-e.invariant entry.0 (omega (arith, c.min-many.ensures, all)) (omega (arith, entry.1, long)) (rw entry.3 pass) (rw entry.2 up)
