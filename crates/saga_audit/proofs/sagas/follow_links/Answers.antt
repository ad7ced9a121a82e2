use Rattle.std.proofs.Common.{rules, ◌≡◌, ℕ, length, Some, None, List, sym, subst, refl}
use Rattle.std.specs.Prelude.{slice_get}
use Rattle.std.proofs.lemmas.Option.{slice_get_read, slice_get_within}
use Rattle.saga_def.specs.Contents.{Contents}
use Rattle.saga_history.specs.declared.events.Event.{Event}
use Rattle.saga_history.specs.Changes.{change_of}
use Rattle.saga_audit.specs.declared.answers.Tally.{Tally}
use Rattle.saga_audit.specs.declared.chains.Link.{Link}
use Rattle.saga_audit.specs.Chains.{changes_before, link_at}
use Rattle.saga_audit.specs.Decisions.{Decides}
use Rattle.saga_audit.specs.Groups.{IsTallied, is_saga}
use Rattle.saga_audit.specs.Sagas.{IsFollowed}
use Rattle.saga_audit.proofs.RowLemmas.{drained, room_for}
use Rattle.saga_audit.proofs.SagaLemmas.{followed_whole, refused_here, step_followed}
use Rattle.saga_audit.proofs.sagas.follow_links.Goals as goal
use Rattle.saga_audit.proofs.sagas.follow_links.Goals.{After-index-events-link}

pub refusal-requires : goal.refusal-requires
refusal-requires c =
    let d : IsFollowed c.args.shelf.now c.loop-to.row c.args.events.now c.args.links.now c.args.saga c.loop-to.to = c.loop-to.invariant.1 in
    drained c.args.shelf.now c.loop-to.row (changes_before c.args.events.now c.args.links.now c.args.saga c.loop-to.to) d.follows d.legal

-- the saga is followed up to the link at hand, whose event is read
at_hand : (c : After-index-events-link) → IsFollowed c.args.shelf.now c.loop-to.row c.args.events.now c.args.links.now c.args.saga (Some c.in-Some.k) × (slice_get c.args.events.now (link_at c.args.links.now c.in-Some.k).place ≡ Some c.index-events-link.result)
at_hand c =
    let events : List Event = c.args.events.now in
    let place : ℕ = (link_at c.args.links.now c.in-Some.k).place in
    let d : IsFollowed c.args.shelf.now c.loop-to.row events c.args.links.now c.args.saga (Some c.in-Some.k) = subst (IsFollowed c.args.shelf.now c.loop-to.row events c.args.links.now c.args.saga) c.in-Some.is c.loop-to.invariant.1 in
    (d, slice_get_read events (length events) place c.index-events-link.result refl (slice_get_within events place d.own.event d.own.here) c.index-events-link.is)

pub returns-in-Some-2 : goal.returns-in-Some-2
returns-in-Some-2 c =
    let at = at_hand (goal.at.returns-in-Some-2 c).After-index-events-link in
    let told : Decides c.loop-to.row (change_of c.index-events-link.result) (Some c.in-Some-2.reason) = rw c.in-Some-2.is at c.in_ok-reason.ensures in
    refused_here c.args.shelf.now c.loop-to.row c.args.events.now c.args.links.now c.args.saga c.in-Some.k c.loop-to.invariant.0 at.0 c.index-events-link.result at.1 c.in-Some-2.reason told

pub follow-requires : goal.follow-requires
follow-requires c =
    let shelf : List Contents = c.args.shelf.now in
    let events : List Event = c.args.events.now in
    let links : List Link = c.args.links.now in
    let e : Event = c.index-events-link.result in
    let d : IsFollowed shelf c.loop-to.row events links c.args.saga c.loop-to.to = c.loop-to.invariant.1 in
    let told : Decides c.loop-to.row (change_of e) None = rw c.in-None.is at c.in_ok-reason.ensures in
    room_for shelf c.loop-to.row (changes_before events links c.args.saga c.loop-to.to) d.follows d.legal (change_of e) told

pub loop-to-preserved : goal.loop-to-preserved
loop-to-preserved c =
    let at = at_hand (goal.at.loop-to-preserved c).After-index-events-link in
    let told : Decides c.loop-to.row (change_of c.index-events-link.result) None = rw c.in-None.is at c.in_ok-reason.ensures in
    (c.loop-to.invariant.0, rw c.follow.ensures (step_followed c.args.shelf.now c.loop-to.row c.args.events.now c.args.links.now c.args.saga c.in-Some.k c.loop-to.invariant.0 at.0 c.index-events-link.result at.1 told))

pub returns : goal.returns
returns c =
    let d : IsFollowed c.args.shelf.now c.loop-to.row c.args.events.now c.args.links.now c.args.saga None = search rules in
    subst (λ (t : Tally). IsTallied c.args.shelf.now (is_saga c.args.saga) c.args.events.now t) (sym c.tally_of.ensures) (followed_whole c.args.shelf.now c.loop-to.row c.args.events.now c.args.links.now c.args.saga d)
