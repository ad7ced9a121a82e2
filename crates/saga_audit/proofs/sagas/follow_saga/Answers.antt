use Rattle.std.proofs.Common.{rules, ◌≡◌, ℕ, ◌<◌, ◌≤◌, length, Some, None, List, sym, ◌∙◌, ap, subst, refl, get_or, arith}
use Rattle.std.specs.Prelude.{slice_get}
use Rattle.std.proofs.lemmas.List.{get_or-map, length-map}
use Rattle.std.proofs.lemmas.Option.{slice_get-get_or, slice_get_read, slice_get_within}
use Rattle.saga_def.specs.Contents.{Contents}
use Rattle.saga_def.specs.Sound.{IsSound}
use Rattle.saga_history.specs.declared.events.Event.{Event}
use Rattle.saga_history.specs.Changes.{change_of}
use Rattle.saga_rows.specs.Row.{Row, new_row}
use Rattle.saga_audit.specs.declared.answers.Tally.{Tally}
use Rattle.saga_audit.specs.declared.chains.Link.{Link}
use Rattle.saga_audit.specs.Chains.{AreLinks, Leads, link_at}
use Rattle.saga_audit.specs.Groups.{IsTallied, is_saga}
use Rattle.saga_audit.specs.Reasons.{opened_by}
use Rattle.saga_audit.specs.Sagas.{IsFollowed, new_rows}
use Rattle.saga_audit.proofs.SagaLemmas.{first_followed, first_unknown, first_unopened, followed_whole}
use Rattle.saga_audit.proofs.sagas.follow_saga.Goals as goal
use Rattle.saga_audit.proofs.sagas.follow_saga.Goals.{After-index-events-position, After-steps}

-- the first event, as it is read
first_event : (events : List Event) (links : List Link) (i k : ℕ) (e : Event) → Leads events links i 0 (Some k) → e ≡ get_or events (link_at links k).place e → slice_get events (link_at links k).place ≡ Some e
first_event events links i k e leads is = slice_get_read events (length events) (link_at links k).place e refl (slice_get_within events (link_at links k).place leads.own.event leads.own.here) is

-- the row of a definition
record IsRowOf (shelf : List Contents) (n : ℕ) (row : Row) : Type 0 where
  contents : Contents
  below : n < length shelf
  found : slice_get shelf n ≡ Some contents
  is : new_row contents ≡ row

row_of : (shelf : List Contents) (rows : List Row) (n : ℕ) (row : Row) → rows ≡ new_rows shelf → n < length rows → row ≡ get_or rows n row → IsRowOf shelf n row
row_of shelf rows n row made lt read =
    let below : n < length shelf = omega (arith, lt, ap length made, length-map shelf new_row) in
    record {
      contents = get_or shelf n row.definition;
      below = below;
      found = slice_get-get_or shelf n row.definition below;
      is = sym (read ∙ ap (λ (r : List Row). get_or r n row) made ∙ get_or-map new_row shelf n row.definition row below);
    }

followed : (shelf : List Contents) (rows : List Row) (events : List Event) (links : List Link) (i k n : ℕ) (e : Event) (row : Row) → rows ≡ new_rows shelf → AreLinks events links → Leads events links i 0 (Some k) → slice_get events (link_at links k).place ≡ Some e
    → opened_by (change_of e) ≡ Some n → n < length rows → row ≡ get_or rows n row → IsSound row.definition → IsFollowed shelf row events links i (link_at links k).next
followed shelf rows events links i k n e row made linked leads here opens_it lt read sound =
    let r = row_of shelf rows n row made lt read in
    let same : r.contents ≡ row.definition = ap (λ (x : Row). x.definition) r.is in
    subst (λ (x : Row). IsFollowed shelf x events links i (link_at links k).next) r.is
    (first_followed shelf events links i k linked leads e here n r.contents opens_it r.below r.found (subst IsSound (sym same) sound))

-- the event at the head of the saga's chain
here : (c : After-index-events-position) → slice_get c.args.events.now (link_at c.args.links.now c.args.head).place ≡ Some c.index-events-position.result
here c = first_event c.args.events.now c.args.links.now c.args.saga c.args.head c.index-events-position.result c.requires.head c.index-events-position.is

-- it opened the saga with a definition of the shelf
entered : (c : After-steps) → IsFollowed c.args.shelf.now c.in-Some-get.row.now c.args.events.now c.args.links.now c.args.saga (link_at c.args.links.now c.args.head).next
entered c =
    let e : Event = c.index-events-position.result in
    let here = first_event c.args.events.now c.args.links.now c.args.saga c.args.head e c.requires.head c.index-events-position.is in
    let some : opened_by (change_of e) ≡ Some c.in-Some.definition = sym c.opened_by.ensures ∙ c.in-Some.is in
    let sound : IsSound c.in-Some-get.row.now.definition = subst IsSound c.definition.ensures c.steps.ensures.sound in
    let lt : c.in-Some.definition < length c.args.rows.now = search rules in
    followed c.args.shelf.now c.args.rows.now c.args.events.now c.args.links.now c.args.saga c.args.head c.in-Some.definition e c.in-Some-get.row.now c.requires.rows c.requires.links c.requires.head here some lt c.in-Some-get.ensures.lookup.1 sound

pub returns-in_default : goal.returns-in_default
returns-in_default c =
    let e : Event = c.index-events-position.result in
    let none : opened_by (change_of e) ≡ None = search rules in
    first_unopened c.args.shelf.now c.args.events.now c.args.links.now c.args.saga c.args.head c.requires.links c.requires.head e (here (goal.at.returns-in_default c).After-index-events-position) none

pub returns-in_default-get : goal.returns-in_default-get
returns-in_default-get c =
    let e : Event = c.index-events-position.result in
    let some : opened_by (change_of e) ≡ Some c.in-Some.definition = sym c.opened_by.ensures ∙ c.in-Some.is in
    let past_all : length c.args.rows.now ≤ c.in-Some.definition = search rules in
    first_unknown c.args.shelf.now c.args.events.now c.args.links.now c.args.saga c.args.head c.requires.links c.requires.head e (here (goal.at.returns-in_default-get c).After-index-events-position) c.in-Some.definition some
    (λ lt. omega (arith, lt, past_all, ap length c.requires.rows, length-map c.args.shelf.now new_row))

pub tally_of-requires : goal.tally_of-requires
tally_of-requires c =
    let whole : IsFollowed c.args.shelf.now c.in-Some-get.row.now c.args.events.now c.args.links.now c.args.saga None = subst (IsFollowed c.args.shelf.now c.in-Some-get.row.now c.args.events.now c.args.links.now c.args.saga) c.in-None.is (entered (goal.at.tally_of-requires c).After-steps) in
    whole.follows

pub follow_links-requires-clause-followed : goal.follow_links-requires-clause-followed
follow_links-requires-clause-followed c =
    subst (λ (r : Row). IsFollowed c.args.shelf.now r c.args.events.now c.args.links.now c.args.saga (link_at c.args.links.now c.args.head).next) (sym c.in_ok-copy-in-Some-next.ensures) (entered (goal.at.follow_links-requires-clause-followed c).After-steps)

pub returns-in-None : goal.returns-in-None
returns-in-None c =
    let whole : IsFollowed c.args.shelf.now c.in-Some-get.row.now c.args.events.now c.args.links.now c.args.saga None = subst (IsFollowed c.args.shelf.now c.in-Some-get.row.now c.args.events.now c.args.links.now c.args.saga) c.in-None.is (entered (goal.at.returns-in-None c).After-steps) in
    subst (λ (t : Tally). IsTallied c.args.shelf.now (is_saga c.args.saga) c.args.events.now t) (sym c.tally_of.ensures) (followed_whole c.args.shelf.now c.in-Some-get.row.now c.args.events.now c.args.links.now c.args.saga whole)
