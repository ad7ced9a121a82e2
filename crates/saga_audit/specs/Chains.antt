-- The indices of the events of each saga. Each is linked to the next event of the same saga.
use Rattle.std.specs.Prelude.{◌≡◌, ℕ, ◌<◌, ◌+◌, Bool, true, List, length, take, slice_get, slice_index_or, Option, Some, None}
use Rattle.saga_history.specs.declared.events.Event.{Event}
use Rattle.saga_history.specs.Changes.{Change, saga_of, past, changes}
use Rattle.saga_audit.specs.declared.chains.Link.{Link}

abbrev pub no_link : Link
no_link = record { place = 0; next = None }

abbrev pub link_at : List Link → ℕ → Link
link_at links k = slice_index_or links k no_link

-- the changes of a saga before the event of a link; without a link, in the whole history
abbrev pub changes_before : List Event → List Link → ℕ → Option ℕ → List Change
changes_before events links i None = changes i (past events)
changes_before events links i (Some k) = changes i (past (take (link_at links k).place events))

-- a link is to an event of the saga
pub record IsLinkOf (events : List Event) (links : List Link) (i k : ℕ) : Type 0 where
  pub event : Event
  pub below : k < length links
  pub here : slice_get events (link_at links k).place ≡ Some event
  pub named : saga_of event ≡ i

abbrev pub IsOwn : List Event → List Link → ℕ → Option ℕ → Type 0
IsOwn events links i None = Unit {0}
IsOwn events links i (Some k) = IsLinkOf events links i k

-- the first event of a saga from an index on is the one of the link; without a link there is none
pub record Leads (events : List Event) (links : List Link) (i place : ℕ) (to : Option ℕ) : Type 0 where
  pub own : IsOwn events links i to
  pub nothing_between : changes_before events links i to ≡ changes i (past (take place events))

abbrev pub IsBelow : ℕ → Option ℕ → Type 0
IsBelow k None = Unit {0}
IsBelow k (Some j) = j < k

-- the link at an index of the list leads to the next event of the same saga
pub record IsLink (events : List Event) (links : List Link) (k : ℕ) (link : Link) : Type 0 where
  pub event : Event
  pub here : slice_get events link.place ≡ Some event
  pub below : IsBelow k link.next
  pub leads : Leads events links (saga_of event) (link.place + 1) link.next

abbrev pub AreLinks : List Event → List Link → Type 0
AreLinks events links = (k : ℕ) → k < length links → IsLink events links k (link_at links k)

-- for each saga of a group, the first event from an index on
abbrev pub AreHeads : (ℕ → Bool) → List Event → List Link → (ℕ → Option ℕ) → ℕ → Type 0
AreHeads mine events links heads place = (i : ℕ) → mine i ≡ true → Leads events links i place (heads i)

pub record AreChains (mine : ℕ → Bool) (events : List Event) (links : List Link) (heads : ℕ → Option ℕ) (place : ℕ) : Type 0 where
  pub linked : AreLinks events links
  pub headed : AreHeads mine events links heads place
  pub ours : (i k : ℕ) → heads i ≡ Some k → mine i ≡ true
