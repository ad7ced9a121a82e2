-- How a row follows one saga along its links.
use Rattle.std.specs.Prelude.{◌≡◌, ℕ, ◌+◌, Bool, true, not, ◌&&◌, List, Option, Some, None, is_some, map}
use Rattle.saga_def.specs.Contents.{Contents}
use Rattle.saga_history.specs.declared.events.Event.{Event}
use Rattle.saga_history.specs.Rules.{IsLegalSaga}
use Rattle.saga_rows.specs.Row.{Row, new_row, one_if}
use Rattle.saga_rows.specs.Follows.{Follows}
use Rattle.saga_audit.specs.declared.answers.Tally.{Tally}
use Rattle.saga_audit.specs.declared.chains.Link.{Link}
use Rattle.saga_audit.specs.Chains.{AreLinks, IsOwn, Leads, changes_before}
use Rattle.saga_audit.specs.Groups.{ends, sticks}

-- the row follows the changes of a saga before a link, and these changes are legal
pub record IsFollowed (shelf : List Contents) (row : Row) (events : List Event) (links : List Link) (i : ℕ) (to : Option ℕ) : Type 0 where
  pub follows : Follows shelf row (changes_before events links i to)
  pub legal : IsLegalSaga shelf (changes_before events links i to)
  pub own : IsOwn events links i to

-- one more than the maximum number of links that can follow a link
abbrev pub links_left : Option ℕ → ℕ
links_left None = 0
links_left (Some k) = k + 1

-- a row without changes for each definition
abbrev pub new_rows : List Contents → List Row
new_rows shelf = map new_row shelf

-- the tally of one saga
abbrev pub tally_of : List Contents → List Event → ℕ → Tally
tally_of shelf events i = record { sagas = 1; ended = one_if (ends shelf events i); stuck = one_if (sticks events i) }

-- the sagas of a group that are not yet followed; each starts with a link
pub record AreWaiting (mine : ℕ → Bool) (events : List Event) (links : List Link) (heads : ℕ → Option ℕ) : Type 0 where
  pub linked : AreLinks events links
  pub leads : (i k : ℕ) → heads i ≡ Some k → Leads events links i 0 (Some k)
  pub ours : (i k : ℕ) → heads i ≡ Some k → mine i ≡ true

-- the sagas of the group that are already followed
abbrev pub is_done : (ℕ → Bool) → (ℕ → Option ℕ) → ℕ → Bool
is_done mine heads i = mine i && not (is_some (heads i))
