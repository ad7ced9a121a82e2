-- The effects of a call on a session.
use Rattle.std.specs.Prelude.{◌≡◌, ℕ, List, Option, Some, IsSome}
use Rattle.saga_c.specs.Sessions.{IsAnswered, IsReplied}
use Rattle.saga_c.specs.Starts.{IsStarted}
use Rattle.saga_c.specs.declared.filling.Told.{Told}
use Rattle.saga_c.specs.declared.sessions.Ask.{Ask}
use Rattle.saga_c.specs.declared.sessions.Ask.TheVariants.{Start, Answer, Fetch}
use Rattle.saga_c.specs.declared.sessions.Session.{Session}

abbrev pub Meets : Session → Session → Ask → List ℕ → List ℕ → Told → Type 0
Meets old new (Start log) before after told = IsStarted old new log.now before after told
Meets old new (Answer request) before after told = IsAnswered old new request.now before after told
Meets old new Fetch before after told = IsReplied old new before after told

-- the session executes the call, and the lease still has a session afterwards
pub record IsMet (old new : Option Session) (ask : Ask) (before after : List ℕ) (told : Told) : Type 0 where
  pub some : IsSome new
  pub meets : (s t : Session) → old ≡ Some s → new ≡ Some t → Meets s t ask before after told
