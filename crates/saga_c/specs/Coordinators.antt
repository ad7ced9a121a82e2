-- The effects of the calls of a coordinator.
use Rattle.std.specs.Prelude.{◌≡◌, ℕ, ◌⊎◌, List, [], Option, Some, None}
use Rattle.std.specs.declared.alloc.Global.{Global}
use Rattle.saga_texts.specs.Outputs.{IsOutputWith}
use Rattle.saga_texts.specs.declared.outputs.Output.{Output}
use Rattle.saga_c.specs.Faults.{IsShelfRefused, fault_line}
use Rattle.saga_c.specs.Given.{IsGiven}
use Rattle.saga_c.specs.Meetings.{Meets}
use Rattle.saga_c.specs.Sessions.{IsAnswered, IsRejected, IsReplied}
use Rattle.saga_c.specs.Starts.{IsPrepared, IsStarted}
use Rattle.saga_c.specs.declared.coordinators.Coordinator.{Coordinator}
use Rattle.saga_c.specs.declared.faults.Fault.{Fault}
use Rattle.saga_c.specs.declared.filling.Told.{Told}
use Rattle.saga_c.specs.declared.sessions.Ask.{Ask}
use Rattle.saga_c.specs.declared.sessions.Session.{Session}

-- the coordinator is closed, and has no session
pub record IsClosed (it : Coordinator) : Type 0 where
  pub shut : it.state ≡ 0
  pub none : it.lease.held ≡ None

-- the coordinator is open, and has that session
pub record Holds (it : Coordinator) (session : Session) : Type 0 where
  pub is_open : it.state ≡ 1
  pub held_is : it.lease.held ≡ Some session

-- the invariant of a coordinator between the calls
abbrev pub IsSound : Coordinator → Type 0
IsSound it = IsClosed it ⊎ ((session : Session) × Holds it session)

-- An open coordinator executes the call on its session, and has a session afterwards.
pub record IsAsked (Does : Session → Session → Told → Type 0) (old new : Coordinator) (told : Told) : Type 0 where
  pub session : Session
  pub held : Holds old session
  pub then_is : Session
  pub holds : Holds new then_is
  pub does : Does session then_is told

pub record IsTurnedAway (old new : Coordinator) (before after : List ℕ) (told : Told) : Type 0 where
  pub closed : IsClosed old
  pub same : new ≡ old
  pub rejected : IsRejected before after told

abbrev pub AsksIt : Coordinator → Coordinator → Ask → List ℕ → List ℕ → Told → Type 0
AsksIt old new ask before after told = IsAsked (λ s t told'. Meets s t ask before after told') old new told ⊎ IsTurnedAway old new before after told

-- the results as C gets them
pub record IsTold (lines used status : ℕ) (told : Told) : Type 0 where
  pub lines_are : lines ≡ told.lines
  pub used_is : used ≡ told.used
  pub says : status ≡ told.status

pub record AnswersIt (old new : Coordinator) (request before after : List ℕ) (lines used status : ℕ) : Type 0 where
  pub told : Told
  pub is : IsTold lines used status told
  pub does : IsAsked (λ s t told'. IsAnswered s t request before after told') old new told ⊎ IsTurnedAway old new before after told

pub record FetchesIt (old new : Coordinator) (before after : List ℕ) (lines used status : ℕ) : Type 0 where
  pub told : Told
  pub is : IsTold lines used status told
  pub does : IsAsked (λ s t told'. IsReplied s t before after told') old new told ⊎ IsTurnedAway old new before after told

-- the definitions are refused, or the log is too long, and the output says why
pub record SaysWhy (texts : List (List ℕ)) (log : List ℕ) (output : Output) : Type 0 where
  pub fault : Fault
  pub refused : IsShelfRefused texts log fault
  pub says : IsOutputWith [] (fault_line fault) 3 output

pub record IsUnread (new : Coordinator) (texts : List (List ℕ)) (log before after : List ℕ) (log_used used status : ℕ) : Type 0 where
  pub closed : IsClosed new
  pub none : log_used ≡ 0
  pub given : IsGiven (SaysWhy texts log) before after used status

-- The coordinator is open if the status is 0, and closed otherwise.
abbrev pub IsLeft : Coordinator → Session → Told → ℕ → Type 0
IsLeft new session told log_used =
    ((told.status ≡ 0) × Holds new session × (log_used ≡ told.log)) ⊎ (((told.status ≡ 0) → ⊥) × IsClosed new × (log_used ≡ 0))

-- a session over the definitions continues from the log, or the log is refused
pub record IsRead (new : Coordinator) (alloc : Global) (texts : List (List ℕ)) (log before after : List ℕ) (log_used used status : ℕ) : Type 0 where
  pub held : Option Session
  pub prepared : IsPrepared alloc texts log held
  pub first : Session
  pub first_is : held ≡ Some first
  pub session : Session
  pub told : Told
  pub started : IsStarted first session log before after told
  pub left : IsLeft new session told log_used
  pub used_is : used ≡ told.used
  pub says : status ≡ told.status

-- the coordinator was already open, and the call is rejected
pub record IsOpenAlready (old new : Coordinator) (before after : List ℕ) (log_used used status : ℕ) : Type 0 where
  pub session : Session
  pub held : Holds old session
  pub same : new ≡ old
  pub unwritten : after ≡ before
  pub none : log_used ≡ 0
  pub no_text : used ≡ 0
  pub says : status ≡ 1

abbrev pub IsOpened : Coordinator → Coordinator → Global → List (List ℕ) → List ℕ → List ℕ → List ℕ → ℕ → ℕ → ℕ → Type 0
IsOpened old new alloc texts log before after log_used used status =
    IsOpenAlready old new before after log_used used status
    ⊎ (IsClosed old × (IsUnread new texts log before after log_used used status ⊎ IsRead new alloc texts log before after log_used used status))
