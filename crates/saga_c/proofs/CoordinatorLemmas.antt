-- How a coordinator is opened.
use Rattle.std.proofs.Common.{◌≡◌, List, ℕ, inl, inr, refl, suc-ne-zero, sym, ◌∙◌}
use Rattle.std.specs.Prelude.{Err, IfOk, None, Ok, Option, Result, Some, []}
use Rattle.std.specs.Borrow.{Bor}
use Rattle.std.specs.declared.alloc.AllocError.{AllocError}
use Rattle.std.specs.declared.alloc.Global.{Global}
use Rattle.saga_texts.specs.Outputs.{IsOutputWith}
use Rattle.saga_texts.specs.declared.outputs.Output.{Output}
use Rattle.saga_c.specs.Coordinators.{IsClosed, IsLeft, IsOpened, IsSound, SaysWhy}
use Rattle.saga_c.specs.Faults.{IsShelfRefused, fault_line}
use Rattle.saga_c.specs.Given.{GivesBy}
use Rattle.saga_c.specs.Meetings.{IsMet}
use Rattle.saga_c.specs.Sessions.{settled}
use Rattle.saga_c.specs.Starts.{IsPrepared}
use Rattle.saga_c.specs.declared.coordinators.Coordinator.{Coordinator}
use Rattle.saga_c.specs.declared.faults.Fault.{Fault}
use Rattle.saga_c.specs.declared.filling.Told.{Told}
use Rattle.saga_c.specs.declared.sessions.Ask.TheVariants.{Start}
use Rattle.saga_c.specs.declared.sessions.Session.{Session}
use Rattle.saga_c.proofs.Cases.{some_of}
use Rattle.saga_c.proofs.Giving.{given}

-- what is sound and not open is closed
pub closed : (it : Coordinator) → IsSound it → it.state ≡ 0 → IsClosed it
closed it (inl c) shut = c
closed it (inr h) shut = absurd (suc-ne-zero 0 (sym h.1.is_open ∙ shut))

-- where definitions are refused, it stays as it is
pub unread : (alloc : Global) (old new : Coordinator) (texts : List (List ℕ)) (log before after : List ℕ) (used status : ℕ) (fault : Fault) (output : Result Output AllocError)
    → IsClosed old → new.state ≡ old.state → new.lease.held ≡ old.lease.held → IsShelfRefused texts log fault → IfOk output (IsOutputWith [] (fault_line fault) 3) → GivesBy output before after used status
    → IsOpened old new alloc texts log before after 0 used status
unread alloc old new texts log before after used status fault output shut state held refused is gives = inr (
  shut,
  inl (record {
    closed = record { shut = state ∙ shut.shut; none = held ∙ shut.none };
    none = refl;
    given = given _ output before after used status (says output is) gives;
  }),
)
  where
    says : (o : Result Output AllocError) → IfOk o (IsOutputWith [] (fault_line fault) 3) → IfOk o (SaysWhy texts log)
    says (Ok o) e = record { fault = fault; refused = refused; says = e }
    says (Err e) _ = tt

-- a session that was prepared goes on from the log, and is held or let go
pub read : (alloc : Global) (old new : Coordinator) (texts : List (List ℕ)) (log : Bor (List ℕ)) (before after : List ℕ) (log_used : ℕ) (first then_is : Option Session) (told : Told)
    → IsClosed old → IsPrepared alloc texts log.now first → IsMet first then_is (Start log) before after told
    → ((t : Session) → then_is ≡ Some t → IsLeft new t told log_used) → IsOpened old new alloc texts log.now before after log_used told.used told.status
read alloc old new texts log before after log_used first then_is told shut prepared met left =
    let t = some_of then_is met.some in
    inr (
      shut,
      inr (record {
        held = first;
        prepared = prepared;
        first = settled alloc prepared.shelf;
        first_is = prepared.held_is;
        session = t.0;
        told = told;
        started = met.meets (settled alloc prepared.shelf) t.0 prepared.held_is t.1;
        left = left t.0 t.1;
        used_is = refl;
        says = refl;
      }),
    )

pub stays_open : (new : Coordinator) (then_is : Option Session) (told : Told) → new.state ≡ 1 → new.lease.held ≡ then_is → told.status ≡ 0
    → (t : Session) → then_is ≡ Some t → IsLeft new t told told.log
stays_open new then_is told state held status t is = inl (status, record { is_open = state; held_is = held ∙ is }, refl)

pub is_let_go : (new : Coordinator) (then_is : Option Session) (told : Told) → new.state ≡ 0 → new.lease.held ≡ None → (told.status ≡ 0 → ⊥)
    → (t : Session) → then_is ≡ Some t → IsLeft new t told 0
is_let_go new then_is told state held status t is = inr (status, record { shut = state; none = held }, refl)
