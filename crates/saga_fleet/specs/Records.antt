-- Records of runs: their meaning, and how a checker decides about them with numbers alone.
use Rattle.std.specs.Prelude.{◌≡◌, ◌≤◌, ◌<◌, ◌+◌, ◌-◌, ℕ, suc, Bool, true, false, IsTrue, List, [], ◌∷◌, ◌++◌, Option, Some, None, length, map, set, take, get_or}
use Rattle.std.specs.List.{All}
use Rattle.saga_fleet.specs.declared.reasons.Reason.{Reason}
use Rattle.saga_fleet.specs.declared.reasons.Reason.TheVariants as why
use Rattle.saga_fleet.specs.declared.answers.RecordAnswer.{RecordAnswer}
use Rattle.saga_fleet.specs.declared.answers.RecordAnswer.TheVariants.{Yes, No}
use Rattle.saga_fleet.specs.declared.events.Deed.{Deed}
use Rattle.saga_fleet.specs.declared.events.Event.{Event}
use Rattle.saga_fleet.specs.declared.events.Stage.TheVariants.{Idle, Sent, Done, Refused}
use Rattle.saga_fleet.specs.declared.watch.Now.{Now}
use Rattle.saga_fleet.specs.declared.watch.Tally.{Tally}
use Rattle.saga_fleet.specs.Fleet.{Chunk, IsAllowed, IsDone, IsIdle, IsSent, Log, Move, Session, happens, nothing, rules, session}
use Rattle.saga_fleet.specs.Order.{IsFirstReason}
use Rattle.saga_fleet.specs.declared.events.Deed.TheVariants.{Decided, Written, TurnedDown, Heard, Told}
use Rattle.saga_fleet.specs.declared.events.Event.TheVariants.{TookOver, Did, Shipped, FailedOver}
use Rattle.saga_fleet.specs.Fleet.Move.{Answers, Commits, Fails_over, Refuses, Sends, Ships, Takes_over, Tells}

-- ---- the meaning of a record

-- the move that an event records; a chunk is recorded by its digest, and the text of an acknowledgement is not recorded
abbrev pub deed_of : ℕ → Deed → Move
deed_of k (Decided digest) = Sends k (digest ∷ [])
deed_of k (Written first digest) = Commits k
deed_of k TurnedDown = Refuses k
deed_of k Heard = Answers k
deed_of k (Told n) = Tells k n []

abbrev pub move_of : Event → Move
move_of (TookOver epoch read digest) = Takes_over
move_of (Did k deed) = deed_of k deed
move_of (Shipped n) = Ships n
move_of (FailedOver n epoch) = Fails_over n epoch

abbrev pub digest_of : Chunk → ℕ
digest_of [] = 0
digest_of (digest ∷ rest) = digest

abbrev pub digests : List Chunk → List ℕ
digests chunks = map digest_of chunks

-- the digest of the last chunk, 0 if there is none
abbrev pub last_digest : List ℕ → ℕ
last_digest ds = get_or ds (length ds - 1) 0

-- the digest of the only chunk
abbrev pub only : List ℕ → Option ℕ
only [] = None
only (digest ∷ []) = Some digest
only (digest ∷ next ∷ rest) = None

-- the numbers of the event are those of the log
abbrev pub FitsDeed : Log → ℕ → Deed → Type 0
FitsDeed w k (Decided digest) = Unit {0}
FitsDeed w k (Written first digest) = (first ≡ length w.chunks) × (only (digests (session w k).asked) ≡ Some digest)
FitsDeed w k TurnedDown = Unit {0}
FitsDeed w k Heard = Unit {0}
FitsDeed w k (Told n) = Unit {0}

abbrev pub Fits : Log → Event → Type 0
Fits w (TookOver epoch read digest) = (epoch ≡ suc w.epoch) × (read ≡ length w.chunks) × (digest ≡ last_digest (digests w.chunks))
Fits w (Did k deed) = FitsDeed w k deed
Fits w (Shipped n) = Unit {0}
Fits w (FailedOver n epoch) = n ≤ length w.chunks

abbrev pub any : List Chunk → Type 0
any chunks = Unit {0}

-- these events record allowed moves, from this log on
abbrev pub IsRecordFrom : Bool → Log → List Event → Type 0
IsRecordFrom b w [] = Unit {0}
IsRecordFrom b w (e ∷ es) = Fits w e × IsAllowed (rules b) any w (move_of e) × IsRecordFrom b (happens (rules b) w (move_of e)) es

-- the log after a record
abbrev pub log_after : Bool → Log → List Event → Log
log_after b w [] = w
log_after b w (e ∷ es) = log_after b (happens (rules b) w (move_of e)) es

-- ---- the decision with numbers alone

abbrev pub May : Bool → Now → List ℕ → Tally → Deed → Type 0
May b now ds t (Decided digest) = IsIdle t.stage
May b now ds t (Written first digest) = IsSent t.stage × (t.server ≡ now.servers) × (t.epoch ≡ now.epoch) × (first ≡ length ds) × (t.digest ≡ Some digest)
May b now ds t TurnedDown = IsSent t.stage
May b now ds t Heard = IsDone t.stage × (t.server ≡ now.servers) × (IsTrue b → t.known + t.asked ≤ now.shipped)
May b now ds t (Told n) = n ≤ t.known

abbrev pub did : Tally → Deed → Tally
did t (Decided digest) = record { server = t.server; epoch = t.epoch; known = t.known; asked = 1; digest = Some digest; stage = Sent }
did t (Written first digest) = record { server = t.server; epoch = t.epoch; known = t.known; asked = t.asked; digest = t.digest; stage = Done }
did t TurnedDown = record { server = t.server; epoch = t.epoch; known = t.known; asked = t.asked; digest = t.digest; stage = Refused }
did t Heard = record { server = t.server; epoch = t.epoch; known = t.known + t.asked; asked = 0; digest = None; stage = Idle }
did t (Told n) = t

abbrev pub digests_did : List ℕ → Deed → List ℕ
digests_did ds (Written first digest) = ds ++ digest ∷ []
digests_did ds (Decided digest) = ds
digests_did ds TurnedDown = ds
digests_did ds Heard = ds
digests_did ds (Told n) = ds

abbrev pub blank : Tally
blank = record { server = 0; epoch = 0; known = 0; asked = 0; digest = None; stage = Refused }

abbrev pub MayFollow : Bool → Now → List ℕ → List Tally → Event → Type 0
MayFollow b now ds ts (TookOver epoch read digest) = (epoch ≡ suc now.epoch) × (read ≡ length ds) × (digest ≡ last_digest ds)
MayFollow b now ds ts (Did k deed) = (k < length ts) × May b now ds (get_or ts k blank) deed
MayFollow b now ds ts (Shipped n) = (now.shipped ≤ n) × (n ≤ length ds)
MayFollow b now ds ts (FailedOver n epoch) = (now.shipped ≤ n) × (n ≤ length ds)

abbrev pub now_after : Now → Event → Now
now_after now (TookOver epoch read digest) = record { epoch = epoch; shipped = now.shipped; servers = now.servers }
now_after now (Did k deed) = now
now_after now (Shipped n) = record { epoch = now.epoch; shipped = n; servers = now.servers }
now_after now (FailedOver n epoch) = record { epoch = epoch; shipped = now.shipped; servers = now.servers + 1 }

abbrev pub digests_after : List ℕ → Event → List ℕ
digests_after ds (TookOver epoch read digest) = ds
digests_after ds (Did k deed) = digests_did ds deed
digests_after ds (Shipped n) = ds
digests_after ds (FailedOver n epoch) = take n ds

abbrev pub tallies_after : Now → List ℕ → List Tally → Event → List Tally
tallies_after now ds ts (TookOver epoch read digest) = ts ++ record { server = now.servers; epoch = epoch; known = 0; asked = read; digest = only ds; stage = Done } ∷ []
tallies_after now ds ts (Did k deed) = set ts k (did (get_or ts k blank) deed)
tallies_after now ds ts (Shipped n) = ts
tallies_after now ds ts (FailedOver n epoch) = ts

abbrev pub tally : Session → Tally
tally s = record { server = s.server; epoch = s.epoch; known = length s.known; asked = length s.asked; digest = only (digests s.asked); stage = s.stage }

abbrev pub now_of : Log → Now
now_of w = record { epoch = w.epoch; shipped = w.shipped; servers = length w.cuts }

abbrev pub digests_of : Log → List ℕ
digests_of w = digests w.chunks

abbrev pub tallies_of : Log → List Tally
tallies_of w = map tally w.sessions

-- no number of a log is greater than n
pub record AreWithin (n : ℕ) (now : Now) (ds : List ℕ) (ts : List Tally) : Type 0 where
  pub servers : now.servers ≤ n
  pub chunks : length ds ≤ n
  pub counts : All (λ t. t.known + t.asked ≤ n) ts

-- ---- why an event is not allowed

abbrev pub DeedFails : Bool → Now → List ℕ → Tally → Deed → Reason → Type 0
DeedFails b now ds t (Decided digest) why.NotIdle = IsIdle t.stage → ⊥
DeedFails b now ds t (Written first digest) why.NothingSent = IsSent t.stage → ⊥
DeedFails b now ds t (Written first digest) why.OtherServer = (t.server ≡ now.servers) → ⊥
DeedFails b now ds t (Written first digest) why.OldEpoch = (t.epoch ≡ now.epoch) → ⊥
DeedFails b now ds t (Written first digest) why.OtherPlace = (first ≡ length ds) → ⊥
DeedFails b now ds t (Written first digest) why.OtherContent = (t.digest ≡ Some digest) → ⊥
DeedFails b now ds t TurnedDown why.NothingSent = IsSent t.stage → ⊥
DeedFails b now ds t Heard why.NothingDone = IsDone t.stage → ⊥
DeedFails b now ds t Heard why.OtherServer = (t.server ≡ now.servers) → ⊥
DeedFails b now ds t Heard why.NotShipped = IsTrue b × (now.shipped < t.known + t.asked)
DeedFails b now ds t (Told n) why.NotKnown = t.known < n
DeedFails b now ds t deed reason = ⊥

abbrev pub CountFails : Now → List ℕ → ℕ → Reason → Type 0
CountFails now ds n why.FewerThanShipped = n < now.shipped
CountFails now ds n why.MoreThanWritten = length ds < n
CountFails now ds n reason = ⊥

abbrev pub Fails : Bool → Now → List ℕ → List Tally → Event → Reason → Type 0
Fails b now ds ts (TookOver epoch read digest) why.EpochNotNext = (epoch ≡ suc now.epoch) → ⊥
Fails b now ds ts (TookOver epoch read digest) why.OtherLength = (read ≡ length ds) → ⊥
Fails b now ds ts (TookOver epoch read digest) why.OtherContent = (digest ≡ last_digest ds) → ⊥
Fails b now ds ts (Did k deed) why.NoSuchSession = length ts ≤ k
Fails b now ds ts (Did k deed) reason = DeedFails b now ds (get_or ts k blank) deed reason
Fails b now ds ts (Shipped n) reason = CountFails now ds n reason
Fails b now ds ts (FailedOver n epoch) reason = CountFails now ds n reason
Fails b now ds ts e reason = ⊥

-- there is no reason, and the event is allowed; or it is the first reason whose condition fails
abbrev pub Says : Option Reason → Type 0 → (Reason → Type 0) → Type 0
Says None may fails = may
Says (Some reason) may fails = IsFirstReason fails reason

-- whether the result is yes; and the first event that is not allowed, with the first reason whose condition fails for
-- the log before the event
abbrev pub is_yes : RecordAnswer → Bool
is_yes (Yes sessions chunks failovers events) = true
is_yes (No position reason) = false

pub record IsFirstFault (b : Bool) (es : List Event) (position : ℕ) (reason : Reason) : Type 0 where
  pub inside : position < length es
  pub before : IsRecordFrom b nothing (take position es)
  pub fails : IsFirstReason (Fails b (now_of (log_after b nothing (take position es))) (digests_of (log_after b nothing (take position es)))
      (tallies_of (log_after b nothing (take position es))) (get_or es position (TookOver 0 0 0))) reason
  pub denied : IsRecordFrom b nothing (take (position + 1) es) → ⊥

-- the numbers of sessions that began, of chunks in the log at the end, of failovers, and of events
pub record AreCounts (b : Bool) (es : List Event) (sessions chunks failovers events : ℕ) : Type 0 where
  pub sessions_are : sessions ≡ length (log_after b nothing es).sessions
  pub chunks_are : chunks ≡ length (log_after b nothing es).chunks
  pub failovers_are : failovers ≡ length (log_after b nothing es).cuts
  pub events_are : events ≡ length es

abbrev pub IsAnswer : Bool → List Event → RecordAnswer → Type 0
IsAnswer b es (Yes sessions chunks failovers events) = IsRecordFrom b nothing es × AreCounts b es sessions chunks failovers events
IsAnswer b es (No position reason) = IsFirstFault b es position reason
