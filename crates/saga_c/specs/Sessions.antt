-- The reply of a session, and the text that the caller gets.
use Rattle.std.specs.Prelude.{◌≡◌, ℕ, ◌<◌, ◌≤◌, ◌-◌, ◌⊎◌, ◌++◌, List, [], Option, Some, None, IsSome, drop, length}
use Rattle.saga_def.specs.Contents.{Contents}
use Rattle.saga_logged.specs.BookLog.{IsBookLog}
use Rattle.saga_drive.specs.Answers.{IsAnswer}
use Rattle.saga_drive.specs.Replies.{lines_of, text_of}
use Rattle.saga_drive.specs.Room.{IsEnough}
use Rattle.saga_drive.specs.declared.replies.Reply.{Reply}
use Rattle.std.specs.declared.alloc.Global.{Global}
use Rattle.saga_c.specs.declared.filling.Told.{Told}
use Rattle.saga_c.specs.declared.sessions.Session.{Session}

-- a session over definitions that has not read a log
abbrev pub settled : Global → List Contents → Session
settled alloc shelf = record { alloc = alloc; book = record { shelf = shelf; first = 0; stride = 1; history = [] }; room = 0; kept = None }

-- the log lines of a reply, followed by its text
abbrev pub whole_of : Reply → List ℕ
whole_of reply = lines_of reply ++ text_of reply

-- the text fits; it is at the start of the buffer, the rest of the buffer is unchanged, and no reply is stored
pub record FitsIn (reply : Reply) (kept : Option Reply) (old new : List ℕ) (told : Told) : Type 0 where
  pub enough : length (whole_of reply) ≤ length old
  pub put : new ≡ whole_of reply ++ drop (length (whole_of reply)) old
  pub says : told.status ≡ 0
  pub none : kept ≡ None

-- the text does not fit; the buffer is unchanged, and the reply is stored
pub record IsKept (reply : Reply) (kept : Option Reply) (old new : List ℕ) (told : Told) : Type 0 where
  pub small : length old < length (whole_of reply)
  pub same : new ≡ old
  pub says : told.status ≡ 5
  pub kept_is : kept ≡ Some reply

-- the results have the length of the text and the number of its bytes that are log lines
pub record IsPut (reply : Reply) (kept : Option Reply) (old new : List ℕ) (told : Told) : Type 0 where
  pub used : told.used ≡ length (whole_of reply)
  pub lines : told.lines ≡ length (lines_of reply)
  pub given : FitsIn reply kept old new told ⊎ IsKept reply kept old new told

-- the call is rejected, and nothing is changed
pub record IsRejected (old new : List ℕ) (told : Told) : Type 0 where
  pub same : new ≡ old
  pub none : told.used ≡ 0
  pub no_lines : told.lines ≡ 0
  pub says : told.status ≡ 1

-- the book of the session replies to the request; the log of the book, with the lines of the reply, is the log of the
-- book afterwards
pub record Answers (old new : Session) (request : List ℕ) (reply : Reply) : Type 0 where
  pub answer : IsAnswer old.book new.book old.room request reply
  pub log : (l : List ℕ) → IsBookLog old.book l → IsBookLog new.book (l ++ lines_of reply)
  pub keeps : IsEnough old.book old.room → (length (lines_of reply) ≤ old.room) × IsEnough new.book (old.room - length (lines_of reply))
  pub room : new.room ≡ old.room - length (lines_of reply)

-- a request is executed, and its reply is returned or stored
pub record IsRun (old new : Session) (request before after : List ℕ) (told : Told) : Type 0 where
  pub free : old.kept ≡ None
  pub reply : Reply
  pub answers : Answers old new request reply
  pub put : IsPut reply new.kept before after told

-- while a reply is stored, a request is rejected
pub record IsHeldUp (old new : Session) (before after : List ℕ) (told : Told) : Type 0 where
  pub kept : IsSome old.kept
  pub same : new ≡ old
  pub rejected : IsRejected before after told

abbrev pub IsAnswered : Session → Session → List ℕ → List ℕ → List ℕ → Told → Type 0
IsAnswered old new request before after told = IsRun old new request before after told ⊎ IsHeldUp old new before after told

-- the stored reply is returned, or it stays stored
pub record IsFetched (old new : Session) (before after : List ℕ) (told : Told) : Type 0 where
  pub reply : Reply
  pub kept : old.kept ≡ Some reply
  pub book : new.book ≡ old.book
  pub room : new.room ≡ old.room
  pub put : IsPut reply new.kept before after told

pub record IsUnkept (old new : Session) (before after : List ℕ) (told : Told) : Type 0 where
  pub none : old.kept ≡ None
  pub same : new ≡ old
  pub rejected : IsRejected before after told

abbrev pub IsReplied : Session → Session → List ℕ → List ℕ → Told → Type 0
IsReplied old new before after told = IsFetched old new before after told ⊎ IsUnkept old new before after told
