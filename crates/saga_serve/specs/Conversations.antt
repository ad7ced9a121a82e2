-- The result of a conversation: the input that has arrived, and the output that was written.
use Rattle.std.specs.Prelude.{◌≡◌, ◌≢◌, ◌⊎◌, ℕ, ◌+◌, ◌-◌, Bool, true, false, List, [], ◌∷◌, ◌++◌, Option, Some, None, Result, Ok, Err, length, string_bytes, take}
use Rattle.saga_bytes.proofs.LineLemmas.{has_no_feed}
use Rattle.saga_core.specs.Book.{Book}
use Rattle.saga_def.specs.Contents.{Contents}
use Rattle.saga_drive.specs.Answers.{Defines, IsAnswer, IsResponse}
use Rattle.saga_drive.specs.Drops.{DropsPlans, NoneIsPlanned, next_of}
use Rattle.saga_drive.specs.Replies.{lines_of, text_of}
use Rattle.saga_drive.specs.Requests.{max_request}
use Rattle.saga_drive.specs.declared.replies.Reply.{Reply}
use Rattle.saga_drive.specs.declared.responses.Response.TheVariants as response
use Rattle.saga_history.specs.declared.events.Event.{Event}
use Rattle.saga_logged.specs.Fed.{AreLines, fed}
use Rattle.saga_drive.specs.Restarts.{IsRestarted}
use Rattle.saga_drive.specs.declared.restarts.Restart.{Restart}
use Rattle.saga_serve.specs.Inputs.{Input}
use Rattle.saga_serve.specs.Limits.{max_written}
use Rattle.saga_serve.specs.Logs.{LogGoesOn}
use Rattle.saga_serve.specs.declared.growing.Due.{Due}
use Rattle.saga_serve.specs.Shelves.{IsPut, IsWelcome}
use Rattle.saga_serve.specs.Shown.{shown}

-- the first text is a prefix of the second
abbrev pub IsFront : List ℕ → List ℕ → Type 0
IsFront front all = (rest : List ℕ) × (all ≡ front ++ rest)

-- the texts that were written over a log, one after the other
abbrev pub texts_of : List (List ℕ × List ℕ) → List ℕ
texts_of [] = []
texts_of (told ∷ more) = told.0 ++ texts_of more

-- ---- what has arrived

-- the bytes are these complete lines and the beginning of another line
pub record IsSplit (bytes : List ℕ) (lines : List (List ℕ)) (last : List ℕ) : Type 0 where
  pub is : bytes ≡ fed lines ++ last
  pub lines_are : AreLines lines
  pub last_is : has_no_feed last ≡ true

-- a last line, which may lack its line feed; an empty text is not a line
abbrev pub last_of : List ℕ → List (List ℕ)
last_of [] = []
last_of (byte ∷ rest) = (byte ∷ rest) ∷ []

-- ---- the replies

-- the state of a conversation: the book, and the free space of its log
abbrev pub Stand : Type 0
Stand = Book × ℕ

-- The request is executed and gets a reply. If log lines are printed, the request may add a definition to the end of
-- the shelf. Otherwise the shelf is unchanged.
abbrev pub Does : Bool → Book → Book → ℕ → List ℕ → Reply → Type 0
Does false old new room request reply = IsAnswer old new room request reply
Does true old new room request reply =
    IsResponse old new room request (response.Reply reply) ⊎ ((text : List ℕ) × Defines request text × IsPut old new text reply)

-- a request gets a text, which has the log lines before the reply if log lines are printed; the conversation goes from
-- the old state to the new one; the log of the old book with these lines is the log of the new book
pub record Says (shows : Bool) (old : Stand) (request : List ℕ) (new : Stand) (text : List ℕ) : Type 0 where
  pub reply : Reply
  pub answer : Does shows old.0 new.0 old.1 request reply
  pub room : new.1 ≡ old.1 - length (lines_of reply)
  pub logs : LogGoesOn old.0 new.0 (lines_of reply)
  pub text_is : text ≡ shown shows (lines_of reply) ++ text_of reply

-- the prefix of a line that is read; it is long enough to show that a line is too long
abbrev pub request_of : List ℕ → List ℕ
request_of line = take (max_request + 1) line

-- the text replies to the lines, each once, in order, and each from the state after the line before
abbrev pub Answers : Bool → Stand → List (List ℕ) → Stand → List ℕ → Type 0
Answers shows old [] new text = (new ≡ old) × (text ≡ [])
Answers shows old (line ∷ lines) new text =
    (mid : Stand) × (first rest : List ℕ) × Says shows old (request_of line) mid first × Answers shows mid lines new rest × (text ≡ first ++ rest)

-- the plans that were started are dropped before the first request; the text has only their log lines, if log lines are
-- printed
pub record Begins (shows : Bool) (old new : Stand) (text : List ℕ) : Type 0 where
  pub dropped : Reply
  pub drops : DropsPlans old.0 new.0 (lines_of dropped)
  pub none : NoneIsPlanned new.0 (next_of old.0)
  pub silent : text_of dropped ≡ []
  pub room : new.1 ≡ old.1 - length (lines_of dropped)
  pub logs : LogGoesOn old.0 new.0 (lines_of dropped)
  pub text_is : text ≡ shown shows (lines_of dropped) ++ text_of dropped

-- after the earlier output, the output is exactly the replies to all that has arrived
pub record IsAnswered (shows : Bool) (start : Stand) (before arrived told : List ℕ) : Type 0 where
  pub begun : Stand
  pub first : List ℕ
  pub begins : Begins shows start begun first
  pub lines : List (List ℕ)
  pub last : List ℕ
  pub split : IsSplit arrived lines last
  pub end : Stand
  pub text : List ℕ
  pub answers : Answers shows begun (lines ++ last_of last) end text
  pub told_is : told ≡ before ++ (first ++ text)

-- the first lines of the input, with a line feed after it, are executed, and a prefix of their replies is written
pub record IsPartlyAnswered (shows : Bool) (start : Stand) (before arrived told : List ℕ) : Type 0 where
  pub begun : Stand
  pub first : List ℕ
  pub begins : Begins shows start begun first
  pub lines : List (List ℕ)
  pub rest : List ℕ
  pub split : arrived ++ 10 ∷ [] ≡ fed lines ++ rest
  pub lines_are : AreLines lines
  pub end : Stand
  pub text : List ℕ
  pub answers : Answers shows begun lines end text
  pub told_is : IsFront told (before ++ (first ++ text))

-- the output of a conversation that stops early: a prefix of the earlier output, or also a prefix of the replies
abbrev pub IsCutShort : Bool → Stand → List ℕ → List ℕ → List ℕ → Type 0
IsCutShort shows start before arrived told = IsFront told before ⊎ IsPartlyAnswered shows start before arrived told

-- ---- with the text of a log

-- the first state of a conversation that continues from a log
abbrev pub start_of : Restart → Stand
start_of restart = (restart.book, max_written - (restart.whole + length restart.missing.now))

-- all that has arrived is executed with the book of the log; if log lines are printed, the text that the start appends
-- to the log comes first
pub record IsServed (shows : Bool) (shelf : List Contents) (text arrived told : List ℕ) : Type 0 where
  pub restart : Restart
  pub restarted : IsRestarted shelf text restart
  pub answered : IsAnswered shows (start_of restart) (shown shows restart.missing.now) arrived told

-- only a prefix of this output is written
pub record IsServedInPart (shows : Bool) (shelf : List Contents) (text arrived told : List ℕ) : Type 0 where
  pub restart : Restart
  pub restarted : IsRestarted shelf text restart
  pub answered : IsCutShort shows (start_of restart) (shown shows restart.missing.now) arrived told

-- if the drive stops early, no output or only a prefix is written
abbrev pub IsServedShort : Bool → List Contents → List ℕ → List ℕ → List ℕ → Type 0
IsServedShort shows shelf text arrived told = (told ≡ []) ⊎ IsServedInPart shows shelf text arrived told

-- ---- within a conversation

-- the text is appended to the written and the pending output; or a call failed, and a prefix of the total output is
-- written
abbrev pub Adds : {T E : Type 0} → Result T E → List ℕ → List ℕ → List ℕ → List ℕ → List ℕ → Type 0
Adds (Ok done) told waiting told_then waiting_then text = told_then ++ waiting_then ≡ (told ++ waiting) ++ text
Adds (Err why) told waiting told_then waiting_then text = IsFront told_then ((told ++ waiting) ++ text)

-- the plans that were started are dropped; or a call failed, before or after that
abbrev pub Opens : {T E : Type 0} → Result T E → Bool → Stand → Stand → List ℕ → List ℕ → List ℕ → List ℕ → Type 0
Opens (Ok done) shows old new told waiting told_then waiting_then =
    (text : List ℕ) × Begins shows old new text × (told_then ++ waiting_then ≡ (told ++ waiting) ++ text)
Opens (Err why) shows old new told waiting told_then waiting_then =
    IsFront told_then (told ++ waiting) ⊎ ((text : List ℕ) × Begins shows old new text × IsFront told_then ((told ++ waiting) ++ text))

-- the complete lines of these bytes are executed, and the line buffer has the beginning of the next line
pub record Heard (shows : Bool) (old : Stand) (bytes : List ℕ) (new : Stand) (line text : List ℕ) : Type 0 where
  pub lines : List (List ℕ)
  pub last : List ℕ
  pub split : IsSplit bytes lines last
  pub line_is : line ≡ request_of last
  pub answers : Answers shows old lines new text

-- only some of the complete lines are executed
pub record HeardSome (shows : Bool) (old : Stand) (bytes : List ℕ) (new : Stand) (text : List ℕ) : Type 0 where
  pub lines : List (List ℕ)
  pub rest : List ℕ
  pub is : bytes ≡ fed lines ++ rest
  pub lines_are : AreLines lines
  pub answers : Answers shows old lines new text

-- the request adds this definition, which can be added; nothing has changed yet
pub record IsAsked (shows : Bool) (book : Book) (request : List ℕ) (put : Contents) : Type 0 where
  pub shown : shows ≡ true
  pub definition : List ℕ
  pub asks : Defines request definition
  pub welcome : IsWelcome book definition put

-- the next line is a request that adds this definition, which can be added; `left` has the bytes after it
pub record AddsNext (book : Book) (bytes left : List ℕ) (put : Contents) : Type 0 where
  pub request : List ℕ
  pub is : bytes ≡ request ++ 10 ∷ left
  pub request_is : has_no_feed request ≡ true
  pub asked : IsAsked true book (request_of request) put

-- a request is executed, or it adds a definition that can be added
abbrev pub Meets : {E : Type 0} → Result (Option Contents) E → Bool → Stand → List ℕ → Stand → List ℕ → List ℕ → List ℕ → List ℕ → Type 0
Meets (Ok None) shows old request new told waiting told_then waiting_then =
    (text : List ℕ) × Says shows old request new text × (told_then ++ waiting_then ≡ (told ++ waiting) ++ text)
Meets (Ok (Some put)) shows old request new told waiting told_then waiting_then =
    IsAsked shows old.0 request put × (new ≡ old) × (told_then ++ waiting_then ≡ told ++ waiting)
Meets (Err why) shows old request new told waiting told_then waiting_then =
    (text : List ℕ) × Says shows old request new text × IsFront told_then ((told ++ waiting) ++ text)

-- the lines are executed up to one that adds a definition which can be added; `left` has the bytes after it
pub record HeardUntil (shows : Bool) (old : Stand) (bytes : List ℕ) (new : Stand) (left : List ℕ) (put : Contents) (text : List ℕ) : Type 0 where
  pub lines : List (List ℕ)
  pub request : List ℕ
  pub is : bytes ≡ fed lines ++ (request ++ 10 ∷ left)
  pub lines_are : AreLines lines
  pub request_is : has_no_feed request ≡ true
  pub answers : Answers shows old lines new text
  pub asked : IsAsked shows new.0 (request_of request) put

-- the text has the replies to the lines that were executed
abbrev pub Hears : {E : Type 0} → Result (Option Contents) E → Bool → Stand → List ℕ → Stand → List ℕ → List ℕ → List ℕ → Type 0
Hears (Ok None) shows old bytes new line left text = Heard shows old bytes new line text × (left ≡ [])
Hears (Ok (Some put)) shows old bytes new line left text = HeardUntil shows old bytes new left put text
Hears (Err why) shows old bytes new line left text = HeardSome shows old bytes new text

-- the state of a conversation in progress: all complete lines that have arrived are executed, and the replies are
-- written or pending
pub record IsTalk (shows : Bool) (start : Stand) (before arrived : List ℕ) (now : Stand) (line told waiting : List ℕ) : Type 0 where
  pub begun : Stand
  pub first : List ℕ
  pub begins : Begins shows start begun first
  pub text : List ℕ
  pub heard : Heard shows begun arrived now line text
  pub told_is : told ++ waiting ≡ before ++ (first ++ text)

-- standard input ends within a line
pub record EndsWithin (arrived : List ℕ) : Type 0 where
  pub lines : List (List ℕ)
  pub last : List ℕ
  pub split : IsSplit arrived lines last
  pub some : last ≢ []

-- these bytes are all that has arrived; if standard input has ended within a line, a line feed follows
abbrev pub IsAll : Bool → List ℕ → List ℕ → Type 0
IsAll false arrived bytes = bytes ≡ arrived
IsAll true arrived bytes = EndsWithin arrived × (bytes ≡ arrived ++ 10 ∷ [])

-- a conversation in progress, in which a part of the received input is not yet processed
pub record IsUnderway (shows : Bool) (start : Stand) (before arrived : List ℕ) (input : Input) (now : Stand) (line told waiting : List ℕ) : Type 0 where
  pub heard : List ℕ
  pub all : IsAll input.ended arrived (heard ++ input.left)
  pub talk : IsTalk shows start before heard now line told waiting

-- the conversation continues with more input; or all input is processed
abbrev pub Goes : Bool → Bool → Stand → List ℕ → List ℕ → Input → Stand → List ℕ → List ℕ → List ℕ → Type 0
Goes true shows start before arrived input now line told waiting = IsUnderway shows start before arrived input now line told waiting
Goes false shows start before arrived input now line told waiting = (told_then : List ℕ) → told_then ≡ told ++ waiting → IsAnswered shows start before arrived told_then

-- a conversation that stopped at a request for a definition that can be added
pub record IsDue (shows : Bool) (start : Stand) (before arrived : List ℕ) (input : Input) (now : Stand) (put : Contents) (told waiting : List ℕ) : Type 0 where
  pub begun : Stand
  pub first : List ℕ
  pub begins : Begins shows start begun first
  pub lines : List (List ℕ)
  pub request : List ℕ
  pub all : IsAll input.ended arrived ((fed lines ++ (request ++ 10 ∷ [])) ++ input.left)
  pub lines_are : AreLines lines
  pub request_is : has_no_feed request ≡ true
  pub text : List ℕ
  pub answers : Answers shows begun lines now text
  pub asked : IsAsked shows now.0 (request_of request) put
  pub told_is : told ++ waiting ≡ before ++ (first ++ text)

-- the conversation has ended; or it stopped at such a request; or it stopped early
abbrev pub Comes : {E : Type 0} → Result (Option Contents) E → Bool → Stand → List ℕ → List ℕ → Input → Stand → List ℕ → List ℕ → Type 0
Comes (Ok None) shows start before arrived input now told waiting = IsAnswered shows start before arrived told
Comes (Ok (Some put)) shows start before arrived input now told waiting = IsDue shows start before arrived input now put told waiting
Comes (Err why) shows start before arrived input now told waiting = IsCutShort shows start before arrived told

-- ---- change of the shelf

-- the state of a conversation over a shelf, from its history and the free space of its log
abbrev pub stand_over : List Contents → List Event → ℕ → Stand
stand_over shelf history room = (record { shelf = shelf; first = 0; stride = 1; history = history }, room)

-- log lines are printed, and no part of a line is received
abbrev pub IsShowing : Due → Type 0
IsShowing due = (due.pending.shows ≡ true) × (due.line ≡ [])

-- a conversation over a shelf has ended; or it stopped because a request adds a definition
abbrev pub CameTo : Option Due → List Contents → Stand → List ℕ → List ℕ → Input → List ℕ → Type 0
CameTo None shelf start before arrived input told = IsAnswered true start before arrived told
CameTo (Some due) shelf start before arrived input told =
    IsDue true start before arrived input (stand_over shelf due.history.items due.room) due.put told (string_bytes due.pending.replies)

-- the same, or the conversation stopped early
abbrev pub IsParted : {E : Type 0} → Result (Option Due) E → List Contents → Stand → List ℕ → List ℕ → Input → List ℕ → Type 0
IsParted (Ok came) shelf start before arrived input told = CameTo came shelf start before arrived input told
IsParted (Err why) shelf start before arrived input told = IsCutShort true start before arrived told

-- a conversation that started from a text over a first shelf has this result over the present shelf
pub record CameFrom (came : Option Due) (first shelf : List Contents) (text arrived : List ℕ) (input : Input) (told : List ℕ) : Type 0 where
  pub restart : Restart
  pub restarted : IsRestarted first text restart
  pub came_to : CameTo came shelf (start_of restart) (shown true restart.missing.now) arrived input told
