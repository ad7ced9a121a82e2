-- The program over any outside world: which texts are read, the response, and how the response is shown.
use Rattle.std.specs.Prelude.{ℕ, Bool, List, [], ◌∷◌, ◌++◌, true, false, Option, Some, None, option_map, take, slice_get, Result, Ok, Err, ⊤, MatchBool, codes, map, ◌≡◌, ◌≢◌, ◌⊎◌}
use Rattle.std.specs.List.{AllZip}
use Rattle.std.specs.Str.{bytes_eq}
use Rattle.std.specs.declared.alloc.AllocError.{AllocError}
use Rattle.std.specs.String.{string_bytes}
use Rattle.saga_tool.specs.declared.forms.Name.{Name}
use Rattle.saga_tool.specs.declared.forms.Name.TheVariants.{Check, Plan, Run, Audit, Draw, Drive}
use Rattle.saga_serve.specs.declared.outside.FileFault.{FileFault}
use Rattle.saga_serve.specs.declared.outside.FileFault.TheVariants as file
use Rattle.saga_texts.specs.declared.outputs.Output.{Output}
use Rattle.saga_tool.specs.declared.responses.Log.{Log}
use Rattle.saga_tool.specs.declared.responses.Response.{Response}
use Rattle.saga_texts.specs.declared.runs.RunOutput.{RunOutput}
use Rattle.saga_tool.specs.declared.arguments.Given.{Given}
use Rattle.saga_tool.specs.declared.files.Unread.{Unread}
use Rattle.saga_tool.specs.declared.files.Unread.TheVariants as unread
use Rattle.saga_tool.specs.declared.words.Words.{Words}
use Rattle.saga_tool.specs.declared.words.WordsFault.{WordsFault}
use Rattle.saga_tool.specs.declared.words.WordsFault.TheVariants.{Usage, Help, OutOfMemory}
use Rattle.saga_texts.specs.Limits.{max_certificate, max_log}
use Rattle.saga_fleet.specs.Limits.{max_record}
use Rattle.saga_text.specs.Limits.{max_definition}
use Rattle.saga_script.specs.Limits.{max_script}
use Rattle.saga_tool.specs.Limits.{max_input}
use Rattle.saga_texts.specs.Lines.{line_feed}
use Rattle.saga_texts.specs.Texts.{IsCheckOutput, IsPlanOutput, IsDrawOutput}
use Rattle.saga_tool.specs.Input.{AnswersInput}
use Rattle.saga_texts.specs.Audits.{IsAuditOutput}
use Rattle.saga_serve.specs.Drives.{IsDriveOutput, IsLinesOutput}
use Rattle.saga_serve.specs.Limits.{max_beside}
use Rattle.saga_serve.specs.Outside.{beside}
use Rattle.saga_texts.specs.Beside.{HoldsDefinitions, HoldsNone}
use Rattle.saga_tool.specs.Responses.{IsAlone, IsLogFor}
use Rattle.saga_texts.specs.Runs.{IsRunOutput}
use Rattle.saga_tool.specs.Records.{IsRecordOutput}
use Rattle.saga_tool.specs.Command.{IsCommand, IsWordsFault}
use Rattle.saga_tool.specs.Outside.{Text, InputGives, FileGives, World}

-- one line on standard error, and status 4
pub record IsUnreadable (path : Text) (output : Output) : Type 0 where
  pub out : string_bytes output.out ≡ []
  pub err : string_bytes output.err ≡ codes "sagas: cannot read " ++ path ++ line_feed
  pub status : output.status ≡ 4

-- a text is read, and the output follows from it; or it cannot be read, and the output says so
abbrev pub AfterReading : InputGives → Text → ℕ → (Text → Response → Type 0) → Response → Type 0
AfterReading gives path limit Follows response =
    ((text : Text) × gives limit (Ok text) × Follows text response)
    ⊎ (gives limit (Err file.Unreadable) × IsAlone (IsUnreadable path) response)

abbrev pub AfterFile : FileGives → Text → ℕ → (Text → Response → Type 0) → Response → Type 0
AfterFile gives path limit Follows response = AfterReading (gives path) path limit Follows response

-- the texts of files, each up to a limit
abbrev pub AreGiven : FileGives → ℕ → List Text → List Text → Type 0
AreGiven gives limit paths texts = AllZip (λ path text. gives path limit (Ok text)) paths texts

-- the file at an index cannot be read, the files before it gave texts, and the output names the file
pub record IsFirstUnreadable (gives : FileGives) (limit : ℕ) (paths : List Text) (response : Response) : Type 0 where
  pub place : ℕ
  pub path : Text
  pub texts : List Text
  pub here : slice_get paths place ≡ Some path
  pub before : AreGiven gives limit (take place paths) texts
  pub fails : gives path limit (Err file.Unreadable)
  pub says : IsAlone (IsUnreadable path) response

-- the files are read in order, and the output follows from their texts or names the first file that cannot be read
abbrev pub AfterFiles : FileGives → List Text → ℕ → (List Text → Response → Type 0) → Response → Type 0
AfterFiles gives paths limit Follows response =
    ((texts : List Text) × AreGiven gives limit paths texts × Follows texts response) ⊎ IsFirstUnreadable gives limit paths response

-- one line on standard error, and status 2
pub record IsMisused (line : Text) (output : Output) : Type 0 where
  pub out : string_bytes output.out ≡ []
  pub err : string_bytes output.err ≡ line ++ line_feed
  pub status : output.status ≡ 2

-- one line on standard error, and status 3
pub record IsNoDefinitions (output : Output) : Type 0 where
  pub out : string_bytes output.out ≡ []
  pub err : string_bytes output.err ≡ codes "sagas: log: bad-definitions" ++ line_feed
  pub status : output.status ≡ 3

-- the definitions file beside a log has these definitions
abbrev pub AreBeside : FileGives → Text → List Text → Type 0
AreBeside gives log texts = (found : Text) × gives (beside log) max_beside (Ok found) × HoldsDefinitions found texts

-- the definitions file beside a log cannot be read or has no definitions, and the output says so
abbrev pub IsBesideUnread : FileGives → Text → Response → Type 0
IsBesideUnread gives log response =
    (gives (beside log) max_beside (Err file.Unreadable) × IsAlone (IsUnreadable (beside log)) response)
    ⊎ ((found : Text) × gives (beside log) max_beside (Ok found) × HoldsNone found × IsAlone IsNoDefinitions response)

-- the definitions of these files; or without files, those that are stored beside the log, if there is one
abbrev pub AreFor : FileGives → Option Text → List Text → List Text → Type 0
AreFor gives None [] texts = ⊥
AreFor gives (Some log) [] texts = AreBeside gives log texts
AreFor gives log (def ∷ more) texts = AreGiven gives max_definition (def ∷ more) texts

-- the definitions cannot be read, and the output says so
abbrev pub IsUnreadFor : FileGives → Option Text → List Text → Response → Type 0
IsUnreadFor gives None [] response = IsAlone (IsMisused (codes "error: the argument '<DEF>' is required where no '--log <F>' is given")) response
IsUnreadFor gives (Some log) [] response = IsBesideUnread gives log response
IsUnreadFor gives log (def ∷ more) response = IsFirstUnreadable gives max_definition (def ∷ more) response

-- the output follows from the definitions
abbrev pub AfterDefinitions : FileGives → Option Text → List Text → (List Text → Response → Type 0) → Response → Type 0
AfterDefinitions gives log defs Follows response =
    ((texts : List Text) × AreFor gives log defs texts × Follows texts response) ⊎ IsUnreadFor gives log defs response

-- the text of an optional file, which is empty without a path
abbrev pub IsOptional : FileGives → Option Text → ℕ → Text → Type 0
IsOptional gives None limit text = text ≡ []
IsOptional gives (Some path) limit text = gives path limit (Ok text)

abbrev pub IsOptionalUnreadable : FileGives → Option Text → ℕ → Response → Type 0
IsOptionalUnreadable gives None limit response = ⊥
IsOptionalUnreadable gives (Some path) limit response = gives path limit (Err file.Unreadable) × IsAlone (IsUnreadable path) response

abbrev pub AfterOptional : FileGives → Option Text → ℕ → (Text → Response → Type 0) → Response → Type 0
AfterOptional gives path limit Follows response =
    ((text : Text) × IsOptional gives path limit text × Follows text response) ⊎ IsOptionalUnreadable gives path limit response

-- the files are read in order, each up to its limit, and the output is the response to their texts
abbrev pub ChecksFiles : FileGives → Text → Text → Text → Response → Type 0
ChecksFiles gives def case answer =
    AfterFile gives def max_definition (λ definition. AfterFile gives case max_certificate (λ states.
    AfterFile gives answer max_certificate (λ judged. IsAlone (IsCheckOutput definition states judged))))

abbrev pub PlansFiles : FileGives → Text → Text → Response → Type 0
PlansFiles gives def case =
    AfterFile gives def max_definition (λ definition. AfterFile gives case max_certificate (λ states. IsAlone (IsPlanOutput definition states)))

-- the definition is read first, then the case and the answer if they are given
abbrev pub DrawsDefinition : FileGives → Text → Response → Type 0
DrawsDefinition gives def =
    AfterFile gives def max_definition (λ definition. IsAlone (IsDrawOutput [] definition))

abbrev pub DrawsCase : FileGives → Text → Text → Response → Type 0
DrawsCase gives def case =
    AfterFile gives def max_definition (λ definition. AfterFile gives case max_certificate (λ states.
    IsAlone (IsDrawOutput (states ∷ []) definition)))

abbrev pub DrawsAnswer : FileGives → Text → Text → Text → Response → Type 0
DrawsAnswer gives def case answer =
    AfterFile gives def max_definition (λ definition. AfterFile gives case max_certificate (λ states.
    AfterFile gives answer max_certificate (λ judged. IsAlone (IsDrawOutput (states ∷ judged ∷ []) definition))))

-- the log is read before the definitions
abbrev pub AuditsFiles : FileGives → Text → List Text → Response → Type 0
AuditsFiles gives log defs =
    AfterFile gives log max_log (λ history. AfterDefinitions gives (Some log) defs (λ texts. IsAlone (IsAuditOutput history texts)))

-- the results that a read of standard input or of a file may give
abbrev pub reading_gives : Bool → World → Text → InputGives
reading_gives true world path = world.input_gives
reading_gives false world path = world.file_gives path

-- the results that a read of a record may give; `-` is standard input
abbrev pub record_gives : World → Text → InputGives
record_gives world path = reading_gives (bytes_eq path (codes "-")) world path

abbrev pub AuditsRecord : World → Text → Response → Type 0
AuditsRecord world path = AfterReading (record_gives world path) path max_record (λ text. IsAlone (IsRecordOutput text))

-- whether the file is a record; an audit of a record takes no definitions
abbrev pub AuditsBy : World → Bool → Text → List Text → Response → Type 0
AuditsBy world false log defs = AuditsFiles world.file_gives log defs
AuditsBy world true path [] = AuditsRecord world path
AuditsBy world true path (def ∷ more) = IsAlone (IsMisused (codes "error: the argument '--fleet' cannot be used with '[DEF]...'"))

-- the response to a run of texts: its output, and its log if it has one and a path is given
pub record IsRunResponse (definitions : List Text) (script : Text) (shards : ℕ) (path : Option Text) (response : Response) : Type 0 where
  pub shown : RunOutput
  pub runs : IsRunOutput definitions script shards shown
  pub output_is : response.output ≡ shown.output
  pub log_is : IsLogFor path (option_map string_bytes shown.log) response.log

-- one line on standard error, and status 4
pub record IsLocked (output : Output) : Type 0 where
  pub out : string_bytes output.out ≡ []
  pub err : string_bytes output.err ≡ codes "sagas: log: locked" ++ line_feed
  pub status : output.status ≡ 4

-- a log may be written to the file of a path, if a path is given
abbrev pub IsFree : World → Option Text → Type 0
IsFree world None = ⊤
IsFree world (Some path) = world.claims path true

-- another process has locked the log of a path
abbrev pub IsHeld : World → Option Text → Type 0
IsHeld world None = ⊥
IsHeld world (Some path) = world.claims path false

-- the log is locked before anything is executed; if another process has locked it, nothing is executed and no log is
-- written
abbrev pub RunsUnlessHeld : World → List Text → Text → ℕ → Option Text → Response → Type 0
RunsUnlessHeld world texts lines shards log response =
    (IsFree world log × IsRunResponse texts lines shards log response) ⊎ (IsHeld world log × IsAlone IsLocked response)

-- the script is read before the definitions, and both before the log is locked
abbrev pub RunsFiles : World → Option Text → List Text → ℕ → Option Text → Response → Type 0
RunsFiles world script defs shards log =
    AfterOptional world.file_gives script max_script (λ lines.
    AfterFiles world.file_gives defs max_definition (λ texts. RunsUnlessHeld world texts lines shards log))

-- the definitions are read before the log, which is opened only if the definitions form a shelf
abbrev pub DrivesFiles : World → Option Text → List Text → Response → Type 0
DrivesFiles world log defs =
    AfterDefinitions world.file_gives log defs (λ texts. IsAlone (IsDriveOutput world.drive log texts))

-- the definitions are read before the log, which is not written
abbrev pub ShowsFiles : World → Option Text → List Text → Response → Type 0
ShowsFiles world from defs =
    AfterDefinitions world.file_gives None defs (λ texts.
    AfterOptional world.file_gives from max_log (λ text. IsAlone (IsLinesOutput world.drive text texts)))

-- whether log lines are printed, the log that is written, and the log that is only read; log lines are printed only if
-- no log is written, and a log is only read if log lines are printed
abbrev pub DrivesBy : World → Bool → Option Text → Option Text → List Text → Response → Type 0
DrivesBy world true (Some log) from defs = IsAlone (IsMisused (codes "error: the argument '--lines' cannot be used with '--log <F>'"))
DrivesBy world true None from defs = ShowsFiles world from defs
DrivesBy world false log (Some from) defs = IsAlone (IsMisused (codes "error: the argument '--from <F>' cannot be used without '--lines'"))
DrivesBy world false log None defs = DrivesFiles world log defs

-- the output of a command for its files and its other arguments
abbrev pub CommandReplies : World → Given → Name → List Text → Response → Type 0
CommandReplies world given Check (def ∷ case ∷ answer ∷ []) response = ChecksFiles world.file_gives def case answer response
CommandReplies world given Plan (def ∷ case ∷ []) response = PlansFiles world.file_gives def case response
CommandReplies world given Run defs response =
    RunsFiles world (option_map (λ s. s.now) given.script) defs given.shards (option_map (λ s. s.now) given.log) response
CommandReplies world given Draw (def ∷ []) response = DrawsDefinition world.file_gives def response
CommandReplies world given Draw (def ∷ case ∷ []) response = DrawsCase world.file_gives def case response
CommandReplies world given Draw (def ∷ case ∷ answer ∷ []) response = DrawsAnswer world.file_gives def case answer response
CommandReplies world given Drive defs response =
    DrivesBy world given.lines (option_map (λ s. s.now) given.log) (option_map (λ s. s.now) given.from) defs response
CommandReplies world given Audit (log ∷ defs) response = AuditsBy world given.fleet log defs response
CommandReplies world given name files response = ⊥

-- the result for a lack of memory
abbrev pub IsOutOfMemory : AllocError → Unread → Type 0
IsOutOfMemory error given = given ≡ unread.OutOfMemory

-- a response, unless there was a lack of memory
abbrev pub Ends : (Response → Type 0) → Result Response Unread → Type 0
Ends Replies (Ok response) = Replies response
Ends Replies (Err (unread.Unreadable response)) = Replies response
Ends Replies (Err unread.OutOfMemory) = ⊤

abbrev pub IsResponseOf : Result Response Unread → Response → Type 0
IsResponseOf ended response = (ended ≡ Ok response) ⊎ (ended ≡ Err (unread.Unreadable response))

abbrev pub StopsBy : (Response → Type 0) → Unread → Type 0
StopsBy Replies (unread.Unreadable response) = Replies response
StopsBy Replies unread.OutOfMemory = ⊤

-- help goes to standard output, with status 0; usage to standard error, with status 2
pub record IsHelp (output : Output) : Type 0 where
  pub err : string_bytes output.err ≡ []
  pub status : output.status ≡ 0

pub record IsUsage (output : Output) : Type 0 where
  pub out : string_bytes output.out ≡ []
  pub status : output.status ≡ 2

abbrev pub IsTold : WordsFault → Output → Type 0
IsTold (Usage error) output = IsUsage output
IsTold (Help error) output = IsHelp output
IsTold OutOfMemory output = ⊥

-- the output of the command that words give
pub record IsCommandResponse (world : World) (words : List Text) (response : Response) : Type 0 where
  pub found : Words
  pub is : IsCommand words found
  pub replies : CommandReplies world found.given found.name (map (λ s. s.now) found.given.files.items) response

-- the output for words that do not give a command
pub record IsFaultResponse (words : List Text) (response : Response) : Type 0 where
  pub fault : WordsFault
  pub is : IsWordsFault words fault
  pub told : IsAlone (IsTold fault) response

abbrev pub RepliesToWords : World → List Text → Response → Type 0
RepliesToWords world words response = IsCommandResponse world words response ⊎ IsFaultResponse words response

abbrev pub RepliesToInput : InputGives → Response → Type 0
RepliesToInput gives response = AfterReading gives (codes "-") max_input (λ input. IsAlone (AnswersInput input)) response

-- without words the program reads standard input, or shows help if standard input is a terminal
abbrev pub Replies : World → List Text → Response → Type 0
Replies world [] response =
    MatchBool world.has_terminal (IsAlone IsHelp response) (RepliesToInput world.input_gives response)
Replies world words response = RepliesToWords world words response

-- standard output has the text, if the text is not empty
abbrev pub IsPrinted : World → Text → Type 0
IsPrinted world text = (text ≡ []) ⊎ world.prints text true

-- the file has the log, if there is one
abbrev pub IsLogged : World → Option Log → Type 0
IsLogged world None = ⊤
IsLogged world (Some log) = world.writes (string_bytes log.path) (string_bytes log.text) true

pub record IsWritten (world : World) (response : Response) : Type 0 where
  pub printed : IsPrinted world (string_bytes response.output.out)
  pub logged : IsLogged world response.log

-- the text is not empty, and standard output cannot be written
pub record IsUnprinted (world : World) (text : Text) : Type 0 where
  pub some : text ≢ []
  pub printed : world.prints text false

-- the text was printed, there is a log, and its file cannot be written
pub record IsUnlogged (world : World) (response : Response) (path : Text) : Type 0 where
  pub printed : IsPrinted world (string_bytes response.output.out)
  pub log : Log
  pub log_is : response.log ≡ Some log
  pub path_is : path ≡ string_bytes log.path
  pub logged : world.writes path (string_bytes log.text) false

-- everything is written, or the output at this path cannot be written
abbrev pub WritesBut : World → Response → Option Text → Type 0
WritesBut world response None = IsWritten world response
WritesBut world response (Some path) =
    (IsUnprinted world (string_bytes response.output.out) × (path ≡ codes "-")) ⊎ IsUnlogged world response path

-- the output's own line goes to standard error, whether or not the rest could be written
pub record TellsOwn (world : World) (output : Output) (status : ℕ) : Type 0 where
  pub some : string_bytes output.err ≢ []
  pub told : world.complains (string_bytes output.err)
  pub status_is : status ≡ output.status

-- if the output has no such line, a message names what cannot be written, and the status is 4
pub record TellsUnwritten (world : World) (output : Output) (path : Text) (status : ℕ) : Type 0 where
  pub none : string_bytes output.err ≡ []
  pub told : world.complains (codes "sagas: cannot write " ++ path ++ line_feed)
  pub status_is : status ≡ 4

-- no message is written
pub record TellsNothing (output : Output) (status : ℕ) : Type 0 where
  pub none : string_bytes output.err ≡ []
  pub status_is : status ≡ output.status

abbrev pub Tells : World → Output → Option Text → ℕ → Type 0
Tells world output None status = TellsOwn world output status ⊎ TellsNothing output status
Tells world output (Some path) status = TellsOwn world output status ⊎ TellsUnwritten world output path status

-- a response is shown: its text, its log, and at most one line on standard error
pub record IsShown (world : World) (response : Response) (status : ℕ) : Type 0 where
  pub unwritten : Option Text
  pub written : WritesBut world response unwritten
  pub told : Tells world response.output unwritten status

-- the message and the status for a lack of memory
pub record TellsOutOfMemory (world : World) (status : ℕ) : Type 0 where
  pub told : world.complains (codes "sagas: out of memory" ++ line_feed)
  pub status_is : status ≡ 4

-- a response to the words is shown
pub record ShowsResponse (world : World) (words : List Text) (status : ℕ) : Type 0 where
  pub response : Response
  pub replies : Replies world words response
  pub shown : IsShown world response status

-- the whole program
abbrev pub IsRun : World → List Text → ℕ → Type 0
IsRun world words status = ShowsResponse world words status ⊎ TellsOutOfMemory world status

-- a word that is not UTF-8 is a usage error
pub record TellsBadWord (world : World) (status : ℕ) : Type 0 where
  pub told : world.complains (codes "error: invalid UTF-8 was detected in one or more arguments" ++ line_feed)
  pub status_is : status ≡ 2

-- the reason why there are no words
abbrev pub TellsNoWords : World → FileFault → ℕ → Type 0
TellsNoWords world file.OutOfMemory status = TellsOutOfMemory world status
TellsNoWords world file.Unreadable status = TellsBadWord world status
