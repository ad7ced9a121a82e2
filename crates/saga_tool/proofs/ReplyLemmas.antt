-- A command replies to its files.
use Rattle.std.proofs.Common.{◌≡◌, ℕ, ◌-◌, ◌<◌, ◌≤◌, Vec, Global, List, [], ◌∷◌, length, map, take, drop, get_or, slice_index_or, inl, inr, refl, sym, subst, arith, length-drop}
use Rattle.std.specs.Prelude.{Bool, true, false, codes, Option, Some, None, Result, Ok, Err, IfOk, IfErr}
use Rattle.std.specs.Str.{bytes_eq}
use Rattle.std.specs.Borrow.{Bor}
use Rattle.std.proofs.lemmas.List.{take_all}
use Rattle.saga_tool.specs.declared.arguments.Given.{Given}
use Rattle.saga_tool.specs.declared.forms.Name.{Name}
use Rattle.saga_tool.specs.declared.forms.Name.TheVariants.{Audit}
use Rattle.saga_tool.specs.declared.responses.Response.{Response}
use Rattle.saga_tool.specs.declared.files.Unread.{Unread}
use Rattle.saga_tool.specs.declared.files.Unread.TheVariants.{Unreadable, OutOfMemory}
use Rattle.saga_serve.specs.declared.outside.FileFault.TheVariants as file
use Rattle.saga_texts.specs.declared.runs.RunOutput.{RunOutput}
use Rattle.saga_serve.specs.Limits.{max_beside}
use Rattle.saga_serve.specs.Outside.{beside}
use Rattle.saga_text.specs.Limits.{max_definition}
use Rattle.saga_script.specs.Limits.{max_script}
use Rattle.saga_texts.specs.Limits.{max_log}
use Rattle.saga_fleet.specs.Limits.{max_record}
use Rattle.saga_tool.specs.Outside.{Text, FileGives, InputGives, World}
use Rattle.saga_texts.specs.Runs.{IsRunOutput}
use Rattle.saga_texts.specs.declared.outputs.Output.{Output}
use Rattle.saga_tool.specs.Responses.{IsAlone, alone}
use Rattle.saga_tool.specs.Program.{AreFor, AreGiven, IsFirstUnreadable, IsBesideUnread, IsUnreadFor, IsUnreadable, RunsFiles, AuditsBy, AuditsFiles, AuditsRecord, DrivesFiles, IsOptional, IsOptionalUnreadable, ShowsFiles, IsMisused, DrivesBy, CommandReplies, Ends, IsResponseOf, StopsBy, record_gives}
use Rattle.saga_texts.proofs.ListLemmas.{text_here}

abbrev Files : Type 0
Files = List (Bor Text)

abbrev now_of : Files → List Text
now_of = map (λ s. s.now)

-- the files of a list of three, or of two
three : (P : List Text → Type 0) (files : Files) (d : Bor Text) → 3 ≤ length files → length files < 4
    → P ((slice_index_or files 0 d).now ∷ (slice_index_or files 1 d).now ∷ (slice_index_or files 2 d).now ∷ []) → P (now_of files)
three P [] d least most holds = absurd (omega (arith, least))
three P (a ∷ []) d least most holds = absurd (omega (arith, least))
three P (a ∷ b ∷ []) d least most holds = absurd (omega (arith, least))
three P (a ∷ b ∷ c ∷ []) d least most holds = holds
three P (a ∷ b ∷ c ∷ e ∷ more) d least most holds = absurd (omega (arith, most))

two : (P : List Text → Type 0) (files : Files) (d : Bor Text) → 2 ≤ length files → length files < 3
    → P ((slice_index_or files 0 d).now ∷ (slice_index_or files 1 d).now ∷ []) → P (now_of files)
two P [] d least most holds = absurd (omega (arith, least))
two P (a ∷ []) d least most holds = absurd (omega (arith, least))
two P (a ∷ b ∷ []) d least most holds = holds
two P (a ∷ b ∷ c ∷ more) d least most holds = absurd (omega (arith, most))

-- what holds of a command and its three files holds of the command that was given and its list
pub of_three : (P : Name → List Text → Type 0) (given wanted : Name) (files shown : Files) (d : Bor Text) → given ≡ wanted → shown ≡ files
    → 3 ≤ length shown → length shown < 4
    → P wanted ((slice_index_or shown 0 d).now ∷ (slice_index_or shown 1 d).now ∷ (slice_index_or shown 2 d).now ∷ []) → P given (now_of files)
of_three P given wanted files shown d is same least most holds =
    subst (λ (n : Name). P n (now_of files)) (sym is) (subst (λ (fs : Files). P wanted (now_of fs)) same (three (P wanted) shown d least most holds))

-- the same of two files
pub of_two : (P : Name → List Text → Type 0) (given wanted : Name) (files shown : Files) (d : Bor Text) → given ≡ wanted → shown ≡ files
    → 2 ≤ length shown → length shown < 3
    → P wanted ((slice_index_or shown 0 d).now ∷ (slice_index_or shown 1 d).now ∷ []) → P given (now_of files)
of_two P given wanted files shown d is same least most holds =
    subst (λ (n : Name). P n (now_of files)) (sym is) (subst (λ (fs : Files). P wanted (now_of fs)) same (two (P wanted) shown d least most holds))

-- a run, one of whose definitions cannot be read
pub run_unread : (world : World) (script : Option Text) (lines : Text) (defs : List Text) (shards : ℕ) (log : Option Text) (stop : Unread)
    → IsOptional world.file_gives script max_script lines → StopsBy (IsFirstUnreadable world.file_gives max_definition defs) stop
    → Ends (RunsFiles world script defs shards log) (Err stop)
run_unread world script lines defs shards log (Unreadable response) is stops = inl (lines, is, inr stops)
run_unread world script lines defs shards log OutOfMemory is stops = tt

-- a drive, one of whose definitions cannot be read
pub drive_unread : (world : World) (log : Option Text) (defs : List Text) (stop : Unread) → StopsBy (IsUnreadFor world.file_gives log defs) stop
    → Ends (DrivesFiles world log defs) (Err stop)
drive_unread world log defs (Unreadable response) stops = inr stops
drive_unread world log defs OutOfMemory stops = tt

-- the same where lines are shown; and one whose log cannot be read
pub show_unread : (world : World) (from : Option Text) (defs : List Text) (stop : Unread) → StopsBy (IsUnreadFor world.file_gives None defs) stop
    → Ends (ShowsFiles world from defs) (Err stop)
show_unread world from defs (Unreadable response) stops = inr stops
show_unread world from defs OutOfMemory stops = tt

pub show_unread_from : (world : World) (from : Option Text) (defs texts : List Text) (stop : Unread) → AreFor world.file_gives None defs texts
    → StopsBy (IsOptionalUnreadable world.file_gives from max_log) stop → Ends (ShowsFiles world from defs) (Err stop)
show_unread_from world from defs texts (Unreadable response) given stops = inl (texts, given, inr stops)
show_unread_from world from defs texts OutOfMemory given stops = tt

-- options that do not go together
pub lines_with_log : (world : World) (lines : Bool) (log from : Option Text) (path : Text) (defs : List Text) (response : Response) → lines ≡ true → log ≡ Some path
    → IsAlone (IsMisused (codes "error: the argument '--lines' cannot be used with '--log <F>'")) response → DrivesBy world lines log from defs response
lines_with_log world lines log from path defs response lines_are log_is told = rw (lines_are, log_is) told

pub from_without_lines : (world : World) (lines : Bool) (log from : Option Text) (path : Text) (defs : List Text) (response : Response) → lines ≡ false
    → from ≡ Some path → IsAlone (IsMisused (codes "error: the argument '--from <F>' cannot be used without '--lines'")) response
    → DrivesBy world lines log from defs response
from_without_lines world lines log from path defs response lines_are from_is told = rw (lines_are, from_is) told

-- the output to a run of the same texts
pub run_shown : (texts same : List Text) (script lines : Text) (shards count : ℕ) (shown : RunOutput) → IsRunOutput texts script shards shown
    → texts ≡ same → script ≡ lines → shards ≡ count → IsRunOutput same lines count shown
run_shown texts same script lines shards count shown r texts_are script_is shards_are =
    subst (λ (t : List Text). IsRunOutput t lines count shown) texts_are
    (subst (λ (s : Text). IsRunOutput texts s count shown) script_is (subst (λ (n : ℕ). IsRunOutput texts script n shown) shards_are r))

-- an audit of a log, of a record, and of one with definitions
pub log_audited : (world : World) (fleet : Bool) (log : Text) (defs : List Text) (r : Result Response Unread) → fleet ≡ false
    → Ends (AuditsFiles world.file_gives log defs) r → Ends (AuditsBy world fleet log defs) r
log_audited world fleet log defs r is ends = rw is ends

pub record_audited : (world : World) (fleet : Bool) (record_ : Text) (defs : List Text) (r : Result Response Unread) → fleet ≡ true → length defs ≡ 0
    → Ends (AuditsRecord world record_) r → Ends (AuditsBy world fleet record_ defs) r
record_audited world fleet record_ [] r is none ends = rw is ends
record_audited world fleet record_ (def ∷ more) r is none ends = absurd (omega (arith, none))

pub fleet_misused : (world : World) (fleet : Bool) (record_ : Text) (defs : List Text) (output : Output) (response : Response) → fleet ≡ true → 0 < length defs
    → IsMisused (codes "error: the argument '--fleet' cannot be used with '[DEF]...'") output → response ≡ alone output → AuditsBy world fleet record_ defs response
fleet_misused world fleet record_ [] output response is some told same = absurd (omega (arith, some))
fleet_misused world fleet record_ (def ∷ more) output response is some told same = rw (is, same) (record { replies = told; none = refl })

-- the text of a record is that of standard input, or of a file
abbrev Reads : InputGives → Text → Result (Vec ℕ Global) Unread → Type 0
Reads gives path r =
    IfOk r (λ text. gives max_record (Ok text.items))
    × IfErr r (StopsBy (λ response. gives max_record (Err file.Unreadable) × IsAlone (IsUnreadable path) response))

pub read_input : (world : World) (path : Text) (r : Result (Vec ℕ Global) Unread) → bytes_eq path (codes "-") ≡ true → Reads world.input_gives path r
    → Reads (record_gives world path) path r
read_input world path r is reads = rw is reads

pub read_file : (world : World) (path : Text) (r : Result (Vec ℕ Global) Unread) → bytes_eq path (codes "-") ≡ false → Reads (world.file_gives path) path r
    → Reads (record_gives world path) path r
read_file world path r is reads = rw is reads

-- the log and the definitions of an audit: the first file, and the others
first_and_rest : (world : World) (given : Given) (files : Files) (r : Result Response Unread) (d : Bor Text) → 1 ≤ length files
    → Ends (AuditsBy world given.fleet (slice_index_or files 0 d).now (now_of (drop 1 files))) r
    → Ends (CommandReplies world given Audit (now_of files)) r
first_and_rest world given [] r d least ends = absurd (omega (arith, least))
first_and_rest world given (a ∷ more) r d least ends = ends

all_others : (files : Files) → take (length files - 1) (drop 1 files) ≡ drop 1 files
all_others files = take_all (length files - 1) (drop 1 files) (omega (arith, length-drop 1 files))

pub audit_replies : (world : World) (given : Given) (name : Name) (files shown : Files) (r : Result Response Unread) (d : Bor Text) → name ≡ Audit → shown ≡ files
    → 1 ≤ length shown
    → Ends (AuditsBy world given.fleet (slice_index_or shown 0 d).now (now_of (take (length shown - 1) (drop 1 shown)))) r
    → Ends (CommandReplies world given name (now_of files)) r
audit_replies world given name files shown r d is same least ends =
    subst (λ (n : Name). Ends (CommandReplies world given n (now_of files)) r) (sym is)
    (subst (λ (fs : Files). Ends (CommandReplies world given Audit (now_of fs)) r) same
    (first_and_rest world given shown r d least (subst (λ (fs : Files). Ends (AuditsBy world given.fleet (slice_index_or shown 0 d).now (now_of fs)) r) (all_others shown) ends)))

-- the first file that cannot be read
pub first_unreadable : (gives : FileGives) (limit : ℕ) (paths : Files) (i : ℕ) (d : Bor Text) (texts : List Text) (stop : Unread) → i < length paths
    → AreGiven gives limit (take i (now_of paths)) texts
    → StopsBy (λ response. gives (get_or paths i d).now limit (Err file.Unreadable) × IsAlone (IsUnreadable (get_or paths i d).now) response) stop
    → StopsBy (IsFirstUnreadable gives limit (now_of paths)) stop
first_unreadable gives limit paths i d texts (Unreadable response) lt before stops = record {
  place = i;
  path = (get_or paths i d).now;
  texts = texts;
  here = text_here paths i d lt;
  before = before;
  fails = stops.0;
  says = stops.1;
}
first_unreadable gives limit paths i d texts OutOfMemory lt before stops = tt

-- the response of a command that ended
pub its_response : (Replies : Response → Type 0) (ended : Result Response Unread) (response : Response) → Ends Replies ended → IsResponseOf ended response
    → Replies response
its_response Replies ended response ends is = elim is [
  | inl e ↦ subst (Ends Replies) e ends
  | inr e ↦ subst (Ends Replies) e ends
]

-- ---- definitions that are given, or stored beside a log

pub given_for : (gives : FileGives) (log : Option Text) (defs texts : List Text) → 0 < length defs → AreGiven gives max_definition defs texts → AreFor gives log defs texts
given_for gives None [] texts some given = absurd (omega (arith, some))
given_for gives (Some path) [] texts some given = absurd (omega (arith, some))
given_for gives None (def ∷ more) texts some given = given
given_for gives (Some path) (def ∷ more) texts some given = given

pub unread_for : (gives : FileGives) (log : Option Text) (defs : List Text) (response : Response) → 0 < length defs
    → IsFirstUnreadable gives max_definition defs response → IsUnreadFor gives log defs response
unread_for gives None [] response some unread = absurd (omega (arith, some))
unread_for gives (Some path) [] response some unread = absurd (omega (arith, some))
unread_for gives None (def ∷ more) response some unread = unread
unread_for gives (Some path) (def ∷ more) response some unread = unread

-- what stands beside a log cannot be read
pub kept_unread : (gives : FileGives) (log path : Text) (stop : Unread) → path ≡ beside log
    → StopsBy (λ response. gives path max_beside (Err file.Unreadable) × IsAlone (IsUnreadable path) response) stop → StopsBy (IsBesideUnread gives log) stop
kept_unread gives log path (Unreadable response) is stops =
    inl (subst (λ (p : Text). gives p max_beside (Err file.Unreadable) × IsAlone (IsUnreadable p) response) is stops)
kept_unread gives log path OutOfMemory is stops = tt
