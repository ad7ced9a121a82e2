-- A line in a usual spelling is read as the request that it spells.
use Rattle.std.proofs.Common.{◌≡◌, ◌≢◌, ℕ, ◌<◌, ◌≤◌, ◌^◌, nat_lt, true, false, List, ◌++◌, codes, decimal, Option, Some, None, Ok, MatchOption, IfSome, Bor, refl, arith, lit≤}
use lib.Utf8.{encode}
use Rattle.std.specs.Str.{IsUtf8, is_utf8, chars}
use Rattle.std.proofs.lemmas.Bool.Decides.{nat_tests}
use Rattle.std.proofs.lemmas.Str.{IsUtf8-append, IsUtf8-from_ascii, IsUtf8-from_is_utf8}
use Rattle.std.proofs.lemmas.Fmt.{IsAscii-decimal}
use Rattle.json.specs.Print.{escape_byte}
use Rattle.json.specs.Tree.{HasNumbers, depth as json_depth}
use Rattle.json.proofs.Printed.Decimals.{IsNumber-decimal}
use Rattle.serde_json.specs.Data.{Data, number, string, object, unsigned, no_members, member}
use Rattle.serde_json.specs.Read.{of_json, max_depth}
use Rattle.serde_json.specs.Written.{compact_text, outline}
use Rattle.serde_json.proofs.Numbers.{number_of-decimal}
use Rattle.saga_json.specs.Keys.{keys_fit}
use Rattle.saga_json.proofs.TextLemmas.{json_of-read}
use Rattle.saga_history.specs.declared.tasks.Kind.{Kind}
use Rattle.saga_history.specs.declared.tasks.Kind.TheVariants.{Run, Undo}
use Rattle.saga_history.specs.declared.tasks.Outcome.{Outcome}
use Rattle.saga_history.specs.declared.tasks.Outcome.TheVariants.{Done, Void, Failed}
use Rattle.saga_log.proofs.ValueLemmas.{read-compact}
use Rattle.saga_drive.specs.declared.openings.Wanted.TheVariants.{Index}
use Rattle.saga_drive.specs.declared.requests.Request.{Request}
use Rattle.saga_drive.specs.declared.requests.Request.TheVariants as request
use Rattle.saga_drive.specs.Requests.{request_of, request_of_text, request_of_verb}
use Rattle.saga_drive.specs.Plain.{kind_text, outcome_text, told_text}

-- what follows a piece
pub stripped : (line piece bytes : List ℕ) (r : Option (Bor (List ℕ))) → bytes ≡ piece → MatchOption r ((rest : List ℕ) → line ≢ bytes ++ rest) (λ rest. line ≡ bytes ++ rest.now) → IfSome r (λ rest. line ≡ piece ++ rest.now)
stripped line piece bytes None e h = tt
stripped line piece bytes (Some rest) e h = rw (← e) h

-- the request of a compact text
of_compact : (form : Data) (text : List ℕ) (r : Request) → HasNumbers (outline form) → json_depth (outline form) ≤ max_depth → of_json (outline form) ≡ Some form → IsUtf8 text → text ≡ compact_text form → request_of form ≡ Ok r → request_of_text text ≡ Ok r
unfolding request_of_text
of_compact form text r numbers shallow same u is reads =
    rw (json_of-read text form u (read-compact form text numbers shallow same is)) reads

-- ---- numbers

small32 : (n : ℕ) → n < 2 ^ 32 → nat_lt n (2 ^ 32) ≡ true
small32 n h = grind (arith, nat_tests)

small16 : (n : ℕ) → n < 2 ^ 16 → nat_lt n (2 ^ 16) ≡ true
small16 n h = grind (arith, nat_tests)

wide : (n : ℕ) → n < 2 ^ 32 → n < 2 ^ 64
wide n h = omega arith

narrow : (n : ℕ) → n < 2 ^ 16 → n < 2 ^ 64
narrow n h = omega arith

-- ---- pieces are UTF-8

number_then : (n : ℕ) (rest : List ℕ) → n < 2 ^ 64 → IsUtf8 rest → IsUtf8 (decimal n ++ rest)
number_then n rest h u = IsUtf8-append (decimal n) rest (IsUtf8-from_ascii (decimal n) (IsAscii-decimal n h)) u

piece_then : (piece rest : List ℕ) → is_utf8 piece ≡ true → IsUtf8 rest → IsUtf8 (piece ++ rest)
piece_then piece rest h u = IsUtf8-append piece rest (IsUtf8-from_is_utf8 piece h) u

-- ---- openings

open_form : ℕ → ℕ → Data
open_form def saga =
    object (member (codes "def") (number (unsigned def))
    (member (codes "do") (string (codes "open"))
    (member (codes "saga") (number (unsigned saga)) no_members)))

open_text : ℕ → ℕ → List ℕ
open_text def saga = codes "{\"def\":" ++ (decimal def ++ (codes ",\"do\":\"open\",\"saga\":" ++ (decimal saga ++ codes "}")))

open-text : (def saga : ℕ) → open_text def saga ≡ compact_text (open_form def saga)
unfolding open_text open_form escape_byte
open-text def saga = refl

open-utf8 : (def saga : ℕ) → def < 2 ^ 64 → saga < 2 ^ 64 → IsUtf8 (open_text def saga)
unfolding open_text is_utf8 chars encode
open-utf8 def saga h k = piece_then (codes "{\"def\":") _ refl (number_then def _ h (piece_then (codes ",\"do\":\"open\",\"saga\":") _ refl (number_then saga _ k (IsUtf8-from_is_utf8 (codes "}") refl))))

open-value : (def saga : ℕ) → def < 2 ^ 32 → saga < 2 ^ 32 → request_of (open_form def saga) ≡ Ok (request.Open (Index def) (Some saga))
unfolding open_form request_of_verb keys_fit
open-value def saga h k = rw (small32 def h, small32 saga k)

open-request : (def saga : ℕ) → def < 2 ^ 32 → saga < 2 ^ 32 → request_of_text (open_text def saga) ≡ Ok (request.Open (Index def) (Some saga))
unfolding open_form
open-request def saga h k =
    of_compact (open_form def saga) (open_text def saga) _ (IsNumber-decimal def (wide def h), (tt, (IsNumber-decimal saga (wide saga k), tt))) (lit≤ tt)
    (rw (number_of-decimal def (wide def h), number_of-decimal saga (wide saga k))) (open-utf8 def saga (wide def h) (wide saga k)) (open-text def saga) (open-value def saga h k)

pub open-line : (line a b : List ℕ) (def saga : ℕ) → line ≡ codes "{\"def\":" ++ (decimal def ++ a) → a ≡ codes ",\"do\":\"open\",\"saga\":" ++ (decimal saga ++ b) → b ≡ codes "}" → def < 2 ^ 32 → saga < 2 ^ 32
    → request_of_text line ≡ Ok (request.Open (Index def) (Some saga))
unfolding open_text
open-line line a b def saga p q r h k = rw (p, q, r) (open-request def saga h k)

-- ---- the next tasks

next_form : ℕ → Data
next_form most = object (member (codes "do") (string (codes "next")) (member (codes "most") (number (unsigned most)) no_members))

next_text : ℕ → List ℕ
next_text most = codes "{\"do\":\"next\"" ++ (codes ",\"most\":" ++ (decimal most ++ codes "}"))

next-text : (most : ℕ) → next_text most ≡ compact_text (next_form most)
unfolding next_text next_form escape_byte
next-text most = refl

next-utf8 : (most : ℕ) → most < 2 ^ 64 → IsUtf8 (next_text most)
unfolding next_text is_utf8 chars encode
next-utf8 most h = piece_then (codes "{\"do\":\"next\"") _ refl (piece_then (codes ",\"most\":") _ refl (number_then most _ h (IsUtf8-from_is_utf8 (codes "}") refl)))

some : (n : ℕ) → 0 < n → nat_lt 0 n ≡ true
some n h = grind (arith, nat_tests)

not_many : (n : ℕ) → n ≤ 1000 → nat_lt 1000 n ≡ false
not_many n h = grind (arith, nat_tests)

next-value : (most : ℕ) → 0 < most → most ≤ 1000 → most < 2 ^ 16 → request_of (next_form most) ≡ Ok (request.NextMany most)
unfolding next_form request_of_verb keys_fit
next-value most h k l = rw (small16 most l, some most h, not_many most k)

next-request : (most : ℕ) → 0 < most → most ≤ 1000 → most < 2 ^ 16 → request_of_text (next_text most) ≡ Ok (request.NextMany most)
unfolding next_form
next-request most h k l =
    of_compact (next_form most) (next_text most) _ (tt, (IsNumber-decimal most (narrow most l), tt)) (lit≤ tt)
    (rw (number_of-decimal most (narrow most l))) (next-utf8 most (narrow most l)) (next-text most) (next-value most h k l)

pub next-line : (line a b : List ℕ) (most : ℕ) → line ≡ codes "{\"do\":\"next\"" ++ a → a ≡ codes ",\"most\":" ++ (decimal most ++ b) → b ≡ codes "}" → 0 < most → most ≤ 1000 → most < 2 ^ 16
    → request_of_text line ≡ Ok (request.NextMany most)
unfolding next_text
next-line line a b most p q r h k l = rw (p, q, r) (next-request most h k l)

one_form : Data
one_form = object (member (codes "do") (string (codes "next")) no_members)

one-request : request_of_text (codes "{\"do\":\"next\"}") ≡ Ok request.Next
unfolding one_form is_utf8 chars encode escape_byte request_of_verb keys_fit
one-request =
    of_compact one_form (codes "{\"do\":\"next\"}") request.Next (tt, tt) (lit≤ tt) refl (IsUtf8-from_is_utf8 (codes "{\"do\":\"next\"}") refl) refl refl

pub one-line : (line a : List ℕ) → line ≡ codes "{\"do\":\"next\"" ++ a → a ≡ codes "}" → request_of_text line ≡ Ok request.Next
one-line line a p q = rw (p, q) one-request

-- ---- reports

outcome_word : Outcome → List ℕ
outcome_word Done = codes "ok"
outcome_word Void = codes "void"
outcome_word Failed = codes "fail"

report_form : Outcome → ℕ → ℕ → Data
report_form outcome saga step =
    object (member (codes "do") (string (codes "report"))
    (member (codes "outcome") (string (outcome_word outcome))
    (member (codes "saga") (number (unsigned saga))
    (member (codes "step") (number (unsigned step)) no_members))))

report_text : Outcome → ℕ → ℕ → List ℕ
report_text outcome saga step = codes "{" ++ told_text outcome saga step (codes "}")

report-text : (outcome : Outcome) (saga step : ℕ) → report_text outcome saga step ≡ compact_text (report_form outcome saga step)
unfolding report_text report_form outcome_word escape_byte
report-text Done saga step = refl
report-text Void saga step = refl
report-text Failed saga step = refl

outcome-utf8 : (outcome : Outcome) → is_utf8 (outcome_text outcome) ≡ true
unfolding is_utf8 chars encode
outcome-utf8 Done = refl
outcome-utf8 Void = refl
outcome-utf8 Failed = refl

told_then : (outcome : Outcome) (saga step : ℕ) (rest : List ℕ) → saga < 2 ^ 64 → step < 2 ^ 64 → IsUtf8 rest → IsUtf8 (told_text outcome saga step rest)
unfolding is_utf8 chars encode
told_then outcome saga step rest h k u =
    piece_then (outcome_text outcome) _ (outcome-utf8 outcome) (piece_then (codes ",\"saga\":") _ refl (number_then saga _ h (piece_then (codes ",\"step\":") _ refl (number_then step rest k u))))

report-utf8 : (outcome : Outcome) (saga step : ℕ) → saga < 2 ^ 64 → step < 2 ^ 64 → IsUtf8 (report_text outcome saga step)
unfolding report_text is_utf8 chars encode
report-utf8 outcome saga step h k = piece_then (codes "{") _ refl (told_then outcome saga step _ h k (IsUtf8-from_is_utf8 (codes "}") refl))

report-value : (outcome : Outcome) (saga step : ℕ) → saga < 2 ^ 32 → step < 2 ^ 16 → request_of (report_form outcome saga step) ≡ Ok (request.Report saga step None outcome)
unfolding report_form outcome_word request_of_verb keys_fit
report-value Done saga step h k = rw (small32 saga h, small16 step k)
report-value Void saga step h k = rw (small32 saga h, small16 step k)
report-value Failed saga step h k = rw (small32 saga h, small16 step k)

report-request : (outcome : Outcome) (saga step : ℕ) → saga < 2 ^ 32 → step < 2 ^ 16 → request_of_text (report_text outcome saga step) ≡ Ok (request.Report saga step None outcome)
unfolding report_form
report-request outcome saga step h k =
    of_compact (report_form outcome saga step) (report_text outcome saga step) _ (tt, (tt, (IsNumber-decimal saga (wide saga h), (IsNumber-decimal step (narrow step k), tt)))) (lit≤ tt)
    (rw (number_of-decimal saga (wide saga h), number_of-decimal step (narrow step k))) (report-utf8 outcome saga step (wide saga h) (narrow step k)) (report-text outcome saga step) (report-value outcome saga step h k)

pub report-line : (line a b : List ℕ) (outcome : Outcome) (saga step : ℕ) → line ≡ codes "{" ++ a → a ≡ told_text outcome saga step b → b ≡ codes "}" → saga < 2 ^ 32 → step < 2 ^ 16
    → request_of_text line ≡ Ok (request.Report saga step None outcome)
unfolding report_text
report-line line a b outcome saga step p q r h k = rw (p, q, r) (report-request outcome saga step h k)

-- ---- reports of an attempt

kind_name : Kind → List ℕ
kind_name Run = codes "run"
kind_name Undo = codes "undo"

attempt_form : ℕ → Outcome → ℕ → ℕ → Kind → Data
attempt_form attempt outcome saga step kind =
    object (member (codes "attempt") (number (unsigned attempt))
    (member (codes "do") (string (codes "report"))
    (member (codes "outcome") (string (outcome_word outcome))
    (member (codes "saga") (number (unsigned saga))
    (member (codes "step") (number (unsigned step))
    (member (codes "task") (string (kind_name kind)) no_members))))))

attempt_text : ℕ → Outcome → ℕ → ℕ → Kind → List ℕ
attempt_text attempt outcome saga step kind = codes "{\"attempt\":" ++ (decimal attempt ++ (codes "," ++ told_text outcome saga step (kind_text kind)))

attempt-text : (attempt : ℕ) (outcome : Outcome) (saga step : ℕ) (kind : Kind) → attempt_text attempt outcome saga step kind ≡ compact_text (attempt_form attempt outcome saga step kind)
unfolding attempt_text attempt_form outcome_word kind_name escape_byte
attempt-text attempt Done saga step Run = refl
attempt-text attempt Done saga step Undo = refl
attempt-text attempt Void saga step Run = refl
attempt-text attempt Void saga step Undo = refl
attempt-text attempt Failed saga step Run = refl
attempt-text attempt Failed saga step Undo = refl

kind-utf8 : (kind : Kind) → IsUtf8 (kind_text kind)
unfolding is_utf8 chars encode
kind-utf8 Run = IsUtf8-from_is_utf8 (kind_text Run) refl
kind-utf8 Undo = IsUtf8-from_is_utf8 (kind_text Undo) refl

attempt-utf8 : (attempt : ℕ) (outcome : Outcome) (saga step : ℕ) (kind : Kind) → attempt < 2 ^ 64 → saga < 2 ^ 64 → step < 2 ^ 64 → IsUtf8 (attempt_text attempt outcome saga step kind)
unfolding attempt_text is_utf8 chars encode
attempt-utf8 attempt outcome saga step kind h k l =
    piece_then (codes "{\"attempt\":") _ refl (number_then attempt _ h (piece_then (codes ",") _ refl (told_then outcome saga step _ k l (kind-utf8 kind))))

attempt-value : (attempt : ℕ) (outcome : Outcome) (saga step : ℕ) (kind : Kind) → attempt < 2 ^ 16 → saga < 2 ^ 32 → step < 2 ^ 16
    → request_of (attempt_form attempt outcome saga step kind) ≡ Ok (request.Report saga step (Some (record { task = kind; number = attempt })) outcome)
unfolding attempt_form outcome_word kind_name request_of_verb keys_fit
attempt-value attempt Done saga step Run h k l = rw (small16 attempt h, small32 saga k, small16 step l)
attempt-value attempt Done saga step Undo h k l = rw (small16 attempt h, small32 saga k, small16 step l)
attempt-value attempt Void saga step Run h k l = rw (small16 attempt h, small32 saga k, small16 step l)
attempt-value attempt Void saga step Undo h k l = rw (small16 attempt h, small32 saga k, small16 step l)
attempt-value attempt Failed saga step Run h k l = rw (small16 attempt h, small32 saga k, small16 step l)
attempt-value attempt Failed saga step Undo h k l = rw (small16 attempt h, small32 saga k, small16 step l)

attempt-request : (attempt : ℕ) (outcome : Outcome) (saga step : ℕ) (kind : Kind) → attempt < 2 ^ 16 → saga < 2 ^ 32 → step < 2 ^ 16
    → request_of_text (attempt_text attempt outcome saga step kind) ≡ Ok (request.Report saga step (Some (record { task = kind; number = attempt })) outcome)
unfolding attempt_form
attempt-request attempt outcome saga step kind h k l =
    of_compact (attempt_form attempt outcome saga step kind) (attempt_text attempt outcome saga step kind) _
    (IsNumber-decimal attempt (narrow attempt h), (tt, (tt, (IsNumber-decimal saga (wide saga k), (IsNumber-decimal step (narrow step l), (tt, tt)))))) (lit≤ tt)
    (rw (number_of-decimal attempt (narrow attempt h), number_of-decimal saga (wide saga k), number_of-decimal step (narrow step l)))
    (attempt-utf8 attempt outcome saga step kind (narrow attempt h) (wide saga k) (narrow step l)) (attempt-text attempt outcome saga step kind) (attempt-value attempt outcome saga step kind h k l)

pub attempt-line : (line a b c : List ℕ) (attempt : ℕ) (outcome : Outcome) (saga step : ℕ) (kind : Kind) → line ≡ codes "{\"attempt\":" ++ (decimal attempt ++ a) → a ≡ codes "," ++ b → b ≡ told_text outcome saga step c → c ≡ kind_text kind
    → attempt < 2 ^ 16 → saga < 2 ^ 32 → step < 2 ^ 16 → request_of_text line ≡ Ok (request.Report saga step (Some (record { task = kind; number = attempt })) outcome)
unfolding attempt_text
attempt-line line a b c attempt outcome saga step kind p q r s h k l = rw (p, q, r, s) (attempt-request attempt outcome saga step kind h k l)
