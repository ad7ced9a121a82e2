-- Responses, and the shelf that answers leave as it is.
use Rattle.std.proofs.Common.{◌≡◌, ◌∙◌, ◌⊎◌, inl, inr, ℕ, List, [], ◌++◌, Result, Ok, Err, ap, sym, subst, refl, arith}
use Rattle.saga_json.specs.declared.faults.JsonFault.{JsonFault}
use Rattle.saga_json.specs.declared.faults.JsonFault.TheVariants as json
use Rattle.saga_json.specs.Reads.{Fails}
use Rattle.saga_history.specs.declared.events.Event.{Event}
use Rattle.saga_core.specs.Book.{Book, IsLegalBook}
use Rattle.saga_logged.specs.BookLog.{IsBookLog}
use Rattle.saga_drive.specs.declared.replies.Reply.{Reply}
use Rattle.saga_drive.specs.declared.requests.Request.{Request}
use Rattle.saga_drive.specs.declared.requests.Request.TheVariants as request
use Rattle.saga_drive.specs.declared.requests.RequestFault.{RequestFault}
use Rattle.saga_drive.specs.declared.requests.RequestFault.TheVariants.{TooLong, Form}
use Rattle.saga_drive.specs.declared.responses.Response.{Response}
use Rattle.saga_drive.specs.declared.responses.Response.TheVariants as response
use Rattle.saga_drive.specs.Answers.{Defines, Gains, IsAnswer, IsDone, IsReplied, IsResponse, KeepsShelf, LacksMemory, LogsReply}
use Rattle.saga_drive.specs.Replies.{fault_text, lines_of, memory_word, text_of, word_of_fault}
use Rattle.saga_drive.specs.Requests.{ReadsRequest, request_of_text}
use Rattle.saga_drive.proofs.LogLemmas.{answer_keeps}

-- ---- the shelf

gains_keep_shelf : (old new : Book) (reply : Reply) (gained : List Event) → Gains old new reply gained → KeepsShelf old new
gains_keep_shelf old new reply gained gains =
    gains.grows ∙ ap (λ (h : List Event). (let book : Book = record old { history = h } in book)) (sym (ap (λ (b : Book). b.history) gains.grows))

done_keeps_shelf : (old new : Book) (room : ℕ) (r : Request) (reply : Reply) → IsDone old new room r reply → KeepsShelf old new
done_keeps_shelf old new room (request.Open wanted saga) reply (inl met) = gains_keep_shelf old new reply met.0.gained met.0.gains
done_keeps_shelf old new room (request.Open wanted saga) reply (inr lacks) = gains_keep_shelf old new reply [] lacks.1
done_keeps_shelf old new room r reply met = gains_keep_shelf old new reply met.gained met.gains

replied_keeps_shelf : (old new : Book) (room : ℕ) (read : Result Request RequestFault) (reply : Reply) → IsReplied old new room read reply → KeepsShelf old new
replied_keeps_shelf old new room (Ok r) reply done = done_keeps_shelf old new room r reply done
replied_keeps_shelf old new room (Err fault) reply told = gains_keep_shelf old new reply [] told.0

pub answer_keeps_shelf : (old new : Book) (room : ℕ) (line : List ℕ) (reply : Reply) → IsAnswer old new room line reply → KeepsShelf old new
answer_keeps_shelf old new room line reply (inl (read, reads, replied)) = replied_keeps_shelf old new room read reply replied
answer_keeps_shelf old new room line reply (inr lacks) = gains_keep_shelf old new reply [] lacks.gains

same_shelf : (old new : Book) → new ≡ old → KeepsShelf old new
same_shelf old new same = subst (λ (b : Book). KeepsShelf old b) (sym same) (let eta : old ≡ record old { history = old.history } = refl in eta)

pub response_keeps_shelf : (old new : Book) (room : ℕ) (line : List ℕ) (r : Response) → IsResponse old new room line r → KeepsShelf old new
response_keeps_shelf old new room line (response.Reply reply) is = answer_keeps_shelf old new room line reply is.0
response_keeps_shelf old new room line (response.Define text) is = same_shelf old new is.0

-- ---- the log

pub response_logs : (old new : Book) (room : ℕ) (line : List ℕ) (r : Response) → IsResponse old new room line r → IsLegalBook new → LogsReply old new r
response_logs old new room line (response.Reply reply) is legal = answer_keeps old new room line reply is.0 legal
response_logs old new room line (response.Define text) is legal = λ l log. subst (λ (b : Book). IsBookLog b l) (sym is.0) log

-- ---- what is read

pub answers_done : (old new : Book) (room : ℕ) (line : List ℕ) (r : Request) (reply : Reply) → ReadsRequest line (Ok r)
    → IsDone old new room r reply ⊎ LacksMemory old new reply → IsAnswer old new room line reply
answers_done old new room line r reply reads (inl done) = inl (Ok r, reads, done)
answers_done old new room line r reply reads (inr lacks) = inr lacks

same_read : (r q : Request) (x : Result Request JsonFault) → x ≡ Ok r → x ≡ Ok q → r ≡ q
same_read r q x is also = let e : ◌≡◌ {A = Result Request JsonFault} (Ok r) (Ok q) = sym is ∙ also in cc

no_request : (r : Request) (fault : JsonFault) (x : Result Request JsonFault) → x ≡ Ok r → x ≡ Err fault → ⊥
no_request r fault x is also = absurd (let no : ◌≡◌ {A = Result Request JsonFault} (Ok r) (Err fault) = sym is ∙ also in cc)

abbrev IsForMemory : RequestFault → Type 0
IsForMemory fault = fault_text (word_of_fault fault) ≡ fault_text memory_word

form_for_memory : (fault : JsonFault) (x : Result Request JsonFault) (r : Request) → Fails fault x → x ≡ Ok r → IsForMemory (Form fault)
form_for_memory json.NotJson x r fails is = absurd (no_request r json.NotJson x is fails)
form_for_memory json.Kind x r fails is = absurd (no_request r json.Kind x is fails)
form_for_memory json.UnknownKey x r fails is = absurd (no_request r json.UnknownKey x is fails)
form_for_memory json.MissingKey x r fails is = absurd (no_request r json.MissingKey x is fails)
form_for_memory json.BadType x r fails is = absurd (no_request r json.BadType x is fails)
form_for_memory json.Kept x r fails is = absurd (no_request r json.Kept x is fails)
form_for_memory json.WrongLength x r fails is = absurd (no_request r json.WrongLength x is fails)
form_for_memory (json.Busy step) x r fails is = absurd (no_request r (json.Busy step) x is fails)
form_for_memory json.OutOfMemory x r fails is = refl

fault_for_memory : (line text : List ℕ) (fault : RequestFault) → ReadsRequest line (Err fault) → Defines line text → IsForMemory fault
fault_for_memory line text TooLong long defines = absurd (omega (arith, long, defines.0))
fault_for_memory line text (Form fault) reads defines = form_for_memory fault (request_of_text line) (request.Define text) reads.1 defines.1

-- a line that cannot be read, and asks for a definition only where memory lacks
pub response_to_fault : (old new : Book) (room : ℕ) (line : List ℕ) (fault : RequestFault) (reply : Reply) → ReadsRequest line (Err fault)
    → new ≡ old → lines_of reply ≡ [] → text_of reply ≡ fault_text (word_of_fault fault) → IsAnswer old new room line reply
    → IsResponse old new room line (response.Reply reply)
response_to_fault old new room line fault reply reads same silent text is = (is, λ definition defines. text ∙ fault_for_memory line definition fault reads defines)

-- a line that asks for something else
pub response_to_other : (old new : Book) (room : ℕ) (line : List ℕ) (r : Request) (reply : Reply) → ReadsRequest line (Ok r)
    → ((text : List ℕ) → r ≡ request.Define text → ⊥) → IsDone old new room r reply ⊎ LacksMemory old new reply
    → IsResponse old new room line (response.Reply reply)
response_to_other old new room line r reply reads other done = (
  answers_done old new room line r reply reads done,
  λ text defines. absurd (other text (same_read r (request.Define text) (request_of_text line) reads.1 defines.1)),
)
