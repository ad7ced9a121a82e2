-- How a session answers.
use Rattle.std.proofs.Common.{◌≡◌, List, ℕ, inl, subst, sym}
use Rattle.std.specs.Prelude.{None}
use Rattle.saga_drive.specs.declared.replies.Reply.{Reply}
use Rattle.saga_core.specs.Book.{Book}
use Rattle.saga_c.specs.Sessions.{Answers, IsAnswered, IsPut}
use Rattle.saga_c.specs.declared.filling.Told.{Told}
use Rattle.saga_c.specs.declared.sessions.Session.{Session}

-- a request that was answered by the book, whose reply was given or kept
pub run : (old mid new : Session) (request before after : List ℕ) (reply : Reply) (told : Told) → old.kept ≡ None → Answers old mid request reply
    → IsPut reply new.kept before after told → new.book ≡ mid.book → new.room ≡ mid.room → IsAnswered old new request before after told
run old mid new request before after reply told free a put book room = inl (record {
  free = free;
  reply = reply;
  answers = subst (λ (s : Book × ℕ). Answers old (record new { book = s.0; room = s.1 }) request reply) (λ i. (sym book i, sym room i)) a';
  put = put;
})
  where
    a' : Answers old (record new { book = mid.book; room = mid.room }) request reply
    a' = record { answer = a.answer; log = a.log; keeps = a.keeps; room = a.room }
