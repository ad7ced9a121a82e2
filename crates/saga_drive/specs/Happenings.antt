-- The reply for an event, which has the phase of its saga.
use Rattle.std.specs.Prelude.{◌≡◌, ◌++◌, ℕ, List, codes}
use Rattle.saga_history.specs.declared.tasks.Phase.{Phase}
use Rattle.saga_core.specs.Book.{Book}
use Rattle.saga_core.specs.Tasks.{StandsAt}
use Rattle.saga_drive.specs.declared.replies.Reply.{Reply}
use Rattle.saga_history.specs.Tasks.{phase_word}
use Rattle.saga_drive.specs.Replies.{text_of}

-- the text ends with the word for the phase of the saga
abbrev pub IsHeld : Book → ℕ → List ℕ → Reply → Type 0
IsHeld book i front reply = (phase : Phase) × StandsAt book i phase
    × (text_of reply ≡ front ++ (phase_word phase ++ codes "\"}\n"))
