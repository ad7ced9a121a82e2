-- A shelf that grows.
use Rattle.std.specs.Prelude.{◌≡◌, ◌≢◌, ◌⊎◌, ℕ, ◌<◌, ◌≤◌, List, [], ◌∷◌, ◌++◌, Ok, Err, codes, decimal, length}
use Rattle.saga_core.specs.Book.{Book}
use Rattle.saga_def.specs.Contents.{Contents}
use Rattle.saga_drive.specs.Replies.{fault_text, lines_of, memory_word, refusal_text, text_of}
use Rattle.saga_drive.specs.declared.replies.Reply.{Reply}
use Rattle.saga_text.specs.Faults.{word_of}
use Rattle.saga_text.specs.Reads.{Reads}
use Rattle.saga_text.specs.declared.faults.TextFault.{TextFault}
use Rattle.saga_text.specs.declared.faults.TextFault.TheVariants as cause
use Rattle.saga_texts.specs.Limits.{max_long_shelf}

-- ---- replies

-- the index of the definition
abbrev pub place_text : ℕ → List ℕ
place_text place = codes "{\"def\":" ++ decimal place ++ codes "}\n"

-- the index that the definition would have, and its first fault
abbrev pub place_fault_text : ℕ → List ℕ → List ℕ
place_fault_text place word = codes "{\"def\":" ++ decimal place ++ codes ",\"fault\":\"" ++ word ++ codes "\"}\n"

-- ---- the request

-- the shelf is not full, and the text holds this definition
pub record IsWelcome (book : Book) (text : List ℕ) (put : Contents) : Type 0 where
  pub few : length book.shelf < max_long_shelf
  pub reads : Reads text (Ok put)

-- the book with this definition appended to the shelf
abbrev pub longer : Book → Contents → Book
longer book put = record book { shelf = book.shelf ++ put ∷ [] }

-- the definition is appended, and the reply has its index
pub record IsPutBehind (old new : Book) (text : List ℕ) (reply : Reply) : Type 0 where
  pub put : Contents
  pub welcome : IsWelcome old text put
  pub grows : new ≡ longer old put
  pub silent : lines_of reply ≡ []
  pub text_is : text_of reply ≡ place_text (length old.shelf)

-- the shelf is full, and the reply says so
abbrev pub IsFull : Book → List ℕ → Type 0
IsFull book said = (max_long_shelf ≤ length book.shelf) × (said ≡ refusal_text (codes "full"))

-- the text does not hold a definition, and the reply has its first fault
pub record IsFaulty (book : Book) (text said : List ℕ) : Type 0 where
  pub few : length book.shelf < max_long_shelf
  pub why : TextFault
  pub fault : Reads text (Err why)
  pub real : why ≢ cause.OutOfMemory
  pub said_is : said ≡ place_fault_text (length book.shelf) (word_of why)

-- the reply that says why a definition is not added: the shelf is full, the text has a fault, or memory ran out
abbrev pub IsUnwelcome : Book → List ℕ → List ℕ → Type 0
IsUnwelcome book text said = IsFull book said ⊎ IsFaulty book text said ⊎ (said ≡ fault_text memory_word)

-- the book is unchanged, and the reply says why
pub record IsLeft (old new : Book) (text : List ℕ) (reply : Reply) : Type 0 where
  pub same : new ≡ old
  pub silent : lines_of reply ≡ []
  pub why : IsUnwelcome old text (text_of reply)

-- the definition of a text is appended to the shelf, or the reply says why not
abbrev pub IsPut : Book → Book → List ℕ → Reply → Type 0
IsPut old new text reply = IsPutBehind old new text reply ⊎ IsLeft old new text reply
