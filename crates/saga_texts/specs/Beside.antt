-- The file of the definitions of a log, which is stored next to the log.
use Rattle.std.specs.Prelude.{ℕ, List, ◌++◌, codes, decimal, length, take, slice_get, flat_map, ◌≡◌, ◌≢◌, ◌<◌}
use Rattle.saga_texts.specs.Lines.{line_feed}

-- the line before a definition of this length
abbrev pub head_line : ℕ → List ℕ
head_line count = codes "definition of " ++ decimal count ++ codes " " ++ codes "bytes" ++ line_feed

-- a definition with the line before it, and a line feed after it
abbrev pub framed : List ℕ → List ℕ
framed text = head_line (length text) ++ text ++ line_feed

-- the file of definitions, which has each of them byte for byte, in order
abbrev pub definitions_file : List (List ℕ) → List ℕ
definitions_file texts = flat_map framed texts

-- the file has exactly these definitions, and at least one
pub record HoldsDefinitions (file : List ℕ) (texts : List (List ℕ)) : Type 0 where
  pub some : 0 < length texts
  pub file_is : file ≡ definitions_file texts

-- the file has no definitions, or other content
abbrev pub HoldsNone : List ℕ → Type 0
HoldsNone file = (texts : List (List ℕ)) → HoldsDefinitions file texts → ⊥

-- the first index at which the given definitions differ from the stored ones: the texts differ, or only one of the
-- lists has this index
pub record IsFirstOther (stored given : List (List ℕ)) (place : ℕ) : Type 0 where
  pub before : take place stored ≡ take place given
  pub other : slice_get stored place ≢ slice_get given place
