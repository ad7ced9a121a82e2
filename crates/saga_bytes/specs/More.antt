-- One read.
use Rattle.std.specs.Prelude.{ℕ, List, Bool, true, false, Option, ◌≡◌, ◌≤◌, ◌<◌, ◌++◌, length}
use Rattle.std.specs.Io.KnownBytes.{Consumes, IsAtEnd}

-- bytes from the reader are appended, at most `most`; none only at the end of the input
pub record ReadsMore (before after : Option (List ℕ)) (old new : List ℕ) (most : ℕ) (more : Bool) : Type 0 where
  pub added : List ℕ
  pub is : new ≡ old ++ added
  pub few : length added ≤ most
  pub consumed : Consumes before after added
  pub some : more ≡ true → 0 < length added
  pub none : more ≡ false → IsAtEnd after
