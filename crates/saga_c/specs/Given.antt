-- The results that C gets.
use Rattle.std.specs.Prelude.{ℕ, List, ◌≡◌, ◌≤◌, ◌<◌, ◌++◌, ◌⊎◌, length, drop, Result, Ok, Err, nat_eq, if◌then◌else◌}
use Rattle.std.specs.String.{string_bytes}
use Rattle.std.specs.declared.alloc.AllocError.{AllocError}
use Rattle.saga_texts.specs.declared.outputs.Output.{Output}

-- the standard output of an output, or its message
abbrev pub text_of : Output → List ℕ
text_of output = if nat_eq output.status 3 then string_bytes output.err else string_bytes output.out

-- the text fits; it is at the start of the buffer, and the rest of the buffer is unchanged
pub record Fits (output : Output) (old new : List ℕ) (status : ℕ) : Type 0 where
  pub enough : length (text_of output) ≤ length old
  pub put : new ≡ text_of output ++ drop (length (text_of output)) old
  pub says : status ≡ output.status

pub record Lacks (output : Output) (old new : List ℕ) (status : ℕ) : Type 0 where
  pub small : length old < length (text_of output)
  pub same : new ≡ old
  pub says : status ≡ 5

pub record Gives (output : Output) (old new : List ℕ) (used status : ℕ) : Type 0 where
  pub used_is : used ≡ length (text_of output)
  pub given : Fits output old new status ⊎ Lacks output old new status

pub record IsRefused (old new : List ℕ) (used status : ℕ) : Type 0 where
  pub same : new ≡ old
  pub nothing : used ≡ 0
  pub says : status ≡ 4

abbrev pub GivesBy : Result Output AllocError → List ℕ → List ℕ → ℕ → ℕ → Type 0
GivesBy (Ok output) old new used status = Gives output old new used status
GivesBy (Err error) old new used status = IsRefused old new used status

pub record IsAnswered (Is : Output → Type 0) (old new : List ℕ) (used status : ℕ) : Type 0 where
  pub output : Output
  pub is : Is output
  pub gives : Gives output old new used status

abbrev pub IsGiven : (Output → Type 0) → List ℕ → List ℕ → ℕ → ℕ → Type 0
IsGiven Is old new used status = IsAnswered Is old new used status ⊎ IsRefused old new used status

-- the text is at the start of the buffer, and the status is 0; or the buffer is too small and unchanged, and the status
-- is 5
abbrev pub Shows : List ℕ → List ℕ → List ℕ → ℕ → Type 0
Shows text old new status =
    ((length text ≤ length old) × (new ≡ text ++ drop (length text) old) × (status ≡ 0)) ⊎ ((length old < length text) × (new ≡ old) × (status ≡ 5))
