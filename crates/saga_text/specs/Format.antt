-- The definition in a tree, as the table of the format specifies it, with one line for each key.
use Rattle.std.specs.Prelude.{ℕ, ◌+◌, List, [], ◌∷◌, ◌++◌, Bool, true, not, ◌&&◌, ◌||◌, ◌==◌, Option, Some, Result, Ok, Err, pos, codes, if◌then◌else◌, map}
use Rattle.std.specs.List.{list_all, position_or_len}
use Rattle.std.specs.Result.{result_unwrap_or}
use Rattle.std.specs.Str.{bytes_eq}
use Rattle.toml.specs.Data.{Data, integer, table, Members, get_member}
use Rattle.saga_def.specs.Contents.{Contents, contents}
use Rattle.saga_def.specs.declared.steps.Step.{Step}
use Rattle.saga_def.specs.declared.steps.Need.{Need}
use Rattle.saga_text.specs.declared.faults.TextFault.{TextFault}
use Rattle.saga_text.specs.declared.faults.TextFault.TheVariants.{BadFormat, UnknownKey, MissingKey, BadType}
use Rattle.saga_text.specs.declared.keys.Format.{Format}
use Rattle.saga_text.specs.declared.keys.Format.TheVariants.{First, Second}
use Rattle.saga_bytes.specs.Readings.{◌>>=◌, each}
use Rattle.saga_text.specs.Trees.{keys_of}
use Rattle.saga_text.specs.Kinds.{has_key, name_at, price_at, count_at, list_at, texts_at}

-- `format`: the integer 1 or 2
abbrev pub format_in : Option Data → Result Format TextFault
format_in (Some (integer (pos number))) =
    if number == 1 then Ok First else (if number == 2 then Ok Second else Err BadFormat)
format_in _ = Err BadFormat

abbrev pub format_of : Members → Result Format TextFault
format_of top = format_in (get_member (codes "format") top)

-- the keys at the top
abbrev pub is_top_key : List ℕ → Bool
is_top_key key = bytes_eq key (codes "format") || bytes_eq key (codes "name") || bytes_eq key (codes "step")

-- the keys of a step that both formats have
abbrev pub is_plain_step_key : List ℕ → Bool
is_plain_step_key key =
    bytes_eq key (codes "name") || bytes_eq key (codes "needs") || bytes_eq key (codes "run")
    || bytes_eq key (codes "undo") || bytes_eq key (codes "skip") || bytes_eq key (codes "keep")

-- the keys of a step, in each format
abbrev pub is_step_key : Format → List ℕ → Bool
is_step_key First key = is_plain_step_key key
is_step_key Second key =
    is_plain_step_key key || bytes_eq key (codes "tries") || bytes_eq key (codes "undo_tries")

-- a test of tables; a value that is not a table passes
abbrev pub passes : (Members → Bool) → Data → Bool
passes test (table members) = test members
passes test _ = true

-- all keys of a table are keys of a step
abbrev pub has_step_keys : Format → Members → Bool
has_step_keys format step = list_all (is_step_key format) (keys_of step)

-- the items of the list `step`, or none if `step` is not a list
abbrev pub step_items : Members → List Data
step_items top = result_unwrap_or (list_at (codes "step") top) []

-- each key at the top, and of each table of the list `step`, is one of the format's
unfoldable pub has_known_keys : Format → Members → Bool
has_known_keys format top =
    list_all is_top_key (keys_of top)
    && list_all (passes (has_step_keys format)) (step_items top)

-- a name is present at the top, and in each table of the list `step`
unfoldable pub has_names : Members → Bool
has_names top =
    has_key (codes "name") top && list_all (passes (has_key (codes "name"))) (step_items top)

-- a step
abbrev pub step_of : Data → Result Step TextFault
step_of (table members) = do
  name ← name_at (codes "name") members
  run ← price_at (codes "run") members
  undo ← price_at (codes "undo") members
  skip ← price_at (codes "skip") members
  keep ← price_at (codes "keep") members
  tries ← count_at (codes "tries") members
  undo_tries ← count_at (codes "undo_tries") members
  Ok (record { name = name; run = run; undo = undo; skip = skip; keep = keep; tries = tries; undo_tries = undo_tries })
step_of _ = Err BadType

-- the names of the steps that a step needs
abbrev pub needs_of : Data → Result (List (List ℕ)) TextFault
needs_of (table members) = texts_at (codes "needs") members
needs_of _ = Err BadType

-- a definition as it is written: each step with the names of the steps that it needs
pub record Written : Type 0 where
  pub name : List ℕ
  pub steps : List Step
  pub needs : List (List (List ℕ))

-- the draft, by the kinds of all values
unfoldable pub kinds_of : Members → Result Written TextFault
kinds_of top = do
  name ← name_at (codes "name") top
  items ← list_at (codes "step") top
  steps ← each step_of items
  needs ← each needs_of items
  Ok (record { name = name; steps = steps; needs = needs })

-- the same, if the keys are known and the names are present
abbrev pub checked_of : Format → Members → Result Written TextFault
checked_of format top =
    if not (has_known_keys format top) then Err UnknownKey
    else (if not (has_names top) then Err MissingKey else kinds_of top)

-- the draft of a file, or the first fault
abbrev pub written_of : Members → Result Written TextFault
written_of top = do
  format ← format_of top
  checked_of format top

-- the number of a name: that of the first step with this name, or the number of steps if there is none
abbrev pub number_of : List Step → List ℕ → ℕ
number_of steps name = position_or_len (λ (step : Step). bytes_eq name step.name) steps

-- the needs of steps numbered from `first` on, in the order of the steps and then in the order of the file
abbrev pub numbered : (List ℕ → ℕ) → ℕ → List (List (List ℕ)) → List Need
numbered number first [] = []
numbered number first (names ∷ rest) =
    map (λ name. record { step = first; on = number name }) names ++ numbered number (first + 1) rest

-- the definition of a draft
abbrev pub contents_from : Written → Contents
contents_from written = contents written.name written.steps (numbered (number_of written.steps) 0 written.needs)

-- the definition in a tree, or the first fault
abbrev pub contents_of : Members → Result Contents TextFault
contents_of top = do
  written ← written_of top
  Ok (contents_from written)
