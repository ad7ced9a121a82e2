-- Which faults a tree has, and what they make of a whole reading.
use Rattle.std.proofs.Common.{◌≡◌, ℕ, ◌≤◌, List, length, Option, Some, None, Result, Ok, Err, IfOk, IfErr, pos, not, ◌==◌, codes}
use Rattle.std.specs.Str.{bytes_eq}
use Rattle.toml.specs.Data.{Data, string, integer, array, table, Members, get_member}
use Rattle.saga_def.specs.Contents.{Contents}
use Rattle.saga_def.specs.Sound.{IsSound}
use Rattle.saga_def.specs.declared.steps.Price.{Price}
use Rattle.saga_def.specs.declared.steps.Price.TheVariants.{Never}
use Rattle.saga_def.specs.declared.faults.DefFault.TheVariants.{OutOfMemory as NoMemory}
use Rattle.saga_text.specs.declared.faults.TextFault.{TextFault}
use Rattle.saga_text.specs.declared.faults.TextFault.TheVariants.{TooLong, NotToml, BadFormat, UnknownKey, MissingKey, BadType, Def, OutOfMemory}
use Rattle.saga_text.specs.declared.keys.Format.{Format}
use Rattle.saga_text.specs.declared.keys.Format.TheVariants.{First, Second}
use Rattle.saga_text.specs.declared.limits.TheConstants.{MAX_DEFINITION}
use Rattle.saga_bytes.specs.Readings.{each}
use Rattle.saga_bytes.proofs.ReadingLemmas.{Stays, then, each-stays, either}
use Rattle.saga_text.specs.Trees.{IsTextOf}
use Rattle.saga_text.specs.Kinds.{text_of, name_in, price_in, count_in, items_of, list_in, name_at, price_at, count_at, list_at}
use Rattle.saga_text.specs.Format.{Written, format_in, format_of, has_known_keys, has_names, step_of, needs_of, kinds_of, checked_of, written_of}
use Rattle.saga_text.specs.Reads.{Fails, Holds, Reads, IsFirstCarried}

-- a fault of a tree, and not of its text or of a definition
abbrev OfTree : TextFault → Type 0
OfTree BadFormat = Unit {0}
OfTree UnknownKey = Unit {0}
OfTree MissingKey = Unit {0}
OfTree BadType = Unit {0}
OfTree _ = ⊥

-- the reading has no other fault
abbrev StaysInTree : {A : Type 0} → Result A TextFault → Type 0
StaysInTree = Stays OfTree

text_of-stays : (value : Data) → StaysInTree (text_of value)
text_of-stays (string text) = tt {0}
text_of-stays _ = tt {0}

name_in-stays : (value : Option Data) → StaysInTree (name_in value)
name_in-stays None = tt {0}
name_in-stays (Some value) = text_of-stays value

price_in-stays : (value : Option Data) → StaysInTree (price_in value)
price_in-stays (Some (integer (pos n))) = tt {0}
price_in-stays (Some (string text)) = either {A = Price} OfTree (bytes_eq text (codes "never")) (Ok Never) (Err BadType) (tt {0}) (tt {0})
price_in-stays _ = tt {0}

count_in-stays : (value : Option Data) → StaysInTree (count_in value)
count_in-stays (Some (integer (pos n))) = tt {0}
count_in-stays _ = tt {0}

items_of-stays : (value : Data) → StaysInTree (items_of value)
items_of-stays (array items) = tt {0}
items_of-stays _ = tt {0}

list_in-stays : (value : Option Data) → StaysInTree (list_in value)
list_in-stays None = tt {0}
list_in-stays (Some value) = items_of-stays value

format_in-stays : (value : Option Data) → StaysInTree (format_in value)
format_in-stays (Some (integer (pos n))) =
    either {A = Format} OfTree (n == 1) (Ok First) _ (tt {0})
    (either {A = Format} OfTree (n == 2) (Ok Second) (Err BadFormat) (tt {0}) (tt {0}))
format_in-stays _ = tt {0}

step_of-stays : (value : Data) → StaysInTree (step_of value)
step_of-stays (table entries) =
    then OfTree (name_at (codes "name") entries) _ (name_in-stays (get_member (codes "name") entries)) (λ name.
    then OfTree (price_at (codes "run") entries) _ (price_in-stays (get_member (codes "run") entries)) (λ run.
    then OfTree (price_at (codes "undo") entries) _ (price_in-stays (get_member (codes "undo") entries)) (λ undo.
    then OfTree (price_at (codes "skip") entries) _ (price_in-stays (get_member (codes "skip") entries)) (λ skip.
    then OfTree (price_at (codes "keep") entries) _ (price_in-stays (get_member (codes "keep") entries)) (λ keep.
    then OfTree (count_at (codes "tries") entries) _ (count_in-stays (get_member (codes "tries") entries)) (λ tries.
    then OfTree (count_at (codes "undo_tries") entries) _ (count_in-stays (get_member (codes "undo_tries") entries)) (λ undo_tries. tt {0})))))))
step_of-stays _ = tt {0}

needs_of-stays : (value : Data) → StaysInTree (needs_of value)
needs_of-stays (table entries) =
    then OfTree (list_at (codes "needs") entries) _ (list_in-stays (get_member (codes "needs") entries)) (λ items. each-stays OfTree text_of items text_of-stays)
needs_of-stays _ = tt {0}

kinds_of-stays : (top : Members) → StaysInTree (kinds_of top)
unfolding kinds_of
kinds_of-stays top =
    then OfTree (name_at (codes "name") top) _ (name_in-stays (get_member (codes "name") top)) (λ name.
    then OfTree (list_at (codes "step") top) _ (list_in-stays (get_member (codes "step") top)) (λ items.
    then OfTree (each step_of items) _ (each-stays OfTree step_of items step_of-stays) (λ steps.
    then OfTree (each needs_of items) _ (each-stays OfTree needs_of items needs_of-stays) (λ needs. tt {0}))))

checked_of-stays : (format : Format) (top : Members) → StaysInTree (checked_of format top)
checked_of-stays format top =
    either {A = Written} OfTree (not (has_known_keys format top)) (Err UnknownKey) _ (tt {0})
    (either {A = Written} OfTree (not (has_names top)) (Err MissingKey) (kinds_of top) (tt {0}) (kinds_of-stays top))

-- what is written has the faults of a tree alone
written_of-stays : (top : Members) → StaysInTree (written_of top)
written_of-stays top = then OfTree (format_of top) _ (format_in-stays (get_member (codes "format") top)) (λ format. checked_of-stays format top)

-- a fault of what is written is the file's
pub reads_fault : (text : List ℕ) (top : Members) (fault : TextFault) → length text ≤ MAX_DEFINITION → IsTextOf top text → Fails fault (written_of top) → Reads text (Err fault)
reads_fault text top OutOfMemory short is fails = tt {0}
reads_fault text top TooLong short is fails = absurd (rw fails at (written_of-stays top))
reads_fault text top NotToml short is fails = absurd (rw fails at (written_of-stays top))
reads_fault text top (Def fault) short is fails = absurd (rw fails at (written_of-stays top))
reads_fault text top fault short is fails = (short, (top, is, rw fails))

-- the first fault of a definition that the text holds is the file's
carried : (text : List ℕ) (c : Contents) (fault : TextFault) → Holds text (Ok c) → IsFirstCarried c fault → Reads text (Err fault)
carried text c OutOfMemory held first = tt {0}
carried text c (Def NoMemory) held first = absurd first
carried text c (Def fault) held first = (c, held, first)
carried text c fault held first = absurd first

-- a definition built of what the text holds is the file's
pub reads_built : (text : List ℕ) (c : Contents) (built : Result Contents TextFault) → Holds text (Ok c) → IfOk built (λ d. (d ≡ c) × IsSound d) → IfErr built (IsFirstCarried c) → Reads text built
reads_built text c (Ok d) held same fault = (rw same.0 held, same.1)
reads_built text c (Err fault) held same first = carried text c fault held first
