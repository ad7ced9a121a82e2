-- The states in a JSON value, and the value that is written for a case.
use Rattle.std.specs.Prelude.{ℕ, List, [], ◌∷◌, Bool, true, false, Option, Some, None, Result, Ok, Err, codes, if◌then◌else◌, map}
use Rattle.std.specs.Str.{bytes_eq}
use Rattle.serde_json.specs.Data.{Data, boolean, string, array, object, no_members, member, Members}
use Rattle.serde_json.specs.Find.{get}
use Rattle.saga_case.specs.States.{word_of}
use Rattle.saga_case.specs.declared.states.StepState.{StepState}
use Rattle.saga_case.specs.declared.states.StepState.TheVariants.{Waiting, Running, Committed, Void, Failed, Undoing, Undone, Fixed}
use Rattle.saga_case.specs.Situation.{Situation}
use Rattle.saga_json.specs.declared.faults.JsonFault.{JsonFault}
use Rattle.saga_json.specs.declared.faults.JsonFault.TheVariants.{Kind, BadType}
use Rattle.saga_json.specs.Reads.{◌>>=◌}
use Rattle.saga_json.specs.Trees.{items_from, is_object}
use Rattle.saga_json.specs.Fields.{at_key, list_of_each}
use Rattle.saga_json.specs.Keys.{keys_fit}

-- ---- reading

-- the state of a word
abbrev pub state_named : List ℕ → Result StepState JsonFault
state_named word =
    if bytes_eq word (codes "waiting") then Ok Waiting
    else (if bytes_eq word (codes "running") then Ok Running
    else (if bytes_eq word (codes "committed") then Ok Committed
    else (if bytes_eq word (codes "void") then Ok Void
    else (if bytes_eq word (codes "failed") then Ok Failed
    else (if bytes_eq word (codes "undoing") then Ok Undoing
    else (if bytes_eq word (codes "undone") then Ok Undone
    else (if bytes_eq word (codes "fixed") then Ok Fixed else Err BadType)))))))

abbrev pub state_of : Data → Result StepState JsonFault
state_of (string word) = state_named word
state_of _ = Err BadType

-- a truth value; false if missing
abbrev pub flag_in : Option Data → Result Bool JsonFault
flag_in None = Ok false
flag_in (Some (boolean flag)) = Ok flag
flag_in _ = Err BadType

-- the states of a case, and whether the saga was aborted
pub record Written : Type 0 where
  pub states : List StepState
  pub aborted : Bool

unfoldable pub case_parts_of : Data → Result Written JsonFault
case_parts_of value = do
  _ ← keys_fit (codes "states" ∷ []) (codes "aborted" ∷ []) value
  states ← at_key (list_of_each state_of) (codes "states") value
  aborted ← flag_in (get (codes "aborted") value)
  Ok (record { states = states; aborted = aborted })

-- the contents of a value, or the first fault
abbrev pub written_of : Data → Result Written JsonFault
written_of value = if is_object value then case_parts_of value else Err Kind

-- ---- writing

abbrev pub states_member : List StepState → Members
states_member states =
    member (codes "states") (array (items_from (map (λ state. string (word_of state)) states))) no_members

-- the value of a case: `aborted` is written only if it is true
abbrev pub case_form : Situation → Data
case_form c =
    object (if c.aborted then member (codes "aborted") (boolean true) (states_member c.states) else states_member c.states)
