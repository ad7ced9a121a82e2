-- The answer in a JSON value, and the value that is written for an answer. Both follow the tables of the format, with
-- one line for each key.
use Rattle.std.specs.Prelude.{ℕ, List, [], ◌∷◌, length, Option, Some, None, Result, Ok, Err, codes, if◌then◌else◌, map, ◌≡◌}
use Rattle.std.specs.Str.{bytes_eq}
use Rattle.serde_json.specs.Data.{Data, number, string, array, object, unsigned, no_members, member}
use Rattle.saga_case.specs.declared.answers.Plan.{Plan as PlanParts}
use Rattle.saga_case.specs.declared.answers.Answer.{Answer}
use Rattle.saga_case.specs.declared.answers.Answer.TheVariants.{Plan, Blocked}
use Rattle.saga_json.specs.declared.faults.JsonFault.{JsonFault}
use Rattle.saga_json.specs.declared.faults.JsonFault.TheVariants.{Kind}
use Rattle.saga_json.specs.Reads.{◌>>=◌}
use Rattle.saga_json.specs.Trees.{items_from}
use Rattle.saga_json.specs.Fields.{text_at, at_key, list_of_each, u16_of, u64_of}
use Rattle.saga_json.specs.Keys.{keys_fit}
use Rattle.saga_cert.specs.Kept.{kept_of, numbers_from}

-- ---- reading

-- the keys of a plan
abbrev pub plan_keys : List (List ℕ)
plan_keys = codes "kind" ∷ codes "cost" ∷ codes "kept" ∷ codes "leave" ∷ codes "stand" ∷ codes "links" ∷ []

-- the keys of a chain
abbrev pub chain_keys : List (List ℕ)
chain_keys = codes "kind" ∷ codes "chain" ∷ []

-- the values of a plan
unfoldable pub plan_parts_of : Data → Result PlanParts JsonFault
plan_parts_of value = do
  cost ← at_key u64_of (codes "cost") value
  numbers ← at_key (list_of_each u64_of) (codes "kept") value
  leave ← at_key (list_of_each u64_of) (codes "leave") value
  stand ← at_key (list_of_each u64_of) (codes "stand") value
  links ← at_key (list_of_each u64_of) (codes "links") value
  kept ← kept_of (length stand) numbers
  Ok (record { kept = kept; cost = cost; leave = leave; stand = stand; links = links })

unfoldable pub plan_of : Data → Result PlanParts JsonFault
plan_of value = do
  _ ← keys_fit plan_keys [] value
  plan_parts_of value

unfoldable pub chain_of : Data → Result (List ℕ) JsonFault
chain_of value = do
  _ ← keys_fit chain_keys [] value
  at_key (list_of_each u16_of) (codes "chain") value

-- the answer of a kind
abbrev pub answer_of_kind : Option (List ℕ) → Data → Result Answer JsonFault
answer_of_kind None value = Err Kind
answer_of_kind (Some kind) value =
    if bytes_eq kind (codes "plan") then (plan_of value >>= (λ plan. Ok (Plan plan)))
    else (if bytes_eq kind (codes "blocked") then (chain_of value >>= (λ chain. Ok (Blocked chain))) else Err Kind)

-- the answer in a value, or the first fault
abbrev pub answer_of : Data → Result Answer JsonFault
answer_of value = answer_of_kind (text_at (codes "kind") value) value

-- ---- writing

-- a list of numbers
abbrev pub numbers : List ℕ → Data
numbers ns = array (items_from (map (λ n. number (unsigned n)) ns))

-- the value of a plan, of a chain, and of an answer
abbrev pub plan_form : PlanParts → Data
plan_form plan =
    object (member (codes "cost") (number (unsigned plan.cost))
    (member (codes "kept") (numbers (numbers_from 0 plan.kept))
    (member (codes "kind") (string (codes "plan"))
    (member (codes "leave") (numbers plan.leave)
    (member (codes "links") (numbers plan.links)
    (member (codes "stand") (numbers plan.stand) no_members))))))

abbrev pub chain_form : List ℕ → Data
chain_form chain =
    object (member (codes "chain") (numbers chain)
    (member (codes "kind") (string (codes "blocked")) no_members))

abbrev pub answer_form : Answer → Data
answer_form (Plan plan) = plan_form plan
answer_form (Blocked chain) = chain_form chain

-- a plan has as many truth values as amounts of the flow to the sink
abbrev pub IsPaired : Answer → Type 0
IsPaired (Plan plan) = length plan.kept ≡ length plan.stand
IsPaired (Blocked chain) = Unit {0}
