-- The map from names to numbers.
use Rattle.std.specs.Prelude.{ℕ, List, Option, unwrap_or}
use Rattle.std.specs.Borrow.{Bor}
use Rattle.std.specs.Str.{bytes_eq}
use Rattle.indexmap.specs.IndexMap.{IndexMap, get_by}

-- the value of the map at a text
abbrev pub at_text : {S : Type 0} → IndexMap (Bor (List ℕ)) ℕ S → List ℕ → Option ℕ
at_text numbers name = get_by (λ key. bytes_eq name key.now) numbers

-- the number of a name, or the number of steps if the map does not have the name
abbrev pub number_in : {S : Type 0} → IndexMap (Bor (List ℕ)) ℕ S → ℕ → List ℕ → ℕ
number_in numbers count name = unwrap_or (at_text numbers name) count
