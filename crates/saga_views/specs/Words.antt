-- Words and lists of texts.
use Rattle.std.specs.Prelude.{ℕ, List, Bool, true, false, codes}
use Rattle.std.specs.List.{join_by}
use Rattle.saga_history.specs.declared.tasks.Kind.{Kind}
use Rattle.saga_history.specs.declared.tasks.Kind.TheVariants as kind

abbrev pub truth_text : Bool → List ℕ
truth_text true = codes "true"
truth_text false = codes "false"

abbrev pub kind_word : Kind → List ℕ
kind_word kind.Run = codes "run"
kind_word kind.Undo = codes "undo"

-- texts, with a separator between them
abbrev pub listed : List ℕ → List (List ℕ) → List ℕ
listed between texts = join_by (λ t. t) between texts
