-- The definitions of several texts, one text further.
use Rattle.std.proofs.Common.{◌≡◌, ℕ, ◌<◌, List, length, map, take, get_or}
use Rattle.std.specs.Prelude.{Err}
use Rattle.std.specs.Borrow.{Bor}
use Rattle.saga_def.specs.Contents.{Contents}
use Rattle.saga_text.specs.declared.faults.TextFault.{TextFault}
use Rattle.saga_text.specs.declared.faults.TextFault.TheVariants.{TooLong, NotToml, BadFormat, UnknownKey, MissingKey, BadType, Def, OutOfMemory}
use Rattle.saga_text.specs.Reads.{Reads}
use Rattle.saga_texts.specs.Shelves.{AreDefinitions, IsFirstFaulty, IsShelfFault, at_place}
use Rattle.saga_texts.proofs.ListLemmas.{text_here}

abbrev now_of : List (Bor (List ℕ)) → List (List ℕ)
now_of = map (λ s. s.now)

-- a fault that is none of memory
first : (texts : List (Bor (List ℕ))) (i : ℕ) (d : Bor (List ℕ)) (why : TextFault) (shelf : List Contents) → i < length texts
    → AreDefinitions (take i (now_of texts)) shelf → Reads (get_or texts i d).now (Err why) → (why ≡ OutOfMemory → ⊥)
    → IsFirstFaulty (now_of texts) i why
first texts i d why shelf lt before fault real = record {
  text = (get_or texts i d).now;
  here = text_here texts i d lt;
  fault = fault;
  real = real;
  shelf = shelf;
  before = before;
}

-- the fault of the first text that holds no definition
pub first_faulty : (texts : List (Bor (List ℕ))) (i : ℕ) (d : Bor (List ℕ)) (why : TextFault) (shelf : List Contents) → i < length texts
    → AreDefinitions (take i (now_of texts)) shelf → Reads (get_or texts i d).now (Err why) → IsShelfFault (now_of texts) (at_place i why)
first_faulty texts i d OutOfMemory shelf lt before fault = tt
first_faulty texts i d why shelf lt before fault = first texts i d why shelf lt before fault (λ e. cc)
