-- Laws of the faults of a definition, for all contents.
use Rattle.std.specs.Prelude.{ℕ, List, length, AllPairs, ◌≡◌, ◌≢◌, ◌≤◌}
use Rattle.saga_def.specs.Contents.{Contents}
use Rattle.saga_def.specs.Faults.{IsFirstFault, word_of}
use Rattle.saga_def.specs.Order.{IsCycle}
use Rattle.saga_def.specs.Rules.{HasKnownNeeds}
use Rattle.saga_def.specs.Sound.{IsSound}
use Rattle.saga_def.specs.declared.faults.DefFault.{DefFault}
use Rattle.saga_def.specs.declared.faults.DefFault.TheVariants.{OutOfMemory}

-- except for lack of memory, at most one fault is the first that applies; a fault may name one of several cycles
abbrev pub HasOneFault : Contents → Type 0
HasOneFault c =
    (e f : DefFault) → e ≢ OutOfMemory → f ≢ OutOfMemory → IsFirstFault c e → IsFirstFault c f → word_of e ≡ word_of f

-- sound contents have no fault except for lack of memory
abbrev pub HasNoFault : Contents → Type 0
HasNoFault c = IsSound c → (f : DefFault) → IsFirstFault c f → f ≡ OutOfMemory

-- a cycle has no step twice
abbrev pub CyclesRepeatNone : Contents → Type 0
CyclesRepeatNone c = (steps : List ℕ) → IsCycle c.needs steps → AllPairs (λ (a b : ℕ). a ≢ b) steps

-- so a cycle has at most as many steps as the definition
abbrev pub CyclesAreShort : Contents → Type 0
CyclesAreShort c = HasKnownNeeds c → (steps : List ℕ) → IsCycle c.needs steps → length steps ≤ length c.steps
