-- What is given of an output that is as it should be.
use Rattle.std.proofs.Common.{ℕ, List, inl, inr}
use Rattle.std.specs.Prelude.{Result, Ok, Err, IfOk}
use Rattle.std.specs.declared.alloc.AllocError.{AllocError}
use Rattle.saga_texts.specs.declared.outputs.Output.{Output}
use Rattle.saga_c.specs.Given.{GivesBy, IsGiven}

pub given : (Is : Output → Type 0) (output : Result Output AllocError) (old new : List ℕ) (used status : ℕ) → IfOk output Is → GivesBy output old new used status → IsGiven Is old new used status
given Is (Ok output) old new used status is gives = inl (record {
  output = output;
  is = is;
  gives = gives;
})
given Is (Err error) old new used status is gives = inr gives
