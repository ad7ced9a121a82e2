-- The relation between a result and its output.
use Rattle.std.specs.Prelude.{ℕ, List, Ok, ◌≡◌}
use Rattle.std.specs.String.{string_bytes}
use Rattle.serde_json.specs.Written.{compact_text}
use Rattle.saga_cert.specs.Answers.{answer_form, IsPaired}
use Rattle.saga_cert.specs.Reads.{ReadsAnswer}
use Rattle.saga_texts.specs.declared.conclusions.Conclusion.{Conclusion}
use Rattle.saga_texts.specs.declared.conclusions.Conclusion.TheVariants.{Planned}
use Rattle.saga_texts.specs.declared.outputs.Output.{Output}
use Rattle.saga_texts.specs.Lines.{out_of, err_of, status_of}

pub record Shows (conclusion : Conclusion) (output : Output) : Type 0 where
  pub out : string_bytes output.out ≡ out_of conclusion
  pub err : string_bytes output.err ≡ err_of conclusion
  pub status : output.status ≡ status_of conclusion

-- the printed text of an answer is read back as that answer, if its flow has as many marks as numbers
abbrev pub ReadsBack : Conclusion → Type 0
ReadsBack (Planned a) = IsPaired a → ReadsAnswer (compact_text (answer_form a)) (Ok a)
ReadsBack conclusion = Unit {0}

-- these texts on standard output and standard error, and this exit status
pub record IsOutputWith (out err : List ℕ) (status : ℕ) (output : Output) : Type 0 where
  pub out_is : string_bytes output.out ≡ out
  pub err_is : string_bytes output.err ≡ err
  pub status_is : output.status ≡ status
