-- The commands of the program for texts.
use Rattle.std.specs.Prelude.{ℕ, List, Ok}
use Rattle.saga_texts.specs.declared.conclusions.Conclusion.{Conclusion}
use Rattle.saga_texts.specs.declared.outputs.Output.{Output}
use Rattle.saga_texts.specs.declared.conclusions.Conclusion.TheVariants.{Planned}
use Rattle.serde_json.specs.Written.{compact_text}
use Rattle.saga_cert.specs.Answers.{answer_form}
use Rattle.saga_cert.specs.Reads.{ReadsAnswer}
use Rattle.saga_texts.specs.Conclusions.{ComesTo, ChecksTo, PlansTo, DrawsWith}
use Rattle.saga_texts.specs.Outputs.{Shows}

-- the output is that for the result of a check of the three texts
pub record IsCheckOutput (definition case answer : List ℕ) (output : Output) : Type 0 where
  pub conclusion : Conclusion
  pub comes : ComesTo (ChecksTo answer) definition case conclusion
  pub shows : Shows conclusion output

-- the printed text of an answer is read back as that answer
abbrev pub IsReadBack : Conclusion → Type 0
IsReadBack (Planned a) = ReadsAnswer (compact_text (answer_form a)) (Ok a)
IsReadBack conclusion = Unit {0}

-- the output is that for the result of a plan for the case of two texts
pub record IsPlanOutput (definition case : List ℕ) (output : Output) : Type 0 where
  pub conclusion : Conclusion
  pub comes : ComesTo PlansTo definition case conclusion
  pub shows : Shows conclusion output
  pub read_back : IsReadBack conclusion

-- the output is that for the result of a drawing of a definition with these additional texts
pub record IsDrawOutput (beside : List (List ℕ)) (definition : List ℕ) (output : Output) : Type 0 where
  pub conclusion : Conclusion
  pub comes : DrawsWith beside definition conclusion
  pub shows : Shows conclusion output
