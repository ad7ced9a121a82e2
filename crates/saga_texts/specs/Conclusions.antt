-- The result of a question about the case of two texts.
use Rattle.std.specs.Prelude.{ℕ, List, [], ◌∷◌, Option, Some, None, option_map, length, Ok, Err, ◌≡◌, ◌≢◌, ◌<◌, ◌≤◌}
use Rattle.std.specs.String.{string_bytes}
use Rattle.saga_def.specs.Contents.{Contents}
use Rattle.saga_def.specs.Order.{member}
use Rattle.saga_def.specs.declared.steps.Price.TheVariants as price
use Rattle.saga_text.specs.declared.faults.TextFault.TheVariants as text
use Rattle.saga_text.specs.Reads.{Reads}
use Rattle.saga_case.specs.Situation.{Situation}
use Rattle.saga_case.specs.declared.answers.Plan.{Plan}
use Rattle.saga_case.specs.declared.answers.Answer.{Answer}
use Rattle.saga_case.specs.declared.answers.Answer.TheVariants as answer
use Rattle.saga_case.specs.Terms.{terms_of, cost_of, IsLeast, NoneIsAllowed}
use Rattle.saga_case.specs.Right.{IsRight, IsRightPlan, IsRightChain, Settles}
use Rattle.saga_json.specs.declared.faults.JsonFault.TheVariants as cert
use Rattle.saga_cert.specs.Reads.{ReadsCase, ReadsAnswer}
use Rattle.saga_check.specs.Faults.{IsFirstFault}
use Rattle.saga_draw.specs.Drawings.{IsDrawing}
use Rattle.saga_plan.specs.Planned.{IsSmallest}
use Rattle.saga_texts.specs.Limits.{max_certificate}
use Rattle.saga_texts.specs.declared.conclusions.Conclusion.{Conclusion}
use Rattle.saga_texts.specs.declared.conclusions.Conclusion.TheVariants.{Definition, CaseTooLong, Case, AnswerTooLong, Answer as AnswerFault, Refused, Least, Blocked, Planned, Drawn}
use Rattle.saga_texts.specs.declared.conclusions.Question.{Question}
use Rattle.saga_texts.specs.declared.conclusions.Question.TheVariants.{Check, Plan as APlan, Draw}
use Rattle.saga_texts.specs.declared.drawings.Scene.{Scene}
use Rattle.saga_texts.specs.declared.drawings.Scene.TheVariants as scene

-- a right plan with the minimum cost, which is this: no allowed set costs less
pub record IsLeastPlan (c : Situation) (cost : ℕ) (plan : Plan) : Type 0 where
  pub right : IsRightPlan (terms_of c) plan
  pub least : IsLeast (terms_of c) (member plan.kept)
  pub priced : cost_of (terms_of c) (member plan.kept) ≡ price.Of cost

-- a right chain: no set of steps is allowed
pub record IsBlocked (c : Situation) (chain : List ℕ) : Type 0 where
  pub right : IsRightChain (terms_of c) chain
  pub none : NoneIsAllowed (terms_of c)

-- the verdict of the judge
abbrev pub JudgesTo : Situation → Answer → Conclusion → Type 0
JudgesTo c a (Refused fault) = IsFirstFault (terms_of c) a fault
JudgesTo c (answer.Plan plan) (Least cost) = IsLeastPlan c cost plan
JudgesTo c (answer.Blocked chain) Blocked = IsBlocked c chain
JudgesTo c a conclusion = ⊥

-- the texts of a definition and of a case of it
pub record AreRead (definition case : List ℕ) (d : Contents) (c : Situation) : Type 0 where
  pub definition_is : Reads definition (Ok d)
  pub short : length case ≤ max_certificate
  pub case_is : ReadsCase d case (Ok c)

-- the text is within the limit and holds that answer
pub record HoldsAnswer (text : List ℕ) (a : Answer) : Type 0 where
  pub short : length text ≤ max_certificate
  pub answer_is : ReadsAnswer text (Ok a)

-- the first fault of a text that does not hold an answer
abbrev pub LacksAnswer : List ℕ → Conclusion → Type 0
LacksAnswer text AnswerTooLong = max_certificate < length text
LacksAnswer text (AnswerFault fault) =
    (length text ≤ max_certificate) × ReadsAnswer text (Err fault) × (fault ≢ cert.OutOfMemory)
LacksAnswer text conclusion = ⊥

-- the result of a check of an answer's text: its first fault, or the verdict of the judge on its answer
abbrev pub ChecksTo : List ℕ → Situation → Conclusion → Type 0
ChecksTo text c AnswerTooLong = LacksAnswer text AnswerTooLong
ChecksTo text c (AnswerFault fault) = LacksAnswer text (AnswerFault fault)
ChecksTo text c conclusion = (a : Answer) × HoldsAnswer text a × JudgesTo c a conclusion

-- an answer of the planner: it is right; its plan has the minimum cost and is contained in every set with the minimum
-- cost; its chain shows that no set is allowed
pub record IsPlanned (c : Situation) (a : Answer) : Type 0 where
  pub right : IsRight (terms_of c) a
  pub settles : Settles (terms_of c) a
  pub smallest : IsSmallest (terms_of c) a

abbrev pub PlansTo : Situation → Conclusion → Type 0
PlansTo c (Planned a) = IsPlanned c a
PlansTo c conclusion = ⊥

-- a drawing of the case, with the marks of the answer if one is given
abbrev pub ShowsCase : Situation → Option Answer → Conclusion → Type 0
ShowsCase c a (Drawn text) = IsDrawing c.definition (Some c.states) a (string_bytes text)
ShowsCase c a conclusion = ⊥

-- the answer is right, so its plan has the minimum cost or no set is allowed, and the result is the drawing
pub record ShowsRight (c : Situation) (a : Answer) (conclusion : Conclusion) : Type 0 where
  pub right : IsRight (terms_of c) a
  pub settles : Settles (terms_of c) a
  pub shows : ShowsCase c (Some a) conclusion

-- the result of a drawing of an answer: the first fault found by the judge, or the drawing if the answer is right
abbrev pub DrawsRight : Situation → Answer → Conclusion → Type 0
DrawsRight c a (Refused fault) = IsFirstFault (terms_of c) a fault
DrawsRight c a conclusion = ShowsRight c a conclusion

-- the result of a drawing of a case: the first fault of the answer's text if one is given, or the result for its answer
abbrev pub DrawsTo : Option (List ℕ) → Situation → Conclusion → Type 0
DrawsTo None c conclusion = ShowsCase c None conclusion
DrawsTo (Some text) c AnswerTooLong = LacksAnswer text AnswerTooLong
DrawsTo (Some text) c (AnswerFault fault) = LacksAnswer text (AnswerFault fault)
DrawsTo (Some text) c conclusion = (a : Answer) × HoldsAnswer text a × DrawsRight c a conclusion

abbrev pub AnswersTo : Question → Situation → Conclusion → Type 0
AnswersTo (Check text) c conclusion = ChecksTo text.now c conclusion
AnswersTo APlan c conclusion = PlansTo c conclusion
AnswersTo (Draw answer) c conclusion = DrawsTo (option_map (λ t. t.now) answer) c conclusion

-- the result answers the question about the case of the texts
pub record IsAnswered (answers : Situation → Conclusion → Type 0) (definition case : List ℕ) (conclusion : Conclusion) : Type 0 where
  pub contents : Contents
  pub situation : Situation
  pub read : AreRead definition case contents situation
  pub answered : answers situation conclusion

-- the first fault in the order definition, case, answer; or the result of the question
abbrev pub ComesTo : (Situation → Conclusion → Type 0) → List ℕ → List ℕ → Conclusion → Type 0
ComesTo answers definition case (Definition fault) = Reads definition (Err fault) × (fault ≢ text.OutOfMemory)
ComesTo answers definition case CaseTooLong = (d : Contents) × Reads definition (Ok d) × (max_certificate < length case)
ComesTo answers definition case (Case fault) =
    (d : Contents) × Reads definition (Ok d) × (length case ≤ max_certificate) × ReadsCase d case (Err fault)
    × (fault ≢ cert.OutOfMemory)
ComesTo answers definition case conclusion = IsAnswered answers definition case conclusion

-- the result of a drawing of the definition of a text: its first fault, or the drawing without states and without an
-- answer
abbrev pub DrawsAlone : List ℕ → Conclusion → Type 0
DrawsAlone definition (Definition fault) = Reads definition (Err fault) × (fault ≢ text.OutOfMemory)
DrawsAlone definition (Drawn picture) = (d : Contents) × Reads definition (Ok d) × IsDrawing d None None (string_bytes picture)
DrawsAlone definition conclusion = ⊥

-- the texts in addition to the definition
abbrev pub beside : Scene → List (List ℕ)
beside scene.Definition = []
beside (scene.Case case) = case.now ∷ []
beside (scene.Answer case answer) = case.now ∷ answer.now ∷ []

-- the result of a drawing of a definition with these additional texts: the first fault in the order definition, case,
-- answer; or the drawing
abbrev pub DrawsWith : List (List ℕ) → List ℕ → Conclusion → Type 0
DrawsWith [] definition = DrawsAlone definition
DrawsWith (case ∷ []) definition = ComesTo (DrawsTo None) definition case
DrawsWith (case ∷ answer ∷ more) definition = ComesTo (DrawsTo (Some answer)) definition case
