-- What the lines of a text tell of one question, and of all.
use Rattle.std.proofs.Common.{◌≡◌, ◌∙◌, ℕ, ◌+◌, Bool, true, false, cond, List, [], ◌∷◌, refl, ap, sym, String, length, ◌≤◌, nat_lt, arith}
use Rattle.std.specs.Prelude.{Option, Some, None, Result, Ok, Err, IfOk, IfErr}
use Rattle.std.proofs.lemmas.Bool.Decides.{nat_tests}
use Rattle.std.specs.Global.{Global}
use Rattle.std.specs.HashMap.{HashMap}
use Rattle.std.specs.List.{filter, last_or}
use Rattle.saga_bytes.specs.Lines.{lines_of}
use Rattle.saga_script.specs.declared.endings.Ending.{Ending}
use Rattle.saga_script.specs.declared.endings.Ending.TheVariants.{Done}
use Rattle.saga_script.specs.declared.faults.ScriptFault.{ScriptFault}
use Rattle.saga_script.specs.declared.faults.ScriptFault.TheVariants.{TooLong, BadLine, OutOfMemory}
use Rattle.saga_script.specs.Limits.{max_script}
use Rattle.saga_script.specs.declared.scripts.Script.{Script}
use Rattle.saga_script.specs.Statements.{Statement, statement_of}
use Rattle.saga_script.specs.Questions.{Question, question, names, ending_or_done, ending_of}
use Rattle.saga_script.specs.Scripts.{put_before, statements_from, statements_of, Fails, ReadsScript}
use Rattle.saga_script.specs.Progress.{told_by, on_line, told_after, told_from}
use Rattle.saga_script.specs.Table.{ending_told}

-- an empty table tells that all is done
pub told-empty : {S : Type 0} (table : HashMap (String Global) (HashMap ℕ (List Ending) S) S) → table.entries ≡ [] → (q : Question) → ending_told table q ≡ Done
unfolding ending_told
told-empty table e q = rw e

-- what a list of statements tells after what one told before
abbrev pub told_of : Question → Option Statement → Result (List Statement) ScriptFault → Result Ending ScriptFault
told_of q before (Ok statements) = Ok (ending_or_done (last_or before (filter (names q) statements)))
told_of q before (Err fault) = Err fault

-- the last one that names the question, with one more before the others
abbrev pub last_named : Question → Option Statement → Statement → Option Statement
last_named q before s = cond (names q s) (Some s) before

last_named-ending : (q : Question) (before : Option Statement) (s : Statement) → ending_or_done (last_named q before s) ≡ told_by q (ending_or_done before) s
last_named-ending q before s = by (names q s)
  where
    by : (b : Bool) → ending_or_done (cond b (Some s) before) ≡ cond b s.ending (ending_or_done before)
    by true = refl
    by false = refl

abbrev reading : Option Statement → List Statement → Result Ending ScriptFault
reading o ss = Ok (ending_or_done (last_or o ss))

told_of-put : (q : Question) (before : Option Statement) (number : ℕ) (s : Statement) (rest : Result (List Statement) ScriptFault) → told_of q before (put_before number (Some s) rest) ≡ told_of q (last_named q before s) rest
told_of-put q before number s (Ok statements) = by (names q s)
  where
    by : (b : Bool) → reading before (cond b (s ∷ filter (names q) statements) (filter (names q) statements)) ≡ reading (cond b (Some s) before) (filter (names q) statements)
    by true = refl
    by false = refl
told_of-put q before number s (Err fault) = refl

-- line by line, the last statement that names it tells
pub told-statements : (q : Question) (before : Option Statement) (number : ℕ) (lines : List (List ℕ)) → told_after q (ending_or_done before) number lines ≡ told_of q before (statements_from number lines)
told-statements q before number [] = refl
told-statements q before number ([] ∷ lines) = told-statements q before (number + 1) lines
told-statements q before number ((byte ∷ line) ∷ lines) =
    by (statement_of (byte ∷ line)) (λ s. ap (λ e. told_after q e (number + 1) lines) (sym (last_named-ending q before s)) ∙ told-statements q (last_named q before s) (number + 1) lines)
  where
    by : (o : Option Statement) → ((s : Statement) → told_after q (told_by q (ending_or_done before) s) (number + 1) lines ≡ told_of q (last_named q before s) (statements_from (number + 1) lines))
        → on_line number o (λ s. told_after q (told_by q (ending_or_done before) s) (number + 1) lines) ≡ told_of q before (put_before number o (statements_from (number + 1) lines))
    by None h = refl
    by (Some s) h = h s ∙ sym (told_of-put q before number s (statements_from (number + 1) lines))

-- the lines of a text
abbrev pub said_in : List ℕ → Result (List Statement) ScriptFault
said_in text = statements_from 1 (lines_of text)

pub told-text : (q : Question) (text : List ℕ) → told_from q text ≡ told_of q None (said_in text)
told-text q text = told-statements q None 1 (lines_of text)

pub any_question : Question
any_question = question 0 [] false 0

abbrev ok_ending : Ending → Result Ending ScriptFault
ok_ending e = Ok e

ok_apart : {A : Type 0} {fault : ScriptFault} {x : A} → Err fault ≡ Ok x → ⊥
ok_apart e = cc

-- where each question is told, there are statements that tell it
pub statements_there : (text : List ℕ) (told : Question → Ending) → ((q : Question) → told_from q text ≡ Ok (told q)) → (statements : List Statement) × (said_in text ≡ Ok statements) × ((q : Question) → told q ≡ ending_of q statements)
statements_there text told h = by (said_in text) refl
  where
    by : (o : Result (List Statement) ScriptFault) → said_in text ≡ o → (statements : List Statement) × (said_in text ≡ Ok statements) × ((q : Question) → told q ≡ ending_of q statements)
    by (Ok statements) is = (statements, is, λ q. let e : ok_ending (told q) ≡ told_of q None (Ok statements) = sym (h q) ∙ (told-text q text ∙ ap (told_of q None) is) in cc)
    by (Err fault) is = absurd (ok_apart (ap (told_of any_question None) (sym is) ∙ (sym (told-text any_question text) ∙ h any_question)))

-- the fault of each question's reading is that of the text
pub fault_there : (text : List ℕ) (fault : ScriptFault) → told_from any_question text ≡ Err fault → said_in text ≡ Err fault
fault_there text fault h = by (said_in text) (sym (told-text any_question text) ∙ h)
  where
    by : (o : Result (List Statement) ScriptFault) → told_of any_question None o ≡ Err fault → o ≡ Err fault
    by (Ok statements) e = absurd (ok_apart (sym e))
    by (Err other) e = let same : other ≡ fault = cc in ap Err same

within_limit : (text : List ℕ) → length text ≤ max_script → statements_of text ≡ said_in text
within_limit text short =
    let test : nat_lt max_script (length text) ≡ false = grind (arith, nat_tests) in
    rw test refl

-- where the table tells what the lines tell of each question, the script is that of the text
pub reads : (text : List ℕ) (result : Result Script ScriptFault) → length text ≤ max_script
    → IfOk result (λ s. (q : Question) → told_from q text ≡ Ok (ending_told s.table q))
    → IfErr result (λ fault. (q : Question) → Fails fault (told_from q text)) → ReadsScript text result
reads text (Ok script) short ok err =
    let there = statements_there text (ending_told script.table) ok in
    (there.0, within_limit text short ∙ there.1, there.2)
reads text (Err TooLong) short ok err = within_limit text short ∙ fault_there text TooLong (err any_question)
reads text (Err (BadLine number)) short ok err = within_limit text short ∙ fault_there text (BadLine number) (err any_question)
reads text (Err OutOfMemory) short ok err = tt
