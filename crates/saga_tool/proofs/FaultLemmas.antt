-- The kinds of error of a command, and of words that name none.
use Rattle.std.proofs.Common.{◌≡◌, ◌∙◌, ap, sym, subst, true, false, List, [], ◌∷◌, refl, inl, inr, bytes_eq, codes, drop, slice_index_or}
use Rattle.std.specs.Prelude.{Result, Ok, Err, IfErr, IsErrAnd, if◌then◌else◌}
use Rattle.clap.specs.Kinds.{HasKind, Kinds, or_else}
use Rattle.clap.specs.Faults.{fault_of, is_simple_and_free}
use Rattle.clap.specs.Walk.{Text}
use Rattle.clap.specs.declared.error.Error.{Error}
use Rattle.clap.specs.declared.error.kind.ErrorKind.TheVariants as kind
use Rattle.clap.proofs.OnLiterals.{clap_on_literals}
use Rattle.saga_tool.specs.declared.forms.Name.{Name}
use Rattle.saga_tool.specs.declared.forms.Name.TheVariants.{Check, Plan, Run, Audit, Draw, Drive}
use Rattle.saga_tool.specs.declared.words.WordsFault.{WordsFault}
use Rattle.saga_tool.specs.declared.words.WordsFault.TheVariants.{Usage, Help, OutOfMemory}
use Rattle.saga_texts.specs.declared.outputs.Output.{Output}
use Rattle.saga_tool.specs.declared.responses.Response.{Response}
use Rattle.saga_tool.specs.Responses.{IsAlone}
use Rattle.saga_tool.specs.Forms.{app_by, outline_for, word_for}
use Rattle.saga_tool.specs.Outside.{World}
use Rattle.saga_tool.specs.Program.{IsHelp, IsTold, RepliesToWords}
use Rattle.saga_tool.specs.Command.{IsFaultOf, IsMadeOf, IsWordsFault, may_be_option, other_kinds, sagas_app}

pub sagas_is_simple : is_simple_and_free sagas_app ≡ true
unfolding clap_on_literals
sagas_is_simple = refl

-- an error of the kinds that are looked at first, or else of the next
pub or_first : (kinds next : Kinds) (e : Error) → HasKind kinds e → HasKind (or_else kinds next) e
or_first [] next e (inl h) = inl h
or_first [] next e (inr h) = elim h [ ]
or_first (k ∷ ks) next e h = h

pub or_next : (kinds next : Kinds) (e : Error) → kinds ≡ [] → HasKind next e → HasKind (or_else kinds next) e
or_next kinds next e none h = rw none h

-- of a word that may be an option, what `clap` finds first
pub option_kind : (words : List Text) (e : Error) → may_be_option words ≡ true → HasKind (or_else (fault_of sagas_app words) (kind.InvalidSubcommand ∷ [])) e
    → HasKind (other_kinds words) e
option_kind words e may has = rw may has

pub plain_kind : (words : List Text) (e : Error) → may_be_option words ≡ false → HasKind (kind.InvalidSubcommand ∷ []) e → HasKind (other_kinds words) e
plain_kind words e may has = rw may has

-- what is made of an error of some kinds is a fault of these kinds
made_fault : (kinds : Kinds) (error : Error) (fault : WordsFault) → HasKind kinds error → IsMadeOf error fault → IsFaultOf kinds fault
made_fault kinds error (Usage given) (inl h) made = absurd (made.1 h)
made_fault kinds error (Usage given) (inr h) made = rw made.0 (made.2, h)
made_fault kinds error (Help given) (inl h) made = elim made.1 [
  | inl help ↦ let bad : kind.OutOfMemory ≡ kind.DisplayHelp = sym h ∙ help in cc
  | inr version ↦ let bad : kind.OutOfMemory ≡ kind.DisplayVersion = sym h ∙ version in cc
]
made_fault kinds error (Help given) (inr h) made = rw made.0 (made.1, h)
made_fault kinds error OutOfMemory has made = tt

-- the command of a word
abbrev name_of : Text → Name
name_of word = if bytes_eq word (codes "check") then Check else (if bytes_eq word (codes "plan") then Plan else (if bytes_eq word (codes "run") then Run
    else (if bytes_eq word (codes "audit") then Audit else (if bytes_eq word (codes "draw") then Draw else Drive))))

back : (name : Name) → name_of (word_for name) ≡ name
back Check = refl
back Plan = refl
back Run = refl
back Audit = refl
back Draw = refl
back Drive = refl

-- a word names one command
same_name : (a b : Name) → word_for a ≡ word_for b → a ≡ b
same_name a b e = sym (back a) ∙ (ap name_of e ∙ back b)

of_command : (name : Name) (rest : List Text) (error : Error) (fault : WordsFault) → HasKind (fault_of (app_by (outline_for name)) rest) error → IsMadeOf error fault
    → IsWordsFault (word_for name ∷ rest) fault
of_command name rest error fault has made = record {
  of_command = λ other more same.
      let names : name ≡ other = same_name name other (ap (λ (l : List Text). slice_index_or l 0 []) same) in
      let rests : rest ≡ more = ap (λ (l : List Text). drop 1 l) same in
      subst (λ (n : Name). IsFaultOf (fault_of (app_by (outline_for n)) more) fault) names
      (subst (λ (r : List Text). IsFaultOf (fault_of (app_by (outline_for name)) r) fault) rests (made_fault _ error fault has made));
  of_other = λ none. absurd (none name rest refl);
}

-- the fault that `?` makes of an error of a command
pub command_fault : {T : Type 0} (r : Result T WordsFault) (words : List Text) (name : Name) (rest : List Text) (error : Error) → words ≡ word_for name ∷ rest
    → HasKind (fault_of (app_by (outline_for name)) rest) error → IsErrAnd r (IsMadeOf error) → IfErr r (IsWordsFault words)
command_fault (Ok x) words name rest error is has made = tt
command_fault (Err fault) words name rest error is has made = rw is (of_command name rest error fault has made)

-- the words of a call for help
abbrev help_words : List Text
help_words = codes "--help" ∷ []

help_kinds : other_kinds help_words ≡ kind.DisplayHelp ∷ []
unfolding clap_on_literals
help_kinds = refl

no_command : (name : Name) (rest : List Text) → help_words ≡ word_for name ∷ rest → ⊥
no_command Check rest e = let bad : true ≡ false = ap (λ (l : List Text). bytes_eq (slice_index_or l 0 []) (codes "--help")) e in cc
no_command Plan rest e = let bad : true ≡ false = ap (λ (l : List Text). bytes_eq (slice_index_or l 0 []) (codes "--help")) e in cc
no_command Run rest e = let bad : true ≡ false = ap (λ (l : List Text). bytes_eq (slice_index_or l 0 []) (codes "--help")) e in cc
no_command Audit rest e = let bad : true ≡ false = ap (λ (l : List Text). bytes_eq (slice_index_or l 0 []) (codes "--help")) e in cc
no_command Draw rest e = let bad : true ≡ false = ap (λ (l : List Text). bytes_eq (slice_index_or l 0 []) (codes "--help")) e in cc
no_command Drive rest e = let bad : true ≡ false = ap (λ (l : List Text). bytes_eq (slice_index_or l 0 []) (codes "--help")) e in cc

told_help : (fault : WordsFault) (output : Output) → IsFaultOf (kind.DisplayHelp ∷ []) fault → IsTold fault output → IsHelp output
told_help (Usage error) output of told = elim of.1 [
  | inl is ↦ absurd (of.0 (inl is))
  | inr none ↦ elim none [ ]
]
told_help (Help error) output of told = told
told_help OutOfMemory output of told = elim told [ ]

-- what is replied to such words is help
pub is_help : (world : World) (response : Response) → RepliesToWords world help_words response → IsAlone IsHelp response
is_help world response replies = elim replies [
  | inl r ↦ absurd (no_command r.found.name r.is.rest r.is.named)
  | inr r ↦ record {
    replies = told_help r.fault response.output (subst (λ (k : Kinds). IsFaultOf k r.fault) help_kinds (r.is.of_other no_command)) r.told.replies;
    none = r.told.none;
  }
]
