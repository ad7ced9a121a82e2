-- A plan that begins, and that ends by an answer to the case that it began with.
use Rattle.std.proofs.Common.{◌≡◌, ◌≢◌, ◌∙◌, ◌++◌, ◌∷◌, [], ℕ, List, refl, ap, subst, sym, append_assoc, append-nil, flat_map}
use Rattle.std.proofs.lemmas.Bool.{eq-eqb}
use Rattle.saga_case.specs.Right.{IsRight}
use Rattle.saga_case.specs.Situation.{Situation}
use Rattle.saga_case.specs.Terms.{terms_of}
use Rattle.saga_case.specs.declared.answers.Answer.{Answer}
use Rattle.saga_history.specs.declared.events.Event.{Event}
use Rattle.saga_history.specs.declared.events.Event.TheVariants as event
use Rattle.saga_history.specs.declared.turns.Turn.TheVariants.{Planning}
use Rattle.saga_history.specs.Changes.{changes, past, starts_plan}
use Rattle.saga_history.specs.Turns.{present_case, turn}
use Rattle.saga_history.proofs.MergeLemmas.{past_push}
use Rattle.saga_history.proofs.SagaLemmas.{changes_own}
use Rattle.saga_core.specs.Book.{Book, with_event}
use Rattle.saga_core.specs.Refusals.{OfSaga, AdoptIsRefused, IsPresentCase}
use Rattle.saga_core.specs.declared.refusals.AdoptRefusal.{AdoptRefusal}
use Rattle.saga_core.specs.declared.refusals.AdoptRefusal.TheVariants as adopt
use Rattle.saga_log.specs.Logs.{event_line}
use Rattle.saga_drive.specs.declared.tellings.Telling.{Telling}
use Rattle.saga_drive.specs.Starts.{HoldsPlan}
use Rattle.saga_drive.specs.Tellings.{TellsMore, TellsSame}
use Rattle.saga_drive.proofs.KnownLemmas.{apart, unknown, weaker}

pub begun : (i : ℕ) (h : List Event) → changes i (past (h ++ event.StartPlan i ∷ [])) ≡ starts_plan ∷ changes i (past h)
begun i h = ap (changes i) (past_push h (event.StartPlan i)) ∙ changes_own i (event.StartPlan i) (past h) (eq-eqb i i refl)

pub holds_plan : (b : Book) (i : ℕ) (case : Situation) → IsPresentCase b i case → HoldsPlan (with_event b (event.StartPlan i)) i case
holds_plan b i case present = rw (begun i b.history) (weaker b i (λ d l. case ≡ present_case d l)
    (λ d l. (turn (starts_plan ∷ l) ≡ Planning) × (case ≡ present_case d (starts_plan ∷ l))) (λ d l same. (refl, same)) present)

-- no reason to refuse it is left
pub not_refused : (b : Book) (i : ℕ) (case : Situation) (why : AdoptRefusal) → HoldsPlan b i case → AdoptIsRefused b i case why → ⊥
not_refused b i case adopt.NoSuchSaga holds refused = unknown b i (λ d l. (turn l ≡ Planning) × (case ≡ present_case d l)) refused holds
not_refused b i case adopt.NotPlanning holds refused =
    apart b i (λ d l. (turn l ≡ Planning) × (case ≡ present_case d l)) (λ d l. turn l ≢ Planning) (λ d l x y. y x.0) holds refused
not_refused b i case adopt.Stale holds refused =
    apart b i (λ d l. (turn l ≡ Planning) × (case ≡ present_case d l)) (λ d l. (turn l ≡ Planning) × (case ≢ present_case d l)) (λ d l x y. y.1 x.1)
    holds refused

-- an answer that is right for the case that is the present one
pub right_now : (b : Book) (i : ℕ) (case : Situation) (a : Answer) → IsPresentCase b i case
    → IsRight (terms_of case) a → OfSaga b i (λ d l. IsRight (terms_of (present_case d l)) a)
right_now b i case a present right = weaker b i (λ d l. case ≡ present_case d l) (λ d l. IsRight (terms_of (present_case d l)) a)
    (λ d l same. subst (λ c. IsRight (terms_of c) a) same right) present

-- two events one after the other
pub grown : (old mid new : Book) (e f : Event) → mid ≡ with_event old e
    → new ≡ with_event mid f → new ≡ record old { history = old.history ++ e ∷ f ∷ [] }
grown old mid new e f first second =
    rw (second, first) (ap (λ h. record old { history = h }) (append_assoc old.history (e ∷ []) (f ∷ [])))

pub two_lines : (e f : Event) → event_line e ++ event_line f ≡ flat_map event_line (e ∷ f ∷ [])
two_lines e f = sym (ap (λ rest. event_line e ++ rest) (append-nil (event_line f)))

-- a task is told behind what was told before room was made for it
pub more_after : (a b c : Telling) (told told' added added' : List ℕ) → TellsSame a b → TellsMore b c told added → told ≡ told' → added ≡ added'
    → TellsMore a c told' added'
more_after a b c told told' added added' same more text lines = record {
  text = more.text ∙ rw (same.text, same.apart, text) refl;
  lines = more.lines ∙ rw (same.lines, lines) refl;
  apart = more.apart;
}
