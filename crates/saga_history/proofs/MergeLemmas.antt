-- Merges of legal histories.
use Rattle.std.proofs.Common.{◌≡◌, ℕ, Bool, true, false, ◌||◌, List, [], ◌∷◌, ◌++◌, eqb, refl, sym, ap, ◌∙◌, subst, inl, inr, append-nil}
use Rattle.std.proofs.lemmas.Bool.{cases_Bool}
use Rattle.std.proofs.lemmas.List.{reverse-append}
use Rattle.saga_def.specs.Contents.{Contents}
use Rattle.saga_history.specs.declared.events.Event.{Event}
use Rattle.saga_history.specs.Changes.{Change, saga_of, change_of, past, changes}
use Rattle.saga_history.specs.Rules.{IsAllowedChange, IsAllowed, EachEvent, IsLegal, IsLegalSaga}
use Rattle.saga_history.specs.Merges.{IsMerge, nothing, from_first, from_second, names_saga, AreDisjoint, IsMergeOf, EachHistory, AllDisjoint}
use Rattle.saga_history.proofs.SagaLemmas.{changes_own, changes_other, saga_is_legal, legal_from}
use Rattle.saga_history.specs.Parts.{AddsOneChange, MergesAreLegal, DependsOnOwnChanges, IsLegalBySagas, MergesOfManyAreLegal}

-- one more event at the end of a history is the first one of its past
pub past_push : (h : List Event) (e : Event) → past (h ++ e ∷ []) ≡ e ∷ past h
past_push h e = reverse-append h (e ∷ [])

pub past_append : (g h : List Event) → past (g ++ h) ≡ past h ++ past g
past_append g h = reverse-append g h

pub changes_append : (i : ℕ) (g h : List Event) → changes i (g ++ h) ≡ changes i g ++ changes i h
changes_append i [] h = refl
changes_append i (e ∷ g) h = elim (cases_Bool (eqb i (saga_of e))) [
  | inl own ↦ changes_own i e (g ++ h) own ∙ ap (λ (l : List Change). change_of e ∷ l) (changes_append i g h) ∙ ap (λ (l : List Change). l ++ changes i h) (sym (changes_own i e g own))
  | inr other ↦ changes_other i e (g ++ h) other ∙ changes_append i g h ∙ ap (λ (l : List Change). l ++ changes i h) (sym (changes_other i e g other))
]

-- the first event of a history is the last of its past
pub changes_first : (i : ℕ) (e : Event) (h : List Event) → changes i (past (e ∷ h)) ≡ changes i (past h) ++ changes i (e ∷ [])
changes_first i e h = ap (changes i) (past_append (e ∷ []) h) ∙ changes_append i (past h) (e ∷ [])

pub or_parts : (a b : Bool) → (a || b) ≡ false → (a ≡ false) × (b ≡ false)
or_parts true b e = cc
or_parts false b e = (refl, e)

-- what a merge has of a saga that the other does not name
pub merged_first : (i : ℕ) (a b c : List Event) → IsMerge a b c → names_saga i b ≡ false → changes i (past c) ≡ changes i (past a)
merged_first i _ _ _ nothing none = refl
merged_first i _ _ _ (from_first e a b c m) none =
    changes_first i e c ∙ ap (λ (l : List Change). l ++ changes i (e ∷ [])) (merged_first i a b c m none) ∙ sym (changes_first i e a)
merged_first i _ _ _ (from_second e a b c m) none =
    let parts = or_parts (eqb i (saga_of e)) (names_saga i b) none in
    changes_first i e c ∙ ap (λ (l : List Change). changes i (past c) ++ l) (changes_other i e [] parts.0) ∙ append-nil (changes i (past c)) ∙ merged_first i a b c m parts.1

pub swapped : (a b c : List Event) → IsMerge a b c → IsMerge b a c
swapped _ _ _ nothing = nothing
swapped _ _ _ (from_first e a b c m) = from_second e b a c (swapped a b c m)
swapped _ _ _ (from_second e a b c m) = from_first e b a c (swapped a b c m)

pub merges_are_legal : (shelf : List Contents) (a b : List Event) → MergesAreLegal shelf a b
merges_are_legal shelf a b = λ of_a of_b apart c m. legal_from shelf (past c) (λ i. elim (cases_Bool (names_saga i a)) [
  | inl named ↦ subst (IsLegalSaga shelf) (sym (merged_first i a b c m (apart i named))) (saga_is_legal shelf i (past a) of_a)
  | inr other ↦ subst (IsLegalSaga shelf) (sym (merged_first i b a c (swapped a b c m) other)) (saga_is_legal shelf i (past b) of_b)
])

-- what comes before an event
pub each_below : (P : List Event → Event → Type 0) (a b : List Event) → EachEvent P (a ++ b) → EachEvent P b
each_below P [] b each = each
each_below P (e ∷ a) b each = each_below P a b each.1

-- what one more event at the end of a history says of a saga
pub changes_push_other : (i : ℕ) (h : List Event) (e : Event) → eqb i (saga_of e) ≡ false → changes i (past (h ++ e ∷ [])) ≡ changes i (past h)
changes_push_other i h e other = ap (changes i) (past_push h e) ∙ changes_other i e (past h) other

pub depends_on_own_changes : (shelf : List Contents) (a b : List Event) → DependsOnOwnChanges shelf a b
depends_on_own_changes shelf a b = λ e same allowed. subst (λ (l : List Change). IsAllowedChange shelf l (change_of e)) same allowed

pub from_saga_to_history : (shelf : List Contents) (a : List Event) → IsLegalBySagas shelf a
from_saga_to_history shelf a = (λ legal i. saga_is_legal shelf i (past a) legal, λ parts. legal_from shelf (past a) parts)

-- what one more event adds
pub adds_one_change : (events : List Event) → AddsOneChange events
adds_one_change events = λ e i. ap (changes i) (past_push events e)

-- one more allowed event
pub legal_push : (shelf : List Contents) (h : List Event) (e : Event) → IsLegal shelf (past h) → IsAllowed shelf (past h) e → IsLegal shelf (past (h ++ e ∷ []))
legal_push shelf h e legal allowed = rw (past_push h e) (allowed, legal)

-- ---- merges of any number of histories
neither : (a b : Bool) → a ≡ false → b ≡ false → (a || b) ≡ false
neither true b p q = cc
neither false b p q = q

unnamed : (i : ℕ) (a b c : List Event) → IsMerge a b c → names_saga i a ≡ false → names_saga i b ≡ false → names_saga i c ≡ false
unnamed i _ _ _ nothing p q = refl
unnamed i _ _ _ (from_first e a b c m) p q = let parts = or_parts (eqb i (saga_of e)) (names_saga i a) p in neither (eqb i (saga_of e)) (names_saga i c) parts.0 (unnamed i a b c m parts.1 q)
unnamed i _ _ _ (from_second e a b c m) p q = let parts = or_parts (eqb i (saga_of e)) (names_saga i b) q in neither (eqb i (saga_of e)) (names_saga i c) parts.0 (unnamed i a b c m p parts.1)

apart_from : (a : List Event) (rest : List (List Event)) (b : List Event) → EachHistory (AreDisjoint a) rest → IsMergeOf rest b → AreDisjoint a b
apart_from a [] b apart merge = λ i named. ap (names_saga i) merge
apart_from a (x ∷ rest) b apart merge = λ i named. unnamed i x merge.0 b merge.2 (apart.0 i named) (apart_from a rest merge.0 apart.1 merge.1 i named)

merges_of_many : (shelf : List Contents) (hs : List (List Event)) (c : List Event) → EachHistory (λ h. IsLegal shelf (past h)) hs → AllDisjoint hs → IsMergeOf hs c → IsLegal shelf (past c)
merges_of_many shelf [] c legal apart merge = rw merge tt
merges_of_many shelf (a ∷ rest) c legal apart merge =
    merges_are_legal shelf a merge.0 legal.0 (merges_of_many shelf rest merge.0 legal.1 apart.1 merge.1) (apart_from a rest merge.0 apart.0 merge.1) c merge.2

pub merges_of_many_are_legal : (shelf : List Contents) → MergesOfManyAreLegal shelf
merges_of_many_are_legal shelf = λ hs c legal apart merge. merges_of_many shelf hs c legal apart merge
