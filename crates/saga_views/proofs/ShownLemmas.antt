-- What is told of a saga.
use Rattle.std.proofs.Common.{◌≡◌, ◌∙◌, ◌+◌, ◌<◌, ◌∷◌, ℕ, List, None, ap, sym, subst, eqb, true, false, get_or, length, take, drop}
use Rattle.std.proofs.lemmas.List.{take_more, take-append-drop}
use Rattle.saga_def.specs.Contents.{Contents}
use Rattle.saga_history.specs.declared.events.Event.{Event}
use Rattle.saga_history.specs.Changes.{Change, change_of, changes, opens, past, saga_of}
use Rattle.saga_history.specs.Rules.{IsAllowed, IsLegal, IsLegalSaga}
use Rattle.saga_history.proofs.MergeLemmas.{each_below, past_append, past_push}
use Rattle.saga_history.proofs.SagaLemmas.{changes_other, changes_own, saga_is_legal, unopened}
use Rattle.saga_views.specs.Shown.{last_answer, shown_text}

pub shown_same : (head head' name name' phase phase' : List ℕ) (i i' : ℕ) (tail tail' : List ℕ) → head ≡ head' → name ≡ name' → phase ≡ phase'
    → i ≡ i' → tail ≡ tail' → shown_text head name phase i tail ≡ shown_text head' name' phase' i' tail'
shown_same head head' name name' phase phase' i i' tail tail' a b c d e = cc

-- ---- back over the events

legal_before : (shelf : List Contents) (h : List Event) (k : ℕ) → IsLegal shelf (past h) → IsLegal shelf (past (take k h))
legal_before shelf h k legal = each_below (IsAllowed shelf) (past (drop k h)) (past (take k h))
    (subst (IsLegal shelf) (ap past (sym (take-append-drop k h)) ∙ past_append (take k h) (drop k h)) legal)

past_more : (h : List Event) (k : ℕ) (d : Event) → k < length h → past (take (k + 1) h) ≡ get_or h k d ∷ past (take k h)
past_more h k d lt = ap past (take_more h k d lt) ∙ past_push (take k h) (get_or h k d)

-- an event of another saga
pub back_other : (i : ℕ) (h : List Event) (k : ℕ) (e : Event) → k < length h → get_or h k e ≡ e → eqb i (saga_of e) ≡ false
    → changes i (past (take (k + 1) h)) ≡ changes i (past (take k h))
back_other i h k e lt at other = ap (changes i) (past_more h k e lt ∙ ap (λ (v : Event). v ∷ past (take k h)) at) ∙ changes_other i e (past (take k h)) other

pub back_own : (i : ℕ) (h : List Event) (k : ℕ) (e : Event) → k < length h → get_or h k e ≡ e → eqb i (saga_of e) ≡ true
    → changes i (past (take (k + 1) h)) ≡ change_of e ∷ changes i (past (take k h))
back_own i h k e lt at own = ap (changes i) (past_more h k e lt ∙ ap (λ (v : Event). v ∷ past (take k h)) at) ∙ changes_own i e (past (take k h)) own

-- before its opening a saga adopted nothing
pub nothing_before : (shelf : List Contents) (i k : ℕ) (l : List Change) → IsLegalSaga shelf (opens k ∷ l) → last_answer l ≡ None
nothing_before shelf i k l legal = ap last_answer (unopened shelf l legal.1 legal.0.0)

pub legal_back : (shelf : List Contents) (i : ℕ) (h : List Event) (k : ℕ) → IsLegal shelf (past h) → IsLegalSaga shelf (changes i (past (take k h)))
legal_back shelf i h k legal = saga_is_legal shelf i (past (take k h)) (legal_before shelf h k legal)
