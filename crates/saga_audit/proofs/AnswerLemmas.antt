-- A history has one answer, and it is yes exactly where the history is legal.
use Rattle.std.proofs.Common.{◌≡◌, ℕ, ◌+◌, ◌<◌, ◌≤◌, true, List, Some, refl, sym, ap, ◌∙◌, subst, inl, inr, arith, take}
use Rattle.std.specs.Prelude.{slice_get, ◌↔◌}
use Rattle.std.proofs.lemmas.Bool.{cases_eq, cases_lt}
use Rattle.std.proofs.lemmas.List.{take-take}
use Rattle.saga_def.specs.Contents.{Contents}
use Rattle.saga_history.specs.declared.events.Event.{Event}
use Rattle.saga_history.specs.Changes.{saga_of, change_of, past, changes}
use Rattle.saga_history.specs.Rules.{IsLegal, IsAllowed}
use Rattle.saga_history.proofs.PartLemmas.{legal_below, past_more}
use Rattle.saga_audit.specs.declared.answers.AuditAnswer.{AuditAnswer}
use Rattle.saga_audit.specs.declared.answers.AuditAnswer.TheVariants.{Yes, No}
use Rattle.saga_audit.specs.declared.reasons.Reason.{Reason}
use Rattle.saga_audit.specs.Groups.{Audits, IsFirstRefused, is_yes}
use Rattle.saga_audit.specs.Reasons.{reason_of}

-- the event at a place of a legal history is allowed
allowed_at : (shelf : List Contents) (events : List Event) (p : ℕ) (e : Event) → slice_get events p ≡ Some e → IsLegal shelf (past (take (p + 1) events)) → IsAllowed shelf (past (take p events)) e
allowed_at shelf events p e here legal = (subst (IsLegal shelf) (past_more events p e here) legal).0

legal_less : (shelf : List Contents) (events : List Event) (p q : ℕ) → p ≤ q → IsLegal shelf (past (take q events)) → IsLegal shelf (past (take p events))
legal_less shelf events p q le legal = subst (λ (h : List Event). IsLegal shelf (past h)) (take-take p q events le) (legal_below shelf (take q events) p legal)

not_legal : (shelf : List Contents) (events : List Event) (p : ℕ) (why : Reason) → IsFirstRefused shelf events p why → IsLegal shelf (past events) → ⊥
not_legal shelf events p why f legal = f.refused.denied (allowed_at shelf events p f.event f.here (legal_below shelf events (p + 1) legal))

not_later : (shelf : List Contents) (events : List Event) (p q : ℕ) (v w : Reason) → IsFirstRefused shelf events p v → IsFirstRefused shelf events q w → p < q → ⊥
not_later shelf events p q v w f g lt = f.refused.denied (allowed_at shelf events p f.event f.here (legal_less shelf events (p + 1) q (omega (arith, lt)) g.before))

pub yes_exactly : (shelf : List Contents) (events : List Event) (a : AuditAnswer) → Audits shelf events a → (is_yes a ≡ true) ↔ IsLegal shelf (past events)
yes_exactly shelf events (Yes s e t n) told = (λ is. told.legal, λ legal. refl)
yes_exactly shelf events (No p why) told = (λ is. cc, λ legal. absurd (not_legal shelf events p why told legal))

first_same : (shelf : List Contents) (events : List Event) (p q : ℕ) (v w : Reason) → p ≡ q → IsFirstRefused shelf events p v → IsFirstRefused shelf events q w → No p v ≡ No q w
first_same shelf events p q v w same f g =
    let there : slice_get events p ≡ Some g.event = subst (λ (k : ℕ). slice_get events k ≡ Some g.event) (sym same) g.here in
    let both : Some f.event ≡ Some g.event = sym f.here ∙ there in
    let is : f.event ≡ g.event = cc in
    let why : v ≡ w = f.refused.first ∙ ap (λ (x : Event). reason_of shelf (changes (saga_of x) (past (take p events))) (change_of x)) is
    ∙ ap (λ (k : ℕ). reason_of shelf (changes (saga_of g.event) (past (take k events))) (change_of g.event)) same ∙ sym g.refused.first in
    cc

pub one_answer : (shelf : List Contents) (events : List Event) (a b : AuditAnswer) → Audits shelf events a → Audits shelf events b → a ≡ b
one_answer shelf events (Yes s e t n) (Yes x y z m) f g =
    let i : s ≡ x = f.sagas_are ∙ sym g.sagas_are in
    let j : e ≡ y = f.ended_are ∙ sym g.ended_are in
    let k : t ≡ z = f.stuck_are ∙ sym g.stuck_are in
    let l : n ≡ m = f.events_are ∙ sym g.events_are in
    cc
one_answer shelf events (Yes s e t n) (No q w) f g = absurd (not_legal shelf events q w g f.legal)
one_answer shelf events (No p v) (Yes x y z m) f g = absurd (not_legal shelf events p v f g.legal)
one_answer shelf events (No p v) (No q w) f g = elim (cases_eq p q) [
  | inl same ↦ first_same shelf events p q v w same f g
  | inr apart ↦ elim (cases_lt p q) [
    | inl less ↦ absurd (not_later shelf events p q v w f g less)
    | inr more ↦ absurd (not_later shelf events q p w v g f (omega (arith, more, apart)))
  ]
]
