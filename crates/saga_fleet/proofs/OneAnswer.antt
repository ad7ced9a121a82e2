-- A record has at most one answer.
use Rattle.std.proofs.Common.{◌≡◌, ◌<◌, ◌+◌, ℕ, Bool, List, take, sym, ◌∙◌, ap, inl, inr, subst, arith}
use Rattle.std.proofs.lemmas.List.{take-take}
use Rattle.std.proofs.lemmas.Bool.{cases_lt}
use Rattle.saga_fleet.specs.declared.reasons.Reason.{Reason}
use Rattle.saga_fleet.specs.declared.answers.RecordAnswer.{RecordAnswer}
use Rattle.saga_fleet.specs.declared.answers.RecordAnswer.TheVariants.{Yes, No}
use Rattle.saga_fleet.specs.declared.events.Event.{Event}
use Rattle.saga_fleet.specs.Fleet.{nothing}
use Rattle.saga_fleet.specs.Records.{IsAnswer, IsFirstFault, IsRecordFrom}
use Rattle.saga_fleet.proofs.Order.{one_first}
use Rattle.saga_fleet.proofs.Records.{record_front}

module _ (b : Bool) (es : List Event) where
  no_earlier : (p q : ℕ) (r s : Reason) → IsFirstFault b es p r → IsFirstFault b es q s → p < q → ⊥
  no_earlier p q r s x y lt = x.denied (subst (IsRecordFrom b nothing) (take-take (p + 1) q es (omega (arith, lt))) (record_front b nothing (p + 1) (take q es) y.before))

  one_position : (p q : ℕ) (r s : Reason) → IsFirstFault b es p r → IsFirstFault b es q s → p ≡ q
  one_position p q r s x y = elim (cases_lt p q) as (λ z. p ≡ q) [
    | inl lt ↦ absurd (no_earlier p q r s x y lt)
    | inr ge ↦ elim (cases_lt q p) as (λ z. p ≡ q) [
      | inl lt ↦ absurd (no_earlier q p s r y x lt)
      | inr le ↦ omega (arith, ge, le)
    ]
  ]

  one_reason : (p q : ℕ) (r s : Reason) → p ≡ q → IsFirstFault b es p r → IsFirstFault b es q s → r ≡ s
  one_reason p q r s e x y =
      let z : IsFirstFault b es p s = subst (λ (n : ℕ). IsFirstFault b es n s) (sym e) y in
      one_first _ r s x.fails z.fails

  pub one_answer : (x y : RecordAnswer) → IsAnswer b es x → IsAnswer b es y → x ≡ y
  one_answer (Yes sessions chunks failovers events) (Yes sessions2 chunks2 failovers2 events2) x y =
      ap (λ n. Yes n chunks failovers events) (x.1.sessions_are ∙ sym y.1.sessions_are)
      ∙ ap (λ n. Yes sessions2 n failovers events) (x.1.chunks_are ∙ sym y.1.chunks_are)
      ∙ ap (λ n. Yes sessions2 chunks2 n events) (x.1.failovers_are ∙ sym y.1.failovers_are)
      ∙ ap (λ n. Yes sessions2 chunks2 failovers2 n) (x.1.events_are ∙ sym y.1.events_are)
  one_answer (Yes sessions chunks failovers events) (No q s) x y = absurd (y.denied (record_front b nothing (q + 1) es x.0))
  one_answer (No p r) (Yes sessions chunks failovers events) x y = absurd (x.denied (record_front b nothing (p + 1) es y.0))
  one_answer (No p r) (No q s) x y =
      let e = one_position p q r s x y in
      ap (λ n. No n r) e ∙ ap (λ z. No q z) (one_reason p q r s e x y)
