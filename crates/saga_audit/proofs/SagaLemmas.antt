-- A row follows one saga along its links.
use Rattle.std.proofs.Common.{◌≡◌, ℕ, ◌+◌, ◌<◌, Bool, true, false, ◌&&◌, List, [], ◌∷◌, ◌++◌, length, take, Option, Some, None, eqb, refl, sym, ap, ◌∙◌, subst, inl, inr, arith}
use Rattle.std.specs.Prelude.{slice_get, count_by}
use Rattle.std.proofs.lemmas.Bool.{cases_Bool, eqb-true, eq-eqb}
use Rattle.std.proofs.lemmas.List.Sums.{sum_by-append}
use Rattle.saga_def.specs.Contents.{Contents}
use Rattle.saga_def.specs.Sound.{IsSound}
use Rattle.saga_history.specs.declared.events.Event.{Event}
use Rattle.saga_history.specs.Changes.{Change, opens, moves, saga_of, change_of, past, changes}
use Rattle.saga_history.specs.Merges.{is_opening, opened_sagas}
use Rattle.saga_history.specs.Rules.{IsLegalSaga, definition_at}
use Rattle.saga_history.specs.Tallies.{one}
use Rattle.saga_history.specs.Turns.{opened_with}
use Rattle.saga_history.proofs.MergeLemmas.{changes_first}
use Rattle.saga_history.proofs.SagaLemmas.{changes_other, changes_own}
use Rattle.saga_history.proofs.TransitionLemmas.{count-cons}
use Rattle.saga_rows.specs.Row.{Row, new_row, one_if}
use Rattle.saga_rows.specs.Follows.{Follows}
use Rattle.saga_rows.proofs.FollowLemmas.{follows_open}
use Rattle.saga_audit.specs.declared.chains.Link.{Link}
use Rattle.saga_audit.specs.declared.reasons.Reason.{Reason}
use Rattle.saga_audit.specs.declared.reasons.Reason.TheVariants as reason
use Rattle.saga_audit.specs.Chains.{AreLinks, Leads, changes_before, link_at}
use Rattle.saga_audit.specs.Decisions.{RowTakes, row_then}
use Rattle.saga_audit.specs.Groups.{IsFirstIn, IsTallied, ends, is_saga, sticks}
use Rattle.saga_audit.specs.Reasons.{IsRefused, opened_by, reason_opened}
use Rattle.saga_audit.specs.Sagas.{IsFollowed, tally_of}
use Rattle.saga_audit.proofs.ChainLemmas.{changes_more_own}
use Rattle.saga_audit.proofs.RowLemmas.{allowed_by, follows_then, refused_by}

-- ---- counts

pub count_same : (u w : ℕ → Bool) → ((i : ℕ) → u i ≡ w i) → (xs : List ℕ) → count_by u xs ≡ count_by w xs
count_same u w same [] = refl
count_same u w same (x ∷ xs) = omega (arith, count-cons u x xs, count-cons w x xs, ap one (same x), count_same u w same xs)

-- how often a saga is among others
abbrev pub occurs : ℕ → List ℕ → ℕ
occurs i xs = count_by (is_saga i) xs

pub count_none : (u : ℕ → Bool) (xs : List ℕ) → ((i : ℕ) → u i ≡ true → occurs i xs ≡ 0) → count_by u xs ≡ 0
count_none u [] none = refl
count_none u (x ∷ xs) none = elim (cases_Bool (u x)) [
  | inl is ↦
      let here : one (is_saga x x) ≡ 1 = ap one (eq-eqb x x refl) in
      absurd (omega (arith, none x is, count-cons (is_saga x) x xs, here))
  | inr away ↦
      let here : one (u x) ≡ 0 = ap one away in
      omega (arith, count-cons u x xs, here, count_none u xs (λ i is. omega (arith, none i is, count-cons (is_saga i) x xs)))
]

and_false : (a b : Bool) → b ≡ false → (a && b) ≡ false
and_false true b is = is
and_false false b is = refl

and_true : (a b : Bool) → b ≡ true → (a && b) ≡ a
and_true true b is = is
and_true false b is = refl

-- of one saga, a count is by that saga
module _ (i : ℕ) (test : ℕ → Bool) where
  passes : test i ≡ true → (j : ℕ) → (is_saga i j && test j) ≡ is_saga i j
  passes yes_i j = elim (cases_Bool (is_saga i j)) [
    | inl own ↦ and_true (is_saga i j) (test j) (ap test (sym (eqb-true i j own)) ∙ yes_i)
    | inr away ↦ rw away refl
  ]

  fails_all : test i ≡ false → (j : ℕ) → (is_saga i j && test j) ≡ false
  fails_all no_i j = elim (cases_Bool (is_saga i j)) [
    | inl own ↦ and_false (is_saga i j) (test j) (ap test (sym (eqb-true i j own)) ∙ no_i)
    | inr away ↦ rw away refl
  ]

  pub count_one : (xs : List ℕ) → occurs i xs ≡ 1 → count_by (λ j. is_saga i j && test j) xs ≡ one_if (test i)
  count_one xs once = elim (cases_Bool (test i)) [
    | inl is ↦ count_same (λ j. is_saga i j && test j) (is_saga i) (passes is) xs ∙ once ∙ sym (ap one_if is)
    | inr away ↦ count_none (λ j. is_saga i j && test j) xs (λ j bad. let no_way : true ≡ false = sym bad ∙ fails_all away j in cc) ∙ sym (ap one_if away)
  ]

-- ---- a saga that is legal was opened once

opening_in : Option ℕ → ℕ
opening_in None = 0
opening_in (Some k) = 1

openings : (shelf : List Contents) (l : List Change) → IsLegalSaga shelf l → count_by is_opening l ≡ opening_in (opened_with l)
unfolding opening_in
openings shelf [] legal = refl
openings shelf (opens k ∷ l) legal =
    let none : count_by is_opening l ≡ 0 = openings shelf l legal.1 ∙ ap opening_in legal.0.0 in
    omega (arith, count-cons is_opening (opens k) l, none)
openings shelf (moves s t ∷ l) legal = openings shelf l legal.1
openings shelf (_ ∷ l) legal = openings shelf l legal.1

opened_once : (shelf : List Contents) (o : Option ℕ) (d : Contents) → definition_at shelf o ≡ Some d → opening_in o ≡ 1
unfolding opening_in
opened_once shelf None d is = cc
opened_once shelf (Some k) d is = refl

count_append : (xs ys : List Change) → count_by is_opening (xs ++ ys) ≡ count_by is_opening xs + count_by is_opening ys
count_append xs ys = sum_by-append (λ c. one_if (is_opening c)) xs ys

module _ (i : ℕ) (e : Event) (h : List Event) where
  first_opening : (b o : Bool) → is_opening (change_of e) ≡ b → eqb i (saga_of e) ≡ o → occurs i (opened_sagas (e ∷ h)) ≡ count_by is_opening (changes i (e ∷ [])) + occurs i (opened_sagas h)
  first_opening true true opening own =
      let this : occurs i (opened_sagas (e ∷ h)) ≡ one (is_saga i (saga_of e)) + occurs i (opened_sagas h) = rw opening (count-cons (is_saga i) (saga_of e) (opened_sagas h)) in
      let that : count_by is_opening (changes i (e ∷ [])) ≡ one (is_opening (change_of e)) + 0 = rw (changes_own i e [] own) (count-cons is_opening (change_of e) []) in
      omega (arith, this, that, ap one own, ap one opening)
  first_opening true false opening away =
      let this : occurs i (opened_sagas (e ∷ h)) ≡ one (is_saga i (saga_of e)) + occurs i (opened_sagas h) = rw opening (count-cons (is_saga i) (saga_of e) (opened_sagas h)) in
      let that : count_by is_opening (changes i (e ∷ [])) ≡ 0 = rw (changes_other i e [] away) refl in
      omega (arith, this, that, ap one away)
  first_opening false true other own =
      let this : occurs i (opened_sagas (e ∷ h)) ≡ occurs i (opened_sagas h) = rw other refl in
      let that : count_by is_opening (changes i (e ∷ [])) ≡ one (is_opening (change_of e)) + 0 = rw (changes_own i e [] own) (count-cons is_opening (change_of e) []) in
      omega (arith, this, that, ap one other)
  first_opening false false other away =
      let this : occurs i (opened_sagas (e ∷ h)) ≡ occurs i (opened_sagas h) = rw other refl in
      let that : count_by is_opening (changes i (e ∷ [])) ≡ 0 = rw (changes_other i e [] away) refl in
      omega (arith, this, that)

-- a saga is opened in a history as often as its changes say
pub occurs_in : (i : ℕ) (events : List Event) → occurs i (opened_sagas events) ≡ count_by is_opening (changes i (past events))
occurs_in i [] = refl
occurs_in i (e ∷ h) =
    let split : count_by is_opening (changes i (past (e ∷ h))) ≡ count_by is_opening (changes i (past h)) + count_by is_opening (changes i (e ∷ [])) =
    ap (count_by is_opening) (changes_first i e h) ∙ count_append (changes i (past h)) (changes i (e ∷ [])) in
    omega (arith, split, first_opening i e h (is_opening (change_of e)) (eqb i (saga_of e)) refl refl, occurs_in i h)

-- ---- one event further

same_event : (o : Option Event) (e f : Event) → o ≡ Some e → o ≡ Some f → e ≡ f
same_event o e f is so = let both : Some e ≡ Some f = sym is ∙ so in cc

module _ (shelf : List Contents) (row : Row) (events : List Event) (links : List Link) (i k : ℕ) (linked : AreLinks events links) (d : IsFollowed shelf row events links i (Some k)) (e : Event) (here : slice_get events (link_at links k).place ≡ Some e) where
  named : saga_of e ≡ i
  named = ap saga_of (same_event (slice_get events (link_at links k).place) e d.own.event here d.own.here) ∙ d.own.named

  next_leads : Leads events links i ((link_at links k).place + 1) (link_at links k).next
  next_leads =
      let link = linked k d.own.below in
      let is : saga_of link.event ≡ i = ap saga_of (same_event (slice_get events (link_at links k).place) link.event e link.here here) ∙ named in
      subst (λ (q : ℕ). Leads events links q ((link_at links k).place + 1) (link_at links k).next) is link.leads

  next_is : changes_before events links i (link_at links k).next ≡ change_of e ∷ changes_before events links i (Some k)
  next_is =
      next_leads.nothing_between
      ∙ subst (λ (q : ℕ). changes q (past (take ((link_at links k).place + 1) events)) ≡ change_of e ∷ changes q (past (take (link_at links k).place events))) named (changes_more_own events (link_at links k).place e here)

  pub step_followed : RowTakes row (change_of e) → IsFollowed shelf (row_then row (change_of e)) events links i (link_at links k).next
  step_followed takes =
      let l : List Change = changes_before events links i (Some k) in
      record {
        follows = subst (Follows shelf (row_then row (change_of e))) (sym next_is) (follows_then shelf row l d.follows d.legal (change_of e) takes);
        legal = subst (IsLegalSaga shelf) (sym next_is) (allowed_by shelf row l d.follows d.legal (change_of e) takes, d.legal);
        own = next_leads.own;
      }

  pub refused_here : (why : Reason) → (RowTakes row (change_of e) → ⊥) × (why ≡ reason_opened row.definition row.turn (change_of e)) → IsFirstIn shelf (is_saga i) events (link_at links k).place why
  refused_here why told = record {
    event = e;
    here = here;
    ours = eq-eqb i (saga_of e) (sym named);
    before = λ q mine. subst (λ (j : ℕ). IsLegalSaga shelf (changes j (past (take (link_at links k).place events)))) (eqb-true i q mine) d.legal;
    refused = subst (λ (j : ℕ). IsRefused shelf (changes j (past (take (link_at links k).place events))) (change_of e) why) (sym named) (refused_by shelf row (changes_before events links i (Some k)) d.follows d.legal (change_of e) why told);
  }

-- a saga that was followed to its end
pub followed_whole : (shelf : List Contents) (row : Row) (events : List Event) (links : List Link) (i : ℕ) → IsFollowed shelf row events links i None → IsTallied shelf (is_saga i) events (tally_of shelf events i)
followed_whole shelf row events links i d =
    let l : List Change = changes i (past events) in
    let once : occurs i (opened_sagas events) ≡ 1 = occurs_in i events ∙ openings shelf l d.legal ∙ opened_once shelf (opened_with l) row.definition d.follows.defined in
    record {
      legal = λ q mine. subst (λ (j : ℕ). IsLegalSaga shelf (changes j (past events))) (eqb-true i q mine) d.legal;
      sagas_are = sym (count_one i (λ j. true) (opened_sagas events) once);
      ended_are = sym (count_one i (ends shelf events) (opened_sagas events) once);
      stuck_are = sym (count_one i (sticks events) (opened_sagas events) once);
    }

-- ---- the first event of a saga

module _ (shelf : List Contents) (events : List Event) (links : List Link) (i k : ℕ) (linked : AreLinks events links) (leads : Leads events links i 0 (Some k)) (e : Event) (here : slice_get events (link_at links k).place ≡ Some e) where
  first_named : saga_of e ≡ i
  first_named = ap saga_of (same_event (slice_get events (link_at links k).place) e leads.own.event here leads.own.here) ∙ leads.own.named

  nothing_before : changes i (past (take (link_at links k).place events)) ≡ []
  nothing_before = leads.nothing_between

  first_refused : (why : Reason) → IsRefused shelf [] (change_of e) why → IsFirstIn shelf (is_saga i) events (link_at links k).place why
  first_refused why refused = record {
    event = e;
    here = here;
    ours = eq-eqb i (saga_of e) (sym first_named);
    before = λ q mine. subst (λ (j : ℕ). IsLegalSaga shelf (changes j (past (take (link_at links k).place events)))) (eqb-true i q mine) (subst (IsLegalSaga shelf) (sym nothing_before) tt);
    refused = subst (λ (l : List Change). IsRefused shelf l (change_of e) why) (sym (ap (λ (j : ℕ). changes j (past (take (link_at links k).place events))) first_named ∙ nothing_before)) refused;
  }

  refused_unopened : (c : Change) → opened_by c ≡ None → IsRefused shelf [] c reason.NoSuchSaga
  refused_unopened (opens n) is = cc
  refused_unopened _ is = record { denied = λ allowed. allowed; first = refl }

  pub first_unopened : opened_by (change_of e) ≡ None → IsFirstIn shelf (is_saga i) events (link_at links k).place reason.NoSuchSaga
  first_unopened is = first_refused reason.NoSuchSaga (refused_unopened (change_of e) is)

  refused_unknown : (c : Change) (n : ℕ) → opened_by c ≡ Some n → (n < length shelf → ⊥) → IsRefused shelf [] c reason.NoSuchDefinition
  refused_unknown (opens m) n is unknown = let same : m ≡ n = cc in record { denied = λ allowed. unknown (omega (arith, allowed.1, same)); first = refl }
  refused_unknown _ n is unknown = cc

  pub first_unknown : (n : ℕ) → opened_by (change_of e) ≡ Some n → (n < length shelf → ⊥) → IsFirstIn shelf (is_saga i) events (link_at links k).place reason.NoSuchDefinition
  first_unknown n is unknown = first_refused reason.NoSuchDefinition (refused_unknown (change_of e) n is unknown)

  opens_from : (c : Change) (n : ℕ) → opened_by c ≡ Some n → c ≡ opens n
  opens_from (opens m) n is = let same : m ≡ n = cc in ap opens same
  opens_from _ n is = cc

  pub first_followed : (n : ℕ) (c : Contents) → opened_by (change_of e) ≡ Some n → n < length shelf → slice_get shelf n ≡ Some c → IsSound c → IsFollowed shelf (new_row c) events links i (link_at links k).next
  first_followed n c is below found sound =
      let link = linked k leads.own.below in
      let same : saga_of link.event ≡ i = ap saga_of (same_event (slice_get events (link_at links k).place) link.event e link.here here) ∙ first_named in
      let next : Leads events links i ((link_at links k).place + 1) (link_at links k).next = subst (λ (q : ℕ). Leads events links q ((link_at links k).place + 1) (link_at links k).next) same link.leads in
      let more : changes i (past (take ((link_at links k).place + 1) events)) ≡ change_of e ∷ changes i (past (take (link_at links k).place events)) =
      subst (λ (q : ℕ). changes q (past (take ((link_at links k).place + 1) events)) ≡ change_of e ∷ changes q (past (take (link_at links k).place events))) first_named (changes_more_own events (link_at links k).place e here) in
      let whole : changes_before events links i (link_at links k).next ≡ opens n ∷ [] = next.nothing_between ∙ more ∙ ap (λ (l : List Change). change_of e ∷ l) nothing_before ∙ ap (λ (x : Change). x ∷ []) (opens_from (change_of e) n is) in
      record {
        follows = subst (Follows shelf (new_row c)) (sym whole) (follows_open shelf n c found sound);
        legal = subst (IsLegalSaga shelf) (sym whole) ((refl, below), tt);
        own = next.own;
      }
