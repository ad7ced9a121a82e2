-- What is found of two groups that have no saga in common, and of the groups of several workers.
use Rattle.std.proofs.Math.Bool.{or-false, and-true}
use Rattle.std.proofs.Common.{◌≡◌, ℕ, ◌+◌, ◌<◌, ◌≤◌, ◌%◌, ◌^◌, Bool, true, false, ◌&&◌, ◌||◌, not, List, [], ◌∷◌, ◌++◌, length, Option, Some, None, eqb, refl, sym, ap, ◌∙◌, subst, inl, inr, arith, take, drop}
use Rattle.std.specs.Prelude.{count_by, nat_lt, is_some, if◌then◌else◌, ◌==◌}
use Rattle.std.specs.Cmp.{both_ways}
use Rattle.std.proofs.lemmas.Bool.{cases_Bool, cases_eq, eq-eqb, eqb-true, lt-ltb, ltb-true, ne_eqb}
use Rattle.std.proofs.lemmas.Bool.Decides.{nat_tests}
use Rattle.std.proofs.lemmas.List.{take-append-drop, take-take}
use Rattle.std.proofs.lemmas.List.Sums.{count_by-le-length}
use Rattle.std.proofs.Math.Nat.{mod-lt}
use Rattle.saga_def.specs.Contents.{Contents}
use Rattle.saga_history.specs.declared.events.Event.{Event}
use Rattle.saga_history.specs.Changes.{Change, saga_of, change_of, past, changes}
use Rattle.saga_history.specs.Headline.{Headline}
use Rattle.saga_history.specs.Merges.{is_opening, opened_sagas}
use Rattle.saga_history.specs.Rules.{IsLegal, IsLegalSaga}
use Rattle.saga_history.specs.Tallies.{one}
use Rattle.saga_history.proofs.MergeLemmas.{changes_append, past_append}
use Rattle.saga_history.proofs.SagaLemmas.{legal_from}
use Rattle.saga_history.proofs.TransitionLemmas.{count-cons}
use Rattle.saga_audit.specs.declared.answers.Finding.{Finding}
use Rattle.saga_audit.specs.declared.answers.Finding.TheVariants.{Legal, Refused}
use Rattle.saga_audit.specs.declared.answers.Tally.{Tally}
use Rattle.saga_audit.specs.declared.chains.Link.{Link}
use Rattle.saga_audit.specs.declared.reasons.Reason.{Reason}
use Rattle.saga_audit.specs.Chains.{AreChains, Leads}
use Rattle.saga_audit.specs.Groups.{Finds, IsFirstIn, IsFirstRefused, IsLegalIn, IsLegalWith, IsTallied, count_in, ends, everything, is_in, is_saga, sticks}
use Rattle.saga_audit.specs.Joins.{Fit, is_below, joined}
use Rattle.saga_audit.specs.Sagas.{AreWaiting, is_done}
use Rattle.saga_audit.proofs.SagaLemmas.{count_none, count_same, occurs, occurs_in}

-- ---- what is legal was legal before

legal_end : (shelf : List Contents) (a b : List Change) → IsLegalSaga shelf (a ++ b) → IsLegalSaga shelf b
legal_end shelf [] b legal = legal
legal_end shelf (c ∷ a) b legal = legal_end shelf a b legal.1

legal_front : (shelf : List Contents) (mine : ℕ → Bool) (front back : List Event) → IsLegalIn shelf mine (past (front ++ back)) → IsLegalIn shelf mine (past front)
legal_front shelf mine front back legal = λ i ours.
    let split : changes i (past (front ++ back)) ≡ changes i (past back) ++ changes i (past front) = ap (changes i) (past_append front back) ∙ changes_append i (past back) (past front) in
    legal_end shelf (changes i (past back)) (changes i (past front)) (subst (IsLegalSaga shelf) split (legal i ours))

legal_cut : (shelf : List Contents) (mine : ℕ → Bool) (events : List Event) (p : ℕ) → IsLegalIn shelf mine (past events) → IsLegalIn shelf mine (past (take p events))
legal_cut shelf mine events p legal = legal_front shelf mine (take p events) (drop p events) (subst (λ (h : List Event). IsLegalIn shelf mine (past h)) (sym (take-append-drop p events)) legal)

legal_less : (shelf : List Contents) (mine : ℕ → Bool) (events : List Event) (p q : ℕ) → p ≤ q → IsLegalIn shelf mine (past (take q events)) → IsLegalIn shelf mine (past (take p events))
legal_less shelf mine events p q le legal = subst (λ (h : List Event). IsLegalIn shelf mine (past h)) (take-take p q events le) (legal_cut shelf mine (take q events) p legal)

-- ---- two groups

from_or : (a b : Bool) (P : Type 0) → (a || b) ≡ true → (a ≡ true → P) → (b ≡ true → P) → P
from_or true b P is f g = f refl
from_or false b P is f g = g is

or_left : (a b : Bool) → a ≡ true → (a || b) ≡ true
or_left true b is = refl
or_left false b is = cc

or_right : (a b : Bool) → b ≡ true → (a || b) ≡ true
or_right true b is = refl
or_right false b is = is

module _ (shelf : List Contents) (first second both : ℕ → Bool) (events : List Event)
    (apart : (i : ℕ) → first i ≡ true → second i ≡ false) (union : (i : ℕ) → both i ≡ (first i || second i)) where
  legal_both : (h : List Event) → IsLegalIn shelf first h → IsLegalIn shelf second h → IsLegalIn shelf both h
  legal_both h f g = λ i ours. from_or (first i) (second i) (IsLegalSaga shelf (changes i h)) (sym (union i) ∙ ours) (f i) (g i)

  one_of : (a b x : Bool) → (a ≡ true → b ≡ false) → one ((a || b) && x) ≡ one (a && x) + one (b && x)
  one_of true true x never = let bad = never refl in cc
  one_of true false x never = omega arith
  one_of false b x never = omega arith

  count_both : (test : ℕ → Bool) (xs : List ℕ) → count_by (λ i. both i && test i) xs ≡ count_by (λ i. first i && test i) xs + count_by (λ i. second i && test i) xs
  count_both test [] = refl
  count_both test (x ∷ xs) =
      let here : one (both x && test x) ≡ one (first x && test x) + one (second x && test x) = ap (λ (b : Bool). one (b && test x)) (union x) ∙ one_of (first x) (second x) (test x) (apart x) in
      omega (arith, count-cons (λ i. both i && test i) x xs, count-cons (λ i. first i && test i) x xs, count-cons (λ i. second i && test i) x xs, here, count_both test xs)

  tallied_both : (a b : Tally) → IsTallied shelf first events a → IsTallied shelf second events b → IsTallied shelf both events (record { sagas = a.sagas + b.sagas; ended = a.ended + b.ended; stuck = a.stuck + b.stuck })
  tallied_both a b f g = record {
    legal = legal_both (past events) f.legal g.legal;
    sagas_are = omega (arith, f.sagas_are, g.sagas_are, count_both (λ i. true) (opened_sagas events));
    ended_are = omega (arith, f.ended_are, g.ended_are, count_both (ends shelf events) (opened_sagas events));
    stuck_are = omega (arith, f.stuck_are, g.stuck_are, count_both (sticks events) (opened_sagas events));
  }

  in_second : (p : ℕ) (why : Reason) → IsLegalIn shelf first (past (take p events)) → IsFirstIn shelf second events p why → IsFirstIn shelf both events p why
  in_second p why f g = record {
    event = g.event;
    here = g.here;
    ours = union (saga_of g.event) ∙ or_right (first (saga_of g.event)) (second (saga_of g.event)) g.ours;
    before = legal_both (past (take p events)) f g.before;
    refused = g.refused;
  }

  in_first : (p : ℕ) (why : Reason) → IsFirstIn shelf first events p why → IsLegalIn shelf second (past (take p events)) → IsFirstIn shelf both events p why
  in_first p why f g = record {
    event = f.event;
    here = f.here;
    ours = union (saga_of f.event) ∙ or_left (first (saga_of f.event)) (second (saga_of f.event)) f.ours;
    before = legal_both (past (take p events)) f.before g;
    refused = f.refused;
  }

  lesser : (p q : ℕ) (v w : Reason) → IsFirstIn shelf first events p v → IsFirstIn shelf second events q w → (b : Bool) → nat_lt q p ≡ b → Finds shelf both events (if b then Refused q w else Refused p v)
  lesser p q v w f g true is = in_second q w (legal_less shelf first events q p (omega (arith, ltb-true q p is)) f.before) g
  lesser p q v w f g false is = in_first p v f (legal_less shelf second events p q (grind (arith, nat_tests, is)) g.before)

  pub finds_both : (a b : Finding) → Finds shelf first events a → Finds shelf second events b → Finds shelf both events (joined a b)
  finds_both (Legal a) (Legal b) f g = tallied_both a b f g
  finds_both (Legal a) (Refused q w) f g = in_second q w (legal_cut shelf first events q f.legal) g
  finds_both (Refused p v) (Legal b) f g = in_first p v f (legal_cut shelf second events p g.legal)
  finds_both (Refused p v) (Refused q w) f g = lesser p q v w f g (nat_lt q p) refl

-- a history opens no more sagas than it has events
few_opened : (h : List Event) → length (opened_sagas h) ≤ length h
few_opened [] = omega arith
few_opened (e ∷ h) = elim (cases_Bool (is_opening (change_of e))) [
  | inl opening ↦ rw opening (omega (arith, few_opened h))
  | inr other ↦ rw other (omega (arith, few_opened h))
]

pub finds_fit : (shelf : List Contents) (first second both : ℕ → Bool) (events : List Event) → ((i : ℕ) → first i ≡ true → second i ≡ false) → ((i : ℕ) → both i ≡ (first i || second i)) → (a b : Finding) → Finds shelf first events a → Finds shelf second events b → length events < 2 ^ 64 → Fit a b
finds_fit shelf first second both events apart union (Legal a) (Legal b) f g small =
    let sum = tallied_both shelf first second both events apart union a b f g in
    let few = few_opened events in
    record {
      sagas = omega (arith, sum.sagas_are, count_by-le-length (λ i. both i && true) (opened_sagas events), few, small);
      ended = omega (arith, sum.ended_are, count_by-le-length (λ i. both i && ends shelf events i) (opened_sagas events), few, small);
      stuck = omega (arith, sum.stuck_are, count_by-le-length (λ i. both i && sticks events i) (opened_sagas events), few, small);
    }
finds_fit shelf first second both events apart union (Legal a) (Refused q w) f g small = tt
finds_fit shelf first second both events apart union (Refused p v) b f g small = tt

-- ---- one group by another name

module _ (shelf : List Contents) (first second : ℕ → Bool) (events : List Event) (same : (i : ℕ) → first i ≡ second i) where
  legal_same : (h : List Event) → IsLegalIn shelf first h → IsLegalIn shelf second h
  legal_same h f = λ i ours. f i (same i ∙ ours)

  pub finds_same : (a : Finding) → Finds shelf first events a → Finds shelf second events a
  finds_same (Legal a) f = record {
    legal = legal_same (past events) f.legal;
    sagas_are = f.sagas_are ∙ count_same (λ i. first i && true) (λ i. second i && true) (λ i. ap (λ (b : Bool). b && true) (same i)) (opened_sagas events);
    ended_are = f.ended_are ∙ count_same (λ i. first i && ends shelf events i) (λ i. second i && ends shelf events i) (λ i. ap (λ (b : Bool). b && ends shelf events i) (same i)) (opened_sagas events);
    stuck_are = f.stuck_are ∙ count_same (λ i. first i && sticks events i) (λ i. second i && sticks events i) (λ i. ap (λ (b : Bool). b && sticks events i) (same i)) (opened_sagas events);
  }
  finds_same (Refused p why) f = record {
    event = f.event;
    here = f.here;
    ours = sym (same (saga_of f.event)) ∙ f.ours;
    before = legal_same (past (take p events)) f.before;
    refused = f.refused;
  }

-- ---- the sagas of a group, one after the other

and_parts : (a b : Bool) → (a && b) ≡ true → (a ≡ true) × (b ≡ true)
and_parts true b is = (refl, is)
and_parts false b is = cc

none_from : {A : Type 0} (o : Option A) → not (is_some o) ≡ true → o ≡ None
none_from None is = refl
none_from (Some x) is = cc

-- where nothing was found yet
module _ (shelf : List Contents) (mine : ℕ → Bool) (events : List Event) (links : List Link) (heads : ℕ → Option ℕ) (chains : AreChains mine events links heads 0) where
  unnamed : (i : ℕ) → is_done mine heads i ≡ true → changes i (past events) ≡ []
  unnamed i done =
      let both = and_parts (mine i) (not (is_some (heads i))) done in
      let none : heads i ≡ None = none_from (heads i) both.1 in
      (subst (λ (o : Option ℕ). Leads events links i 0 o) none (chains.headed i both.0)).nothing_between

  not_opened : (i : ℕ) → is_done mine heads i ≡ true → occurs i (opened_sagas events) ≡ 0
  not_opened i done = occurs_in i events ∙ ap (count_by is_opening) (unnamed i done)

  no_count : (test : ℕ → Bool) → count_in (is_done mine heads) test events ≡ 0
  no_count test = count_none (λ i. is_done mine heads i && test i) (opened_sagas events) (λ i is. not_opened i (and_parts (is_done mine heads i) (test i) is).0)

  pub nothing_found : IsTallied shelf (is_done mine heads) events (record { sagas = 0; ended = 0; stuck = 0 })
  nothing_found = record {
    legal = λ i done. subst (IsLegalSaga shelf) (sym (unnamed i done)) tt;
    sagas_are = sym (no_count (λ i. true));
    ended_are = sym (no_count (ends shelf events));
    stuck_are = sym (no_count (sticks events));
  }

  pub all_wait : AreWaiting mine events links heads
  all_wait = record {
    linked = chains.linked;
    leads = λ i k is. subst (λ (o : Option ℕ). Leads events links i 0 o) is (chains.headed i (chains.ours i k is));
    ours = chains.ours;
  }

-- one saga less waits
module _ (mine : ℕ → Bool) (events : List Event) (links : List Link) (old new : ℕ → Option ℕ) (saga head : ℕ) (waiting : AreWaiting mine events links old) (had : old saga ≡ Some head)
    (taken : (i : ℕ) → new i ≡ (if saga == i then None else old i)) where
  still : (i k : ℕ) (b : Bool) → eqb saga i ≡ b → new i ≡ Some k → old i ≡ Some k
  still i k true own is = let none : new i ≡ None = rw own at (taken i) in let bad : None ≡ Some k = sym none ∙ is in cc
  still i k false away is = let same : new i ≡ old i = rw away at (taken i) in sym same ∙ is

  pub others_wait : AreWaiting mine events links new
  others_wait = record {
    linked = waiting.linked;
    leads = λ i k is. waiting.leads i k (still i k (eqb saga i) refl is);
    ours = λ i k is. waiting.ours i k (still i k (eqb saga i) refl is);
  }

  pub not_done : (i : ℕ) → is_done mine old i ≡ true → is_saga saga i ≡ false
  not_done i done = ne_eqb saga i (λ same.
      let none : old i ≡ None = none_from (old i) (and_parts (mine i) (not (is_some (old i))) done).1 in
      let bad : Some head ≡ None = sym had ∙ ap old same ∙ none in
      cc)

  done_at : (i : ℕ) (b : Bool) → eqb saga i ≡ b → is_done mine new i ≡ (is_done mine old i || b)
  done_at i true own =
      let none : new i ≡ None = rw own at (taken i) in
      let ours : mine i ≡ true = subst (λ (j : ℕ). mine j ≡ true) (eqb-true saga i own) (waiting.ours saga head had) in
      let left : is_done mine new i ≡ true = rw (ours, none) refl in
      left ∙ sym (or_right (is_done mine old i) true refl)
  done_at i false away =
      let same : new i ≡ old i = rw away at (taken i) in
      rw same (sym (or-false (is_done mine old i)))

  pub done_more : (i : ℕ) → is_done mine new i ≡ (is_done mine old i || is_saga saga i)
  done_more i = done_at i (eqb saga i) refl

-- in the end none waits
pub all_done : (mine : ℕ → Bool) (heads : ℕ → Option ℕ) → ((i : ℕ) → heads i ≡ None) → (i : ℕ) → is_done mine heads i ≡ mine i
all_done mine heads none i = rw (none i) (and-true (mine i))

-- ---- the groups of several workers

below_less : (m g : ℕ) → nat_lt m (g + 1) ≡ (nat_lt m g || eqb m g)
below_less m g = both_ways (nat_lt m (g + 1)) (nat_lt m g || eqb m g)
    (λ is. elim (cases_eq m g) [
      | inl same ↦ or_right (nat_lt m g) (eqb m g) (eq-eqb m g same)
      | inr apart ↦ or_left (nat_lt m g) (eqb m g) (let lt : m < g = omega (arith, ltb-true m (g + 1) is, apart) in lt-ltb m g lt)
    ])
    (λ is. from_or (nat_lt m g) (eqb m g) (nat_lt m (g + 1) ≡ true) is
    (λ less. lt-ltb m (g + 1) (omega (arith, ltb-true m g less)))
    (λ eq. lt-ltb m (g + 1) (omega (arith, eqb-true m g eq))))

pub below_more : (w g i : ℕ) → is_below w (g + 1) i ≡ (is_below w g i || is_in w g i)
below_more w g i = below_less (i % w) g

pub below_apart : (w g i : ℕ) → is_below w g i ≡ true → is_in w g i ≡ false
below_apart w g i is = let lt : i % w < g = ltb-true (i % w) g is in ne_eqb (i % w) g (λ same. absurd (omega (arith, lt, same)))

pub below_all : (w g i : ℕ) → 0 < w → w ≤ g → is_below w g i ≡ everything i
below_all w g i some le = lt-ltb (i % w) g (omega (arith, mod-lt i some, le))

pub none_below : (shelf : List Contents) (w : ℕ) (events : List Event) → IsTallied shelf (is_below w 0) events (record { sagas = 0; ended = 0; stuck = 0 })
none_below shelf w events = record {
  legal = λ i ours. absurd (never i ours);
  sagas_are = sym (no_count (λ i. true));
  ended_are = sym (no_count (ends shelf events));
  stuck_are = sym (no_count (sticks events));
}
  where
    never : (i : ℕ) → is_below w 0 i ≡ true → ⊥
    never i is = let lt : i % w < 0 = ltb-true (i % w) 0 is in omega (arith, lt)

    no_count : (test : ℕ → Bool) → count_in (is_below w 0) test events ≡ 0
    no_count test = count_none (λ i. is_below w 0 i && test i) (opened_sagas events) (λ i is. absurd (never i (and_parts (is_below w 0 i) (test i) is).0))

-- ---- all sagas

every : (xs : List ℕ) → count_by (λ i. true && true) xs ≡ length xs
every [] = refl
every (x ∷ xs) = omega (arith, count-cons (λ (i : ℕ). true && true) x xs, every xs)

pub yes_from : (shelf : List Contents) (events : List Event) (a : Tally) → (IsLegal shelf (past events) → Headline shelf (past events)) → IsTallied shelf everything events a → IsLegalWith shelf events a.sagas a.ended a.stuck (length events)
yes_from shelf events a law f =
    let legal = legal_from shelf (past events) (λ i. f.legal i refl) in
    record {
      legal = legal;
      headline = law legal;
      sagas_are = f.sagas_are ∙ every (opened_sagas events);
      ended_are = f.ended_are ∙ count_same (λ i. true && ends shelf events i) (ends shelf events) (λ i. refl) (opened_sagas events);
      stuck_are = f.stuck_are ∙ count_same (λ i. true && sticks events i) (sticks events) (λ i. refl) (opened_sagas events);
      events_are = refl;
    }

pub no_from : (shelf : List Contents) (events : List Event) (place : ℕ) (why : Reason) → IsFirstIn shelf everything events place why → IsFirstRefused shelf events place why
no_from shelf events place why f = record {
  event = f.event;
  here = f.here;
  before = legal_from shelf (past (take place events)) (λ i. f.before i refl);
  refused = f.refused;
}
