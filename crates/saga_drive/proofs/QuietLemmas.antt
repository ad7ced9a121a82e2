-- Of two answers to one line by which nothing happened the texts are equal.
use Rattle.std.proofs.Common.{◌≡◌, ◌≢◌, ◌∙◌, ◌⊎◌, inl, inr, ℕ, zero, suc, ◌+◌, ◌-◌, ◌<◌, ◌≤◌, ◌^◌, Bool, true, false, List, [], ◌∷◌, ◌++◌, Option, Some, None, Result, Ok, Err, IsSomeAnd, IsTrue, ap, sym, subst, refl, arith, append-nil, length, codes, nat_lt, flat_map}
use Rattle.std.specs.Prelude.{◌↔◌, slice_index_or, if◌then◌else◌}
use Rattle.std.specs.List.{range_with_len}
use Rattle.std.proofs.lemmas.Bool.{cases_lt}
use Rattle.std.proofs.lemmas.Bool.Decides.{nat_tests}
use Rattle.std.proofs.lemmas.Grind.{flat_map-append}
use Rattle.std.proofs.lemmas.List.{append_cancel_left, length-append}
use Rattle.serde_json.specs.Data.{Data}
use Rattle.saga_json.specs.declared.faults.JsonFault.{JsonFault}
use Rattle.saga_json.specs.declared.faults.JsonFault.TheVariants as json
use Rattle.saga_json.specs.Fields.{at_key, u16_of, u32_of}
use Rattle.saga_json.specs.Keys.{has_key, keys_fit}
use Rattle.saga_json.specs.Reads.{◌>>=◌, Fails}
use Rattle.saga_json.specs.Texts.{json_of}
use Rattle.saga_def.specs.Contents.{Contents}
use Rattle.saga_history.specs.declared.events.Event.{Event}
use Rattle.saga_history.specs.declared.events.Event.TheVariants as event
use Rattle.saga_history.specs.declared.tasks.Kind.TheVariants as kind
use Rattle.saga_history.specs.declared.tasks.Kind.{Kind}
use Rattle.saga_history.specs.declared.tasks.Outcome.{Outcome}
use Rattle.saga_history.specs.declared.tasks.Phase.{Phase}
use Rattle.saga_history.specs.declared.tasks.Phase.TheVariants.{Ended, Stuck}
use Rattle.saga_history.specs.declared.tasks.Task.{Task}
use Rattle.saga_history.specs.declared.tasks.Task.TheVariants.{Run, Undo, Plan}
use Rattle.saga_history.specs.Changes.{Change, aborts, starts_plan}
use Rattle.saga_history.specs.Rules.{HasPhase, SagaMay}
use Rattle.saga_history.specs.States.{state}
use Rattle.saga_history.specs.Tasks.{busy_state}
use Rattle.saga_history.proofs.LawLemmas.{has_one_phase}
use Rattle.saga_core.specs.Book.{Book, changes_in, definition_in, number}
use Rattle.saga_core.specs.Refusals.{IsUnknown}
use Rattle.saga_core.specs.Saga.{HasSaga, Saga}
use Rattle.saga_core.specs.Tasks.{AllAreOver, StandsAt}
use Rattle.saga_views.specs.Lists.{AreTold, GoesTo, TellsList, is_told_at, list_text, text_at, text_if, told_up_to}
use Rattle.saga_views.specs.Phases.{ArePhases}
use Rattle.saga_views.specs.Shown.{TellsSaga, show_text}
use Rattle.saga_views.specs.Tasks.{saga_of}
use Rattle.saga_views.specs.Status.{TellsStatus, count_in, status_text}
use Rattle.saga_drive.specs.declared.attempts.Attempt.{Attempt}
use Rattle.saga_drive.specs.declared.openings.Wanted.{Wanted}
use Rattle.saga_drive.specs.declared.openings.Wanted.TheVariants.{Index, Name}
use Rattle.saga_drive.specs.declared.replies.Reply.{Reply}
use Rattle.saga_drive.specs.declared.requests.Request.{Request}
use Rattle.saga_drive.specs.declared.requests.Request.TheVariants as request
use Rattle.saga_drive.specs.declared.requests.RequestFault.{RequestFault}
use Rattle.saga_drive.specs.declared.requests.RequestFault.TheVariants.{TooLong, Form}
use Rattle.saga_drive.specs.declared.verbs.Verb.{Verb}
use Rattle.saga_drive.specs.declared.verbs.Verb.TheVariants as verb
use Rattle.saga_drive.specs.Answers.{IsAnswer, IsDone, IsIdle, IsMet, IsReplied, IsSaid, LacksRoom, Meets, NeitherMay}
use Rattle.saga_drive.specs.Attempts.{IsNotTaken, IsOtherAttempt}
use Rattle.saga_drive.specs.Starts.{Starts, after, task_of}
use Rattle.saga_drive.specs.Fields.{attempt_of, bytes_of, count_of, max_most, most_of, u32_if, wanted_of}
use Rattle.saga_drive.specs.Laws.{HasOneText}
use Rattle.saga_drive.specs.Many.{AreTheFirst, AreTheLast, StartInTurn, TakesMany}
use Rattle.saga_drive.specs.Openings.{IsNext, IsNotNext, IsWanted, NoneIsWanted}
use Rattle.saga_drive.specs.Replies.{fault_text, idle_text, last_tasks_text, memory_word, text_of, word_of_fault}
use Rattle.saga_drive.specs.Verbs.{keys_of, optional_keys_of}
use Rattle.saga_drive.specs.Requests.{ReadsRequest, fields_of, from_of, next_of, outcome_of, phase_of, request_by, request_of, request_of_text, request_of_verb, sagas_of, taken_of, verb_of}
use Rattle.saga_drive.proofs.KnownLemmas.{apart, of_saga, unknown}
use Rattle.saga_drive.proofs.ReadyLawLemmas.{ready_one}

-- ---- nothing was gained

never : {A : Type 0} (x : A) (xs : List A) → [] ≡ x ∷ xs → ⊥
never x xs is = absurd (let no : 0 ≡ suc (length xs) = ap length is in omega (arith, no))

starts_some : (book : Book) (t : Task) (text : List ℕ) → Starts book t [] text → ⊥
starts_some book (Run i s) text takes = never (event.StartRun i s) [] takes.only
starts_some book (Undo i s) text takes = never (event.StartUndo i s) [] takes.only
starts_some book (Plan i) text plans = never (event.StartPlan i) (event.Adopt i plans.answer ∷ []) plans.both

gained_none : (book new : Book) (gained : List Event) → new ≡ after book gained → new.history ≡ book.history → gained ≡ []
gained_none book new gained grows same =
    append_cancel_left book.history gained [] (sym (ap (λ (b : Book). b.history) grows) ∙ same ∙ sym (append-nil book.history))

same_said : (word text other : List ℕ) → IsSaid word [] text → IsSaid word [] other → text ≡ other
same_said word text other a b = a.text_is ∙ sym b.text_is

-- ---- sagas

same_saga : (b : Book) (i : ℕ) (x y : Saga) → HasSaga b i x → HasSaga b i y → x ≡ y
same_saga b i x y a c =
    let defined : ◌≡◌ {A = Option Contents} (Some x.definition) (Some y.definition) = sym a.defined ∙ c.defined in
    let definition : x.definition ≡ y.definition = cc in
    ap (λ k. saga_of k x.definition x.changes) (a.numbered ∙ sym c.numbered)
    ∙ ap (λ d. saga_of y.number d x.changes) definition
    ∙ ap (λ l. saga_of y.number y.definition l) (a.changed ∙ sym c.changed)

same_bool : (P : Type 0) (a b : Bool) → (IsTrue a ↔ P) → (IsTrue b ↔ P) → a ≡ b
same_bool P true true x y = refl
same_bool P true false x y = absurd (let e : false ≡ true = y.1 (x.0 refl) in cc)
same_bool P false true x y = absurd (let e : false ≡ true = x.1 (y.0 refl) in cc)
same_bool P false false x y = refl

taken_or_not : (d : Contents) (l : List Change) (s : ℕ) (kind : Kind) → IsNotTaken d l s → state l s ≡ busy_state kind → ⊥
taken_or_not d l s kind.Run none busy = none.1 busy
taken_or_not d l s kind.Undo none busy = none.2 busy

-- ---- each request

module _ (book : Book) where
  wanted_or_none : (wanted : Wanted) (k : ℕ) → length book.shelf ≤ 2 ^ 32 → NoneIsWanted book.shelf wanted → IsWanted book.shelf wanted k → ⊥
  wanted_or_none (Index j) k few none is = omega (arith, none, is.1)
  wanted_or_none (Name name) k few none is = none k (omega (arith, few, is.0)) is.1

  next_or_not : (saga : Option ℕ) → IsNext saga book → IsNotNext saga book → ⊥
  next_or_not None is not = not
  next_or_not (Some i) is not = not is

  opens_one : (wanted : Wanted) (saga : Option ℕ) (text other : List ℕ) → length book.shelf ≤ 2 ^ 32
      → Meets book (request.Open wanted saga) [] text → Meets book (request.Open wanted saga) [] other → text ≡ other
  opens_one wanted saga text other few (inl a) b = absurd (never _ [] a.3.only)
  opens_one wanted saga text other few a (inl b) = absurd (never _ [] b.3.only)
  opens_one wanted saga text other few (inr (inl a)) (inr (inl b)) = same_said _ text other a.1 b.1
  opens_one wanted saga text other few (inr (inl a)) (inr (inr (inl b))) = absurd (wanted_or_none wanted b.0.0 few a.0 b.0.1)
  opens_one wanted saga text other few (inr (inl a)) (inr (inr (inr b))) = absurd (wanted_or_none wanted b.0.0 few a.0 b.0.1)
  opens_one wanted saga text other few (inr (inr (inl a))) (inr (inl b)) = absurd (wanted_or_none wanted a.0.0 few b.0 a.0.1)
  opens_one wanted saga text other few (inr (inr (inr a))) (inr (inl b)) = absurd (wanted_or_none wanted a.0.0 few b.0 a.0.1)
  opens_one wanted saga text other few (inr (inr (inl a))) (inr (inr (inl b))) = same_said _ text other a.2 b.2
  opens_one wanted saga text other few (inr (inr (inl a))) (inr (inr (inr b))) = absurd (next_or_not saga b.1 a.1)
  opens_one wanted saga text other few (inr (inr (inr a))) (inr (inr (inl b))) = absurd (next_or_not saga a.1 b.1)
  opens_one wanted saga text other few (inr (inr (inr a))) (inr (inr (inr b))) = same_said _ text other a.2 b.2

  step_one : (i s : ℕ) (text other : List ℕ) → Meets book (request.TakeStep i s) [] text → Meets book (request.TakeStep i s) [] other → text ≡ other
  step_one i s text other (inl a) b = absurd (starts_some book (task_of a.0 i s) a.2.0 a.2.1)
  step_one i s text other a (inl b) = absurd (starts_some book (task_of b.0 i s) b.2.0 b.2.1)
  step_one i s text other (inr (inl a)) (inr (inl b)) = same_said _ text other a.1 b.1
  step_one i s text other (inr (inl a)) (inr (inr (inl b))) = absurd (unknown book i (λ d l. length d.steps ≤ s) a.0 b.0)
  step_one i s text other (inr (inl a)) (inr (inr (inr b))) = absurd (unknown book i (λ d l. NeitherMay d l s) a.0 b.0)
  step_one i s text other (inr (inr (inl a))) (inr (inl b)) = absurd (unknown book i (λ d l. length d.steps ≤ s) b.0 a.0)
  step_one i s text other (inr (inr (inr a))) (inr (inl b)) = absurd (unknown book i (λ d l. NeitherMay d l s) b.0 a.0)
  step_one i s text other (inr (inr (inl a))) (inr (inr (inl b))) = same_said _ text other a.1 b.1
  step_one i s text other (inr (inr (inl a))) (inr (inr (inr b))) =
      absurd (apart book i (λ d l. length d.steps ≤ s) (λ d l. NeitherMay d l s) (λ d l p q. omega (arith, p, q.0)) a.0 b.0)
  step_one i s text other (inr (inr (inr a))) (inr (inr (inl b))) =
      absurd (apart book i (λ d l. length d.steps ≤ s) (λ d l. NeitherMay d l s) (λ d l p q. omega (arith, p, q.0)) b.0 a.0)
  step_one i s text other (inr (inr (inr a))) (inr (inr (inr b))) = same_said _ text other a.1 b.1

  plan_one : (i : ℕ) (text other : List ℕ) → Meets book (request.TakePlan i) [] text → Meets book (request.TakePlan i) [] other → text ≡ other
  plan_one i text other (inl a) b = absurd (starts_some book (Plan i) a.1.0 a.1.1)
  plan_one i text other a (inl b) = absurd (starts_some book (Plan i) b.1.0 b.1.1)
  plan_one i text other (inr (inl a)) (inr (inl b)) = same_said _ text other a.1 b.1
  plan_one i text other (inr (inl a)) (inr (inr b)) = absurd (unknown book i (λ d l. SagaMay d l starts_plan → ⊥) a.0 b.0)
  plan_one i text other (inr (inr a)) (inr (inl b)) = absurd (unknown book i (λ d l. SagaMay d l starts_plan → ⊥) b.0 a.0)
  plan_one i text other (inr (inr a)) (inr (inr b)) = same_said _ text other a.1 b.1

  idle_one : (text other : List ℕ) → IsIdle book [] text → IsIdle book [] other → text ≡ other
  idle_one text other a b =
      a.said.text_is ∙ ap idle_text (same_bool (AllAreOver book) a.settled b.settled a.settled_is b.settled_is) ∙ sym b.said.text_is

  next_one : (text other : List ℕ) → Meets book request.Next [] text → Meets book request.Next [] other → text ≡ other
  next_one text other (inl a) b = absurd (starts_some book a.0 a.2.0 a.2.1)
  next_one text other a (inl b) = absurd (starts_some book b.0 b.2.0 b.2.1)
  next_one text other (inr a) (inr b) = idle_one text other a b

  report_one : (i s : ℕ) (meant : Option Attempt) (outcome : Outcome) (text other : List ℕ)
      → Meets book (request.Report i s meant outcome) [] text → Meets book (request.Report i s meant outcome) [] other → text ≡ other
  report_one i s meant outcome text other (inl a) b = absurd (never _ [] a.1.only)
  report_one i s meant outcome text other a (inl b) = absurd (never _ [] b.1.only)
  report_one i s meant outcome text other (inr (inl a)) (inr (inl b)) = same_said _ text other a.1 b.1
  report_one i s meant outcome text other (inr (inl a)) (inr (inr (inl b))) = absurd (unknown book i (λ d l. length d.steps ≤ s) a.0 b.0)
  report_one i s meant outcome text other (inr (inl a)) (inr (inr (inr (inl b)))) = absurd (unknown book i (λ d l. IsNotTaken d l s) a.0 b.0)
  report_one i s meant outcome text other (inr (inl a)) (inr (inr (inr (inr b)))) = absurd (unknown book i (λ d l. IsOtherAttempt meant d l s) a.0 b.0)
  report_one i s meant outcome text other (inr (inr (inl a))) (inr (inl b)) = absurd (unknown book i (λ d l. length d.steps ≤ s) b.0 a.0)
  report_one i s meant outcome text other (inr (inr (inr (inl a)))) (inr (inl b)) = absurd (unknown book i (λ d l. IsNotTaken d l s) b.0 a.0)
  report_one i s meant outcome text other (inr (inr (inr (inr a)))) (inr (inl b)) = absurd (unknown book i (λ d l. IsOtherAttempt meant d l s) b.0 a.0)
  report_one i s meant outcome text other (inr (inr (inl a))) (inr (inr (inl b))) = same_said _ text other a.1 b.1
  report_one i s meant outcome text other (inr (inr (inl a))) (inr (inr (inr (inl b)))) =
      absurd (apart book i (λ d l. length d.steps ≤ s) (λ d l. IsNotTaken d l s) (λ d l p q. omega (arith, p, q.0)) a.0 b.0)
  report_one i s meant outcome text other (inr (inr (inl a))) (inr (inr (inr (inr b)))) =
      absurd (apart book i (λ d l. length d.steps ≤ s) (λ d l. IsOtherAttempt meant d l s) (λ d l p q. omega (arith, p, q.is_step)) a.0 b.0)
  report_one i s meant outcome text other (inr (inr (inr (inl a)))) (inr (inr (inl b))) =
      absurd (apart book i (λ d l. length d.steps ≤ s) (λ d l. IsNotTaken d l s) (λ d l p q. omega (arith, p, q.0)) b.0 a.0)
  report_one i s meant outcome text other (inr (inr (inr (inr a)))) (inr (inr (inl b))) =
      absurd (apart book i (λ d l. length d.steps ≤ s) (λ d l. IsOtherAttempt meant d l s) (λ d l p q. omega (arith, p, q.is_step)) b.0 a.0)
  report_one i s meant outcome text other (inr (inr (inr (inl a)))) (inr (inr (inr (inl b)))) = same_said _ text other a.1 b.1
  report_one i s meant outcome text other (inr (inr (inr (inl a)))) (inr (inr (inr (inr b)))) =
      absurd (apart book i (λ d l. IsNotTaken d l s) (λ d l. IsOtherAttempt meant d l s) (λ d l p q. taken_or_not d l s q.kind p q.busy) a.0 b.0)
  report_one i s meant outcome text other (inr (inr (inr (inr a)))) (inr (inr (inr (inl b)))) =
      absurd (apart book i (λ d l. IsNotTaken d l s) (λ d l. IsOtherAttempt meant d l s) (λ d l p q. taken_or_not d l s q.kind p q.busy) b.0 a.0)
  report_one i s meant outcome text other (inr (inr (inr (inr a)))) (inr (inr (inr (inr b)))) = same_said _ text other a.1 b.1

  abort_one : (i : ℕ) (text other : List ℕ) → Meets book (request.Abort i) [] text → Meets book (request.Abort i) [] other → text ≡ other
  abort_one i text other (inl a) b = absurd (never _ [] a.only)
  abort_one i text other a (inl b) = absurd (never _ [] b.only)
  abort_one i text other (inr (inl a)) (inr (inl b)) = same_said _ text other a.1 b.1
  abort_one i text other (inr (inl a)) (inr (inr b)) = absurd (unknown book i (λ d l. SagaMay d l aborts → ⊥) a.0 b.0)
  abort_one i text other (inr (inr a)) (inr (inl b)) = absurd (unknown book i (λ d l. SagaMay d l aborts → ⊥) b.0 a.0)
  abort_one i text other (inr (inr a)) (inr (inr b)) = same_said _ text other a.1 b.1

  shown_one : (x y : Saga) (p q : Phase) → x ≡ y → HasPhase x.definition x.changes p → HasPhase y.definition y.changes q → show_text x p ≡ show_text y q
  shown_one x y p q same a b =
      ap (λ (s : Saga). show_text s p) same
      ∙ ap (show_text y) (has_one_phase y.definition y.changes p q (subst (λ (s : Saga). HasPhase s.definition s.changes p) same a) b)

  not_there : (i : ℕ) (text : List ℕ) → IsUnknown book i → TellsSaga book i text → ⊥
  not_there i text none tells = unknown book i (λ d l. Unit {0}) none (of_saga book i tells.saga (λ d l. Unit {0}) tells.is tt)

  show_one : (i : ℕ) (text other : List ℕ) → Meets book (request.Show i) [] text → Meets book (request.Show i) [] other → text ≡ other
  show_one i text other (inl a) (inl b) =
      let same = same_saga book i a.told.saga b.told.saga a.told.is b.told.is in
      a.told.text_is ∙ shown_one a.told.saga b.told.saga a.told.phase b.told.phase same a.told.has b.told.has ∙ sym b.told.text_is
  show_one i text other (inl a) (inr b) = absurd (not_there i text b.0 a.told)
  show_one i text other (inr a) (inl b) = absurd (not_there i other a.0 b.told)
  show_one i text other (inr a) (inr b) = same_said _ text other a.1 b.1

  -- ---- many tasks

  no_tasks : (tasks : List Task) (told : List (List ℕ)) → StartInTurn tasks book [] told → told ≡ []
  no_tasks [] told none = none.1
  no_tasks (t ∷ tasks) told (first, text, rest, texts, is_first, begins, more, all, all_told) =
      absurd (starts_some book t text (subst (λ (g : List Event). Starts book t g text) (front_none first rest all) begins))
    where
      front_none : (first rest : List Event) → [] ≡ first ++ rest → first ≡ []
      front_none [] rest is = refl
      front_none (e ∷ first) rest is = absurd (never e (first ++ rest) is)

  alone : (most : ℕ) (text : List ℕ) → 0 < most → TakesMany book most [] text → (settled : Bool) × (IsTrue settled ↔ AllAreOver book) × (text ≡ last_tasks_text settled [])
  alone most text some takes = by takes.end
    where
      told : takes.told ≡ []
      told = no_tasks takes.tasks takes.told takes.begin

      same : after book [] ≡ book
      same = ap (λ (h : List Event). record book { history = h }) (append-nil book.history)

      by : AreTheLast (after book []) takes.told text ⊎ AreTheFirst most takes.told text → (settled : Bool) × (IsTrue settled ↔ AllAreOver book) × (text ≡ last_tasks_text settled [])
      by (inl last) = (last.settled, subst (λ (b : Book). IsTrue last.settled ↔ AllAreOver b) same last.settled_is, last.text_is ∙ ap (last_tasks_text last.settled) told)
      by (inr first) = absurd (count first.count)
        where
          count : (length takes.told ≡ most) ⊎ (0 < length takes.told) → ⊥
          count (inl all) = omega (arith, some, all, ap length told)
          count (inr any) = omega (arith, any, ap length told)

  many_one : (most : ℕ) (text other : List ℕ) → 0 < most → TakesMany book most [] text → TakesMany book most [] other → text ≡ other
  many_one most text other some a b =
      let x = alone most text some a in
      let y = alone most other some b in
      x.2 ∙ ap (λ (settled : Bool). last_tasks_text settled []) (same_bool (AllAreOver book) x.0 y.0 x.1 y.1) ∙ sym y.2

  -- ---- where all sagas stand

  one_phase : (i : ℕ) (p q : Phase) → StandsAt book i p → StandsAt book i q → p ≡ q
  one_phase i p q a b = by (definition_in book i) a b
    where
      by : (o : Option Contents) → IsSomeAnd o (λ d. HasPhase d (changes_in book i) p) → IsSomeAnd o (λ d. HasPhase d (changes_in book i) q) → p ≡ q
      by None a b = absurd a
      by (Some d) a b = has_one_phase d (changes_in book i) p q a b

  one_phases : (ps qs : List Phase) → ArePhases book ps → ArePhases book qs → ps ≡ qs
  one_phases ps qs a b =
      same_list (λ k p. StandsAt book (number book.first book.stride k) p) (λ k p q. one_phase (number book.first book.stride k) p q) ps qs (a.sized ∙ sym b.sized)
      (λ k p lt. a.each k p (subst (λ (n : ℕ). k < n) a.sized lt)) (λ k p lt. b.each k p (subst (λ (n : ℕ). k < n) b.sized lt))
    where
      same_list : (P : ℕ → Phase → Type 0) → ((k : ℕ) (p q : Phase) → P k p → P k q → p ≡ q) → (ps qs : List Phase) → length ps ≡ length qs
          → ((k : ℕ) (p : Phase) → k < length ps → P k (slice_index_or ps k p)) → ((k : ℕ) (p : Phase) → k < length qs → P k (slice_index_or qs k p)) → ps ≡ qs
      same_list P one [] [] size xs ys = refl
      same_list P one [] (q ∷ qs) size xs ys = absurd (omega (arith, size))
      same_list P one (p ∷ ps) [] size xs ys = absurd (omega (arith, size))
      same_list P one (p ∷ ps) (q ∷ qs) size xs ys =
          let first : p ≡ q = one 0 p q (xs 0 p (omega arith)) (ys 0 q (omega arith)) in
          let rest : ps ≡ qs = same_list (λ k. P (suc k)) (λ k. one (suc k)) ps qs (omega (arith, size)) (λ k r lt. xs (suc k) r (omega (arith, lt))) (λ k r lt. ys (suc k) r (omega (arith, lt))) in
          cc

  status_one : (text other : List ℕ) → TellsStatus book text → TellsStatus book other → text ≡ other
  status_one text other a b =
      a.text_is ∙ ap (λ (ps : List Phase). status_text book (count_in Ended ps) (count_in Stuck ps)) (one_phases a.phases b.phases a.phases_are b.phases_are) ∙ sym b.text_is

  -- the next place gives one text more, where it is told
  abbrev told_to : ℕ → Option Phase → List Phase → ℕ → List (List ℕ)
  told_to from wanted ps count = told_up_to book from wanted ps count

  range_more : (from n : ℕ) → range_with_len from (suc n) ≡ range_with_len from n ++ (from + n) ∷ []
  range_more from zero = ap (λ (k : ℕ). k ∷ []) (let e : from ≡ from + 0 = omega arith in e)
  range_more from (suc n) =
      ap (λ (l : List ℕ). from ∷ l) (range_more (from + 1) n ∙ ap (λ (k : ℕ). range_with_len (from + 1) n ++ k ∷ []) (let e : from + 1 + n ≡ from + suc n = omega arith in e))

  told_more : (from : ℕ) (wanted : Option Phase) (ps : List Phase) (n : ℕ)
      → length (told_to from wanted ps (suc n)) ≡ length (told_to from wanted ps n) + length (text_if (is_told_at book from wanted ps n) (text_at book ps n))
  told_more from wanted ps n =
      let f : ℕ → List (List ℕ) = λ k. text_if (is_told_at book from wanted ps k) (text_at book ps k) in
      let last : range_with_len 0 (suc n) ≡ range_with_len 0 n ++ n ∷ [] = range_more 0 n ∙ ap (λ (k : ℕ). range_with_len 0 n ++ k ∷ []) (let e : 0 + n ≡ n = omega arith in e) in
      ap length (ap (flat_map f) last ∙ flat_map-append f (range_with_len 0 n) (n ∷ [])) ∙ length-append (flat_map f (range_with_len 0 n)) (flat_map f (n ∷ []))
      ∙ ap (λ (l : List (List ℕ)). length (flat_map f (range_with_len 0 n)) + length l) (append-nil (f n))

  told_grows : (from : ℕ) (wanted : Option Phase) (ps : List Phase) (n k : ℕ) → length (told_to from wanted ps n) ≤ length (told_to from wanted ps (n + k))
  told_grows from wanted ps n zero = subst (λ (m : ℕ). length (told_to from wanted ps n) ≤ length (told_to from wanted ps m)) (let e : n ≡ n + 0 = omega arith in e) (omega arith)
  told_grows from wanted ps n (suc k) =
      let less = told_grows from wanted ps n k in
      let more = told_more from wanted ps (n + k) in
      subst (λ (m : ℕ). length (told_to from wanted ps n) ≤ length (told_to from wanted ps m)) (let e : suc (n + k) ≡ n + suc k = omega arith in e) (omega (arith, less, more))

  told_beyond : (from : ℕ) (wanted : Option Phase) (ps : List Phase) (n m : ℕ) → is_told_at book from wanted ps n ≡ true → n < m
      → length (told_to from wanted ps n) < length (told_to from wanted ps m)
  told_beyond from wanted ps n m told lt =
      let more : length (told_to from wanted ps (suc n)) ≡ length (told_to from wanted ps n) + 1 =
      told_more from wanted ps n ∙ ap (λ (b : Bool). length (told_to from wanted ps n) + length (text_if b (text_at book ps n))) told in
      let grown = told_grows from wanted ps (suc n) (m - suc n) in
      let all : suc n + (m - suc n) ≡ m = omega (arith, lt) in
      omega (arith, more, subst (λ (k : ℕ). length (told_to from wanted ps (suc n)) ≤ length (told_to from wanted ps k)) all grown)

  -- as far as it goes there is no choice
  not_further : (from : ℕ) (wanted : Option Phase) (ps : List Phase) (texts others : List (List ℕ)) (more rest : Option ℕ)
      → (a : AreTold book from wanted ps texts more) → (b : AreTold book from wanted ps others rest) → b.count ≤ a.count
  not_further from wanted ps texts others more rest a b = by more a.goes rest b.goes
    where
      by : (more : Option ℕ) → GoesTo book from wanted ps a.count more → (rest : Option ℕ) → GoesTo book from wanted ps b.count rest → b.count ≤ a.count
      by None all None other = omega (arith, all, other)
      by None all (Some m) other = omega (arith, all, other.0)
      by (Some n) stops rest other = elim (cases_lt a.count b.count) [
        | inr le ↦ le
        | inl lt ↦ absurd (omega (arith, told_beyond from wanted ps a.count b.count stops.2 lt, stops.3, b.few, ap length b.texts_are))
      ]

  same_more : (from : ℕ) (wanted : Option Phase) (ps : List Phase) (count : ℕ) (more rest : Option ℕ)
      → GoesTo book from wanted ps count more → GoesTo book from wanted ps count rest → more ≡ rest
  same_more from wanted ps count None None a b = refl
  same_more from wanted ps count None (Some m) a b = absurd (omega (arith, a, b.0))
  same_more from wanted ps count (Some n) None a b = absurd (omega (arith, a.0, b))
  same_more from wanted ps count (Some n) (Some m) a b = ap Some (a.1 ∙ sym b.1)

  list_one : (from : ℕ) (wanted : Option Phase) (text other : List ℕ) → TellsList book from wanted text → TellsList book from wanted other → text ≡ other
  list_one from wanted text other a b =
      let ps : a.phases ≡ b.phases = one_phases a.phases b.phases a.phases_are b.phases_are in
      let told : AreTold book from wanted b.phases a.texts a.more = subst (λ (ps : List Phase). AreTold book from wanted ps a.texts a.more) ps a.told in
      let count : told.count ≡ b.told.count =
      omega (arith, not_further from wanted b.phases a.texts b.texts a.more b.more told b.told, not_further from wanted b.phases b.texts a.texts b.more a.more b.told told) in
      let texts : a.texts ≡ b.texts = told.texts_are ∙ ap (told_to from wanted b.phases) count ∙ sym b.told.texts_are in
      let more : a.more ≡ b.more = same_more from wanted b.phases b.told.count a.more b.more (subst (λ (n : ℕ). GoesTo book from wanted b.phases n a.more) count told.goes) b.told.goes in
      a.text_is ∙ ap (λ (l : List (List ℕ)). list_text l a.more) texts ∙ ap (list_text b.texts) more ∙ sym b.text_is

  -- ---- any request

  abbrev IsAsked : Request → Type 0
  IsAsked (request.NextMany most) = 0 < most
  IsAsked other = Unit {0}

  lacks_not : (wanted : Wanted) (saga : Option ℕ) (room : ℕ) (text : List ℕ) → length book.shelf ≤ 2 ^ 32
      → LacksRoom book room wanted saga → Meets book (request.Open wanted saga) [] text → ⊥
  lacks_not wanted saga room text few lacks (inl a) = never _ [] a.3.only
  lacks_not wanted saga room text few lacks (inr (inl a)) = wanted_or_none wanted lacks.index few a.0 lacks.is
  lacks_not wanted saga room text few lacks (inr (inr (inl a))) = next_or_not saga lacks.next a.1
  lacks_not wanted saga room text few lacks (inr (inr (inr a))) = absurd (omega (arith, lacks.few, a.0.2.1))

  meets_one : (r : Request) (text other : List ℕ) → IsAsked r → length book.shelf ≤ 2 ^ 32 → Meets book r [] text → Meets book r [] other → text ≡ other
  meets_one (request.Open wanted saga) text other asked few a b = opens_one wanted saga text other few a b
  meets_one request.Next text other asked few a b = next_one text other a b
  meets_one (request.NextMany most) text other asked few a b = many_one most text other asked a b
  meets_one (request.TakeStep i s) text other asked few a b = step_one i s text other a b
  meets_one (request.TakePlan i) text other asked few a b = plan_one i text other a b
  meets_one (request.Report i s meant outcome) text other asked few a b = report_one i s meant outcome text other a b
  meets_one (request.Abort i) text other asked few a b = abort_one i text other a b
  meets_one (request.Show i) text other asked few a b = show_one i text other a b
  meets_one request.Busy text other asked few a b = same_said _ text other a b
  meets_one (request.Ready from) text other asked few a b = ready_one book from text other a.told b.told
  meets_one (request.Sagas from phase) text other asked few a b = list_one from phase text other a.told b.told
  meets_one request.Status text other asked few a b = status_one text other a.told b.told
  meets_one (request.Define definition) text other asked few a b = same_said _ text other a b

-- ---- what is read of a line

-- what is read, step by step
bound : {A B : Type 0} (Q : Type 0) (y : B) (r : Result A JsonFault) (f : A → Result B JsonFault) → ((x : A) → r ≡ Ok x → f x ≡ Ok y → Q) → (r >>= f) ≡ Ok y → Q
bound Q y (Ok x) f go is = go x refl is
bound Q y (Err fault) f go is = absurd (let no : (let r : Result _ JsonFault = Err fault in r) ≡ Ok y = is in cc)

same_ok : {A : Type 0} (x y : A) → (let r : Result A JsonFault = Ok x in r) ≡ Ok y → x ≡ y
same_ok x y is = cc

some_asked : (most n : ℕ) → count_of most ≡ Ok n → 0 < n
some_asked most n is = by (nat_lt 0 most) refl (nat_lt max_most most) is
  where
    positive : nat_lt 0 most ≡ true → 0 < most
    positive h = grind (arith, nat_tests)

    by : (b : Bool) → nat_lt 0 most ≡ b → (c : Bool) → (if b then (if c then Err json.BadType else Ok most) else Err json.BadType) ≡ Ok n → 0 < n
    by true some true is = absurd (let no : (let r : Result ℕ JsonFault = Err json.BadType in r) ≡ Ok n = is in cc)
    by true some false is = subst (λ (k : ℕ). 0 < k) (same_ok most n is) (positive some)
    by false none c is = absurd (let no : (let r : Result ℕ JsonFault = Err json.BadType in r) ≡ Ok n = is in cc)

module _ (most : ℕ) where
  abbrev q : Request
  q = request.NextMany most

  abbrev Q : Type 0
  Q = 0 < most

  not_that : (r : Request) → (r ≡ q → ⊥) → (let x : Result Request JsonFault = Ok r in x) ≡ Ok q → Q
  not_that r other is = absurd (other (same_ok r q is))

  of_next : (value : Data) → next_of value ≡ Ok q → Q
  of_next value is = by (has_key (codes "most") value) is
    where
      of_most : (x : ℕ) → most_of value ≡ Ok x → (let r : Result Request JsonFault = Ok (request.NextMany x) in r) ≡ Ok q → Q
      of_most x read is =
          let same : x ≡ most = (let e : request.NextMany x ≡ request.NextMany most = same_ok (request.NextMany x) q is in cc) in
          subst (λ (k : ℕ). 0 < k) same (bound (0 < x) x (at_key u16_of (codes "most") value) count_of (λ n _ counts. some_asked n x counts) read)

      by : (b : Bool) → (if b then most_of value >>= (λ m. Ok (request.NextMany m)) else Ok request.Next) ≡ Ok q → Q
      by true is = bound Q q (most_of value) (λ m. Ok (request.NextMany m)) of_most is
      by false is = not_that request.Next (λ e. absurd cc) is

  of_taken : (saga : ℕ) (value : Data) → taken_of saga value ≡ Ok q → Q
  of_taken saga value is = by (has_key (codes "step") value) is
    where
      by : (b : Bool) → (if b then at_key u16_of (codes "step") value >>= (λ step. Ok (request.TakeStep saga step)) else Ok (request.TakePlan saga)) ≡ Ok q → Q
      by true is = bound Q q (at_key u16_of (codes "step") value) (λ step. Ok (request.TakeStep saga step)) (λ step _ is. not_that (request.TakeStep saga step) (λ e. absurd cc) is) is
      by false is = not_that (request.TakePlan saga) (λ e. absurd cc) is

  of_sagas : (from : ℕ) (value : Data) → sagas_of from value ≡ Ok q → Q
  of_sagas from value is = by (has_key (codes "phase") value) is
    where
      by : (b : Bool) → (if b then at_key phase_of (codes "phase") value >>= (λ phase. Ok (request.Sagas from (Some phase))) else Ok (request.Sagas from None)) ≡ Ok q → Q
      by true is = bound Q q (at_key phase_of (codes "phase") value) (λ phase. Ok (request.Sagas from (Some phase))) (λ phase _ is. not_that (request.Sagas from (Some phase)) (λ e. absurd cc) is) is
      by false is = not_that (request.Sagas from None) (λ e. absurd cc) is

  of_fields : (v : Verb) (value : Data) → fields_of v value ≡ Ok q → Q
  of_fields verb.Open value is =
      bound Q q (wanted_of value) _ (λ wanted _ is. bound Q q (u32_if (codes "saga") value) _ (λ saga _ is. not_that (request.Open wanted saga) (λ e. absurd cc) is) is) is
  of_fields verb.Next value is = of_next value is
  of_fields verb.Take value is = bound Q q (at_key u32_of (codes "saga") value) _ (λ saga _ is. of_taken saga value is) is
  of_fields verb.Report value is =
      bound Q q (attempt_of value) _ (λ attempt _ is. bound Q q (at_key u32_of (codes "saga") value) _ (λ saga _ is. bound Q q (at_key u16_of (codes "step") value) _
      (λ step _ is. bound Q q (at_key outcome_of (codes "outcome") value) _ (λ outcome _ is. not_that (request.Report saga step attempt outcome) (λ e. absurd cc) is) is) is) is) is
  of_fields verb.Abort value is = bound Q q (at_key u32_of (codes "saga") value) _ (λ saga _ is. not_that (request.Abort saga) (λ e. absurd cc) is) is
  of_fields verb.Show value is = bound Q q (at_key u32_of (codes "saga") value) _ (λ saga _ is. not_that (request.Show saga) (λ e. absurd cc) is) is
  of_fields verb.Busy value is = not_that request.Busy (λ e. absurd cc) is
  of_fields verb.Ready value is = bound Q q (from_of value) _ (λ from _ is. not_that (request.Ready from) (λ e. absurd cc) is) is
  of_fields verb.Sagas value is = bound Q q (from_of value) _ (λ from _ is. of_sagas from value is) is
  of_fields verb.Status value is = not_that request.Status (λ e. absurd cc) is
  of_fields verb.Define value is = bound Q q (at_key bytes_of (codes "definition") value) _ (λ text _ is. not_that (request.Define text) (λ e. absurd cc) is) is

  by_verb : (v : Option Verb) (value : Data) → request_by v value ≡ Ok q → Q
  unfolding request_of_verb
  by_verb None value is = absurd (let no : (let r : Result Request JsonFault = Err json.Kind in r) ≡ Ok q = is in cc)
  by_verb (Some v) value is = bound Q q (keys_fit (keys_of v) (optional_keys_of v) value) _ (λ _ _ is. of_fields v value is) is

  many_asked : (line : List ℕ) → request_of_text line ≡ Ok q → Q
  unfolding request_of_text
  many_asked line is = bound Q q (json_of line) request_of (λ value _ is. by_verb (verb_of value) value is) is

read_asked : (book : Book) (line : List ℕ) (r : Request) → request_of_text line ≡ Ok r → IsAsked book r
read_asked book line (request.Open wanted saga) is = tt
read_asked book line request.Next is = tt
read_asked book line (request.NextMany most) is = many_asked most line is
read_asked book line (request.TakeStep i s) is = tt
read_asked book line (request.TakePlan i) is = tt
read_asked book line (request.Report i s meant outcome) is = tt
read_asked book line (request.Abort i) is = tt
read_asked book line (request.Show i) is = tt
read_asked book line request.Busy is = tt
read_asked book line (request.Ready from) is = tt
read_asked book line (request.Sagas from phase) is = tt
read_asked book line request.Status is = tt
read_asked book line (request.Define definition) is = tt

-- ---- the answer

fault_is : (fault : JsonFault) (r : Result Request JsonFault) → fault_text (word_of_fault (Form fault)) ≢ fault_text memory_word → Fails fault r → r ≡ Err fault
fault_is json.NotJson r real is = is
fault_is json.Kind r real is = is
fault_is json.UnknownKey r real is = is
fault_is json.MissingKey r real is = is
fault_is json.BadType r real is = is
fault_is json.Kept r real is = is
fault_is json.WrongLength r real is = is
fault_is (json.Busy step) r real is = is
fault_is json.OutOfMemory r real is = absurd (real refl)

ok_or_err : (r : Request) (fault : JsonFault) (x : Result Request JsonFault) → x ≡ Ok r → x ≡ Err fault → ⊥
ok_or_err r fault x is also = absurd (let no : ◌≡◌ {A = Result Request JsonFault} (Ok r) (Err fault) = sym is ∙ also in cc)

same_fault : (f g : JsonFault) (x : Result Request JsonFault) → x ≡ Err f → x ≡ Err g → f ≡ g
same_fault f g x is also = let e : ◌≡◌ {A = Result Request JsonFault} (Err f) (Err g) = sym is ∙ also in cc

same_request : (r q : Request) (x : Result Request JsonFault) → x ≡ Ok r → x ≡ Ok q → r ≡ q
same_request r q x is also = same_ok r q (sym is ∙ also)

met_quietly : (old new : Book) (r : Request) (reply : Reply) → IsMet old new r reply → new.history ≡ old.history → Meets old r [] (text_of reply)
met_quietly old new r reply met same = subst (λ (g : List Event). Meets old r g (text_of reply)) (gained_none old new met.gained met.gains.grows same) met.meets

real_fault : (fault : JsonFault) (reply : Reply) → text_of reply ≡ fault_text (word_of_fault (Form fault)) → text_of reply ≢ fault_text memory_word
    → fault_text (word_of_fault (Form fault)) ≢ fault_text memory_word
real_fault fault reply is real same = real (is ∙ same)

done_one : (old new other : Book) (room : ℕ) (r : Request) (a b : Reply) → IsAsked old r → length old.shelf ≤ 2 ^ 32 → new.history ≡ old.history → other.history ≡ old.history
    → IsDone old new room r a → IsDone old other room r b → text_of a ≡ text_of b
done_one old new other room (request.Open wanted saga) a b asked few same also (inl met) (inl again) =
    let r = request.Open wanted saga in
    meets_one old r (text_of a) (text_of b) asked few (met_quietly old new r a met.0 same) (met_quietly old other r b again.0 also)
done_one old new other room (request.Open wanted saga) a b asked few same also (inl met) (inr lacks) =
    absurd (lacks_not old wanted saga room (text_of a) few lacks.0 (met_quietly old new (request.Open wanted saga) a met.0 same))
done_one old new other room (request.Open wanted saga) a b asked few same also (inr lacks) (inl again) =
    absurd (lacks_not old wanted saga room (text_of b) few lacks.0 (met_quietly old other (request.Open wanted saga) b again.0 also))
done_one old new other room (request.Open wanted saga) a b asked few same also (inr lacks) (inr again) = lacks.2 ∙ sym again.2
done_one old new other room r a b asked few same also met again =
    meets_one old r (text_of a) (text_of b) asked few (met_quietly old new r a met same) (met_quietly old other r b again also)

replied_one : (old new other : Book) (room : ℕ) (line : List ℕ) (a b : Reply) → length old.shelf ≤ 2 ^ 32 → new.history ≡ old.history → other.history ≡ old.history
    → text_of a ≢ fault_text memory_word → text_of b ≢ fault_text memory_word → (r q : Result Request RequestFault) → ReadsRequest line r → ReadsRequest line q
    → IsReplied old new room r a → IsReplied old other room q b → text_of a ≡ text_of b
replied_one old new other room line a b few same also real too (Ok r) (Ok q) x y met again =
    let one : q ≡ r = same_request q r (request_of_text line) y.1 x.1 in
    done_one old new other room r a b (read_asked old line r x.1) few same also met (subst (λ (q : Request). IsDone old other room q b) one again)
replied_one old new other room line a b few same also real too (Ok r) (Err TooLong) x y met told = absurd (omega (arith, x.0, y))
replied_one old new other room line a b few same also real too (Ok r) (Err (Form fault)) x y met told =
    absurd (ok_or_err r fault (request_of_text line) x.1 (fault_is fault (request_of_text line) (real_fault fault b told.1 too) y.1))
replied_one old new other room line a b few same also real too (Err TooLong) (Ok q) x y told met = absurd (omega (arith, y.0, x))
replied_one old new other room line a b few same also real too (Err TooLong) (Err TooLong) x y told again = told.1 ∙ sym again.1
replied_one old new other room line a b few same also real too (Err TooLong) (Err (Form fault)) x y told again = absurd (omega (arith, y.0, x))
replied_one old new other room line a b few same also real too (Err (Form fault)) (Ok q) x y told met =
    absurd (ok_or_err q fault (request_of_text line) y.1 (fault_is fault (request_of_text line) (real_fault fault a told.1 real) x.1))
replied_one old new other room line a b few same also real too (Err (Form fault)) (Err TooLong) x y told again = absurd (omega (arith, x.0, y))
replied_one old new other room line a b few same also real too (Err (Form f)) (Err (Form g)) x y told again =
    let one : f ≡ g = same_fault f g (request_of_text line) (fault_is f (request_of_text line) (real_fault f a told.1 real) x.1) (fault_is g (request_of_text line) (real_fault g b again.1 too) y.1) in
    told.1 ∙ ap (λ (fault : JsonFault). fault_text (word_of_fault (Form fault))) one ∙ sym again.1

pub one_text : (book : Book) (room : ℕ) (line : List ℕ) → HasOneText book room line
one_text book room line few new other a b one also = by one.answer also.answer
  where
    by : IsAnswer book new room line a → IsAnswer book other room line b → text_of a ≡ text_of b
    by (inr lacks) y = absurd (one.real lacks.text_is)
    by x (inr lacks) = absurd (also.real lacks.text_is)
    by (inl (r, x, met)) (inl (q, y, again)) = replied_one book new other room line a b few one.same also.same one.real also.real r q x y met again
