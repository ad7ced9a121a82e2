-- What was asked for, and what the books hold of it.
use Rattle.std.proofs.Common.{◌≡◌, ◌≢◌, ℕ, zero, suc, ◌<◌, ◌≤◌, ◌+◌, ◌*◌, ◌%◌, ◌/◌, ◌==◌, Bool, true, false, cond, List, [], ◌∷◌, ◌++◌, length, get_or, map, refl, sym, ap, ◌∙◌, subst, arith, inl, inr, Some}
use Rattle.std.specs.Prelude.{slice_get}
use Rattle.saga_def.specs.Contents.{Contents}
use Rattle.std.specs.List.{flat_map, All}
use Rattle.std.proofs.Math.Nat.{mod-add-div, mul-le-mul_right}
use Rattle.std.proofs.lemmas.Nat.{mod-mul-add}
use Rattle.std.proofs.lemmas.List.Elements.{All-head, All-tail}
use Rattle.std.proofs.lemmas.Bool.{cases_eq, cases_order, eq-eqb, ne_eqb}
use Rattle.saga_history.specs.declared.events.Event.{Event}
use Rattle.saga_history.specs.declared.events.Event.TheVariants as event
use Rattle.saga_history.specs.declared.events.Mark.{Mark}
use Rattle.saga_history.specs.Changes.{mark_of}
use Rattle.saga_history.specs.Merges.{IsNumbered, opened_sagas}
use Rattle.saga_core.specs.Book.{Book}
use Rattle.saga_desk.specs.Agreement.{Agree, marks_of, numbered, numbered_from, receipts_of}
use Rattle.saga_desk.specs.Finish.{AreOfShards, events_of}
use Rattle.saga_desk.specs.Seat.{Seat}
use Rattle.saga_desk.specs.declared.receipts.Receipt.{Receipt}
use Rattle.saga_desk.proofs.RestLemmas.{numbered_from-get}
use Rattle.saga_work.specs.Answered.{opening}
use Rattle.saga_work.specs.Asked.{AreNumbered, AreOpenedAsAsked, OpensAll, asked, definitions_in, opened_in, opening_on}
use Rattle.saga_work.proofs.GatherLemmas.{gather-merge}

-- ---- sagas that are numbered in steps
-- these definitions, of sagas from a number on, each so many further
abbrev pub in_step : ℕ → ℕ → List ℕ → List (ℕ × ℕ)
in_step c stride [] = []
in_step c stride (d ∷ ds) = (c, d) ∷ in_step (c + stride) stride ds

-- the numbers between j and j + S that leave s are one
same_turn : (S s q p j : ℕ) → j ≤ s + q * S → s + q * S < j + S → j ≡ s + p * S → p ≡ q
same_turn S s q p j low high is = elim (cases_order p q) [
  | inl e ↦ e
  | inr other ↦ elim other [
    | inl less ↦ absurd (let m : (p + 1) * S ≤ q * S = mul-le-mul_right S (omega arith) in let x : (p + 1) * S ≡ p * S + S = omega arith in omega arith)
    | inr more ↦ absurd (let m : (q + 1) * S ≤ p * S = mul-le-mul_right S (omega arith) in let x : (q + 1) * S ≡ q * S + S = omega arith in
        let pos : 0 < S = omega arith in omega arith)
  ]
]

-- the sagas that are asked for on a shard are numbered in steps
pub asked_in_step : (S s q j : ℕ) (ds : List ℕ) → s < S → j ≤ s + q * S → s + q * S < j + S
    → asked S s j ds ≡ in_step (s + q * S) S (definitions_in (asked S s j ds))
asked_in_step S s q j [] lt low high = refl
asked_in_step S s q j (d ∷ ds) lt low high = elim (cases_eq (j % S) s) [
  | inl e ↦
      let now : j ≡ s + (j / S) * S = sym (mod-add-div j S) ∙ (ap (λ k. k + S * (j / S)) e ∙ (let x : s + S * (j / S) ≡ s + (j / S) * S = omega arith in x)) in
      let turn : j / S ≡ q = same_turn S s q (j / S) j low high now in
      let at : j ≡ s + q * S = now ∙ ap (λ k. s + k * S) turn in
      let next : s + (q + 1) * S ≡ (s + q * S) + S = omega arith in
      let rest = asked_in_step S s (q + 1) (j + 1) ds lt (omega arith) (omega arith) in
      let here = taken j d ds (eq-eqb (j % S) s e) in
      here ∙ (ap (λ z. (j, d) ∷ z) (rest ∙ ap (λ k. in_step k S (definitions_in (asked S s (j + 1) ds))) next)
      ∙ (ap (λ k. (k, d) ∷ in_step ((s + q * S) + S) S (definitions_in (asked S s (j + 1) ds))) at
      ∙ ap (λ z. in_step (s + q * S) S (definitions_in z)) (sym here)))
  | inr ne ↦
      let apart : j ≢ s + q * S = λ at. ne (ap (λ k. k % S) at ∙ (ap (λ k. k % S) (let x : s + q * S ≡ q * S + s = omega arith in x) ∙ mod-mul-add q S s lt)) in
      let skip = skipped j d ds (ne_eqb (j % S) s ne) in
      let rest = asked_in_step S s q (j + 1) ds lt (let a = apart in omega arith) (omega arith) in
      skip ∙ (rest ∙ ap (λ z. in_step (s + q * S) S (definitions_in z)) (sym skip))
]
  where
    taken : (j d : ℕ) (ds : List ℕ) → (j % S == s) ≡ true → asked S s j (d ∷ ds) ≡ (j, d) ∷ asked S s (j + 1) ds
    taken j d ds e = ap (λ b. cond b ((j, d) ∷ asked S s (j + 1) ds) (asked S s (j + 1) ds)) e

    skipped : (j d : ℕ) (ds : List ℕ) → (j % S == s) ≡ false → asked S s j (d ∷ ds) ≡ asked S s (j + 1) ds
    skipped j d ds e = ap (λ b. cond b ((j, d) ∷ asked S s (j + 1) ds) (asked S s (j + 1) ds)) e

-- ---- what a history opens
abbrev sagas_of : List (ℕ × ℕ) → List ℕ
sagas_of ps = map (λ p. p.0) ps

opened_are : (h : List Event) → sagas_of (opened_in h) ≡ opened_sagas h
opened_are [] = refl
opened_are (event.Open i k ∷ h) = ap (λ z. i ∷ z) (opened_are h)
opened_are (event.StartRun i s ∷ h) = opened_are h
opened_are (event.Commit i s ∷ h) = opened_are h
opened_are (event.Fail i s ∷ h) = opened_are h
opened_are (event.StartUndo i s ∷ h) = opened_are h
opened_are (event.Undone i s ∷ h) = opened_are h
opened_are (event.UndoFail i s ∷ h) = opened_are h
opened_are (event.StartPlan i ∷ h) = opened_are h
opened_are (event.DropPlan i ∷ h) = opened_are h
opened_are (event.Adopt i a ∷ h) = opened_are h
opened_are (event.Missed i s ∷ h) = opened_are h
opened_are (event.UndoMissed i s ∷ h) = opened_are h
opened_are (event.Void i s ∷ h) = opened_are h
opened_are (event.Abort i ∷ h) = opened_are h

by_number : (c stride : ℕ) (ps : List (ℕ × ℕ))
    → ((k : ℕ) → k < length (sagas_of ps) → get_or (sagas_of ps) k 0 ≡ c + k * stride)
    → ps ≡ in_step c stride (definitions_in ps)
by_number c stride [] at = refl
by_number c stride ((i, d) ∷ ps) at =
    let here : i ≡ c = at 0 (omega arith) ∙ (let z : c + 0 * stride ≡ c = omega arith in z) in
    let rest = by_number (c + stride) stride ps (λ k lt.
    at (suc k) (omega (arith, lt)) ∙ (let z : c + suc k * stride ≡ (c + stride) + k * stride = omega arith in z)) in
    ap (λ z. (i, d) ∷ z) rest ∙ ap (λ k. (k, d) ∷ in_step (c + stride) stride (definitions_in ps)) here

-- a history whose sagas are numbered opens them in steps
opened_in_step : (first stride : ℕ) (h : List Event) → IsNumbered first stride h
    → opened_in h ≡ in_step first stride (definitions_in (opened_in h))
opened_in_step first stride h is = by_number first stride (opened_in h) (λ k lt.
    ap (λ z. get_or z k 0) (opened_are h) ∙ is k (omega (arith, lt, ap length (opened_are h))))

-- the openings on a shard in that shard's numbered history are the openings of its history
history_here : (s n : ℕ) (h : List Event) → flat_map (opening_on s) (numbered s n (map mark_of h)) ≡ opened_in h
history_here s n [] = refl
history_here s n (e ∷ h) =
    ap (λ z. z ++ flat_map (opening_on s) (numbered s (n + 1) (map mark_of h)))
    (ap (λ b. cond b (opening (mark_of e)) []) (eq-eqb s s refl))
    ∙ ap (λ z. opening (mark_of e) ++ z) (history_here s (n + 1) h)

-- and in another shard's there are none
history_there : (s i n : ℕ) (ms : List Mark) → i ≢ s → flat_map (opening_on s) (numbered i n ms) ≡ []
history_there s i n [] ne = refl
history_there s i n (m ∷ ms) ne =
    ap (λ z. z ++ flat_map (opening_on s) (numbered i (n + 1) ms)) (ap (λ b. cond b (opening m) []) (ne_eqb i s ne))
    ∙ history_there s i (n + 1) ms ne

-- receipts that open nothing open nothing on any shard
pub none_opened : (s : ℕ) (rs : List Receipt) → All (λ (r : Receipt). opening r.mark ≡ []) rs → flat_map (opening_on s) rs ≡ []
none_opened s [] all = refl
none_opened s (r ∷ rs) all =
    ap (λ z. z ++ flat_map (opening_on s) rs) (none_here (r.shard == s) (All-head (λ (r : Receipt). opening r.mark ≡ []) r rs all))
    ∙ none_opened s rs (All-tail (λ (r : Receipt). opening r.mark ≡ []) r rs all)
  where
    none_here : (b : Bool) → opening r.mark ≡ [] → cond b (opening r.mark) [] ≡ []
    none_here true e = e
    none_here false e = refl

-- ---- the books
marks_get : (books : List Book) (i : ℕ) → get_or (marks_of books) i [] ≡ map mark_of (get_or (events_of books) i [])
marks_get [] i = refl
marks_get (b ∷ books) zero = refl
marks_get (b ∷ books) (suc i) = marks_get books i

-- the numbered history of a shard
history_get : (books : List Book) (i : ℕ)
    → get_or (numbered_from 0 (marks_of books)) i [] ≡ numbered i 0 (map mark_of (get_or (events_of books) i []))
history_get books i =
    numbered_from-get 0 (marks_of books) i
    ∙ (ap (λ k. numbered k 0 (get_or (marks_of books) i [])) (let z : 0 + i ≡ i = omega arith in z) ∙ ap (numbered i 0) (marks_get books i))

book_in_step : (b : Book) (s S : ℕ) → IsNumbered b.first b.stride b.history → b.first ≡ s → b.stride ≡ S
    → opened_in b.history ≡ in_step s S (definitions_in (opened_in b.history))
book_in_step b s S is first stride =
    opened_in_step b.first b.stride b.history is
    ∙ (ap (λ k. in_step k b.stride (definitions_in (opened_in b.history))) first
    ∙ ap (λ k. in_step s k (definitions_in (opened_in b.history))) stride)

book_at : (books : List Book) (s : ℕ) → s < length books → AreNumbered books
    → (b : Book) × (slice_get books s ≡ Some b) × (get_or (events_of books) s [] ≡ b.history) × IsNumbered b.first b.stride b.history
book_at [] s lt all = absurd (omega arith)
book_at (b ∷ books) zero lt all =
    (b, refl, refl, All-head (λ (b : Book). IsNumbered b.first b.stride b.history) b books all)
book_at (b ∷ books) (suc s) lt all =
    book_at books s (omega (arith, lt)) (All-tail (λ (b : Book). IsNumbered b.first b.stride b.history) b books all)

-- the history of shard s opens sagas in steps of the number of shards, from s on
events_in_step : (S s : ℕ) (shelf : List Contents) (books : List Book) → s < S → AreOfShards shelf S books → AreNumbered books
    → opened_in (get_or (events_of books) s []) ≡ in_step s S (definitions_in (opened_in (get_or (events_of books) s [])))
events_in_step S s shelf books lt shards numbered =
    let (b, at, history, is) = book_at books s (omega (arith, lt, shards.all)) numbered in
    let own = shards.each s b at in
    subst (λ (h : List Event). opened_in h ≡ in_step s S (definitions_in (opened_in h))) (sym history)
    (book_in_step b s S is own.first own.stride)

-- the books hold what was asked for
pub opened_as_asked : (S : ℕ) (asks : List ℕ) (shelf : List Contents) (books : List Book) (seats : List Seat) (rs : List Receipt)
    → 0 < S → AreOfShards shelf S books → AreNumbered books → Agree books seats → OpensAll S asks rs
    → ((s : ℕ) → flat_map (opening_on s) (get_or (receipts_of seats) 0 []) ≡ flat_map (opening_on s) rs)
    → ((s i : ℕ) → i ≢ 0 → flat_map (opening_on s) (get_or (receipts_of seats) i []) ≡ [])
    → AreOpenedAsAsked S asks books
opened_as_asked S asks shelf books seats rs pos shards numbers (m, mh, ms) all first others = record {
  all = shards.all;
  each = λ s lt.
      let h = get_or (events_of books) s [] in
      let by_h : flat_map (opening_on s) m ≡ opened_in h =
      gather-merge (opening_on s) m (numbered_from 0 (marks_of books)) s
      (λ i ne. ap (flat_map (opening_on s)) (history_get books i) ∙ history_there s i 0 _ ne) mh
      ∙ (ap (flat_map (opening_on s)) (history_get books s) ∙ history_here s 0 h) in
      let by_s : flat_map (opening_on s) m ≡ flat_map (opening_on s) rs =
      gather-merge (opening_on s) m (receipts_of seats) 0 (others s) ms ∙ first s in
      let same : definitions_in (opened_in h) ≡ definitions_in (asked S s 0 asks) =
      ap definitions_in (sym by_h ∙ by_s) ∙ all s lt in
      let turn : in_step s S (definitions_in (asked S s 0 asks)) ≡ asked S s 0 asks =
      ap (λ k. in_step k S (definitions_in (asked S s 0 asks))) (let z : s ≡ s + 0 * S = omega arith in z)
      ∙ sym (asked_in_step S s 0 0 asks lt (omega arith) (omega arith)) in
      events_in_step S s shelf books lt shards numbers ∙ (ap (in_step s S) same ∙ turn);
}
