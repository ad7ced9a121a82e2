use Rattle.std.proofs.Common.{◌≡◌, ◌≢◌, ℕ, zero, suc, ◌<◌, ◌≤◌, ◌+◌, ◌-◌, List, [], ◌∷◌, length, get_or, set, drop, map, replicate, refl, sym, ap, ◌∙◌, subst, arith, length-set, length-drop, inl, inr, get_or-set_same, Option, Some, None, IfSome, IfNone}
use Rattle.std.specs.List.{All, sum_by}
use Rattle.std.proofs.lemmas.List.{drop_all, drop_more, get_or_past, get_or-map, length-map}
use Rattle.std.proofs.lemmas.List.Elements.{All-cons, All-nil, All-same, All-weaker}
use Rattle.std.proofs.lemmas.List.Sums.{sum_by-set}
use Rattle.std.proofs.lemmas.Bool.{cases_lt, cases_eq}
use Rattle.saga_desk.specs.Merges.{HaveCommonMerge}
use Rattle.saga_desk.specs.Agreement.{histories_of, receipts_of, marks_of}
use Rattle.saga_desk.specs.Rests.{rests, IsNextOf, IsNext}
use Rattle.saga_desk.specs.Agreement.{numbered, numbered_from}
use Rattle.saga_core.specs.Book.{Book}
use Rattle.saga_desk.specs.Seat.{Seat}
use Rattle.saga_history.specs.Changes.{mark_of}
use Rattle.saga_history.specs.declared.events.Mark.{Mark}
use Rattle.saga_desk.specs.declared.receipts.Receipt.{Receipt}
use Rattle.saga_desk.proofs.MergeLemmas.{step_back, step_on, stuck, done}
use Rattle.saga_desk.proofs.RestLemmas.{rests-get, rests-set, rest_is, head_is, length-numbered, length-numbered_from, numbered_from-get}

pub if_some : {X : Type 0} {P Q : X → Type 0} (o : Option X) → IfSome o P → ((x : X) → P x → Q x) → IfSome o Q
if_some None h f = tt
if_some (Some x) h f = f x h

pub if_none : {X : Type 0} {P Q : Type 0} (o : Option X) → IfNone o P → (P → Q) → IfNone o Q
if_none None h f = f h
if_none (Some x) h f = tt

-- what is left of a seat's receipts
pub seat_rest : (ss : List Seat) (cs : List ℕ) (k : ℕ) (v : Seat) → length cs ≡ length ss → k < length ss → v ≡ get_or ss k v
    → get_or (rests (receipts_of ss) cs) k [] ≡ drop (get_or cs k 0) v.receipts
seat_rest ss cs k v same lt is =
    rests-get (receipts_of ss) cs k (same ∙ sym (length-map ss (λ (s : Seat). s.receipts)))
    ∙ ap (drop (get_or cs k 0)) (get_or-map (λ (s : Seat). s.receipts) ss k v [] lt ∙ ap (λ (s : Seat). s.receipts) (sym is))

-- the tail of what is left
pub tail_is : {X : Type 0} (l : List X) (c : ℕ) (x : X) (r : List X) → drop c l ≡ x ∷ r → (c < length l) × (r ≡ drop (c + 1) l) × ((d : X) → get_or l c d ≡ x)
tail_is {X} l c x r e =
    elim (cases_lt c (length l)) [
      | inl lt ↦ (lt, (let m = sym (drop_more l c x lt) ∙ e in cc), λ d. (let m = sym (drop_more l c d lt) ∙ e in cc))
      | inr ge ↦ (let none : ◌≡◌ {A = List X} [] (x ∷ r) = sym (drop_all c l ge) ∙ e in absurd cc)
    ]

-- one event taken
pub taken_on : {X : Type 0} (ls : List (List X)) (cs : List ℕ) (i : ℕ) (x : X) (r : List X) → length cs ≡ length ls → get_or (rests ls cs) i [] ≡ x ∷ r
    → set (rests ls cs) i r ≡ rests ls (set cs i (get_or cs i 0 + 1))
taken_on ls cs i x r same e =
    let t = tail_is (get_or ls i []) (get_or cs i 0) x r (sym (rests-get ls cs i same) ∙ e) in
    ap (set (rests ls cs) i) t.1 ∙ rests-set ls cs i (get_or cs i 0 + 1) same

pub rests_none : {X : Type 0} (ls : List (List X)) (n : ℕ) → n ≡ length ls → rests ls (replicate n 0) ≡ ls
rests_none [] n e = refl
rests_none (l ∷ ls) zero e = refl
rests_none (l ∷ ls) (suc n) e = ap (λ z. l ∷ z) (rests_none ls n (omega arith))

-- each event of a numbered history has its shard, and a number from n on
pub numbered_all : (s n : ℕ) (h : List Mark) → All (λ (y : Receipt). (y.shard ≡ s) × (n ≤ y.place)) (numbered s n h)
numbered_all s n [] = All-nil (λ (y : Receipt). (y.shard ≡ s) × (n ≤ y.place))
numbered_all s n (m ∷ h) =
    All-cons (λ (y : Receipt). (y.shard ≡ s) × (n ≤ y.place)) _ (numbered s (n + 1) h) (refl, omega arith)
    (All-weaker (λ (y : Receipt). (y.shard ≡ s) × (n + 1 ≤ y.place)) (λ (y : Receipt). (y.shard ≡ s) × (n ≤ y.place)) (λ y h. (h.0, (let g = h.1 in omega arith))) (numbered s (n + 1) h) (numbered_all s (n + 1) h))

-- an event that was taken stands in nothing that is left
pub once : (hs : List (List Mark)) (cs : List ℕ) (i : ℕ) (x : Receipt) (r : List Receipt) → length cs ≡ length hs → get_or (rests (numbered_from 0 hs) cs) i [] ≡ x ∷ r
    → (j : ℕ) → All (λ y. y ≢ x) (get_or (rests (numbered_from 0 hs) (set cs i (get_or cs i 0 + 1))) j [])
once hs cs i x r same e j =
    let cs' = set cs i (get_or cs i 0 + 1) in
    let same' : length cs' ≡ length hs = length-set cs i (get_or cs i 0 + 1) ∙ same in
    let left = rest_is hs cs' j same' in
    let head = head_is i (get_or cs i 0) (get_or hs i []) x r (sym (rest_is hs cs i same) ∙ e) in
    let lt : i < length cs = elim (cases_lt i (length cs)) [
      | inl yes' ↦ yes'
      | inr past ↦ (let none : length (get_or hs i []) ≡ 0 = ap length (get_or_past hs i [] (omega arith)) in let some = head.2 in absurd (omega arith))
    ] in
    All-same (λ y. y ≢ x) _ _ left
    (All-weaker (λ (y : Receipt). (y.shard ≡ j) × (get_or cs' j 0 ≤ y.place)) (λ y. y ≢ x)
    (λ y h is.
    let shard : y.shard ≡ i = ap (λ (z : Receipt). z.shard) is ∙ head.0 in
    let place : y.place ≡ get_or cs i 0 = ap (λ (z : Receipt). z.place) is ∙ head.1 in
    let ji : j ≡ i = sym h.0 ∙ shard in
    let now : get_or cs' j 0 ≡ get_or cs i 0 + 1 = ap (λ k. get_or cs' k 0) ji ∙ get_or-set_same cs i (get_or cs i 0 + 1) 0 lt in
    let from = h.1 in
    omega arith)
    _ (numbered_all j (get_or cs' j 0) (drop (get_or cs' j 0) (get_or hs j []))))

-- what the search has taken so far decides nothing
pub record Kept (hs : List (List Mark)) (ss : List (List Receipt)) (taken told : List ℕ) : Type 0 where
  pub to : HaveCommonMerge (rests (numbered_from 0 hs) taken) (rests ss told) → HaveCommonMerge (numbered_from 0 hs) ss
  pub from : HaveCommonMerge (numbered_from 0 hs) ss → HaveCommonMerge (rests (numbered_from 0 hs) taken) (rests ss told)

pub kept_on : (hs : List (List Mark)) (ss : List (List Receipt)) (taken told : List ℕ) (i k : ℕ) → length taken ≡ length hs → length told ≡ length ss
    → IsNext (numbered_from 0 hs) taken ss told i k → Kept hs ss taken told
    → Kept hs ss (set taken i (get_or taken i 0 + 1)) (set told k (get_or told k 0 + 1))
kept_on hs ss taken told i k th ts (x, (h, eh), (s, es)) kept =
    let th' : length taken ≡ length (numbered_from 0 hs) = th ∙ sym (length-numbered_from 0 hs) in
    let hs_on = taken_on (numbered_from 0 hs) taken i x h th' eh in
    let ss_on = taken_on ss told k x s ts es in
    record {
      to = λ a. kept.to (step_back _ _ i k x h s eh es (subst (λ (p : List (List Receipt) × List (List Receipt)). HaveCommonMerge p.0 p.1) (cc (sym hs_on, sym ss_on)) a));
      from = λ a. subst (λ (p : List (List Receipt) × List (List Receipt)). HaveCommonMerge p.0 p.1) (cc (hs_on, ss_on))
          (step_on _ _ i k x h s eh es (λ j. subst (λ z. All (λ y. y ≢ x) (get_or z j [])) (sym hs_on) (once hs taken i x h th eh j)) (kept.from a));
    }

-- one receipt fewer is left
pub smaller : {X : Type 0} (ss : List (List X)) (told : List ℕ) (k : ℕ) (x : X) (s : List X) → length told ≡ length ss → get_or (rests ss told) k [] ≡ x ∷ s
    → sum_by length (rests ss (set told k (get_or told k 0 + 1))) < sum_by length (rests ss told)
smaller {X} ss told k x s same e =
    let lt : k < length (rests ss told) = elim (cases_lt k (length (rests ss told))) [
      | inl in' ↦ in'
      | inr past ↦ (let none : ◌≡◌ {A = List X} [] (x ∷ s) = sym (get_or_past (rests ss told) k [] past) ∙ e in absurd cc)
    ] in
    let l : length (get_or (rests ss told) k []) ≡ suc (length s) = ap length e in
    let q = ap (sum_by (length {A = X})) (taken_on ss told k x s same e) in
    let m = sum_by-set (length {A = X}) (rests ss told) k s [] lt in
    omega arith

-- both are used up
pub used_up : {X : Type 0} (ls : List (List X)) (cs : List ℕ) → length cs ≡ length ls
    → ((i : ℕ) → i < length ls → length (get_or ls i []) ≤ get_or cs i 0) → (i : ℕ) → get_or (rests ls cs) i [] ≡ []
used_up ls cs same all i =
    rests-get ls cs i same
    ∙ drop_all (get_or cs i 0) (get_or ls i []) (elim (cases_lt i (length ls)) [
      | inl lt ↦ all i lt
      | inr ge ↦ (let e : length (get_or ls i []) ≡ 0 = ap length (get_or_past ls i [] ge) in omega arith)
    ])

pub not_used_up : {X : Type 0} (ls : List (List X)) (cs : List ℕ) (i : ℕ) → length cs ≡ length ls → get_or (rests ls cs) i [] ≡ [] → length (get_or ls i []) ≤ get_or cs i 0
not_used_up ls cs i same e =
    let l : length (get_or ls i []) - get_or cs i 0 ≡ 0 = sym (length-drop (get_or cs i 0) (get_or ls i [])) ∙ ap length (sym (rests-get ls cs i same) ∙ e) in
    omega arith

-- past the last seat nothing is next
pub past_seat : (hs : List Book) (taken : List ℕ) (ss : List Seat) (told : List ℕ) (k : ℕ) → length told ≡ length ss → length ss ≤ k
    → (i : ℕ) → IsNext (histories_of hs) taken (receipts_of ss) told i k → ⊥
past_seat hs taken ss told k same ge i (x, mh, (r, e)) =
    let ls = receipts_of ss in
    let none : get_or (rests ls told) k [] ≡ [] =
    rests-get ls told k (same ∙ sym (length-map ss (λ (s : Seat). s.receipts)))
    ∙ drop_all (get_or told k 0) (get_or ls k []) (let z = ap length (get_or_past ls k [] (omega (arith, length-map ss (λ (s : Seat). s.receipts)))) in omega arith) in
    let n : ◌≡◌ {A = List Receipt} [] (x ∷ r) = sym none ∙ e in
    absurd cc

pub next_some : (hs : List Book) (taken : List ℕ) (ss : List Seat) (told : List ℕ) (k i : ℕ) (v : Seat) (l : List Receipt) (d : Receipt)
    → length told ≡ length ss → k < length ss → v ≡ get_or ss k v → l ≡ v.receipts → get_or told k 0 < length l
    → IsNextOf (histories_of hs) taken i (get_or l (get_or told k 0) d)
    → IsNext (histories_of hs) taken (receipts_of ss) told i k
next_some hs taken ss told k i v l d same lt is li within m =
    let left = seat_rest ss told k v same lt is in (
      get_or l (get_or told k 0) d,
      m,
      (drop (get_or told k 0 + 1) l, left ∙ (ap (drop (get_or told k 0)) (sym li) ∙ drop_more l (get_or told k 0) d within)),
    )

pub next_none : (hs : List Book) (taken : List ℕ) (ss : List Seat) (told : List ℕ) (k i : ℕ) (v : Seat) (l : List Receipt) (d : Receipt)
    → length told ≡ length ss → k < length ss → v ≡ get_or ss k v → l ≡ v.receipts
    → IsNext (histories_of hs) taken (receipts_of ss) told i k
    → IsNextOf (histories_of hs) taken i (get_or l (get_or told k 0) d)
next_none hs taken ss told k i v l d same lt is li (x, m, (r, e)) =
    let left = seat_rest ss told k v same lt is in
    let t = tail_is l (get_or told k 0) x r (ap (drop (get_or told k 0)) li ∙ (sym left ∙ e)) in
    subst (λ z. IsNextOf (histories_of hs) taken i z) (sym (t.2 d)) m

-- each list is counted to its end
abbrev pub UsedUp : {X : Type 0} → List (List X) → List ℕ → Type 0
UsedUp ls cs = (i : ℕ) → i < length ls → length (get_or ls i []) ≤ get_or cs i 0

hist_len : (hs : List Book) (i : ℕ) → length (get_or (histories_of hs) i []) ≡ length (get_or (marks_of hs) i [])
hist_len hs i = ap length (numbered_from-get 0 (marks_of hs) i) ∙ length-numbered (0 + i) 0 (get_or (marks_of hs) i [])

pub count_hs : (hs : List Book) → length (histories_of hs) ≡ length hs
count_hs hs = length-numbered_from 0 (marks_of hs) ∙ length-map hs (λ (b : Book). map mark_of b.history)

pub ends_to : (hs : List Book) (ss : List Seat) (taken told : List ℕ) → length taken ≡ length hs → length told ≡ length ss
    → Kept (marks_of hs) (receipts_of ss) taken told → UsedUp (marks_of hs) taken → UsedUp (receipts_of ss) told → HaveCommonMerge (histories_of hs) (receipts_of ss)
ends_to hs ss taken told th ts kept uh us =
    kept.to (done _ _
    (used_up (histories_of hs) taken (th ∙ sym (count_hs hs)) (λ i lt.
    let lt' : i < length (marks_of hs) = omega (arith, length-numbered_from 0 (marks_of hs)) in
    let u = uh i lt' in let f = hist_len hs i in omega arith))
    (used_up (receipts_of ss) told (ts ∙ sym (length-map ss (λ (s : Seat). s.receipts))) us))

pub ends_from : (hs : List Book) (ss : List Seat) (taken told : List ℕ) → length taken ≡ length hs → length told ≡ length ss
    → Kept (marks_of hs) (receipts_of ss) taken told
    → ((k i : ℕ) → IsNext (histories_of hs) taken (receipts_of ss) told i k → ⊥)
    → HaveCommonMerge (histories_of hs) (receipts_of ss) → UsedUp (marks_of hs) taken × UsedUp (receipts_of ss) told
ends_from hs ss taken told th ts kept none a =
    let nothing = stuck _ _ (λ i k x h s eh es. none k i (x, (h, eh), (s, es))) (kept.from a) in (
      (λ i lt. let n = not_used_up (histories_of hs) taken i (th ∙ sym (count_hs hs)) (nothing.0 i) in let f = hist_len hs i in omega arith),
      (λ i lt. not_used_up (receipts_of ss) told i (ts ∙ sym (length-map ss (λ (s : Seat). s.receipts))) (nothing.1 i)),
    )

pub between_more : (P : ℕ → Type 0) (from i : ℕ) → ((k : ℕ) → from ≤ k → k < i → P k) → P i → (k : ℕ) → from ≤ k → k < i + 1 → P k
between_more P from i before here k low high =
    elim (cases_eq k i) [
      | inl e ↦ subst P (sym e) here
      | inr ne ↦ before k low (omega arith)
    ]

pub in_turn : (P : ℕ → Type 0) (first n : ℕ) → first ≤ n → ((k : ℕ) → first ≤ k → k < n → P k) → ((k : ℕ) → 0 ≤ k → k < first → P k) → ((k : ℕ) → n ≤ k → P k) → (k : ℕ) → P k
in_turn P first n within high low past k =
    elim (cases_lt k first) [
      | inl lt ↦ low k (omega arith) lt
      | inr ge ↦ elim (cases_lt k n) [
        | inl lt ↦ high k ge lt
        | inr out ↦ past k out
      ]
    ]
