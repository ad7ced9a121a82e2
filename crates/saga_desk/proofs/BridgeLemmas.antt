-- Merges of receipts, of marks and of histories, and the history that seats did.
use Rattle.std.proofs.Common.{◌≡◌, ◌∙◌, ◌<◌, ◌+◌, ℕ, zero, suc, List, [], ◌∷◌, length, get_or, set, map, refl, sym, ap, subst, inl, inr, get_or-set_other, get_or-set_same}
use Rattle.std.proofs.lemmas.Bool.{cases_eq, cases_lt}
use Rattle.std.proofs.lemmas.List.{get_or_past, map-set}
use Rattle.std.proofs.Math.ListN.{get_or-map}
use Rattle.saga_def.specs.Contents.{Contents}
use Rattle.saga_history.specs.declared.events.Event.{Event}
use Rattle.saga_history.specs.declared.events.Mark.{Mark}
use Rattle.saga_history.specs.Changes.{mark_of}
use Rattle.saga_history.specs.Merges.{IsMerge as IsMergeOfTwo, IsMergeOf, nothing, from_first, from_second}
use Rattle.saga_core.specs.Book.{Book}
use Rattle.saga_desk.specs.Agreement.{Agree, histories_of, marks_of, numbered, numbered_from, receipts_of}
use Rattle.saga_desk.specs.Finish.{DidOneHistory, MergesAreLegal, events_of, marks_told}
use Rattle.saga_desk.specs.Laws.{HaveSameMerges}
use Rattle.saga_desk.specs.Merges.{IsMerge}
use Rattle.saga_desk.specs.Seat.{Seat}
use Rattle.saga_desk.specs.declared.receipts.Receipt.{Receipt}

-- ---- by one element after the other, and by one list after the other

-- where all lists are empty, nothing is their merge
all_empty : (hs : List (List Event)) → ((i : ℕ) → get_or hs i [] ≡ []) → IsMergeOf hs []
all_empty [] none = refl
all_empty (h ∷ hs) none =
    ([], all_empty hs (λ i. none (suc i)), subst (λ (z : List Event). IsMergeOfTwo z [] []) (sym (none 0)) nothing)

-- one element more of one list
put_first : (hs : List (List Event)) (i : ℕ) (e : Event) (r m : List Event) → get_or hs i [] ≡ e ∷ r → IsMergeOf (set hs i r) m
    → IsMergeOf hs (e ∷ m)
put_first [] i e r m at merge = absurd cc
put_first (h ∷ hs) zero e r m at merge =
    (merge.0, merge.1, subst (λ (z : List Event). IsMergeOfTwo z merge.0 (e ∷ m)) (sym at) (from_first e r merge.0 m merge.2))
put_first (h ∷ hs) (suc i) e r m at merge =
    (e ∷ merge.0, put_first hs i e r merge.0 at merge.1, from_second e h merge.0 m merge.2)

pub by_lists : (m : List Event) (hs : List (List Event)) → IsMerge hs m → IsMergeOf hs m
by_lists [] hs merge = all_empty hs merge
by_lists (e ∷ m) hs (i, r, at, merge) = put_first hs i e r m at (by_lists m (set hs i r) merge)

none_left : (hs : List (List Event)) → ((i : ℕ) → get_or hs i [] ≡ []) → (i : ℕ) → get_or ([] ∷ hs) i [] ≡ []
none_left hs none zero = refl
none_left hs none (suc i) = none i

-- one list more
put_list : (h a m : List Event) (hs : List (List Event)) → IsMergeOfTwo h a m → IsMerge hs a → IsMerge (h ∷ hs) m
put_list _ _ _ hs nothing merge = none_left hs merge
put_list _ _ _ hs (from_first e h a m two) merge = (0, h, refl, put_list h a m hs two merge)
put_list _ _ _ hs (from_second e h a m two) (i, r, at, merge) = (suc i, r, at, put_list h a m (set hs i r) two merge)

by_elements : (hs : List (List Event)) (m : List Event) → IsMergeOf hs m → IsMerge hs m
by_elements [] m merge = subst (IsMerge []) (sym merge) (λ i. refl)
by_elements (h ∷ hs) m merge = put_list h merge.0 m hs merge.2 (by_elements hs merge.0 merge.1)

pub have_same_merges : (hs : List (List Event)) → HaveSameMerges hs
have_same_merges hs = λ m. (by_lists m hs, by_elements hs m)

-- ---- a merge of receipts is one of events, where each list of receipts is that of a list of events

one_more : {X Y Z : Type 0} (f : X → Z) (g : Y → Z) (xs : List X) (y : Y) (r : List Y) → map f xs ≡ map g (y ∷ r)
    → (x : X) × (q : List X) × (xs ≡ x ∷ q) × (f x ≡ g y) × (map f q ≡ map g r)
one_more f g [] y r same = absurd cc
one_more f g (x ∷ q) y r same = (x, q, refl, let e : f x ≡ g y = cc in e, let e : map f q ≡ map g r = cc in e)

-- what the merge of the second lists looks like, some merge of the first lists does
pub alike_merge : {X Y Z : Type 0} (f : X → Z) (g : Y → Z) (m : List Y) (xs : List (List X)) (ys : List (List Y))
    → ((i : ℕ) → map f (get_or xs i []) ≡ map g (get_or ys i [])) → IsMerge ys m
    → (n : List X) × IsMerge xs n × (map f n ≡ map g m)
alike_merge f g [] xs ys same merge = ([], λ i. no_more f g (get_or xs i []) (get_or ys i []) (same i) (merge i), refl)
  where
    no_more : {X Y Z : Type 0} (f : X → Z) (g : Y → Z) (x : List X) (y : List Y) → map f x ≡ map g y → y ≡ [] → x ≡ []
    no_more f g [] y e none = refl
    no_more f g (a ∷ x) [] e none = absurd cc
    no_more f g (a ∷ x) (b ∷ y) e none = absurd cc
alike_merge {X} {Y} {Z} f g (y ∷ m) xs ys same (i, r, at, merge) =
    let more = one_more f g (get_or xs i []) y r (same i ∙ ap (map g) at) in
    let (x, q, here, first, rest) = more in
    let left : (j : ℕ) → map f (get_or (set xs i q) j []) ≡ map g (get_or (set ys i r) j []) = λ j. elim (cases_eq j i) [
      | inl e ↦
          ap (λ k. map f (get_or (set xs i q) k [])) e ∙ (ap (map f) (get_or-set_same xs i q [] (within_of xs i x q here))
          ∙ (rest ∙ (ap (map g) (sym (get_or-set_same ys i r [] (within_of ys i y r at))) ∙ ap (λ k. map g (get_or (set ys i r) k [])) (sym e))))
      | inr ne ↦
          ap (map f) (get_or-set_other xs i j q [] ne) ∙ (same j ∙ ap (map g) (sym (get_or-set_other ys i j r [] ne)))
    ] in
    let deep = alike_merge f g m (set xs i q) (set ys i r) left merge in
    (x ∷ deep.0, (i, q, here, deep.1), cons_alike first deep.2)
  where
    within_of : {X : Type 0} (ls : List (List X)) (i : ℕ) (x : X) (r : List X) → get_or ls i [] ≡ x ∷ r → i < length ls
    within_of ls i x r at = elim (cases_lt i (length ls)) [
      | inl lt ↦ lt
      | inr ge ↦ let none : get_or ls i [] ≡ [] = get_or_past ls i [] ge in absurd cc
    ]

    cons_alike : {Z : Type 0} {a b : Z} {x y : List Z} → a ≡ b → x ≡ y → a ∷ x ≡ b ∷ y
    cons_alike p q = cc

-- what is made of each element is made of a merge
map_merge : {X Y : Type 0} (f : X → Y) (m : List X) (ls : List (List X)) → IsMerge ls m → IsMerge (map (map f) ls) (map f m)
map_merge f [] ls merge = λ i. get_or-map (map f) ls i [] ∙ ap (map f) (merge i)
map_merge f (x ∷ m) ls (i, r, at, merge) =
    (i, map f r, get_or-map (map f) ls i [] ∙ ap (map f) at, subst (λ z. IsMerge z (map f m)) (map-set (map f) ls i r) (map_merge f m (set ls i r) merge))

-- ---- the receipts of a history have its marks

abbrev mark_in : Receipt → Mark
mark_in r = r.mark

marks_back : (shard n : ℕ) (ms : List Mark) → map mark_in (numbered shard n ms) ≡ ms
marks_back shard n [] = refl
marks_back shard n (m ∷ ms) = ap (λ z. m ∷ z) (marks_back shard (n + 1) ms)

same_marks : (shard i : ℕ) (books : List Book)
    → map mark_of (get_or (events_of books) i []) ≡ map mark_in (get_or (numbered_from shard (marks_of books)) i [])
same_marks shard i [] = refl
same_marks shard zero (b ∷ books) = sym (marks_back shard 0 (map mark_of b.history))
same_marks shard (suc i) (b ∷ books) = same_marks (shard + 1) i books

-- where receipts and histories agree, the seats did one history
pub did_one_history : (shelf : List Contents) (books : List Book) (seats : List Seat) → Agree books seats → MergesAreLegal shelf books
    → DidOneHistory shelf books seats
did_one_history shelf books seats (m, of_books, of_seats) legal =
    let found = alike_merge mark_of mark_in m (events_of books) (histories_of books) (λ i. same_marks 0 i books) of_books in
    let is_merge = by_lists found.0 (events_of books) found.1 in
    record {
      history = found.0;
      of_books = is_merge;
      of_seats = subst (IsMerge (marks_told seats)) (sym found.2) (map_merge mark_in m (receipts_of seats) of_seats);
      legal = legal found.0 is_merge;
    }
