use Rattle.std.proofs.Common.{◌≡◌, ℕ, zero, suc, ◌<◌, ◌+◌, List, [], ◌∷◌, length, get_or, set, drop, map, refl, sym, ap, ◌∙◌, subst, arith, add-zero, zero-add}
use Rattle.std.proofs.Common.{inl, inr}
use Rattle.std.proofs.lemmas.Bool.{cases_lt}
use Rattle.std.proofs.lemmas.List.{drop_all, drop_more, get_or_past, get_or-map, length-map}
use Rattle.saga_desk.specs.Agreement.{histories_of}
use Rattle.saga_desk.specs.Rests.{rests, IsNextOf}
use Rattle.saga_desk.specs.Agreement.{numbered, numbered_from}
use Rattle.saga_core.specs.Book.{Book}
use Rattle.saga_history.specs.Changes.{mark_of}
use Rattle.saga_history.specs.declared.events.Event.{Event}
use Rattle.saga_history.specs.declared.events.Mark.{Mark}
use Rattle.saga_desk.specs.declared.receipts.Receipt.{Receipt}

pub rests-get : {X : Type 0} (ls : List (List X)) (cs : List ℕ) (i : ℕ) → length cs ≡ length ls → get_or (rests ls cs) i [] ≡ drop (get_or cs i 0) (get_or ls i [])
rests-get [] cs i same = sym (drop_all (get_or cs i 0) [] (omega arith))
rests-get (l ∷ ls) [] i same = absurd (omega arith)
rests-get (l ∷ ls) (c ∷ cs) zero same = refl
rests-get (l ∷ ls) (c ∷ cs) (suc i) same = rests-get ls cs i (omega arith)

pub rests-set : {X : Type 0} (ls : List (List X)) (cs : List ℕ) (i c : ℕ) → length cs ≡ length ls → set (rests ls cs) i (drop c (get_or ls i [])) ≡ rests ls (set cs i c)
rests-set [] cs i c same = refl
rests-set (l ∷ ls) [] i c same = absurd (omega arith)
rests-set (l ∷ ls) (d ∷ cs) zero c same = refl
rests-set (l ∷ ls) (d ∷ cs) (suc i) c same = ap (λ z. drop d l ∷ z) (rests-set ls cs i c (omega arith))

pub length-numbered : (s n : ℕ) (h : List Mark) → length (numbered s n h) ≡ length h
length-numbered s n [] = refl
length-numbered s n (m ∷ h) = ap suc (length-numbered s (n + 1) h)

pub length-numbered_from : (s : ℕ) (hs : List (List Mark)) → length (numbered_from s hs) ≡ length hs
length-numbered_from s [] = refl
length-numbered_from s (h ∷ hs) = ap suc (length-numbered_from (s + 1) hs)

pub numbered_from-get : (s : ℕ) (hs : List (List Mark)) (i : ℕ) → get_or (numbered_from s hs) i [] ≡ numbered (s + i) 0 (get_or hs i [])
numbered_from-get s [] i = refl
numbered_from-get s (h ∷ hs) zero = ap (λ k. numbered k 0 h) (sym (add-zero s))
numbered_from-get s (h ∷ hs) (suc i) = numbered_from-get (s + 1) hs i ∙ ap (λ k. numbered k 0 (get_or hs i [])) (let e : (s + 1) + i ≡ s + suc i = omega arith in e)

pub numbered-drop : (s n c : ℕ) (h : List Mark) → drop c (numbered s n h) ≡ numbered s (n + c) (drop c h)
numbered-drop s n zero h = ap (λ k. numbered s k h) (sym (add-zero n))
numbered-drop s n (suc c) [] = refl
numbered-drop s n (suc c) (m ∷ h) = numbered-drop s (n + 1) c h ∙ ap (λ k. numbered s k (drop c h)) (let e : (n + 1) + c ≡ n + suc c = omega arith in e)

-- what is left of a history, with its numbers
pub rest_is : (hs : List (List Mark)) (cs : List ℕ) (i : ℕ) → length cs ≡ length hs
    → get_or (rests (numbered_from 0 hs) cs) i [] ≡ numbered i (get_or cs i 0) (drop (get_or cs i 0) (get_or hs i []))
rest_is hs cs i same =
    rests-get (numbered_from 0 hs) cs i (same ∙ sym (length-numbered_from 0 hs))
    ∙ ap (drop (get_or cs i 0)) (numbered_from-get 0 hs i)
    ∙ numbered-drop (0 + i) 0 (get_or cs i 0) (get_or hs i [])
    ∙ ap (λ k. numbered k (0 + get_or cs i 0) (drop (get_or cs i 0) (get_or hs i []))) (zero-add i)
    ∙ ap (λ k. numbered i k (drop (get_or cs i 0) (get_or hs i []))) (zero-add (get_or cs i 0))

-- what the head of a numbered history is
pub head_is : (i c : ℕ) (h : List Mark) (x : Receipt) (r : List Receipt) → numbered i c (drop c h) ≡ x ∷ r
    → (x.shard ≡ i) × (x.place ≡ c) × (c < length h) × ((d : Mark) → get_or h c d ≡ x.mark)
head_is i c h x r e =
    elim (cases_lt c (length h)) [
      | inl lt ↦
          (shard_is lt, place_is lt, lt, λ d. mark_is lt d)
      | inr ge ↦
          let none : drop c h ≡ [] = drop_all c h ge in
          let e' : ◌≡◌ {A = List Receipt} [] (x ∷ r) = subst (λ z. numbered i c z ≡ x ∷ r) none e in
          absurd cc
    ]
  where
    opened : c < length h → (d : Mark) → ◌≡◌ {A = List Receipt} (record { shard = i; place = c; mark = get_or h c d } ∷ numbered i (c + 1) (drop (c + 1) h)) (x ∷ r)
    opened lt d = subst (λ z. numbered i c z ≡ x ∷ r) (drop_more h c d lt) e

    x_is : c < length h → (d : Mark) → x ≡ record { shard = i; place = c; mark = get_or h c d }
    x_is lt d = let o = opened lt d in cc

    shard_is : c < length h → x.shard ≡ i
    shard_is lt = ap (λ (y : Receipt). y.shard) (x_is lt x.mark)

    place_is : c < length h → x.place ≡ c
    place_is lt = ap (λ (y : Receipt). y.place) (x_is lt x.mark)

    mark_is : c < length h → (d : Mark) → get_or h c d ≡ x.mark
    mark_is lt d = sym (ap (λ (y : Receipt). y.mark) (x_is lt d))

items_at : (hs : List Book) (i : ℕ) (v : Book) → i < length hs → v ≡ get_or hs i v → get_or (map (λ (b : Book). map mark_of b.history) hs) i [] ≡ map mark_of v.history
items_at hs i v lt is = get_or-map (λ (b : Book). map mark_of b.history) hs i v [] lt ∙ ap (λ (b : Book). map mark_of b.history) (sym is)

pub meets_from : (hs : List Book) (cs : List ℕ) (x : Receipt) (v : Book) → length cs ≡ length hs → x.shard < length hs → v ≡ get_or hs x.shard v
    → x.place ≡ get_or cs x.shard 0 → x.place < length (map mark_of v.history) → x.mark ≡ get_or (map mark_of v.history) x.place x.mark
    → IsNextOf (histories_of hs) cs x.shard x
meets_from hs cs x v same lt is at within mark =
    let ms : List (List Mark) = map (λ (b : Book). map mark_of b.history) hs in
    let there = rest_is ms cs x.shard (same ∙ sym (length-map hs (λ (b : Book). map mark_of b.history))) in
    let there' : get_or (rests (histories_of hs) cs) x.shard [] ≡ numbered x.shard x.place (drop x.place (map mark_of v.history)) =
    there ∙ ap (λ k. numbered x.shard k (drop k (get_or ms x.shard []))) (sym at) ∙ ap (λ z. numbered x.shard x.place (drop x.place z)) (items_at hs x.shard v lt is) in
    let opened : numbered x.shard x.place (drop x.place (map mark_of v.history)) ≡ x ∷ numbered x.shard (x.place + 1) (drop (x.place + 1) (map mark_of v.history)) =
    ap (numbered x.shard x.place) (drop_more (map mark_of v.history) x.place x.mark within)
    ∙ ap (λ m. record { shard = x.shard; place = x.place; mark = m } ∷ numbered x.shard (x.place + 1) (drop (x.place + 1) (map mark_of v.history))) (sym mark) in
    (numbered x.shard (x.place + 1) (drop (x.place + 1) (map mark_of v.history)), there' ∙ opened)

pub meets_to : (hs : List Book) (cs : List ℕ) (i : ℕ) (x : Receipt) → length cs ≡ length hs → IsNextOf (histories_of hs) cs i x
    → (i < length hs) × (x.shard ≡ i) × (x.place ≡ get_or cs i 0)
    × ((v : Book) → v ≡ get_or hs i v → (x.place < length (map mark_of v.history)) × ((d : Mark) → get_or (map mark_of v.history) x.place d ≡ x.mark))
meets_to hs cs i x same (r, e) =
    let ms : List (List Mark) = map (λ (b : Book). map mark_of b.history) hs in
    let there = rest_is ms cs i (same ∙ sym (length-map hs (λ (b : Book). map mark_of b.history))) in
    let head = head_is i (get_or cs i 0) (get_or ms i []) x r (sym there ∙ e) in
    let lt : i < length hs = elim (cases_lt i (length hs)) [
      | inl lt ↦ lt
      | inr past ↦
          let none : length (get_or ms i []) ≡ 0 = ap length (get_or_past ms i [] (omega (arith, length-map hs (λ (b : Book). map mark_of b.history)))) in
          let some = head.2 in
          absurd (omega arith)
    ] in (
      lt,
      head.0,
      head.1,
      λ v is.
          let items = items_at hs i v lt is in (
            subst (λ z. x.place < length z) items (subst (λ k. k < length (get_or ms i [])) (sym head.1) head.2),
            λ d. subst (λ z. get_or z x.place d ≡ x.mark) items (subst (λ k. get_or (get_or ms i []) k d ≡ x.mark) (sym head.1) (head.3 d)),
          ),
    )

pub read_at : (es ys : List Event) (i n : ℕ) (d : Event) (m : Mark) → ys ≡ es → i ≡ n → n < length es → ((d : Mark) → get_or (map mark_of es) n d ≡ m) → mark_of (get_or ys i d) ≡ m
read_at es ys i n d m same at lt each = ap (λ z. mark_of (get_or z i d)) same ∙ (ap (λ k. mark_of (get_or es k d)) at ∙ (sym (get_or-map mark_of es n d m lt) ∙ each m))

pub read_back : (es ys : List Event) (i n : ℕ) (d : Event) (m : Mark) → ys ≡ es → i ≡ n → i < length ys → mark_of (get_or ys i d) ≡ m → m ≡ get_or (map mark_of es) n m
read_back es ys i n d m same at lt is =
    sym is ∙ (ap (λ z. mark_of (get_or z i d)) same ∙ (ap (λ k. mark_of (get_or es k d)) at ∙ sym (get_or-map mark_of es n d m (subst (λ k. k < length es) at (subst (λ z. i < length z) same lt)))))
