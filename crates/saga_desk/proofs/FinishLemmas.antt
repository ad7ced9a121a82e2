-- What is known of books that a desk gives.
use Rattle.std.proofs.Common.{◌≡◌, ℕ, suc, ◌<◌, ◌≤◌, ◌+◌, List, [], ◌∷◌, ◌++◌, length, length-append, get_or, refl, sym, ap, ◌∙◌, subst, arith, inl, inr, Some}
use Rattle.std.specs.List.{slice_get}
use Rattle.std.proofs.lemmas.Bool.{cases_eq}
use Rattle.std.proofs.lemmas.Option.{get_or_from_slice_get, slice_get-get_or, slice_get_within}
use Rattle.std.proofs.lemmas.List.{get_or_append_left}
use Rattle.std.proofs.Math.Seq.{get_or-append_seam}
use Rattle.saga_def.specs.Contents.{Contents}
use Rattle.saga_history.specs.Changes.{past}
use Rattle.saga_history.specs.Merges.{AllDisjoint, AreDisjoint, EachHistory, IsNumbered}
use Rattle.saga_history.specs.Rules.{IsLegal}
use Rattle.saga_history.proofs.MergeLemmas.{merges_of_many_are_legal}
use Rattle.saga_history.proofs.PartLemmas.{numbered_apart}
use Rattle.saga_core.specs.Book.{Book}
use Rattle.saga_desk.specs.Finish.{AreOfShards, IsOfShard, KeepLegalHistories, KeepsLegalHistory, MergesAreLegal, events_of}

all_legal : (shelf : List Contents) (shards n : ℕ) (books : List Book) → ((i : ℕ) (b : Book) → slice_get books i ≡ Some b → IsOfShard shelf shards (n + i) b) → KeepLegalHistories books → EachHistory (λ h. IsLegal shelf (past h)) (events_of books)
all_legal shelf shards n [] of keep = tt
all_legal shelf shards n (b ∷ books) of keep = (
  subst (λ (s : List Contents). IsLegal s (past b.history)) (of 0 b refl).shelf (keep 0 b refl).legal,
  all_legal shelf shards (n + 1) books (λ i x at. subst (λ k. IsOfShard shelf shards k x) (let e : n + suc i ≡ (n + 1) + i = omega arith in e) (of (suc i) x at)) (λ i x at. keep (suc i) x at),
)

-- a book of another shard has no saga in common with each of those that follow
apart_from : (shelf : List Contents) (shards k n : ℕ) (a : Book) (books : List Book) → k < n → n + length books ≤ shards → IsOfShard shelf shards k a → KeepsLegalHistory a → ((i : ℕ) (b : Book) → slice_get books i ≡ Some b → IsOfShard shelf shards (n + i) b) → KeepLegalHistories books → EachHistory (AreDisjoint a.history) (events_of books)
apart_from shelf shards k n a [] lt few is own of keep = tt
apart_from shelf shards k n a (b ∷ books) lt few is own of keep =
    let other = of 0 b refl in
    let kept = keep 0 b refl in
    let same : k ≡ n + 0 → ⊥ = λ e. omega arith in (
      numbered_apart shelf a.history b.history k (n + 0) shards (omega arith) (omega arith) same
          (subst (λ (s : List Contents). IsLegal s (past a.history)) is.shelf own.legal)
          (subst (λ (s : List Contents). IsLegal s (past b.history)) other.shelf kept.legal)
          (subst (λ (p : ℕ × ℕ). IsNumbered p.0 p.1 a.history) (cc (is.first, is.stride)) own.numbered)
          (subst (λ (p : ℕ × ℕ). IsNumbered p.0 p.1 b.history) (cc (other.first, other.stride)) kept.numbered),
      apart_from shelf shards k (n + 1) a books (omega arith) (omega arith) is own (λ i x at. subst (λ j. IsOfShard shelf shards j x) (let e : n + suc i ≡ (n + 1) + i = omega arith in e) (of (suc i) x at)) (λ i x at. keep (suc i) x at),
    )

all_apart : (shelf : List Contents) (shards n : ℕ) (books : List Book) → n + length books ≤ shards → ((i : ℕ) (b : Book) → slice_get books i ≡ Some b → IsOfShard shelf shards (n + i) b) → KeepLegalHistories books → AllDisjoint (events_of books)
all_apart shelf shards n [] few of keep = tt
all_apart shelf shards n (b ∷ books) few of keep =
    let further : (i : ℕ) (x : Book) → slice_get books i ≡ Some x → IsOfShard shelf shards ((n + 1) + i) x = λ i x at. subst (λ j. IsOfShard shelf shards j x) (let e : n + suc i ≡ (n + 1) + i = omega arith in e) (of (suc i) x at) in (
      apart_from shelf shards n (n + 1) b books (omega arith) (omega arith) (subst (λ j. IsOfShard shelf shards j b) (let e : n + 0 ≡ n = omega arith in e) (of 0 b refl)) (keep 0 b refl) further (λ i x at. keep (suc i) x at),
      all_apart shelf shards (n + 1) books (omega arith) further (λ i x at. keep (suc i) x at),
    )

-- each merge of the histories of a book for each shard is legal
pub merges_legal : (shelf : List Contents) (shards : ℕ) (books : List Book) → AreOfShards shelf shards books → KeepLegalHistories books → MergesAreLegal shelf books
merges_legal shelf shards books of keep =
    let from_zero : (i : ℕ) (b : Book) → slice_get books i ≡ Some b → IsOfShard shelf shards (0 + i) b = λ i b at. subst (λ j. IsOfShard shelf shards j b) (let e : i ≡ 0 + i = omega arith in e) (of.each i b at) in
    λ m merge. merges_of_many_are_legal shelf (events_of books) m (all_legal shelf shards 0 books from_zero keep) (all_apart shelf shards 0 books (omega (arith, of.all)) from_zero keep) merge

-- ---- two lists that are compared element by element
read_at : {X : Type 0} (a : List X) (i : ℕ) (x d : X) → i < length a → x ≡ get_or a i x → get_or a i d ≡ x
read_at a i x d lt is = get_or_from_slice_get a i x d (slice_get-get_or a i x lt ∙ ap Some (sym is))

pub same_at : {X : Type 0} (a b : List X) (i : ℕ) (x y : X) → i < length a → x ≡ get_or a i x → y ≡ get_or b i y → a ≡ b → x ≡ y
same_at a b i x y lt is_x is_y e = is_x ∙ (ap (λ z. get_or z i x) e ∙ read_at b i y x (omega (arith, ap length e)) is_y)

pub same_lists : {X : Type 0} (a b : List X) → length a ≡ length b → ((k : ℕ) (d : X) → k < length a → get_or a k d ≡ get_or b k d) → a ≡ b
same_lists [] [] same each = refl
same_lists [] (y ∷ b) same each = absurd (omega arith)
same_lists (x ∷ a) [] same each = absurd (omega arith)
same_lists (x ∷ a) (y ∷ b) same each = let head : x ≡ y = each 0 x (omega arith) in let tail : a ≡ b = same_lists a b (omega arith) (λ k d lt. each (suc k) d (omega arith)) in cc

pub same_more : {X : Type 0} (a b : List X) (i : ℕ) (x y : X) → length a ≡ length b → i < length a → ((k : ℕ) (d : X) → k < i → get_or a k d ≡ get_or b k d) → x ≡ get_or a i x → y ≡ get_or b i y → x ≡ y → (k : ℕ) (d : X) → k < i + 1 → get_or a k d ≡ get_or b k d
same_more a b i x y same lt before is_x is_y e k d below = elim (cases_eq k i) [
  | inl is ↦ ap (λ j. get_or a j d) is ∙ (read_at a i x d lt is_x ∙ (e ∙ (sym (read_at b i y d (omega (arith, same)) is_y) ∙ ap (λ j. get_or b j d) (sym is))))
  | inr ne ↦ before k d (omega arith)
]

-- ---- books that are looked at one after the other
pub keep_more : (books : List Book) (i : ℕ) (x : Book) → i < length books → x ≡ get_or books i x → KeepsLegalHistory x → ((k : ℕ) (b : Book) → k < i → slice_get books k ≡ Some b → KeepsLegalHistory b) → (k : ℕ) (b : Book) → k < i + 1 → slice_get books k ≡ Some b → KeepsLegalHistory b
keep_more books i x lt is kept before k b below at = elim (cases_eq k i) [
  | inl e ↦
      let found : Some b ≡ Some x = sym at ∙ (ap (slice_get books) e ∙ (slice_get-get_or books i x lt ∙ ap Some (sym is))) in
      let same : x ≡ b = cc in
      subst KeepsLegalHistory same kept
  | inr ne ↦ before k b (omega arith) at
]

-- ---- slots that are numbered by their places
pub numbered_more : {X : Type 0} (number : X → ℕ) (xs : List X) (x : X) (n : ℕ) → length xs ≡ n → number x ≡ n
    → ((k : ℕ) (y : X) → slice_get xs k ≡ Some y → number y ≡ k)
    → (k : ℕ) (y : X) → slice_get (xs ++ x ∷ []) k ≡ Some y → number y ≡ k
numbered_more number xs x n len is before k y at =
    let within = slice_get_within (xs ++ x ∷ []) k y at in
    let here : get_or (xs ++ x ∷ []) k x ≡ y = get_or_from_slice_get (xs ++ x ∷ []) k y x at in
    elim (cases_eq k n) [
      | inl e ↦
          let last : get_or (xs ++ x ∷ []) k x ≡ x = ap (λ z. get_or (xs ++ x ∷ []) z x) (e ∙ sym len) ∙ get_or-append_seam xs x [] x in
          ap number (sym here ∙ last) ∙ (is ∙ sym e)
      | inr ne ↦
          let lt : k < length xs = omega (arith, length-append xs (x ∷ [])) in
          let same : get_or xs k x ≡ y = sym (get_or_append_left xs (x ∷ []) x k lt) ∙ here in
          before k y (slice_get-get_or xs k x lt ∙ ap Some same)
    ]
