-- What the passes of the search keep of their marks.
use Rattle.std.proofs.Math.Bool.{and-true}
use Rattle.std.proofs.Common.{ℕ, ◌≡◌, ◌<◌, ◌≤◌, ◌+◌, ◌∙◌, inl, inr, List, [], ◌∷◌, ◌++◌, length, take, replicate, get_or, set, ap, sym, subst, refl, arith, suc}
use Rattle.std.specs.Prelude.{Bool, true, false, not, ◌==◌, ◌&&◌, All, slice_index_or, Option, Some, None, IsSome}
use Rattle.std.specs.List.{count_by}
use Rattle.std.proofs.lemmas.Bool.{cases_eq, cases_lt, false≢true, eq-eqb, eqb-true, ne_eqb}
use Rattle.std.proofs.lemmas.List.Sums.{get_or-le-sum_by, sum_by-cons, sum_by_push, sum_by_more, sum_by_more_le, sum_by-set, count_by-le-length}
use Rattle.std.proofs.lemmas.List.{take_more, length-set, get_or-set_same, get_or-set_other, get_or_past, take_at, length-replicate, get_or-replicate}
use Rattle.std.proofs.lemmas.List.Elements.{Contains-push, Contains-push_cases, Contains-append_left, All-take, All-contains, All-same, All-weaker, All-push}
use Rattle.saga_def.specs.declared.steps.Need.{Need}
use Rattle.saga_def.specs.Order.{NeedsDirectly, Precedes, IsAcyclic}
use Rattle.saga_def.specs.Rules.{AreKnown}
use Rattle.saga_def.specs.Peeling.{AreBlockers, IsPeeled, AreLowered, AreFree, occurs, one_if, pending, demand}
use Rattle.saga_def.proofs.OrderLemmas.{closed_leads, known_on, known_step}

-- a marked step needs marked steps alone, and does not precede itself
pub record AreSafe (needs : List Need) (count : ℕ) (marks : List Bool) : Type 0 where
  pub sized : length marks ≡ count
  pub closed : (b a : ℕ) → slice_index_or marks b false ≡ true → NeedsDirectly needs b a → slice_index_or marks a false ≡ true
  pub none : (s : ℕ) → slice_index_or marks s false ≡ true → Precedes needs s s → ⊥

-- the place of a mark that is set is within the marks
marked_within : (marks : List Bool) (s : ℕ) → get_or marks s false ≡ true → s < length marks
marked_within marks s marked = elim (cases_lt s (length marks)) [
  | inl lt ↦ lt
  | inr past ↦ absurd (false≢true (sym (get_or_past marks s false past) ∙ marked))
]

some_not_none : {a : ℕ} → (o : Option ℕ) → o ≡ Some a → o ≡ None → ⊥
some_not_none o some none = let e : Some _ ≡ None = sym some ∙ none in cc

-- one more need, on a marked step
pub blockers_kept : (needs : List Need) (marks : List Bool) (bs : List (Option ℕ)) (i : ℕ) (d : Need) → i < length needs → get_or marks (get_or needs i d).on false ≡ true → AreBlockers (take i needs) marks bs → AreBlockers (take (i + 1) needs) marks bs
blockers_kept needs marks bs i d lt marked old = rw (take_more needs i d lt) (record {
  sized = old.sized;
  free = λ s a within none needed. elim (Contains-push_cases (take i needs) (get_or needs i d) (record { step = s; on = a }) needed) [
    | inl before ↦ old.free s a within none before
    | inr here ↦ rw (sym (ap (λ (n : Need). n.on) here)) marked
  ];
  needed = λ s a blocked. Contains-append_left (take i needs) (get_or needs i d ∷ []) _ (old.needed s a blocked);
  unmarked = old.unmarked;
})

-- one more need, on a step that is not marked
pub blockers_more : (needs : List Need) (marks : List Bool) (bs : List (Option ℕ)) (i : ℕ) (d : Need) → i < length needs → (get_or needs i d).step < length marks → get_or marks (get_or needs i d).on false ≡ false → AreBlockers (take i needs) marks bs → AreBlockers (take (i + 1) needs) marks (set bs (get_or needs i d).step (Some (get_or needs i d).on))
blockers_more needs marks bs i d lt known open_now old =
    let n : Need = get_or needs i d in
    let within : n.step < length bs = omega (arith, old.sized) in
    let here : get_or (set bs n.step (Some n.on)) n.step None ≡ Some n.on = get_or-set_same bs n.step (Some n.on) None within in
    let elsewhere : (s : ℕ) → (s ≡ n.step → ⊥) → get_or (set bs n.step (Some n.on)) s None ≡ get_or bs s None =
    λ s apart. get_or-set_other bs n.step s (Some n.on) None apart in
    rw (take_more needs i d lt) (record {
      sized = length-set bs n.step (Some n.on) ∙ old.sized;
      free = λ s a inside none needed. elim (cases_eq s n.step) [
        | inl same ↦ absurd (some_not_none _ here (subst (λ (k : ℕ). get_or (set bs n.step (Some n.on)) k None ≡ None) same none))
        | inr apart ↦ elim (Contains-push_cases (take i needs) n (record { step = s; on = a }) needed) [
          | inl before ↦ old.free s a inside (sym (elsewhere s apart) ∙ none) before
          | inr it ↦ absurd (apart (sym (ap (λ (m : Need). m.step) it)))
        ]
      ];
      needed = λ s a blocked. elim (cases_eq s n.step) [
        | inl same ↦
            let target : Some n.on ≡ Some a = sym here ∙ subst (λ (k : ℕ). get_or (set bs n.step (Some n.on)) k None ≡ Some a) same blocked in
            let on : n.on ≡ a = cc in
            rw (same, ← on) (Contains-push (take i needs) n)
        | inr apart ↦ Contains-append_left (take i needs) (n ∷ []) _ (old.needed s a (sym (elsewhere s apart) ∙ blocked))
      ];
      unmarked = λ s a blocked. elim (cases_eq s n.step) [
        | inl same ↦
            let target : Some n.on ≡ Some a = sym here ∙ subst (λ (k : ℕ). get_or (set bs n.step (Some n.on)) k None ≡ Some a) same blocked in
            let on : n.on ≡ a = cc in
            rw (← on) open_now
        | inr apart ↦ old.unmarked s a (sym (elsewhere s apart) ∙ blocked)
      ];
    })

-- the steps that are done are safe; each step with no need left is done or todo, once
pub record IsSettling (needs : List Need) (count : ℕ) (done : List Bool) (unmet todo : List ℕ) : Type 0 where
  pub sized : length unmet ≡ count
  pub below : All (λ (s : ℕ). s < count) todo
  pub left : (s : ℕ) → s < count → get_or unmet s 0 ≡ pending needs done s
  pub once : (s : ℕ) → s < count → occurs s todo + one_if (get_or done s false) ≡ one_if (get_or unmet s 0 == 0)
  pub safe : AreSafe needs count done

-- of a step with none left, all that it needs is done
pub all_done : (needs : List Need) (done : List Bool) (s a : ℕ) → pending needs done s ≡ 0 → NeedsDirectly needs s a → get_or done a false ≡ true
all_done needs done s a none (k, lt, is) =
    let d : Need = record { step = s; on = a } in
    let f : Need → ℕ = λ n. one_if (n.step == s && not (get_or done n.on false)) in
    let le = get_or-le-sum_by f needs k d lt in
    let one : f (get_or needs k d) ≡ one_if (s == s && not (get_or done a false)) = ap f is in
    go (get_or done a false) refl (omega (arith, le, one, none))
  where
    go : (b : Bool) → get_or done a false ≡ b → one_if (s == s && not (get_or done a false)) ≡ 0 → get_or done a false ≡ true
    go true e h = e
    go false e h =
        let yes : (s == s && not (get_or done a false)) ≡ true = rw (eq-eqb s s refl, e) refl in
        let bad : one_if (s == s && not (get_or done a false)) ≡ 1 = ap one_if yes in
        absurd (omega (arith, h, bad))

need_eq : (n : Need) (s : ℕ) → n.step ≡ s → n ≡ record { step = s; on = n.on }
need_eq n s same = let f : ℕ → Need = λ x. record { step = x; on = n.on } in ap f same

pub none_pending : (needs : List Need) (done : List Bool) (s : ℕ) → ((a : ℕ) → NeedsDirectly needs s a → get_or done a false ≡ true) → pending needs done s ≡ 0
none_pending [] done s all = refl
none_pending (n ∷ needs) done s all =
    let later = none_pending needs done s (λ a (k, lt, is). all a (suc k, omega (arith, lt), is)) in
    let f : Need → ℕ = λ n. one_if (n.step == s && not (get_or done n.on false)) in
    omega (arith, sum_by-cons f n needs, later, here (n.step == s) refl)
  where
    here : (b : Bool) → (n.step == s) ≡ b → one_if (n.step == s && not (get_or done n.on false)) ≡ 0
    here false e = rw e refl
    here true e =
        let same : n.step ≡ s = eqb-true n.step s e in
        let yes : get_or done n.on false ≡ true = all n.on (0, omega arith, need_eq n s same) in
        rw (e, yes) refl

one_yes : (a b : ℕ) → a ≡ b → one_if (a == b) ≡ 1
one_yes a b e = ap one_if (eq-eqb a b e)

one_no : (a b : ℕ) → (a ≡ b → ⊥) → one_if (a == b) ≡ 0
one_no a b ne = ap one_if (ne_eqb a b ne)

one_true : (b : Bool) → one_if b ≡ 1 → b ≡ true
one_true true e = refl
one_true false e = absurd (omega (arith, e))

one_false : (b : Bool) → one_if b ≡ 0 → b ≡ false
one_false true e = absurd (omega (arith, e))
one_false false e = refl

one_most : (b : Bool) → one_if b ≤ 1
one_most true = omega arith
one_most false = omega arith

occurs_push : (s a : ℕ) (rest : List ℕ) → occurs s (rest ++ a ∷ []) ≡ occurs s rest + one_if (a == s)
occurs_push s a rest = sum_by_push (λ x. one_if (x == s)) rest a

-- a step that is taken out was not done, and has none left
pub not_done : (needs : List Need) (count : ℕ) (done : List Bool) (unmet todo rest : List ℕ) (a : ℕ) → IsSettling needs count done unmet todo → todo ≡ rest ++ a ∷ [] → (a < count) × (get_or done a false ≡ false) × (get_or unmet a 0 ≡ 0)
not_done needs count done unmet todo rest a old is =
    let lt : a < count = All-contains (λ (s : ℕ). s < count) todo a old.below (rw is (Contains-push rest a)) in
    let many : occurs a todo ≡ occurs a rest + one_if (a == a) = ap (occurs a) is ∙ occurs_push a a rest in
    let one = old.once a lt in
    let most = one_most (get_or unmet a 0 == 0) in
    let zero_now : one_if (get_or done a false) ≡ 0 = omega (arith, many, one_yes a a refl, one, most) in
    let none : one_if (get_or unmet a 0 == 0) ≡ 1 = omega (arith, many, one_yes a a refl, one, most) in
    (lt, one_false _ zero_now, eqb-true _ _ (one_true _ none))

-- what is pending before and after a step is done
pending_set : (needs : List Need) (done : List Bool) (s a : ℕ) → a < length done → get_or done a false ≡ false → pending needs done s ≡ pending needs (set done a true) s + count_by (λ (n : Need). n.step == s && n.on == a) needs
pending_set [] done s a lt open_now = refl
pending_set (n ∷ needs) done s a lt open_now =
    let f : Need → ℕ = λ n. one_if (n.step == s && not (get_or done n.on false)) in
    let g : Need → ℕ = λ n. one_if (n.step == s && not (get_or (set done a true) n.on false)) in
    let h : Need → ℕ = λ n. one_if (n.step == s && n.on == a) in
    let later = pending_set needs done s a lt open_now in
    omega (arith, sum_by-cons f n needs, sum_by-cons g n needs, sum_by-cons h n needs, later, here (n.step == s))
  where
    here : (b : Bool) → one_if (b && not (get_or done n.on false)) ≡ one_if (b && not (get_or (set done a true) n.on false)) + one_if (b && n.on == a)
    here false = refl
    here true = elim (cases_eq n.on a) [
      | inl e ↦
          let before : get_or done n.on false ≡ false = rw e open_now in
          let after : get_or (set done a true) n.on false ≡ true = rw e (get_or-set_same done a true false lt) in
          rw (before, after, eq-eqb n.on a e) refl
      | inr ne ↦
          let after : get_or (set done a true) n.on false ≡ get_or done n.on false = get_or-set_other done a n.on true false ne in
          rw (after, ne_eqb n.on a ne) (omega arith)
    ]

-- one step is done
pub settle : (needs : List Need) (count : ℕ) (done : List Bool) (unmet todo rest users unmet' todo' : List ℕ) (a : ℕ) → IsSettling needs count done unmet todo → todo ≡ rest ++ a ∷ [] → ((s : ℕ) → s < count → occurs s users ≡ count_by (λ (n : Need). n.step == s && n.on == a) needs) → AreLowered users unmet rest unmet' todo' → length unmet' ≡ length unmet → IsSettling needs count (set done a true) unmet' todo'
settle needs count done unmet todo rest users unmet' todo' a old is links lowered long =
    let was = not_done needs count done unmet todo rest a old is in
    let within : a < length done = omega (arith, was.0, old.safe.sized) in
    let here : get_or (set done a true) a false ≡ true = get_or-set_same done a true false within in
    let kept : (x : ℕ) → get_or done x false ≡ true → get_or (set done a true) x false ≡ true = λ x e. elim (cases_eq x a) [
      | inl same ↦ rw same here
      | inr ne ↦ get_or-set_other done a x true false ne ∙ e
    ] in
    let rest_below : All (λ (s : ℕ). s < count) rest = All-same (λ (s : ℕ). s < count) rest (take (length rest) todo) (sym (ap (take (length rest)) is ∙ take_at rest (a ∷ []) (length rest) refl)) (All-take (λ (s : ℕ). s < count) (length rest) todo old.below) in
    let free : (x : ℕ) → NeedsDirectly needs a x → get_or done x false ≡ true = λ x needed. all_done needs done a x (sym (old.left a was.0) ∙ was.2) needed in
    record {
      sized = long ∙ old.sized;
      below = All-weaker (λ (s : ℕ). s < length unmet) (λ (s : ℕ). s < count) (λ s lt. omega (arith, lt, old.sized)) todo' (lowered.below (All-weaker (λ (s : ℕ). s < count) (λ (s : ℕ). s < length unmet) (λ s lt. omega (arith, lt, old.sized)) rest rest_below));
      left = λ s lt.
          let now = lowered.left s (omega (arith, lt, old.sized)) in
          omega (arith, now, old.left s lt, links s lt, pending_set needs done s a within was.1);
      once = λ s lt.
          let now = lowered.once s (omega (arith, lt, old.sized)) in
          let many : occurs s todo ≡ occurs s rest + one_if (a == s) = ap (occurs s) is ∙ occurs_push s a rest in
          elim (cases_eq s a) [
            | inl same ↦
                let marked : get_or (set done a true) s false ≡ true = rw same here in
                let mark : one_if (get_or (set done a true) s false) ≡ 1 = ap one_if marked in
                let unmarked : get_or done s false ≡ false = rw same was.1 in
                let before : one_if (get_or done s false) ≡ 0 = ap one_if unmarked in
                omega (arith, now, many, old.once s lt, mark, before, one_yes a s (sym same))
            | inr ne ↦
                let mark : one_if (get_or (set done a true) s false) ≡ one_if (get_or done s false) = ap one_if (get_or-set_other done a s true false ne) in
                omega (arith, now, many, old.once s lt, mark, one_no a s (λ e. ne (sym e)))
          ];
      safe = record {
        sized = length-set done a true ∙ old.safe.sized;
        closed = λ b x marked needed. elim (cases_eq b a) [
          | inl same ↦ kept x (free x (subst (λ (t : ℕ). NeedsDirectly needs t x) same needed))
          | inr ne ↦ kept x (old.safe.closed b x (sym (get_or-set_other done a b true false ne) ∙ marked) needed)
        ];
        none = λ s marked precedes. elim (cases_eq s a) [
          | inl same ↦
              let ring : Precedes needs a a = subst (λ (t : ℕ). Precedes needs t t) same precedes in
              let c = ring.chain.0 in
              let again : get_or done a false ≡ true =
              closed_leads needs (λ (t : ℕ). get_or done t false ≡ true) old.safe.closed ring.between c a (free c ring.chain.1) ring.chain.2 in
              false≢true (sym was.1 ∙ again)
          | inr ne ↦ old.safe.none s (sym (get_or-set_other done a s true false ne) ∙ marked) precedes
        ];
      };
    }

-- enough is left to lower
pub enough_left : (needs : List Need) (count : ℕ) (done : List Bool) (unmet todo rest users : List ℕ) (a : ℕ) → IsSettling needs count done unmet todo → todo ≡ rest ++ a ∷ [] → ((s : ℕ) → s < count → occurs s users ≡ count_by (λ (n : Need). n.step == s && n.on == a) needs) → (s : ℕ) → s < count → occurs s users ≤ get_or unmet s 0
enough_left needs count done unmet todo rest users a old is links s lt =
    let was = not_done needs count done unmet todo rest a old is in
    omega (arith, links s lt, old.left s lt, pending_set needs done s a (omega (arith, was.0, old.safe.sized)) was.1)

none_open : (needs : List Need) (count : ℕ) (done : List Bool) (unmet : List ℕ) (bs : List (Option ℕ)) → IsSettling needs count done unmet [] → AreBlockers needs done bs → (s : ℕ) → s < count → get_or bs s None ≡ None → get_or done s false ≡ true
none_open needs count done unmet bs old blocked s lt none =
    let zero_left = none_pending needs done s (λ a needed. blocked.free s a (omega (arith, lt, old.safe.sized)) none needed) in
    let none_here : occurs s [] ≡ 0 = refl in
    one_true _ (omega (arith, old.once s lt, none_here, one_yes (get_or unmet s 0) 0 (old.left s lt ∙ zero_left)))

-- where none is to do, the blockers are those of the end
pub settled : (needs : List Need) (count : ℕ) (done : List Bool) (unmet : List ℕ) (bs : List (Option ℕ)) → AreKnown needs count → IsSettling needs count done unmet [] → AreBlockers needs done bs → IsPeeled needs count bs
settled needs count done unmet bs known old blocked = record {
  sized = blocked.sized ∙ old.safe.sized;
  none = λ s lt none precedes. old.safe.none s (none_open needs count done unmet bs old blocked s lt none) precedes;
  needed = blocked.needed;
  leads_on = record {
    on = λ s a is.
        let lt : a < count = known_on needs count known s a (blocked.needed s a is) in
        some_from (get_or bs a None) (λ none. false≢true (sym (blocked.unmarked s a is) ∙ none_open needs count done unmet bs old blocked a lt none));
  };
}
  where
    some_from : (o : Option ℕ) → (o ≡ None → ⊥) → IsSome o
    some_from None h = absurd (h refl)
    some_from (Some x) h = refl

-- how often each step is needed, one need more
pub demand_more : (needs : List Need) (unmet : List ℕ) (count i n : ℕ) (d : Need) → i < length needs → length unmet ≡ count → (get_or needs i d).step < count → n ≡ get_or unmet (get_or needs i d).step 0 → ((s : ℕ) → s < count → get_or unmet s 0 ≡ demand (take i needs) s) → (s : ℕ) → s < count → get_or (set unmet (get_or needs i d).step (n + 1)) s 0 ≡ demand (take (i + 1) needs) s
demand_more needs unmet count i n d lt sized known is each s below =
    let b : ℕ = (get_or needs i d).step in
    let more : demand (take (i + 1) needs) s ≡ demand (take i needs) s + one_if (b == s) = sum_by_more (λ (n : Need). one_if (n.step == s)) needs i d lt in
    elim (cases_eq s b) [
      | inl e ↦
          let now : get_or (set unmet b (n + 1)) s 0 ≡ n + 1 = rw e (get_or-set_same unmet b (n + 1) 0 (omega arith)) in
          let old : get_or unmet s 0 ≡ n = rw e (sym is) in
          omega (arith, now, old, each s below, more, one_yes b s (sym e))
      | inr ne ↦ omega (arith, get_or-set_other unmet b s (n + 1) 0 ne, each s below, more, one_no b s (λ e. ne (sym e)))
    ]

pub demand_within : (needs : List Need) (i : ℕ) (d : Need) → i < length needs → demand (take i needs) (get_or needs i d).step + 1 ≤ length needs
demand_within needs i d lt =
    let b : ℕ = (get_or needs i d).step in
    omega (arith, sum_by_more_le (λ (n : Need). one_if (n.step == b)) needs i d lt, one_yes b b refl, count_by-le-length (λ (n : Need). n.step == b) needs)

-- one step less, of the steps to lower
pub lower_more : (users unmet todo unmet' todo' todo'' : List ℕ) (i n left : ℕ) → i < length users → length unmet' ≡ length unmet → get_or users i 0 < length unmet → n ≡ get_or unmet' (get_or users i 0) 0 → left + 1 ≡ n → AreLowered (take i users) unmet todo unmet' todo' → ((s : ℕ) → occurs s todo'' ≡ occurs s todo' + one_if (get_or users i 0 == s && left == 0)) → (All (λ (s : ℕ). s < length unmet) todo' → All (λ (s : ℕ). s < length unmet) todo'') → AreLowered (take (i + 1) users) unmet todo (set unmet' (get_or users i 0) left) todo''
lower_more users unmet todo unmet' todo' todo'' i n left lt long known is less old grown belows =
    let b : ℕ = get_or users i 0 in
    let more : (s : ℕ) → occurs s (take (i + 1) users) ≡ occurs s (take i users) + one_if (b == s) = λ s. sum_by_more (λ x. one_if (x == s)) users i 0 lt in
    record {
      left = λ s within. elim (cases_eq s b) [
        | inl e ↦
            let now : get_or (set unmet' b left) s 0 ≡ left = rw e (get_or-set_same unmet' b left 0 (omega arith)) in
            let was : get_or unmet' s 0 ≡ n = rw e (sym is) in
            omega (arith, now, was, more s, old.left s within, one_yes b s (sym e), less)
        | inr ne ↦ omega (arith, get_or-set_other unmet' b s left 0 ne, more s, old.left s within, one_no b s (λ e. ne (sym e)))
      ];
      once = λ s within. elim (cases_eq s b) [
        | inl e ↦
            let now : get_or (set unmet' b left) s 0 ≡ left = rw e (get_or-set_same unmet' b left 0 (omega arith)) in
            let was : get_or unmet' s 0 ≡ n = rw e (sym is) in
            let here : one_if (b == s && left == 0) ≡ one_if (left == 0) = rw (eq-eqb b s (sym e)) refl in
            let mark : one_if (get_or (set unmet' b left) s 0 == 0) ≡ one_if (left == 0) = ap (λ (x : ℕ). one_if (x == 0)) now in
            omega (arith, grown s, here, mark, old.once s within, one_no (get_or unmet' s 0) 0 (λ z. absurd (omega (arith, was, less, z))))
        | inr ne ↦
            let here : one_if (b == s && left == 0) ≡ 0 = rw (ne_eqb b s (λ e. ne (sym e))) refl in
            let mark : one_if (get_or (set unmet' b left) s 0 == 0) ≡ one_if (get_or unmet' s 0 == 0) = ap (λ (x : ℕ). one_if (x == 0)) (get_or-set_other unmet' b s left 0 ne) in
            omega (arith, grown s, here, mark, old.once s within)
      ];
      below = λ all. belows (old.below all);
    }

pub lower_none : (unmet todo : List ℕ) → AreLowered [] unmet todo unmet todo
lower_none unmet todo = record { left = λ s lt. omega arith; once = λ s lt. refl; below = λ all. all }

-- there is one to take away
pub one_left : (users unmet todo unmet' todo' : List ℕ) (i : ℕ) → i < length users → get_or users i 0 < length unmet → AreLowered (take i users) unmet todo unmet' todo' → occurs (get_or users i 0) users ≤ get_or unmet (get_or users i 0) 0 → 0 < get_or unmet' (get_or users i 0) 0
one_left users unmet todo unmet' todo' i lt known old enough =
    let b : ℕ = get_or users i 0 in
    omega (arith, old.left b known, enough, sum_by_more_le (λ x. one_if (x == b)) users i 0 lt, one_yes b b refl)

-- the step is opened, or not
pub grown_yes : (todo : List ℕ) (b left : ℕ) → left ≡ 0 → (s : ℕ) → occurs s (todo ++ b ∷ []) ≡ occurs s todo + one_if (b == s && left == 0)
grown_yes todo b left z s = rw (eq-eqb left 0 z) (occurs_push s b todo ∙ ap (λ t. occurs s todo + one_if t) (sym (and-true (b == s))))

pub grown_no : (todo : List ℕ) (b left : ℕ) → (left ≡ 0 → ⊥) → (s : ℕ) → occurs s todo ≡ occurs s todo + one_if (b == s && left == 0)
grown_no todo b left ne s = rw (ne_eqb left 0 ne) (let none : one_if (b == s && false) ≡ 0 = and_false (b == s) in omega (arith, none))
  where
    and_false : (t : Bool) → one_if (t && false) ≡ 0
    and_false true = refl
    and_false false = refl

pub pushed : (todo : List ℕ) (n b : ℕ) → b < n → All (λ (s : ℕ). s < n) todo → All (λ (s : ℕ). s < n) (todo ++ b ∷ [])
pushed todo n b lt all = All-push (λ (s : ℕ). s < n) todo b all lt

abbrev pub AreFreeUpTo : List ℕ → List ℕ → ℕ → Type 0
AreFreeUpTo unmet todo i = record {
  below : All (λ (s : ℕ). s < length unmet) todo;
  once : (s : ℕ) → s < i → occurs s todo ≡ one_if (get_or unmet s 0 == 0);
  none : (s : ℕ) → i ≤ s → occurs s todo ≡ 0;
}

pub free_more : (unmet todo todo' : List ℕ) (i left : ℕ) → i < length unmet → left ≡ get_or unmet i 0 → ((s : ℕ) → occurs s todo' ≡ occurs s todo + one_if (i == s && left == 0)) → (All (λ (s : ℕ). s < length unmet) todo → All (λ (s : ℕ). s < length unmet) todo') → AreFreeUpTo unmet todo i → AreFreeUpTo unmet todo' (i + 1)
free_more unmet todo todo' i left lt is grown belows old = record {
  below = belows old.below;
  once = λ s within. elim (cases_eq s i) [
    | inl e ↦
        let here : one_if (i == s && left == 0) ≡ one_if (left == 0) = rw (eq-eqb i s (sym e)) refl in
        let mark : one_if (get_or unmet s 0 == 0) ≡ one_if (left == 0) = rw (e, is) refl in
        omega (arith, grown s, here, mark, old.none s (omega (arith, e)))
    | inr ne ↦
        let here : one_if (i == s && left == 0) ≡ 0 = rw (ne_eqb i s (λ e. ne (sym e))) refl in
        omega (arith, grown s, here, old.once s (omega arith))
  ];
  none = λ s past.
      let here : one_if (i == s && left == 0) ≡ 0 = rw (ne_eqb i s (λ e. absurd (omega (arith, e, past)))) refl in
      omega (arith, grown s, here, old.none s (omega arith));
}

no_marks : (count s : ℕ) → get_or (replicate count false) s false ≡ false
no_marks count s = elim (cases_lt s count) [
  | inl lt ↦ get_or-replicate count s false false lt
  | inr past ↦ get_or_past (replicate count false) s false (omega (arith, length-replicate count false))
]

pending_all : (needs : List Need) (count s : ℕ) → pending needs (replicate count false) s ≡ demand needs s
pending_all [] count s = refl
pending_all (n ∷ needs) count s =
    let f : Need → ℕ = λ n. one_if (n.step == s && not (get_or (replicate count false) n.on false)) in
    let g : Need → ℕ = λ n. one_if (n.step == s) in
    let one : f n ≡ g n = rw (no_marks count n.on) (ap one_if (and-true (n.step == s))) in
    omega (arith, sum_by-cons f n needs, sum_by-cons g n needs, one, pending_all needs count s)

-- no step is done at first
pub settling_init : (needs : List Need) (count : ℕ) (done : List Bool) (unmet todo : List ℕ) → done ≡ replicate count false → length unmet ≡ count → ((s : ℕ) → s < count → get_or unmet s 0 ≡ demand needs s) → AreFree unmet todo → IsSettling needs count done unmet todo
settling_init needs count done unmet todo is sized each free = rw is (record {
  sized = sized;
  below = All-weaker (λ (s : ℕ). s < length unmet) (λ (s : ℕ). s < count) (λ s lt. omega (arith, lt)) todo free.below;
  left = λ s lt. each s lt ∙ sym (pending_all needs count s);
  once = λ s lt. let none : one_if (get_or (replicate count false) s false) ≡ 0 = ap one_if (no_marks count s) in omega (arith, free.once s (omega (arith, lt)), none);
  safe = record {
    sized = length-replicate count false;
    closed = λ b a marked needed. absurd (false≢true (sym (no_marks count b) ∙ marked));
    none = λ s marked precedes. false≢true (sym (no_marks count s) ∙ marked);
  };
})

-- one step less is left to do
pub fewer : (done : List Bool) (s : ℕ) → s < length done → get_or done s false ≡ false → count_by not (set done s true) < count_by not done
fewer done s lt open_now =
    let was : one_if (not (get_or done s false)) ≡ 1 = rw open_now refl in
    omega (arith, sum_by-set (λ b. one_if (not b)) done s true false lt, was)

-- where no step is blocked, none precedes itself
pub acyclic_from_none : (needs : List Need) (count : ℕ) (bs : List (Option ℕ)) → AreKnown needs count → IsPeeled needs count bs → ((s : ℕ) → s < count → get_or bs s None ≡ None) → IsAcyclic needs
acyclic_from_none needs count bs known peeled free = record {
  none = λ s precedes.
      let lt : s < count = known_step needs count known s precedes.chain.0 precedes.chain.1 in
      peeled.none s lt (free s lt) precedes;
}
