-- Laws of ranks, and of sets of steps.
use Rattle.std.proofs.Common.{ℕ, ◌≡◌, ◌<◌, ◌≤◌, ◌+◌, ◌∙◌, max, Bool, true, false, List, [], ◌∷◌, zero, suc, length, set, replicate, refl, ap, subst, inl, inr, arith}
use Rattle.std.specs.Prelude.{◌⊎◌, IsTrue, Contains, count_by, not}
use Rattle.std.proofs.lemmas.Bool.{cases_eq, cases_lt, cases_Bool, both_ways, false_from_ne_true}
use Rattle.std.proofs.lemmas.List.{length-set, length-replicate}
use Rattle.saga_def.specs.declared.steps.Need.{Need}
use Rattle.saga_def.specs.Order.{NeedsDirectly, Leads, Precedes, Steps}
use Rattle.saga_def.specs.Contents.{Contents}
use Rattle.saga_def.specs.Sound.{IsSound}
use Rattle.saga_order.specs.Shape.{Shape, shape_of, IsOrdered}
use Rattle.saga_order.specs.Rank.{IsRank}
use Rattle.saga_order.specs.Laws.{StepsAreRanked, RanksRise, SetsHaveFirst, SetsHaveLast, FirstsShareRank, LastsShareRank}
use Rattle.saga_order.specs.TopologicalOrder.{is_marked}
use Rattle.saga_order.proofs.ListLemmas.{none_in, contains_head, contains_tail, contains_cases}
use Rattle.saga_order.proofs.RankLemmas.{longer, none_on}
use Rattle.saga_order.proofs.TopologicalLemmas.{marked_cases, none_marked, none_few, count_marked}
use Rattle.saga_order.proofs.Chains.{precedes_direct, precedes_trans, known_step, known_on}

-- a step that needs another has the greater rank
pub ranks_rise : (shape : Shape) → RanksRise shape
ranks_rise shape a b low high direct of_a of_b =
    let short : low + 1 ≤ high =
    let chain : Leads shape.needs (suc low) b of_a.reached.0 = (a, direct, of_a.reached.1) in
    let bound : suc low ≤ high = of_b.longest (suc low) of_a.reached.0 chain in omega arith in
    omega arith

-- no step has two ranks
pub same_rank : (needs : List Need) (b i j : ℕ) → IsRank needs b i → IsRank needs b j → i ≡ j
same_rank needs b i j one other =
    let up : i ≤ j = other.longest i one.reached.0 one.reached.1 in
    let down : j ≤ i = one.longest j other.reached.0 other.reached.1 in
    omega arith

-- ---- induction along an order of the steps

-- where no step comes before itself, what holds of a step once it holds of all that come before it holds of each
module _ (Before : ℕ → ℕ → Type 0) (trans : (a b c : ℕ) → Before a b → Before b c → Before a c) (never : (s : ℕ) → Before s s → ⊥) (In : ℕ → Type 0) (count : ℕ) (within : (s : ℕ) → In s → s < count) (P : ℕ → Type 0) (each : (s : ℕ) → In s → ((t : ℕ) → In t → Before t s → P t) → P s) where
  -- the marked steps come after this one
  walk : (fuel : ℕ) (marks : List Bool) (s : ℕ) → length marks ≡ count → count_by not marks ≤ fuel → is_marked marks s ≡ false → ((t : ℕ) → is_marked marks t ≡ true → Before s t) → In s → P s
  walk zero marks s sized few fresh after in_set =
      let lt : s < length marks = rw sized (within s in_set) in
      absurd (omega (arith, count_marked marks s lt fresh))
  walk (suc fuel) marks s sized few fresh after in_set =
      let lt : s < length marks = rw sized (within s in_set) in
      each s in_set
      (λ t t_in_set before.
      let left : (u : ℕ) → is_marked (set marks s true) u ≡ true → Before t u =
      λ u is.
      elim (marked_cases marks s lt u is) [
        | inl here ↦ rw here before
        | inr earlier ↦ trans t s u before (after u earlier)
      ] in
      walk fuel (set marks s true) t (length-set marks s true ∙ sized) (omega (arith, count_marked marks s lt fresh))
      (false_from_ne_true (is_marked (set marks s true) t) (λ is. never t (left t is))) left t_in_set)

  pub along_order : (s : ℕ) → In s → P s
  along_order s in_set =
      walk count (replicate count false) s (length-replicate count false) (none_few count)
      (false_from_ne_true (is_marked (replicate count false) s) (none_marked count s)) (λ t is. absurd (none_marked count t is)) in_set

-- ---- each step has a rank

abbrev Ranked : List Need → ℕ → Type 0
Ranked needs s = (rank : ℕ) × IsRank needs s rank

-- a need of a step whose rank is one less
record IsOver (needs : List Need) (s rank : ℕ) : Type 0 where
  on : ℕ
  below : ℕ
  direct : NeedsDirectly needs s on
  ranked : IsRank needs on below
  next : rank ≡ below + 1

-- above what a step needs by some of the needs, and no higher than it must be
record IsNext (needs front : List Need) (s rank : ℕ) : Type 0 where
  above : (a low : ℕ) → Contains front (record { step = s; on = a }) → IsRank needs a low → low < rank
  least : (rank ≡ 0) ⊎ IsOver needs s rank

-- one need of the step more
raised : (needs : List Need) (n : Need) (ns : List Need) (s rank low : ℕ) → n.step ≡ s → NeedsDirectly needs s n.on → IsRank needs n.on low → IsNext needs ns s rank → IsNext needs (n ∷ ns) s (max rank (low + 1))
raised needs n ns s rank low here direct ranked rest = record {
  above = λ a other has is.
      elim (contains_cases n ns _ has) [
        | inl same ↦
            let on : n.on ≡ a = ap (λ (m : Need). m.on) same in
            let equal : low ≡ other = same_rank needs a low other (rw on at ranked) is in
            omega arith
        | inr later ↦ let lower : other < rank = rest.above a other later is in omega arith
      ];
  least =
      elim (cases_lt low rank) [
        | inl lower ↦
            let same : max rank (low + 1) ≡ rank = omega arith in
            elim rest.least [
              | inl none ↦ inl (same ∙ none)
              | inr over ↦ inr (record { on = over.on; below = over.below; direct = over.direct; ranked = over.ranked; next = same ∙ over.next })
            ]
        | inr higher ↦ inr (record { on = n.on; below = low; direct = direct; ranked = ranked; next = omega arith })
      ];
}

next_of : (needs front : List Need) (s : ℕ) → ((a : ℕ) → Contains front (record { step = s; on = a }) → NeedsDirectly needs s a × Ranked needs a) → (rank : ℕ) × IsNext needs front s rank
next_of needs [] s ranked = (0, record { above = λ a low has is. absurd (none_in _ has); least = inl refl })
next_of needs (n ∷ ns) s ranked =
    let rest : (rank : ℕ) × IsNext needs ns s rank = next_of needs ns s (λ a has. ranked a (contains_tail n ns _ has)) in
    elim (cases_eq n.step s) [
      | inl e ↦
          let this : n ≡ record { step = s; on = n.on } = ap (λ (b : ℕ). record { step = b; on = n.on }) e in
          let known : NeedsDirectly needs s n.on × Ranked needs n.on = ranked n.on (contains_head n ns _ this) in
          (max rest.0 (known.1.0 + 1), raised needs n ns s rest.0 known.1.0 e known.0 known.1.1 rest.1)
      | inr ne ↦ (
        rest.0,
        record {
          above = λ a low has is.
              elim (contains_cases n ns _ has) [
                | inl same ↦ absurd (ne (ap (λ (m : Need). m.step) same))
                | inr later ↦ rest.1.above a low later is
              ];
          least = rest.1.least;
        },
      )
    ]

longest_next : (needs : List Need) (s rank : ℕ) → ((a : ℕ) → NeedsDirectly needs s a → Ranked needs a) → IsNext needs needs s rank → (n c : ℕ) → Leads needs n s c → n ≤ rank
longest_next needs s rank ranked is zero c leads = omega arith
longest_next needs s rank ranked is (suc n) c (a, direct, leads) =
    let low : Ranked needs a = ranked a direct in
    let below : low.0 < rank = is.above a low.0 direct low.1 in
    let short : n ≤ low.0 = low.1.longest n c leads in
    omega arith

-- a step has a rank where all that it needs have one
ranked_over : (needs : List Need) (s : ℕ) → ((a : ℕ) → NeedsDirectly needs s a → Ranked needs a) → Ranked needs s
ranked_over needs s ranked =
    let is : (rank : ℕ) × IsNext needs needs s rank = next_of needs needs s (λ a direct. (direct, ranked a direct)) in (
      is.0,
      record {
        reached =
            elim is.1.least [
              | inl none ↦ (s, none_on needs s is.0 none)
              | inr over ↦ (over.ranked.reached.0, longer needs over.below s over.on over.ranked.reached.0 is.0 over.next over.direct over.ranked.reached.1)
            ];
        longest = longest_next needs s is.0 ranked is.1;
      },
    )

pub steps_are_ranked : (shape : Shape) → IsOrdered shape → StepsAreRanked shape
steps_are_ranked shape ordered =
    along_order (λ a b. Precedes shape.needs a b) (precedes_trans shape.needs) ordered.acyclic.none (λ s. s < shape.count) shape.count (λ s below. below) (Ranked shape.needs)
    (λ s below before.
    ranked_over shape.needs s (λ a direct.
    before a (known_on shape.needs shape.count s a ordered.known direct) (precedes_direct shape.needs s a direct)))

-- ---- the members of a set of the lowest and of the highest rank

-- a has the lower rank
record IsLower (needs : List Need) (a b : ℕ) : Type 0 where
  low : ℕ
  high : ℕ
  of_a : IsRank needs a low
  of_b : IsRank needs b high
  less : low < high

lower_trans : (needs : List Need) (a b c : ℕ) → IsLower needs a b → IsLower needs b c → IsLower needs a c
lower_trans needs a b c one other =
    let same : one.high ≡ other.low = same_rank needs b one.high other.low one.of_b other.of_a in
    record { low = one.low; high = other.high; of_a = one.of_a; of_b = other.of_b; less = omega (arith, one.less, other.less) }

lower_never : (needs : List Need) (s : ℕ) → IsLower needs s s → ⊥
lower_never needs s is =
    let same : is.low ≡ is.high = same_rank needs s is.low is.high is.of_a is.of_b in
    absurd (omega (arith, is.less))

lower_direct : (shape : Shape) → IsOrdered shape → (b a : ℕ) → NeedsDirectly shape.needs b a → IsLower shape.needs a b
lower_direct shape ordered b a direct =
    let low : Ranked shape.needs a = steps_are_ranked shape ordered a (known_on shape.needs shape.count b a ordered.known direct) in
    let high : Ranked shape.needs b = steps_are_ranked shape ordered b (known_step shape.needs shape.count b a ordered.known direct) in
    record { low = low.0; high = high.0; of_a = low.1; of_b = high.1; less = ranks_rise shape a b low.0 high.0 direct low.1 high.1 }

lower_or_not : (shape : Shape) → IsOrdered shape → (a b : ℕ) → a < shape.count → b < shape.count → IsLower shape.needs a b ⊎ (IsLower shape.needs a b → ⊥)
lower_or_not shape ordered a b a_below b_below =
    let low : Ranked shape.needs a = steps_are_ranked shape ordered a a_below in
    let high : Ranked shape.needs b = steps_are_ranked shape ordered b b_below in
    elim (cases_lt low.0 high.0) [
      | inl less ↦ inl (record { low = low.0; high = high.0; of_a = low.1; of_b = high.1; less = less })
      | inr other ↦
          inr (λ is.
          let same_low : is.low ≡ low.0 = same_rank shape.needs a is.low low.0 is.of_a low.1 in
          let same_high : is.high ≡ high.0 = same_rank shape.needs b is.high high.0 is.of_b high.1 in
          absurd (omega (arith, is.less)))
    ]

abbrev IsMember : Shape → Steps → ℕ → Type 0
IsMember shape chosen s = (s < shape.count) × IsTrue (chosen s)

-- a number below n has a property, or none has
find_below : (P : ℕ → Type 0) (n : ℕ) → ((t : ℕ) → t < n → P t ⊎ (P t → ⊥)) → ((t : ℕ) → t < n → P t → ⊥) ⊎ ((t : ℕ) × P t)
find_below P zero decide = inl (λ t lt is. absurd (omega arith))
find_below P (suc n) decide =
    elim (decide n (omega arith)) [
      | inl here ↦ inr (n, here)
      | inr none ↦
          elim (find_below P n (λ t lt. decide t (omega arith))) [
            | inl before ↦
                inl (λ t lt is.
                elim (cases_lt t n) [
                  | inl early ↦ before t early is
                  | inr late ↦ let same : t ≡ n = omega arith in none (subst P same is)
                ])
            | inr some ↦ inr some
          ]
    ]

-- a member with the property, or none
member_or_not : (shape : Shape) (chosen : Steps) (R : ℕ → Type 0) → ((t : ℕ) → t < shape.count → R t ⊎ (R t → ⊥)) → ((t : ℕ) → IsMember shape chosen t → R t → ⊥) ⊎ ((t : ℕ) × IsMember shape chosen t × R t)
member_or_not shape chosen R decide =
    elim (find_below (λ t. IsMember shape chosen t × R t) shape.count
    (λ t lt.
    elim (cases_Bool (chosen t)) [
      | inl member ↦ elim (decide t lt) [ inl is ↦ inl ((lt, member), is) | inr never ↦ inr (λ both. never both.1) ]
      | inr out ↦ inr (λ both. both_ways (chosen t) out both.0.1)
    ])) [
      | inl none ↦ inl (λ t member is. none t member.0 (member, is))
      | inr (t, is) ↦ inr (t, is.0, is.1)
    ]

-- from a member one comes to one that has the lowest rank
lowest_of : (shape : Shape) (chosen : Steps) → IsOrdered shape → (s : ℕ) → IsMember shape chosen s → (m : ℕ) × IsMember shape chosen m × ((t : ℕ) → IsMember shape chosen t → IsLower shape.needs t m → ⊥)
lowest_of shape chosen ordered =
    along_order (λ a b. IsLower shape.needs a b) (lower_trans shape.needs) (lower_never shape.needs) (IsMember shape chosen) shape.count (λ t is. is.0)
    (λ s. (m : ℕ) × IsMember shape chosen m × ((t : ℕ) → IsMember shape chosen t → IsLower shape.needs t m → ⊥))
    (λ s member lower.
    elim (member_or_not shape chosen (λ t. IsLower shape.needs t s) (λ t lt. lower_or_not shape ordered t s lt member.0)) [
      | inl none ↦ (s, member, none)
      | inr (t, t_member, is) ↦ lower t t_member is
    ])

highest_of : (shape : Shape) (chosen : Steps) → IsOrdered shape → (s : ℕ) → IsMember shape chosen s → (m : ℕ) × IsMember shape chosen m × ((t : ℕ) → IsMember shape chosen t → IsLower shape.needs m t → ⊥)
highest_of shape chosen ordered =
    along_order (λ a b. IsLower shape.needs b a) (λ a b c one other. lower_trans shape.needs c b a other one) (lower_never shape.needs) (IsMember shape chosen) shape.count (λ t is. is.0)
    (λ s. (m : ℕ) × IsMember shape chosen m × ((t : ℕ) → IsMember shape chosen t → IsLower shape.needs m t → ⊥))
    (λ s member higher.
    elim (member_or_not shape chosen (λ t. IsLower shape.needs s t) (λ t lt. lower_or_not shape ordered s t member.0 lt)) [
      | inl none ↦ (s, member, none)
      | inr (t, t_member, is) ↦ higher t t_member is
    ])

-- where no step has a lower rank than another, that one's is at most as high
at_most : (needs : List Need) (a b low high : ℕ) → (IsLower needs b a → ⊥) → IsRank needs a low → IsRank needs b high → low ≤ high
at_most needs a b low high never of_a of_b =
    elim (cases_lt high low) [
      | inl less ↦ absurd (never (record { low = high; high = low; of_a = of_b; of_b = of_a; less = less }))
      | inr other ↦ other
    ]

pub sets_have_first : (shape : Shape) → IsOrdered shape → SetsHaveFirst shape
sets_have_first shape ordered chosen s below in_set =
    let found : (m : ℕ) × IsMember shape chosen m × ((t : ℕ) → IsMember shape chosen t → IsLower shape.needs t m → ⊥) =
    lowest_of shape chosen ordered s (below, in_set) in
    record {
      first = found.0;
      within = found.1.0;
      in_set = found.1.1;
      lowest = λ t low high lt member of_first of_t. at_most shape.needs found.0 t low high (found.2 t (lt, member)) of_first of_t;
      needs_none = λ a direct member.
          found.2 a (known_on shape.needs shape.count found.0 a ordered.known direct, member) (lower_direct shape ordered found.0 a direct);
    }

pub sets_have_last : (shape : Shape) → IsOrdered shape → SetsHaveLast shape
sets_have_last shape ordered chosen s below in_set =
    let found : (m : ℕ) × IsMember shape chosen m × ((t : ℕ) → IsMember shape chosen t → IsLower shape.needs m t → ⊥) =
    highest_of shape chosen ordered s (below, in_set) in
    record {
      last = found.0;
      within = found.1.0;
      in_set = found.1.1;
      highest = λ t low high lt member of_t of_last. at_most shape.needs t found.0 low high (found.2 t (lt, member)) of_t of_last;
      needed_by_none = λ b direct member.
          found.2 b (known_step shape.needs shape.count b found.0 ordered.known direct, member) (lower_direct shape ordered b found.0 direct);
    }

pub firsts_share_rank : (shape : Shape) → FirstsShareRank shape
firsts_share_rank shape chosen one other i j of_one of_other =
    let up : i ≤ j = one.lowest other.first i j other.within other.in_set of_one of_other in
    let down : j ≤ i = other.lowest one.first j i one.within one.in_set of_other of_one in
    omega arith

pub lasts_share_rank : (shape : Shape) → LastsShareRank shape
lasts_share_rank shape chosen one other i j of_one of_other =
    let up : i ≤ j = other.highest one.last i j one.within one.in_set of_one of_other in
    let down : j ≤ i = one.highest other.last j i other.within other.in_set of_other of_one in
    omega arith

-- the order of a sound definition
pub ordered_from_sound : (c : Contents) → IsSound c → IsOrdered (shape_of c)
ordered_from_sound c sound = record { few = sound.few_steps; known = sound.known; acyclic = sound.acyclic }
