-- Rows of bits: what they hold, and a need put right.
use Rattle.std.proofs.Common.{ℕ, ◌≡◌, ◌≢◌, ◌<◌, ◌≤◌, ◌+◌, ◌*◌, ◌∙◌, ◌⊎◌, [], ◌∷◌, Bool, true, false, suc, List, Some, length, get_or, replicate, ap, sym, subst, refl, arith, inl, inr}
use Rattle.std.specs.Prelude.{slice_get, nat_lt, ◌||◌}
use Rattle.std.proofs.lemmas.Bool.{cases_eq, lt-ltb, ltb-true}
use Rattle.std.proofs.lemmas.Option.{slice_get-get_or, same_Some}
use Rattle.std.proofs.lemmas.List.{length-replicate}
use Rattle.saga_def.specs.Order.{IsAcyclic}
use Rattle.saga_def.specs.Rules.{AreKnown, AreSingle}
use Rattle.saga_def.specs.Neighbours.{a_need}
use Rattle.saga_def.specs.declared.steps.Need.{Need}
use Rattle.saga_case.specs.Terms.{Terms}
use Rattle.saga_flow.specs.declared.residual_arcs.ResidualArc.{ResidualArc}
use Rattle.saga_flow.specs.Pushes.{AvoidsArc}
use Rattle.saga_flow.specs.Rounds.{pushed}
use Rattle.saga_flow.proofs.PushLemmas.{pushed_other, All-cons}
use Rattle.saga_closure.specs.declared.rows.Rows.{Rows}
use Rattle.saga_closure.specs.Bits.{holds, place_in, words_for, IsPut, IsJoined, IsJoinedTwo}
use Rattle.saga_closure.specs.Links.{AreLinks}
use Rattle.saga_closure.specs.Rows.{AreRowsBut, IsOver, AreAdded, IsUnion, IsRow}
use Rattle.saga_closure.specs.Layers.{Goes, no_step}
use Rattle.saga_closure.proofs.ArcCases.{no_need, opens_link, opens_unlink}
use Rattle.saga_closure.proofs.BitLemmas.{same_row, row_within, words_few, holds_zeros}
use Rattle.saga_closure.proofs.NeighbourLemmas.{read_need, has_need, same_place}
use Rattle.saga_closure.proofs.VisitLemmas.{goes_by}

-- no two needs are opposite
pub not_opposite : (needs : List Need) (i j b a : ℕ) → IsAcyclic needs → slice_get needs i ≡ Some (a_need b a) → slice_get needs j ≡ Some (a_need a b) → ⊥
not_opposite needs i j b a acyclic one other =
    acyclic.none b (record { between = 1; chain = (a, has_need needs i b a one, (b, has_need needs j a b other, refl)) })

-- the steps of a need are steps
pub known_need : (needs : List Need) (count k b a : ℕ) → AreKnown needs count → slice_get needs k ≡ Some (a_need b a) → (b < count) × (a < count)
known_need needs count k b a known at =
    let read = read_need needs k (a_need b a) at in
    subst (λ (n : Need). (n.step < count) × (n.on < count)) read.1 (known k no_need read.0)

same_need : (b a d c : ℕ) → ◌≡◌ {A = Need} (a_need b a) (a_need d c) → (b ≡ d) × (a ≡ c)
same_need b a d c e = (ap (λ (n : Need). n.step) e, ap (λ (n : Need). n.on) e)

-- ---- what rows hold

module _ (t : Terms) (on : List ℕ) (width : ℕ) (words : List ℕ) (rows : AreRowsBut t on width words (λ _. ⊥)) (known : AreKnown t.needs t.count) where
  -- where a bit is set a residual arc leads
  pub row_goes : (v u : ℕ) → v < t.count → u < 64 * width → holds words (place_in width v u) ≡ true → (u < t.count) × Goes t on v u
  row_goes v u v_lt u_lt held = from (rows.none v u v_lt u_lt held).0 (rows.none v u v_lt u_lt held).1
    where
      from : (k : ℕ) → ((slice_get t.needs k ≡ Some (a_need v u)) ⊎ (slice_get t.needs k ≡ Some (a_need u v))) → (u < t.count) × Goes t on v u
      from k (inl at) =
          let read = read_need t.needs k (a_need v u) at in
          ((known_need t.needs t.count k v u known at).1, (record { arc = t.count + (t.count + k); forward = true }, rw read.1 at (opens_link t on k read.0)))
      from k (inr at) =
          let read = read_need t.needs k (a_need u v) at in
          let some : 0 < get_or on (t.count + (t.count + k)) 0 = elim (rows.back k u v at) [ inl is ↦ ltb-true 0 _ (sym is ∙ held) | inr never ↦ absurd never ] in
          ((known_need t.needs t.count k u v known at).0, (record { arc = t.count + (t.count + k); forward = false }, rw read.1 at (opens_unlink t on k read.0 some)))

  -- and where one leads a bit is set
  pub goes_row : (v u : ℕ) → Goes t on v u → holds words (place_in width v u) ≡ true
  goes_row v u goes = elim (goes_by t on v u goes) [
    | inl (k, lt, from, to) ↦ rows.along k v u (slice_get-get_or t.needs k no_need lt ∙ ap Some (rw (← from, ← to) refl))
    | inr (k, lt, from, to, some) ↦ elim (rows.back k u v (slice_get-get_or t.needs k no_need lt ∙ ap Some (rw (← from, ← to) refl))) [
      | inl is ↦ is ∙ lt-ltb 0 _ some
      | inr never ↦ absurd never
    ]
  ]

-- rows of empty amounts are those of any amounts of which the needs have none
pub empty_rows : (t : Terms) (on : List ℕ) (width : ℕ) (words : List ℕ) → AreRowsBut t [] width words (λ _. ⊥) → ((k : ℕ) → get_or on (t.count + (t.count + k)) 0 ≡ 0) → AreRowsBut t on width words (λ _. ⊥)
empty_rows t on width words rows empty = record {
  wide = rows.wide;
  narrow = rows.narrow;
  exact = rows.exact;
  sized = rows.sized;
  along = rows.along;
  back = λ k b a at. elim (rows.back k b a at) [ inl is ↦ inl (is ∙ sym (ap (nat_lt 0) (empty k))) | inr never ↦ absurd never ];
  none = rows.none;
}

-- ---- how rows are made

pub added_none : (words : List ℕ) (at : ℕ) (steps : List ℕ) → AreAdded words at steps 0 words
added_none words at steps = record { sized = refl; added = λ e lt. absurd (omega (arith, lt)); kept = λ i held. held; only = λ i held. inl held }

pub added_more : (old now new : List ℕ) (at : ℕ) (steps : List ℕ) (many : ℕ) → AreAdded old at steps many now → IsPut now (at + get_or steps many 0) true new → AreAdded old at steps (many + 1) new
added_more old now new at steps many before put =
    let kept_on : (i : ℕ) → holds now i ≡ true → holds new i ≡ true = λ i held. elim (cases_eq i (at + get_or steps many 0)) [
      | inl e ↦ rw e put.here
      | inr ne ↦ put.others i ne ∙ held
    ] in
    record {
      sized = put.sized ∙ before.sized;
      added = λ e lt. elim (cases_eq e many) [
        | inl same ↦ rw same put.here
        | inr ne ↦ kept_on (at + get_or steps e 0) (before.added e (omega (arith, lt, ne)))
      ];
      kept = λ i held. kept_on i (before.kept i held);
      only = λ i held. elim (cases_eq i (at + get_or steps many 0)) [
        | inl e ↦ inr (many, omega arith, e)
        | inr ne ↦ elim (before.only i (sym (put.others i ne) ∙ held)) [
          | inl was ↦ inl was
          | inr (e, lt, is) ↦ inr (e, omega (arith, lt), is)
        ]
      ];
    }

-- the rows of the first so many steps are made
pub record AreFilled (t : Terms) (width : ℕ) (words : List ℕ) (so_far : ℕ) : Type 0 where
  pub sized : length words ≡ t.count * width
  pub along : (k b a : ℕ) → slice_get t.needs k ≡ Some (a_need b a) → b < so_far → holds words (place_in width b a) ≡ true
  pub only : (i : ℕ) → holds words i ≡ true → (k b a : ℕ) × (slice_get t.needs k ≡ Some (a_need b a)) × (i ≡ place_in width b a)

pub filled_none : (t : Terms) (width : ℕ) (words : List ℕ) → words ≡ replicate (t.count * width) 0 → AreFilled t width words 0
filled_none t width words is = record {
  sized = ap length is ∙ length-replicate {A = ℕ} (t.count * width) 0;
  along = λ k b a at lt. absurd (omega (arith, lt));
  only = λ i held. absurd (holds_zeros (t.count * width) i (rw is at held));
}

pub filled_more : (t : Terms) (width : ℕ) (words new : List ℕ) (v : ℕ) (steps places : List ℕ) → AreFilled t width words v → AreLinks t.needs t.count true v steps places → AreAdded words (64 * (v * width)) steps (length steps) new → AreFilled t width new (v + 1)
filled_more t width words new v steps places before links added = record {
  sized = added.sized ∙ before.sized;
  along = λ k b a at lt. elim (cases_eq b v) [
    | inl e ↦
        let entry = links.all k a (rw e at at) in
        let held = added.added entry.0 entry.1 in
        rw (e, ← entry.2) held
    | inr ne ↦ added.kept _ (before.along k b a at (omega (arith, lt, ne)))
  ];
  only = λ i held. elim (added.only i held) [
    | inl was ↦ before.only i was
    | inr (e, lt, is) ↦ (get_or places e 0, v, get_or steps e 0, links.each e lt, is)
  ];
}

not_held : (b : Bool) → (b ≡ true → ⊥) → b ≡ false
not_held true never = absurd (never refl)
not_held false never = refl

pub filled_rows : (t : Terms) (width : ℕ) (words : List ℕ) → t.count ≤ 64 * width → width ≤ 16 → width ≡ words_for t.count → AreKnown t.needs t.count → IsAcyclic t.needs → AreFilled t width words t.count → AreRowsBut t [] width words (λ _. ⊥)
filled_rows t width words wide narrow exact known acyclic filled = record {
  wide = wide;
  narrow = narrow;
  exact = exact;
  sized = filled.sized;
  along = λ k b a at. filled.along k b a at (known_need t.needs t.count k b a known at).0;
  back = λ k b a at. inl (not_held (holds words (place_in width a b)) (λ held. opposite k b a at (filled.only (place_in width a b) held)));
  none = λ v u v_lt u_lt held. made v u u_lt (filled.only (place_in width v u) held);
}
  where
    opposite : (k b a : ℕ) → slice_get t.needs k ≡ Some (a_need b a) → ((j d c : ℕ) × (slice_get t.needs j ≡ Some (a_need d c)) × (place_in width a b ≡ place_in width d c)) → ⊥
    opposite k b a at (j, d, c, at_j, e) =
        let ks = known_need t.needs t.count k b a known at in
        let js = known_need t.needs t.count j d c known at_j in
        let same = same_row width a d b c (omega (arith, ks.0, wide)) (omega (arith, js.1, wide)) e in
        not_opposite t.needs k j b a acyclic at (rw (same.0, same.1) at_j)

    made : (v u : ℕ) → u < 64 * width → ((j d c : ℕ) × (slice_get t.needs j ≡ Some (a_need d c)) × (place_in width v u ≡ place_in width d c)) → (k : ℕ) × ((slice_get t.needs k ≡ Some (a_need v u)) ⊎ (slice_get t.needs k ≡ Some (a_need u v)))
    made v u u_lt (j, d, c, at_j, e) =
        let js = known_need t.needs t.count j d c known at_j in
        let same = same_row width v d u c u_lt (omega (arith, js.1, wide)) e in
        (j, inl (rw (same.0, same.1) at_j))

-- ---- rows that are joined

pub union_none : (rows : Rows) (order : List ℕ) (first : ℕ) (set : List ℕ) → set ≡ replicate rows.width 0 → IsUnion rows order first first set
union_none rows order first set is = record {
  sized = ap length is ∙ length-replicate {A = ℕ} rows.width 0;
  only = λ u lt held. absurd (holds_zeros rows.width u (rw is at held));
  all = λ j u le lt. absurd (omega (arith, le, lt));
}

or_true : (a b : Bool) → (a || b) ≡ true → (a ≡ true) ⊎ (b ≡ true)
or_true true b e = inl refl
or_true false b e = inr e

or_left : (a b : Bool) → a ≡ true → (a || b) ≡ true
or_left a b e = rw e refl

or_right : (a b : Bool) → b ≡ true → (a || b) ≡ true
or_right true b e = refl
or_right false b e = e

pub union_more : (rows : Rows) (order : List ℕ) (first j : ℕ) (set row new : List ℕ) → first ≤ j → IsUnion rows order first j set → IsRow rows (get_or order j 0) row → IsJoined set row new → IsUnion rows order first (j + 1) new
union_more rows order first j set row new le before is joined = record {
  sized = joined.sized ∙ before.sized;
  only = λ u lt held. elim (or_true (holds set u) (holds row u) (sym (joined.either u) ∙ held)) [
    | inl was ↦ let at = before.only u lt was in (at.0, at.1, omega (arith, at.2), at.3)
    | inr now ↦ (j, le, omega arith, sym (is.each u lt) ∙ now)
  ];
  all = λ i u le_i lt_i lt held. elim (cases_eq i j) [
    | inl e ↦ joined.either u ∙ or_right (holds set u) (holds row u) (is.each u lt ∙ rw e at held)
    | inr ne ↦ joined.either u ∙ or_left (holds set u) (holds row u) (before.all i u le_i (omega (arith, lt_i, ne)) lt held)
  ];
}

-- two rows at once
pub union_two : (rows : Rows) (order : List ℕ) (first j : ℕ) (set one two new : List ℕ) → first ≤ j → IsUnion rows order first j set → IsRow rows (get_or order j 0) one → IsRow rows (get_or order (j + 1) 0) two → IsJoinedTwo set one two new → IsUnion rows order first (j + 2) new
union_two rows order first j set one two new le before is_one is_two joined = record {
  sized = joined.sized ∙ before.sized;
  only = λ u lt held. elim (or_true (holds set u) (holds one u || holds two u) (sym (joined.either u) ∙ held)) [
    | inl was ↦ let at = before.only u lt was in (at.0, at.1, omega (arith, at.2), at.3)
    | inr more ↦ elim (or_true (holds one u) (holds two u) more) [
      | inl now ↦ (j, le, omega arith, sym (is_one.each u lt) ∙ now)
      | inr now ↦ (j + 1, omega (arith, le), omega arith, sym (is_two.each u lt) ∙ now)
    ]
  ];
  all = λ i u le_i lt_i lt held. elim (cases_eq i j) [
    | inl e ↦ joined.either u ∙ or_right (holds set u) (holds one u || holds two u) (or_left (holds one u) (holds two u) (is_one.each u lt ∙ rw e at held))
    | inr ne ↦ elim (cases_eq i (j + 1)) [
      | inl e ↦ joined.either u ∙ or_right (holds set u) (holds one u || holds two u) (or_right (holds one u) (holds two u) (is_two.each u lt ∙ rw e at held))
      | inr ne_one ↦ joined.either u ∙ or_left (holds set u) (holds one u || holds two u) (before.all i u le_i (omega (arith, lt_i, ne, ne_one)) lt held)
    ]
  ];
}

-- ---- after a round

over_or_not : (path : List ResidualArc) (arc : ℕ) → IsOver path 0 arc ⊎ AvoidsArc arc path
over_or_not [] arc = inr (λ k d lt. absurd (omega (arith, lt)))
over_or_not (s ∷ path) arc = elim (cases_eq s.arc arc) [
  | inl e ↦ inl (0, omega arith, omega arith, e)
  | inr ne ↦ elim (over_or_not path arc) [
    | inl (j, le, lt, is) ↦ inl (j + 1, omega arith, omega (arith, lt), step j is)
    | inr apart ↦ inr (All-cons (λ (r : ResidualArc). r.arc ≢ arc) s path ne apart)
  ]
]
  where
    step : (j : ℕ) → (get_or path j no_step).arc ≡ arc → (get_or (s ∷ path) (j + 1) no_step).arc ≡ arc
    step j is = let e : j + 1 ≡ suc j = omega arith in rw e is

-- the rows are right but where the path went
pub rows_off : (t : Terms) (on after : List ℕ) (path : List ResidualArc) (more width : ℕ) (words : List ℕ) → after ≡ pushed on path more → AreRowsBut t on width words (λ _. ⊥) → AreRowsBut t after width words (λ k. IsOver path 0 (t.count + (t.count + k)))
rows_off t on after path more width words is rows = record {
  wide = rows.wide;
  narrow = rows.narrow;
  exact = rows.exact;
  sized = rows.sized;
  along = rows.along;
  back = λ k b a at. elim (over_or_not path (t.count + (t.count + k))) [
    | inl over ↦ inr over
    | inr apart ↦ elim (rows.back k b a at) [
      | inl held ↦ inl (held ∙ sym (ap (nat_lt 0) (rw is (pushed_other on path more (t.count + (t.count + k)) apart))))
      | inr never ↦ absurd never
    ]
  ];
  none = rows.none;
}

-- ---- a bit is put right

module _ (t : Terms) (on : List ℕ) (width : ℕ) (words new : List ℕ) (m b a : ℕ) (Stale : ℕ → Type 0) (known : AreKnown t.needs t.count) (single : AreSingle t.needs) (acyclic : IsAcyclic t.needs) (rows : AreRowsBut t on width words Stale) (at : slice_get t.needs m ≡ Some (a_need b a)) (put : IsPut words (place_in width a b) (nat_lt 0 (get_or on (t.count + (t.count + m)) 0)) new) where
  b_lt : b < 64 * width
  b_lt = omega (arith, (known_need t.needs t.count m b a known at).0, rows.wide)

  -- the bits of other needs stay
  pub other_bit : (k d c : ℕ) → k ≢ m → slice_get t.needs k ≡ Some (a_need d c) → holds new (place_in width c d) ≡ holds words (place_in width c d)
  other_bit k d c ne at_k =
      let ks = known_need t.needs t.count k d c known at_k in
      put.others (place_in width c d) (λ e.
      let same = same_row width c a d b (omega (arith, ks.0, rows.wide)) b_lt e in
      ne (same_place t.needs k m (a_need b a) single (rw (same.0, same.1) at at_k) at))

  pub bit_right : (Left : ℕ → Type 0) → ((k : ℕ) → k ≢ m → Stale k → Left k) → AreRowsBut t on width new Left
  bit_right Left less = record {
    wide = rows.wide;
    narrow = rows.narrow;
    exact = rows.exact;
    sized = put.sized ∙ rows.sized;
    along = λ k d c at_k.
        let ks = known_need t.needs t.count k d c known at_k in
        put.others (place_in width d c) (λ e.
        let same = same_row width d a c b (omega (arith, ks.1, rows.wide)) b_lt e in
        not_opposite t.needs m k b a acyclic at (rw (same.0, same.1) at at_k)) ∙ rows.along k d c at_k;
    back = λ k d c at_k. elim (cases_eq k m) [
      | inl e ↦
          let same = same_need d c b a (same_Some _ _ (sym at_k ∙ ap (slice_get t.needs) e ∙ at)) in
          inl (rw (e, same.0, same.1) put.here)
      | inr ne ↦ elim (rows.back k d c at_k) [
        | inl held ↦ inl (other_bit k d c ne at_k ∙ held)
        | inr stale ↦ inr (less k ne stale)
      ]
    ];
    none = λ v u v_lt u_lt held. elim (cases_eq (place_in width v u) (place_in width a b)) [
      | inl e ↦
          let same = same_row width v a u b u_lt b_lt e in
          (m, inr (rw (same.0, same.1) at))
      | inr ne ↦ rows.none v u v_lt u_lt (sym (put.others (place_in width v u) ne) ∙ held)
    ];
  }

module _ (t : Terms) (on : List ℕ) (path : List ResidualArc) (i width : ℕ) (words : List ℕ) (rows : AreRowsBut t on width words (λ k. IsOver path i (t.count + (t.count + k)))) where
  -- the path goes on over another arc than that of a need
  over_more : (k : ℕ) → ((get_or path i no_step).arc ≢ t.count + (t.count + k)) → IsOver path i (t.count + (t.count + k)) → IsOver path (i + 1) (t.count + (t.count + k))
  over_more k apart (j, le, lt, is) = elim (cases_eq j i) [
    | inl e ↦ absurd (apart (sym (ap (λ x. (get_or path x no_step).arc) e) ∙ is))
    | inr ne ↦ (j, omega (arith, le, ne), lt, is)
  ]

  pub no_link : (get_or path i no_step).arc < t.count + t.count → AreRowsBut t on width words (λ k. IsOver path (i + 1) (t.count + (t.count + k)))
  no_link below = record {
    wide = rows.wide;
    narrow = rows.narrow;
    exact = rows.exact;
    sized = rows.sized;
    along = rows.along;
    back = λ k b a at. elim (rows.back k b a at) [
      | inl held ↦ inl held
      | inr over ↦ inr (over_more k (λ e. absurd (omega (arith, e, below))) over)
    ];
    none = rows.none;
  }

  -- the bit of a need is put right
  pub link_right : (m b a : ℕ) (new : List ℕ) → AreKnown t.needs t.count → AreSingle t.needs → IsAcyclic t.needs → (get_or path i no_step).arc ≡ t.count + (t.count + m) → slice_get t.needs m ≡ Some (a_need b a) → IsPut words (place_in width a b) (nat_lt 0 (get_or on (t.count + (t.count + m)) 0)) new → AreRowsBut t on width new (λ k. IsOver path (i + 1) (t.count + (t.count + k)))
  link_right m b a new known single acyclic over at put =
      bit_right t on width words new m b a (λ k. IsOver path i (t.count + (t.count + k))) known single acyclic rows at put (λ k. IsOver path (i + 1) (t.count + (t.count + k))) (λ k ne stale. over_more k (λ e. ne (omega (arith, e, over))) stale)

-- the path is at its end
pub all_right : (t : Terms) (on : List ℕ) (path : List ResidualArc) (i width : ℕ) (words : List ℕ) → length path ≤ i → AreRowsBut t on width words (λ k. IsOver path i (t.count + (t.count + k))) → AreRowsBut t on width words (λ _. ⊥)
all_right t on path i width words end rows = record {
  wide = rows.wide;
  narrow = rows.narrow;
  exact = rows.exact;
  sized = rows.sized;
  along = rows.along;
  back = λ k b a at. elim (rows.back k b a at) [
    | inl held ↦ inl held
    | inr (j, le, lt, is) ↦ absurd (omega (arith, end, le, lt))
  ];
  none = rows.none;
}

-- a place in the rows is small, and within them
pub place_small : (t : Terms) (on : List ℕ) (width : ℕ) (words : List ℕ) (Stale : ℕ → Type 0) (v u : ℕ) → AreRowsBut t on width words Stale → t.count ≤ 1024 → v < t.count → u < t.count → (v * width + width ≤ length words) × (length words ≤ 16384) × (place_in width v u < 64 * length words)
place_small t on width words Stale v u rows few v_lt u_lt =
    let within : v * width + width ≤ length words = omega (arith, rows.sized, row_within t.count width v v_lt) in
    let small : length words ≤ 16384 = omega (arith, rows.sized, words_few t.count width few rows.narrow) in
    (within, small, omega (arith, within, u_lt, rows.wide))

-- ---- what needs carry is added to rows of empty amounts

-- the bits of the needs before a place are right, and those of the others still clear
pub record AreRowsTo (t : Terms) (on : List ℕ) (width : ℕ) (words : List ℕ) (so_far : ℕ) : Type 0 where
  pub rows : AreRowsBut t on width words (λ k. so_far ≤ k)
  pub clear : (k b a : ℕ) → so_far ≤ k → slice_get t.needs k ≡ Some (a_need b a) → holds words (place_in width a b) ≡ false

pub rows_begun : (t : Terms) (on : List ℕ) (width : ℕ) (words : List ℕ) → AreRowsBut t [] width words (λ _. ⊥) → AreRowsTo t on width words 0
rows_begun t on width words rows = record {
  rows = record {
    wide = rows.wide;
    narrow = rows.narrow;
    exact = rows.exact;
    sized = rows.sized;
    along = rows.along;
    back = λ k b a at. inr (omega arith);
    none = rows.none;
  };
  clear = λ k b a le at. elim (rows.back k b a at) [ inl is ↦ is | inr never ↦ absurd never ];
}

module _ (t : Terms) (on : List ℕ) (width : ℕ) (words : List ℕ) (m : ℕ) (are : AreRowsTo t on width words m) where
  -- a need that carries nothing
  pub rows_passed : get_or on (t.count + (t.count + m)) 0 ≡ 0 → AreRowsTo t on width words (m + 1)
  rows_passed empty = record {
    rows = record {
      wide = are.rows.wide;
      narrow = are.rows.narrow;
      exact = are.rows.exact;
      sized = are.rows.sized;
      along = are.rows.along;
      back = λ k b a at. elim (cases_eq k m) [
        | inl e ↦ inl (are.clear k b a (omega (arith, e)) at ∙ sym (ap (nat_lt 0) (ap (λ x. get_or on (t.count + (t.count + x)) 0) e ∙ empty)))
        | inr ne ↦ elim (are.rows.back k b a at) [
          | inl held ↦ inl held
          | inr le ↦ inr (omega (arith, le, ne))
        ]
      ];
      none = are.rows.none;
    };
    clear = λ k b a le at. are.clear k b a (omega (arith, le)) at;
  }

  -- one that carries something
  pub rows_carrying : (b a : ℕ) (new : List ℕ) → AreKnown t.needs t.count → AreSingle t.needs → IsAcyclic t.needs → 0 < get_or on (t.count + (t.count + m)) 0 → slice_get t.needs m ≡ Some (a_need b a) → IsPut words (place_in width a b) true new → AreRowsTo t on width new (m + 1)
  rows_carrying b a new known single acyclic some at put =
      let right : IsPut words (place_in width a b) (nat_lt 0 (get_or on (t.count + (t.count + m)) 0)) new = record { sized = put.sized; here = put.here ∙ sym (lt-ltb 0 _ some); others = put.others } in
      record {
        rows = bit_right t on width words new m b a (λ k. m ≤ k) known single acyclic are.rows at right (λ k. m + 1 ≤ k) (λ k ne le. omega (arith, le, ne));
        clear = λ k d c le at_k. other_bit t on width words new m b a (λ k. m ≤ k) known single acyclic are.rows at right k d c (λ e. absurd (omega (arith, e, le))) at_k ∙ are.clear k d c (omega (arith, le)) at_k;
      }

pub rows_ended : (t : Terms) (on : List ℕ) (width : ℕ) (words : List ℕ) (so_far : ℕ) → length t.needs ≤ so_far → AreRowsTo t on width words so_far → AreRowsBut t on width words (λ _. ⊥)
rows_ended t on width words so_far end are = record {
  wide = are.rows.wide;
  narrow = are.rows.narrow;
  exact = are.rows.exact;
  sized = are.rows.sized;
  along = are.rows.along;
  back = λ k b a at. elim (are.rows.back k b a at) [
    | inl held ↦ inl held
    | inr le ↦ absurd (omega (arith, end, le, (read_need t.needs k (a_need b a) at).0))
  ];
  none = are.rows.none;
}
