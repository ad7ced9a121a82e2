-- The search: one more step has a level, one more step of the layer is done, one more layer is done.
use Rattle.std.proofs.Common.{ℕ, Bool, false, ◌≡◌, ◌<◌, ◌≤◌, ◌+◌, ◌-◌, ◌*◌, ◌/◌, ◌%◌, ◌⊎◌, ◌∙◌, ◌++◌, [], ◌∷◌, true, List, length, get_or, set, ap, sym, refl, arith, inl, inr, get_or-set_same, get_or-set_other, length-set}
use Rattle.std.proofs.lemmas.Bool.{cases_eq, cases_lt, false≢true}
use Rattle.std.proofs.lemmas.List.{length-append, get_or_push, get_or_append_left}
use Rattle.std.proofs.lemmas.List.Sums.{count_by-le-length}
use Rattle.saga_case.specs.Terms.{Terms}
use Rattle.saga_closure.specs.Bits.{holds, holds_bit, IsPut, IsPutBit, IsWithout}
use Rattle.saga_closure.specs.declared.searching.Found.{Found}
use Rattle.saga_closure.specs.Layers.{none, is_level, GoesOut, Goes, CameBy, IsSearch, IsLabelled, AreLabelled, no_more, one_more}
use Rattle.saga_closure.proofs.StartLemmas.{count_more}

module _ (t : Terms) (on level labelled order : List ℕ) (first end next depth dried : ℕ) (search : IsSearch t on level labelled order first end next depth dried) where
  pub order_few : length order ≤ t.count
  order_few = omega (arith, search.counted, count_by-le-length is_level level, search.sized)

  pub depth_few : depth ≤ 1024
  depth_few = omega (arith, search.deep, search.bounds, order_few, search.few_steps)

  -- one more step has a level
  module _ (u w : ℕ) (labelled' : List ℕ) (put : IsPut labelled w true labelled') (inside : w < t.count) (fresh : get_or level w 0 ≡ none) (from : u < t.count) (up : get_or level u 0 ≡ depth) (goes_on : Goes t on u w) where
    short : w < length level
    short = omega (arith, search.sized)

    pub label_here : get_or (set level w (depth + 1)) w 0 ≡ depth + 1
    label_here = get_or-set_same level w (depth + 1) 0 short

    other : (v : ℕ) → (v ≡ w → ⊥) → get_or (set level w (depth + 1)) v 0 ≡ get_or level v 0
    other v ne = get_or-set_other level w v (depth + 1) 0 ne

    pub label_lower : (v : ℕ) → get_or (set level w (depth + 1)) v 0 ≤ get_or level v 0
    label_lower v = elim (cases_eq v w) [
      | inl e ↦ rw e (omega (arith, label_here, fresh, depth_few))
      | inr ne ↦ omega (arith, other v ne)
    ]

    pub label_place : (j : ℕ) → j < length order → get_or (order ++ w ∷ []) j 0 ≡ get_or order j 0
    label_place j lt = get_or_append_left order (w ∷ []) 0 j lt

    longer : length (order ++ w ∷ []) ≡ length order + 1
    longer = length-append order (w ∷ [])

    -- a step that has a level is another
    apart : (v : ℕ) → get_or level v 0 < none → v ≡ w → ⊥
    apart v lt e = let same : get_or level v 0 ≡ get_or level w 0 = ap (λ x. get_or level x 0) e in omega (arith, fresh)

    kept : (v : ℕ) → get_or level v 0 < none → get_or (set level w (depth + 1)) v 0 ≡ get_or level v 0
    kept v lt = other v (apart v lt)

    -- below the new level nothing is new
    below : (v most : ℕ) → most ≤ depth + 1 → get_or (set level w (depth + 1)) v 0 < most → get_or level v 0 < most
    below v most few lt = elim (cases_eq v w) [
      | inl e ↦
          let same : get_or (set level w (depth + 1)) v 0 ≡ depth + 1 = rw e label_here in
          absurd (omega arith)
      | inr ne ↦ omega (arith, other v ne)
    ]

    came : (v : ℕ) → (v ≡ w → ⊥) → CameBy t on level v → get_or level v 0 < none → CameBy t on (set level w (depth + 1)) v
    came v ne (inl (zero_level, goes)) lt = inl (other v ne ∙ zero_level, goes)
    came v ne (inr (x, x_lt, goes, rise)) lt =
        inr (x, x_lt, goes, other v ne ∙ rise ∙ ap (λ n. n + 1) (sym (kept x (omega arith))))

    pub label_more : IsSearch t on (set level w (depth + 1)) labelled' (order ++ w ∷ []) first end next depth dried
    label_more = record {
      sized = length-set level w (depth + 1) ∙ search.sized;
      wide = put.sized ∙ search.wide;
      few_steps = search.few_steps;
      bounds = (search.bounds.0, search.bounds.1, omega (arith, search.bounds, longer));
      dries = search.dries;
      inside = λ j lt. elim (cases_eq j (length order)) [
        | inl e ↦ rw (get_or_push order w 0 j (sym e)) inside
        | inr ne ↦ let less : j < length order = omega (arith, longer) in rw (label_place j less) (search.inside j less)
      ];
      counted = longer ∙ ap (λ n. n + 1) search.counted ∙ sym (count_more level w (depth + 1) short fresh (omega (arith, depth_few)));
      deep = search.deep;
      levels = λ v lt. elim (cases_eq v w) [
        | inl e ↦ inl (rw e (omega (arith, label_here)))
        | inr ne ↦ rw (other v ne) (search.levels v lt)
      ];
      here = λ j le lt.
          let less : j < length order = omega (arith, search.bounds) in
          let is : get_or level (get_or order j 0) 0 ≡ depth = search.here j le lt in
          rw (label_place j less) (kept (get_or order j 0) (omega (arith, is, depth_few)) ∙ is);
      there = λ j le lt. elim (cases_eq j (length order)) [
        | inl e ↦ rw (get_or_push order w 0 j (sym e)) label_here
        | inr ne ↦
            let less : j < length order = omega (arith, longer) in
            let is : get_or level (get_or order j 0) 0 ≡ depth + 1 = search.there j le less in
            rw (label_place j less) (kept (get_or order j 0) (omega (arith, is, depth_few)) ∙ is)
      ];
      listed = λ v lt at. elim (cases_eq v w) [
        | inl e ↦ let same : get_or (set level w (depth + 1)) v 0 ≡ depth + 1 = rw e label_here in absurd (omega arith)
        | inr ne ↦
            let old = search.listed v lt (sym (other v ne) ∙ at) in
            (old.0, old.1, old.2, label_place old.0 (omega (arith, old.2, search.bounds)) ∙ old.3)
      ];
      listed_next = λ v lt at. elim (cases_eq v w) [
        | inl e ↦ (length order, omega (arith, search.bounds), omega (arith, longer), get_or_push order w 0 (length order) refl ∙ sym e)
        | inr ne ↦
            let old = search.listed_next v lt (sym (other v ne) ∙ at) in
            (old.0, old.1, omega (arith, old.2, longer), label_place old.0 old.2 ∙ old.3)
      ];
      source = λ v lt goes.
          let is = search.source v lt goes in
          kept v (omega (arith, is)) ∙ is;
      done = λ v x v_lt x_lt less goes.
          let before : get_or level v 0 < depth = below v depth (omega arith) less in
          omega (arith, label_lower x, kept v (omega (arith, depth_few)), search.done v x v_lt x_lt before goes);
      done_here = λ j x le lt x_lt goes.
          let less : j < length order = omega (arith, search.bounds) in
          omega (arith, label_lower x, search.done_here j x le lt x_lt (rw (label_place j less) at goes));
      dry = λ v lt less. search.dry v lt (below v dried search.dries less);
      back = λ v lt less. elim (cases_eq v w) [
        | inl e ↦ rw e (inr (u, from, goes_on, label_here ∙ ap (λ n. n + 1) (sym up ∙ sym (kept u (omega (arith, up, depth_few))))))
        | inr ne ↦ came v ne (search.back v lt (omega (arith, other v ne))) (omega (arith, other v ne))
      ];
      marked = λ v lt held. elim (cases_eq v w) [
        | inl e ↦ rw e (omega (arith, label_here, depth_few))
        | inr ne ↦ omega (arith, other v ne, search.marked v lt (sym (put.others v ne) ∙ held))
      ];
    }

  -- further steps are done, or dry
  module _ (next' dried' : ℕ) (bounds : (first ≤ next') × (next' ≤ end)) (dries : dried' ≤ depth + 1) where
    go_on : ((j w : ℕ) → first ≤ j → j < next' → w < t.count → Goes t on (get_or order j 0) w → get_or level w 0 ≤ depth + 1) → ((v : ℕ) → v < t.count → get_or level v 0 < dried' → GoesOut t on v → ⊥) → IsSearch t on level labelled order first end next' depth dried'
    go_on done_here dry = record {
      sized = search.sized;
      wide = search.wide;
      few_steps = search.few_steps;
      bounds = (bounds.0, bounds.1, search.bounds.2);
      dries = dries;
      inside = search.inside;
      counted = search.counted;
      deep = search.deep;
      levels = search.levels;
      here = search.here;
      there = search.there;
      listed = search.listed;
      listed_next = search.listed_next;
      source = search.source;
      done = search.done;
      done_here = done_here;
      dry = dry;
      back = search.back;
      marked = search.marked;
    }

  -- one more step of the layer is done
  pub next_more : next < end → ((w : ℕ) → w < t.count → Goes t on (get_or order next 0) w → get_or level w 0 ≤ depth + 1) → IsSearch t on level labelled order first end (next + 1) depth dried
  next_more less reach = go_on (next + 1) dried (omega (arith, search.bounds), omega arith) search.dries (λ j w le lt w_lt goes. elim (cases_eq j next) [
    | inl e ↦ reach w w_lt (rw e at goes)
    | inr ne ↦ search.done_here j w le (omega arith) w_lt goes
  ]) search.dry

  -- no step of the layer sends more to the sink
  pub dry_more : dried ≡ depth → ((j : ℕ) → first ≤ j → j < end → GoesOut t on (get_or order j 0) → ⊥) → IsSearch t on level labelled order first end next depth (depth + 1)
  dry_more is none_goes = go_on next (depth + 1) (search.bounds.0, search.bounds.1) (omega arith) search.done_here (λ v lt less goes. elim (cases_eq (get_or level v 0) depth) [
    | inl e ↦
        let at = search.listed v lt e in
        none_goes at.0 at.1 at.2 (rw at.3 goes)
    | inr ne ↦ search.dry v lt (omega arith) goes
  ])

  -- one more layer is done
  pub layer_end : next ≡ end → first < end → IsSearch t on level labelled order end (length order) end (depth + 1) dried
  layer_end all some = record {
    sized = search.sized;
    wide = search.wide;
    few_steps = search.few_steps;
    bounds = (omega arith, search.bounds.2, omega arith);
    dries = omega (arith, search.dries);
    inside = search.inside;
    counted = search.counted;
    deep = omega (arith, search.deep);
    levels = λ v lt. elim (search.levels v lt) [ inl few ↦ inl (omega arith) | inr is ↦ inr is ];
    here = search.there;
    there = λ j le lt. absurd (omega arith);
    listed = search.listed_next;
    listed_next = λ v lt at. elim (search.levels v lt) [ inl few ↦ absurd (omega arith) | inr is ↦ absurd (omega (arith, depth_few)) ];
    source = search.source;
    done = λ v w v_lt w_lt less goes. elim (cases_eq (get_or level v 0) depth) [
      | inl e ↦
          let at = search.listed v v_lt e in
          omega (arith, search.done_here at.0 w at.1 (omega (arith, at.2)) w_lt (rw at.3 goes))
      | inr ne ↦ search.done v w v_lt w_lt (omega arith) goes
    ];
    done_here = λ j w le lt. absurd (omega arith);
    dry = search.dry;
    back = search.back;
    marked = search.marked;
  }

-- steps to which those of the layer lead are labelled
abbrev pub IsLedTo : Terms → List ℕ → List ℕ → ℕ → ℕ → Type 0
IsLedTo t on level depth w = (w < t.count) × ((u : ℕ) × (u < t.count) × (get_or level u 0 ≡ depth) × Goes t on u w)

module _ (t : Terms) (on : List ℕ) (first end depth dried : ℕ) (Set : ℕ → Type 0) (old : Found) (search : IsSearch t on old.level.items old.labelled.items old.order.items first end first depth dried) (led : (w : ℕ) → Set w → IsLedTo t on old.level.items depth w) where
  record IsSame (new : Found) : Type 0 where
    on_way : IsSearch t on new.level.items new.labelled.items new.order.items first end first depth dried
    level : (x : ℕ) → get_or old.level.items x 0 ≡ depth → get_or new.level.items x 0 ≡ depth
    longer : length old.order.items ≤ length new.order.items
    order : (j : ℕ) → j < length old.order.items → get_or new.order.items j 0 ≡ get_or old.order.items j 0

  one_labelled : (mid new : Found) (w : ℕ) → IsSame mid → Set w → get_or mid.level.items w 0 ≡ none → IsLabelled mid new w (depth + 1) → IsSame new
  one_labelled mid new w same within fresh labelled =
      let to = led w within in
      let u : ℕ = to.1.0 in
      let up : get_or mid.level.items u 0 ≡ depth = same.level u to.1.2 in
      let more = label_more t on mid.level.items mid.labelled.items mid.order.items first end first depth dried same.on_way u w new.labelled.items labelled.labelled to.0 fresh to.1.1 up to.1.3 in
      let longer : length (mid.order.items ++ w ∷ []) ≡ length mid.order.items + 1 = length-append mid.order.items (w ∷ []) in
      record {
        on_way = rw (labelled.level, labelled.order) more;
        level = λ x at. rw labelled.level (kept t on mid.level.items mid.labelled.items mid.order.items first end first depth dried same.on_way u w new.labelled.items labelled.labelled to.0 fresh to.1.1 up to.1.3 x (omega (arith, same.level x at, depth_few t on mid.level.items mid.labelled.items mid.order.items first end first depth dried same.on_way)) ∙ same.level x at);
        longer = rw labelled.order (omega (arith, longer, same.longer));
        order = λ j lt. rw labelled.order (get_or_append_left mid.order.items (w ∷ []) 0 j (omega (arith, lt, same.longer)) ∙ same.order j lt);
      }

  all_labelled : (new : Found) → AreLabelled Set (depth + 1) old new → IsSame new
  all_labelled new no_more = record { on_way = search; level = λ x at. at; longer = omega arith; order = λ j lt. refl }
  all_labelled new (one_more {mid} w last before within fresh labelled) = one_labelled mid last w (all_labelled mid before) within fresh labelled

  -- the next layer
  pub layer_labelled : (new : Found) → AreLabelled Set (depth + 1) old new → end ≡ length old.order.items → first < end → ((w : ℕ) → Set w → get_or new.level.items w 0 ≡ none → ⊥) → ((j w : ℕ) → first ≤ j → j < end → w < t.count → Goes t on (get_or old.order.items j 0) w → Set w) → IsSearch t on new.level.items new.labelled.items new.order.items end (length new.order.items) end (depth + 1) dried
  layer_labelled new labelled whole some all led_all =
      let same = all_labelled new labelled in
      let done = go_on t on new.level.items new.labelled.items new.order.items first end first depth dried same.on_way end dried (omega arith, omega arith) same.on_way.dries
      (λ j w le lt w_lt goes. elim (same.on_way.levels w w_lt) [
        | inl few ↦ few
        | inr is ↦ absurd (all w (led_all j w le lt w_lt (rw (same.order j (omega (arith, lt, whole))) at goes)) is)
      ]) same.on_way.dry in
      layer_end t on new.level.items new.labelled.items new.order.items first end end depth dried done refl some

-- ---- what labelling keeps

pub record IsGrown (old new : Found) : Type 0 where
  pub sized : length new.level.items ≡ length old.level.items
  pub wide : length new.labelled.items ≡ length old.labelled.items
  pub kept : (x : ℕ) → (get_or old.level.items x 0 ≡ none → ⊥) → get_or new.level.items x 0 ≡ none → ⊥
  pub marked : ((x : ℕ) → x < length old.level.items → holds old.labelled.items x ≡ true → get_or old.level.items x 0 ≡ none → ⊥) → (x : ℕ) → x < length old.level.items → holds new.labelled.items x ≡ true → get_or new.level.items x 0 ≡ none → ⊥

pub one_grown : (old new : Found) (w depth : ℕ) → depth < none → w < length old.level.items → IsLabelled old new w depth → IsGrown old new × (get_or new.level.items w 0 ≡ depth)
one_grown old new w depth few short labelled =
    let here : get_or new.level.items w 0 ≡ depth = rw labelled.level (get_or-set_same old.level.items w depth 0 short) in
    let other : (x : ℕ) → (x ≡ w → ⊥) → get_or new.level.items x 0 ≡ get_or old.level.items x 0 = λ x ne. rw labelled.level (get_or-set_other old.level.items w x depth 0 ne) in (
      record {
        sized = rw labelled.level (length-set old.level.items w depth);
        wide = labelled.labelled.sized;
        kept = λ x some is. elim (cases_eq x w) [
          | inl e ↦ absurd (omega (arith, few, here, rw e at is))
          | inr ne ↦ some (sym (other x ne) ∙ is)
        ];
        marked = λ before x lt held is. elim (cases_eq x w) [
          | inl e ↦ absurd (omega (arith, few, here, rw e at is))
          | inr ne ↦ before x lt (sym (labelled.labelled.others x ne) ∙ held) (sym (other x ne) ∙ is)
        ];
      },
      here,
    )

pub grown_on : (a b c : Found) → IsGrown a b → IsGrown b c → IsGrown a c
grown_on a b c one two = record {
  sized = two.sized ∙ one.sized;
  wide = two.wide ∙ one.wide;
  kept = λ x some. two.kept x (one.kept x some);
  marked = λ before x lt. two.marked (λ y y_lt. one.marked before y (omega (arith, y_lt, one.sized))) x (omega (arith, lt, one.sized));
}

pub all_grown : (Set : ℕ → Type 0) (depth : ℕ) (old new : Found) → depth < none → ((w : ℕ) → Set w → w < length old.level.items) → AreLabelled Set depth old new → IsGrown old new
all_grown Set depth old new few inside no_more = record { sized = refl; wide = refl; kept = λ x some. some; marked = λ before. before }
all_grown Set depth old new few inside (one_more {mid} w last before within fresh labelled) =
    let rest = all_grown Set depth old mid few inside before in
    grown_on old mid last rest (one_grown mid last w depth few (omega (arith, inside w within, rest.sized)) labelled).0

-- first some, then others
pub labelled_on : (Set Part : ℕ → Type 0) (depth : ℕ) (a b c : Found) → ((w : ℕ) → Part w → Set w) → AreLabelled Set depth a b → AreLabelled Part depth b c → AreLabelled Set depth a c
labelled_on Set Part depth a b c part first no_more = first
labelled_on Set Part depth a b c part first (one_more {mid} w last before within fresh labelled) =
    one_more w last (labelled_on Set Part depth a b mid part first before) (part w within) fresh labelled

-- ---- a word of a set is labelled

-- of a word that begins at a step those that are no more left have a level
pub record IsWordOn (at word depth : ℕ) (old : Found) (left : ℕ) (now : Found) : Type 0 where
  pub labelled : AreLabelled (λ u. (at ≤ u) × (u < at + 64) × (holds_bit word (u - at) ≡ true)) depth old now
  pub grown : IsGrown old now
  pub fits : left ≤ word
  pub some : (b : ℕ) → b < 64 → holds_bit left b ≡ true → holds_bit word b ≡ true
  pub all : (b : ℕ) → b < 64 → holds_bit word b ≡ true → (holds_bit left b ≡ true) ⊎ (get_or now.level.items (at + b) 0 ≡ none → ⊥)

pub word_begun : (at word depth : ℕ) (old : Found) → IsWordOn at word depth old word old
word_begun at word depth old = record {
  labelled = no_more;
  grown = record { sized = refl; wide = refl; kept = λ x some. some; marked = λ before. before };
  fits = omega arith;
  some = λ b lt held. held;
  all = λ b lt held. inl held;
}

module _ (at word depth left b left' : ℕ) (old now : Found) (on : IsWordOn at word depth old left now) (lt : b < 64) (held : holds_bit left b ≡ true) (put : IsPutBit left b false left') (le : left' ≤ left) where
  fewer : (x : ℕ) → x < 64 → holds_bit left' x ≡ true → holds_bit word x ≡ true
  fewer x x_lt is = elim (cases_eq x b) [
    | inl e ↦ absurd (false≢true (sym put.here ∙ ap (holds_bit left') (sym e) ∙ is))
    | inr ne ↦ on.some x x_lt (sym (put.others x x_lt ne) ∙ is)
  ]

  pub word_passed : (get_or now.level.items (at + b) 0 ≡ none → ⊥) → IsWordOn at word depth old left' now
  word_passed labelled = record {
    labelled = on.labelled;
    grown = on.grown;
    fits = omega (arith, le, on.fits);
    some = fewer;
    all = λ x x_lt is. elim (cases_eq x b) [
      | inl e ↦ inr (rw e labelled)
      | inr ne ↦ elim (on.all x x_lt is) [ inl was ↦ inl (put.others x x_lt ne ∙ was) | inr some ↦ inr some ]
    ];
  }

  pub word_labelled : (new : Found) → depth < none → at + b < length old.level.items → get_or now.level.items (at + b) 0 ≡ none → IsLabelled now new (at + b) depth → IsWordOn at word depth old left' new
  word_labelled new few short fresh labelled =
      let one = one_grown now new (at + b) depth few (omega (arith, short, on.grown.sized)) labelled in
      let e : at + b - at ≡ b = omega arith in
      record {
        labelled = one_more (at + b) new on.labelled (omega arith, omega (arith, lt), rw e (on.some b lt held)) fresh labelled;
        grown = grown_on old now new on.grown one.0;
        fits = omega (arith, le, on.fits);
        some = fewer;
        all = λ x x_lt is. elim (cases_eq x b) [
          | inl same ↦ inr (λ unlabelled. omega (arith, few, one.1, rw same at unlabelled))
          | inr ne ↦ elim (on.all x x_lt is) [ inl was ↦ inl (put.others x x_lt ne ∙ was) | inr some ↦ inr (one.0.kept (at + x) some) ]
        ];
      }

-- ---- a set is labelled, word by word

pub record IsSetOn (set : List ℕ) (depth : ℕ) (old : Found) (place : ℕ) (now : Found) : Type 0 where
  pub labelled : AreLabelled (λ u. holds set u ≡ true) depth old now
  pub grown : IsGrown old now
  pub all : (u : ℕ) → u < 64 * place → holds set u ≡ true → get_or now.level.items u 0 ≡ none → ⊥

pub set_begun : (set : List ℕ) (depth : ℕ) (old : Found) → IsSetOn set depth old 0 old
set_begun set depth old = record {
  labelled = no_more;
  grown = record { sized = refl; wide = refl; kept = λ x some. some; marked = λ before. before };
  all = λ u lt. absurd (omega (arith, lt));
}

pub in_set : (set : List ℕ) (place less word b : ℕ) → IsWithout (get_or set place 0) less word → b < 64 → holds_bit word b ≡ true → holds set (64 * place + b) ≡ true
in_set set place less word b rest lt held =
    let div : (64 * place + b) / 64 ≡ place = omega (arith, lt) in
    let rem : (64 * place + b) % 64 ≡ b = omega (arith, lt) in
    rw (div, rem) (rest.only b lt held).0

module _ (set : List ℕ) (depth : ℕ) (old : Found) (place word : ℕ) (now new : Found) (on : IsSetOn set depth old place now) (few : depth < none) (inside : (u : ℕ) → u < 64 * length set → holds set u ≡ true → u < length old.level.items) (here : place < length set) (marked : (u : ℕ) → u < length old.level.items → holds old.labelled.items u ≡ true → get_or old.level.items u 0 ≡ none → ⊥) (rest : IsWithout (get_or set place 0) (get_or now.labelled.items place 0) word) where
  part : (u : ℕ) → (64 * place ≤ u) × (u < 64 * place + 64) × (holds_bit word (u - 64 * place) ≡ true) → holds set u ≡ true
  part u (le, lt, held) =
      let e : 64 * place + (u - 64 * place) ≡ u = omega (arith, le) in
      rw e at (in_set set place (get_or now.labelled.items place 0) word (u - 64 * place) rest (omega (arith, le, lt)) held)

  pub set_more : AreLabelled (λ u. (64 * place ≤ u) × (u < 64 * place + 64) × (holds_bit word (u - 64 * place) ≡ true)) depth now new → ((b : ℕ) → b < 64 → holds_bit word b ≡ true → get_or new.level.items (64 * place + b) 0 ≡ none → ⊥) → IsSetOn set depth old (place + 1) new
  set_more more seen =
      let grown : IsGrown now new = all_grown _ depth now new few (λ u p. omega (arith, inside u (omega (arith, p.1, here)) (part u p), on.grown.sized)) more in
      record {
        labelled = labelled_on _ _ depth old now new part on.labelled more;
        grown = grown_on old now new on.grown grown;
        all = λ u lt held. elim (cases_lt u (64 * place)) [
          | inl before ↦ grown.kept u (on.all u before held)
          | inr past ↦
              let e : 64 * place + (u - 64 * place) ≡ u = omega (arith, past) in
              let div : u / 64 ≡ place = omega (arith, past, lt) in
              let rem : u % 64 ≡ u - 64 * place = omega (arith, past, lt) in
              let b_lt : u - 64 * place < 64 = omega (arith, past, lt) in
              let in_word : holds_bit (get_or set place 0) (u - 64 * place) ≡ true = rw (div, rem) at held in
              elim (held_or_not (holds_bit (get_or now.labelled.items place 0) (u - 64 * place))) [
                | inl was ↦ grown.kept u (on.grown.marked marked u (inside u (omega (arith, lt, here)) held) (rw (div, rem) was))
                | inr free ↦ rw e at (seen (u - 64 * place) b_lt (rest.rest (u - 64 * place) b_lt in_word free))
              ]
        ];
      }
    where
      held_or_not : (x : Bool) → (x ≡ true) ⊎ (x ≡ false)
      held_or_not true = inl refl
      held_or_not false = inr refl
