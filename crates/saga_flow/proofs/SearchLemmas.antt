-- A breadth-first search on its way: at the start, with one node more, with one node done, and at the end.
use Rattle.std.proofs.Common.{◌≡◌, ◌≢◌, ℕ, zero, suc, ◌+◌, ◌<◌, ◌≤◌, true, false, cond, List, Option, [], ◌∷◌, ◌++◌, ◌⊎◌, Some, None, length, get_or, set, replicate, refl, sym, ap, ◌∙◌, inl, inr, arith, get_or-set_same, get_or-set_other, length-set}
use Rattle.std.specs.Prelude.{slice_get, is_some, count_by}
use Rattle.std.proofs.lemmas.Bool.{true≢false, cases_eq, cases_lt}
use Rattle.std.proofs.lemmas.List.{length_push, length-replicate, get_or-replicate, get_or_past}
use Rattle.std.proofs.lemmas.List.Sums.{sum_by-set, sum_by-cons, count_by-le-length}
use Rattle.std.proofs.lemmas.Option.{none-some, same_Some, slice_get_within, slice_get-get_or}
use Rattle.saga_flow.specs.declared.nets.Arc.{Arc}
use Rattle.saga_flow.specs.declared.residual_arcs.ResidualArc.{ResidualArc}
use Rattle.saga_flow.specs.Residual.{Leads}
use Rattle.saga_flow.specs.Search.{IsSeen, IsFound, IsSearch, IsSearchTree, HasGoal, IsBeforeGoal}
use Rattle.saga_flow.specs.Marks.{Mark, depth_at, depth_of, mark_at}
use Rattle.saga_flow.proofs.ListLemmas.{slice_get-append, slice_get-pushed, slice_get-push_cases}

-- a node with a mark is one of the nodes
pub mark_within : (marks : List (Option Mark)) (v : ℕ) (m : Mark) → mark_at marks v ≡ Some m → v < length marks
mark_within marks v m at =
    elim (cases_lt v (length marks)) [
      | inl less ↦ less
      | inr more ↦ absurd (none-some m (sym (get_or_past marks v None more) ∙ at))
    ]

module _ (nodes : ℕ) (arcs : List Arc) (passes : ResidualArc → Type 0) (start : ℕ) (marks : List (Option Mark)) (order : List ℕ) (next u v : ℕ) (s : ResidualArc) (search : IsSearch nodes arcs passes start marks order next) (now : slice_get order next ≡ Some u) (lead : Leads arcs s u v) (pass : passes s) (inside : v < nodes) (fresh : mark_at marks v ≡ None) where
  abbrev after : List (Option Mark)
  after = set marks v (Some (record { depth = depth_at marks u + 1; by = Some s }))

  short : v < length marks
  short = omega (arith, search.sized)

  at_new : mark_at after v ≡ Some (record { depth = depth_at marks u + 1; by = Some s })
  at_new = get_or-set_same marks v _ None short

  apart : (w : ℕ) (m : Mark) → mark_at marks w ≡ Some m → w ≢ v
  apart w m at same = none-some m (sym fresh ∙ ap (mark_at marks) (sym same) ∙ at)

  at_other : (w : ℕ) → w ≢ v → mark_at after w ≡ mark_at marks w
  at_other w other = get_or-set_other marks v w _ None other

  -- what was marked stays so
  mark_kept : (w : ℕ) (m : Mark) → mark_at marks w ≡ Some m → mark_at after w ≡ Some m
  mark_kept w m at = at_other w (apart w m at) ∙ at

  depth_kept : (w : ℕ) (m : Mark) → mark_at marks w ≡ Some m → depth_at after w ≡ depth_at marks w
  depth_kept w m at = ap depth_of (at_other w (apart w m at))

  seen_kept : (w most : ℕ) → IsSeen marks w most → IsSeen after w most
  seen_kept w most (m, at, low) = (m, mark_kept w m at, low)

  -- a mark is an older one or the new one
  mark_cases : (w : ℕ) (m : Mark) → mark_at after w ≡ Some m → (mark_at marks w ≡ Some m) ⊎ ((w ≡ v) × (m ≡ record { depth = depth_at marks u + 1; by = Some s }))
  mark_cases w m at =
      elim (cases_eq w v) [
        | inl same ↦ inr (same, sym (same_Some _ _ (sym at_new ∙ ap (mark_at after) (sym same) ∙ at)))
        | inr other ↦ inl (sym (at_other w other) ∙ at)
      ]

  found_kept : (w : ℕ) (m : Mark) → IsFound arcs passes marks w m → IsFound arcs passes after w m
  found_kept w m (t, x, p, by, leads, through, at, deep) = (t, x, p, by, leads, through, mark_kept x p at, deep)

  pub search_more : IsSearch nodes arcs passes start (set marks v (Some (record { depth = depth_at marks u + 1; by = Some s }))) (order ++ v ∷ []) next
  search_more =
      let here = search.marked next u now in
      let one_more = length_push order v in
      record {
        sized = length-set marks v _ ∙ search.sized;
        root = mark_kept start (record { depth = 0; by = None }) search.root;
        counted =
            (let gained : count_by is_some after + cond (is_some (mark_at marks v)) 1 0 ≡ count_by is_some marks + 1 = sum_by-set (λ (o : Option Mark). cond (is_some o) 1 0) marks v (Some (record { depth = depth_at marks u + 1; by = Some s })) None short in
            omega (arith, rw fresh at gained, one_more, search.counted));
        listed = λ w m at.
            elim (mark_cases w m at) [
              | inl old ↦ (let place = search.listed w m old in (place.0, slice_get-append order (v ∷ []) place.0 w place.1))
              | inr new ↦ (length order, rw new.0 (slice_get-pushed order v))
            ];
        marked = λ j w at.
            elim (slice_get-push_cases order v j w at) [
              | inl old ↦ (let mark = search.marked j w old in (mark.0, mark_kept w mark.0 mark.1))
              | inr new ↦ (record { depth = depth_at marks u + 1; by = Some s }, rw new.1 at_new)
            ];
        shallow = λ w m at.
            elim (mark_cases w m at) [
              | inl old ↦ omega (arith, search.shallow w m old, one_more)
              | inr new ↦ omega (arith, search.shallow u here.0 here.1, ap depth_of here.1, ap (λ (n : Mark). n.depth) new.1, one_more)
            ];
        back = λ w m at other.
            elim (mark_cases w m at) [
              | inl old ↦ found_kept w m (search.back w m old other)
              | inr new ↦
                  rw (new.0, new.1) (s, u, here.0, refl, lead, pass, mark_kept u here.0 here.1, ap (λ x. x + 1) (ap depth_of here.1))
            ];
        done = λ j x t w before at leads through.
            elim (slice_get-push_cases order v j x at) [
              | inl old ↦
                  (let mark = search.marked j x old in
                  rw (depth_kept x mark.0 mark.1) (seen_kept w (depth_at marks x + 1) (search.done j x t w before old leads through)))
              | inr new ↦ absurd (omega (arith, slice_get_within order next u now))
            ];
        sorted = λ j k x y before at_j at_k.
            elim (slice_get-push_cases order v j x at_j) [
              | inl old_j ↦
                  (let mark_j = search.marked j x old_j in
                  elim (slice_get-push_cases order v k y at_k) [
                    | inl old_k ↦
                        (let mark_k = search.marked k y old_k in
                        omega (arith, search.sorted j k x y before old_j old_k, depth_kept x mark_j.0 mark_j.1, depth_kept y mark_k.0 mark_k.1))
                    | inr new_k ↦
                        omega (arith, search.top u x mark_j.0 now mark_j.1, ap depth_of mark_j.1, depth_kept x mark_j.0 mark_j.1, ap depth_of (ap (mark_at after) new_k.1 ∙ at_new))
                  ])
              | inr new_j ↦
                  elim (slice_get-push_cases order v k y at_k) [
                    | inl old_k ↦ absurd (omega (arith, slice_get_within order k y old_k))
                    | inr new_k ↦ omega (arith, ap depth_of (ap (mark_at after) new_j.1 ∙ at_new), ap depth_of (ap (mark_at after) new_k.1 ∙ at_new))
                  ]
            ];
        top = λ x w m at mark.
            elim (slice_get-push_cases order v next x at) [
              | inl old ↦
                  (let same : u ≡ x = same_Some _ _ (sym now ∙ old) in
                  let kept = depth_kept u here.0 here.1 in
                  rw (← same) (elim (mark_cases w m mark) [
                    | inl older ↦ omega (arith, search.top u w m now older, kept)
                    | inr new ↦ omega (arith, ap (λ (n : Mark). n.depth) new.1, kept)
                  ]))
              | inr new ↦ absurd (omega (arith, slice_get_within order next u now))
            ];
      }

  -- what was seen from the node at hand is seen still
  pub seen_more : (w : ℕ) → IsSeen marks w (depth_at marks u + 1) → IsSeen (set marks v (Some (record { depth = depth_at marks u + 1; by = Some s }))) w (depth_at marks u + 1)
  seen_more w seen = seen_kept w (depth_at marks u + 1) seen

  pub depth_same : depth_at (set marks v (Some (record { depth = depth_at marks u + 1; by = Some s }))) u ≡ depth_at marks u
  depth_same = let here = search.marked next u now in depth_kept u here.0 here.1

  pub seen_new : IsSeen (set marks v (Some (record { depth = depth_at marks u + 1; by = Some s }))) v (depth_at marks u + 1)
  seen_new = (record { depth = depth_at marks u + 1; by = Some s }, at_new, omega arith)

module _ (nodes : ℕ) (arcs : List Arc) (passes : ResidualArc → Type 0) (start : ℕ) (marks : List (Option Mark)) (order : List ℕ) (next : ℕ) (search : IsSearch nodes arcs passes start marks order next) where
  -- a node with a mark is seen from the node at hand
  pub seen_old : (u v : ℕ) (m : Mark) → slice_get order next ≡ Some u → mark_at marks v ≡ Some m → IsSeen marks v (depth_at marks u + 1)
  seen_old u v m now at = (m, at, search.top u v m now at)

  -- one node is done
  pub search_done : (u : ℕ) → slice_get order next ≡ Some u → ((s : ResidualArc) (v : ℕ) → Leads arcs s u v → passes s → IsSeen marks v (depth_at marks u + 1)) → IsSearch nodes arcs passes start marks order (next + 1)
  search_done u now all = record {
    sized = search.sized;
    root = search.root;
    counted = search.counted;
    listed = search.listed;
    marked = search.marked;
    shallow = search.shallow;
    back = search.back;
    done = λ j x s v before at lead pass.
        elim (cases_eq j next) [
          | inl same ↦
              (let alike : u ≡ x = same_Some _ _ (sym now ∙ ap (slice_get order) (sym same) ∙ at) in
              rw (← alike) (all s v (rw (← alike) at lead) pass))
          | inr other ↦ search.done j x s v (omega arith) at lead pass
        ];
    sorted = search.sorted;
    top = λ x v m at mark. omega (arith, search.top u v m now mark, search.sorted next (next + 1) u x (omega arith) now at);
  }

  -- all are done, or the goal is found
  pub search_end : (goal : Option ℕ) → (length order ≤ next) ⊎ HasGoal goal marks → IsSearchTree nodes arcs passes start goal marks
  search_end goal ends = record {
    sized = search.sized;
    root = search.root;
    shallow = λ v m at. omega (arith, search.shallow v m at, search.counted, count_by-le-length is_some marks, search.sized);
    near = λ s u v m lead pass at before.
        let place = search.listed u m at in
        let early : place.0 < next = before_next u m place.0 at place.1 before ends in
        rw (ap depth_of at) at (search.done place.0 u s v early place.1 lead pass);
    back = search.back;
  }
    where
      before_next : (u : ℕ) (m : Mark) (j : ℕ) → mark_at marks u ≡ Some m → slice_get order j ≡ Some u → IsBeforeGoal goal marks m.depth → (length order ≤ next) ⊎ HasGoal goal marks → j < next
      before_next u m j at there before (inl all) = omega (arith, all, slice_get_within order j u there)
      before_next u m j at there before (inr (g, n, is, marked)) =
          elim (cases_lt j next) [
            | inl less ↦ less
            | inr more ↦
                (let short : next < length order = omega (arith, more, slice_get_within order j u there) in
                let x : ℕ = get_or order next 0 in
                let here : slice_get order next ≡ Some x = slice_get-get_or order next 0 short in
                absurd (omega (arith, before g n is marked, search.top x g n here marked, search.sorted next j x u more here there, ap depth_of at)))
          ]

-- no mark is counted among none
count_none : (n : ℕ) → count_by is_some (replicate {A = Option Mark} n None) ≡ 0
count_none zero = refl
count_none (suc n) = omega (arith, sum_by-cons (λ (o : Option Mark). cond (is_some o) 1 0) None (replicate n None), count_none n)

-- the marks of a search that begins
abbrev first_marks : ℕ → ℕ → List (Option Mark)
first_marks nodes start = set (replicate nodes None) start (Some (record { depth = 0; by = None }))

-- the start alone is marked
pub search_start : (nodes : ℕ) (arcs : List Arc) (passes : ResidualArc → Type 0) (start : ℕ) → start < nodes → IsSearch nodes arcs passes start (set (replicate nodes None) start (Some (record { depth = 0; by = None }))) (start ∷ []) 0
search_start nodes arcs passes start inside = record {
  sized = length-set (replicate nodes None) start _ ∙ length-replicate nodes None;
  root = at_start;
  counted =
      (let gained : count_by is_some (first_marks nodes start) + cond (is_some (mark_at (replicate nodes None) start)) 1 0 ≡ count_by is_some (replicate {A = Option Mark} nodes None) + 1 = sum_by-set (λ (o : Option Mark). cond (is_some o) 1 0) (replicate nodes None) start (Some (record { depth = 0; by = None })) None short in
      omega (arith, rw (get_or-replicate {A = Option Mark} nodes start None None inside) at gained, count_none nodes));
  listed = λ v m at. (0, ap Some (sym (only v m at).0));
  marked = λ j v at. (record { depth = 0; by = None }, at_first j v at);
  shallow = λ v m at. omega (arith, ap (λ (n : Mark). n.depth) (only v m at).1);
  back = λ v m at other. absurd (other (only v m at).0);
  done = λ j u s v before. absurd (omega arith);
  sorted = λ j k u v before at_j at_k. omega (arith, ap depth_of (at_first j u at_j));
  top = λ u v m at mark. omega (arith, ap (λ (n : Mark). n.depth) (only v m mark).1);
}
  where
    short : start < length (replicate {A = Option Mark} nodes None)
    short = omega (arith, length-replicate {A = Option Mark} nodes None)

    nothing : (v : ℕ) (m : Mark) → mark_at (replicate nodes None) v ≡ Some m → ⊥
    nothing v m at =
        elim (cases_lt v nodes) [
          | inl less ↦ none-some m (sym (get_or-replicate {A = Option Mark} nodes v None None less) ∙ at)
          | inr more ↦ none-some m (sym (get_or_past (replicate {A = Option Mark} nodes None) v None (omega (arith, length-replicate {A = Option Mark} nodes None))) ∙ at)
        ]

    at_start : mark_at (first_marks nodes start) start ≡ Some (record { depth = 0; by = None })
    at_start = get_or-set_same (replicate nodes None) start _ None short

    at_first : (j v : ℕ) → slice_get (start ∷ []) j ≡ Some v → mark_at (first_marks nodes start) v ≡ Some (record { depth = 0; by = None })
    at_first zero v at = ap (mark_at (first_marks nodes start)) (sym (same_Some _ _ at)) ∙ at_start
    at_first (suc j) v at = absurd (none-some v at)

    only : (v : ℕ) (m : Mark) → mark_at (first_marks nodes start) v ≡ Some m → (v ≡ start) × (m ≡ record { depth = 0; by = None })
    only v m at =
        elim (cases_eq v start) [
          | inl same ↦ (same, sym (same_Some _ _ (sym at_start ∙ ap (mark_at (first_marks nodes start)) (sym same) ∙ at)))
          | inr other ↦
              (let unmarked : mark_at (replicate nodes None) v ≡ Some m = sym (get_or-set_other (replicate nodes None) start v _ None other) ∙ at in
              absurd (nothing v m unmarked))
        ]

-- a node by the test for its mark
pub none_marked : (marks : List (Option Mark)) (v : ℕ) → is_some (mark_at marks v) ≡ false → mark_at marks v ≡ None
none_marked marks v test = none_at (mark_at marks v) test
  where
    none_at : (o : Option Mark) → is_some o ≡ false → o ≡ None
    none_at None t = refl
    none_at (Some m) t = absurd (true≢false t)

pub some_marked : (marks : List (Option Mark)) (v : ℕ) → is_some (mark_at marks v) ≡ true → (m : Mark) × (mark_at marks v ≡ Some m)
some_marked marks v test = some_at (mark_at marks v) test
  where
    some_at : (o : Option Mark) → is_some o ≡ true → (m : Mark) × (o ≡ Some m)
    some_at None t = absurd (true≢false (sym t))
    some_at (Some m) t = (m, refl)

-- where a node has no mark, fewer are marked than there are
few_marked : (marks : List (Option Mark)) (v : ℕ) → v < length marks → mark_at marks v ≡ None → count_by is_some marks < length marks
few_marked marks v short fresh =
    let more = set marks v (Some (record { depth = 0; by = None })) in
    let gained : count_by is_some more + cond (is_some (mark_at marks v)) 1 0 ≡ count_by is_some marks + 1 = sum_by-set (λ (o : Option Mark). cond (is_some o) 1 0) marks v (Some (record { depth = 0; by = None })) None short in
    omega (arith, rw fresh at gained, count_by-le-length is_some more, length-set marks v (Some (record { depth = 0; by = None })))

-- a node that is found from the one at hand is not as deep as there are nodes
pub depth_less : (nodes : ℕ) (arcs : List Arc) (passes : ResidualArc → Type 0) (start : ℕ) (marks : List (Option Mark)) (order : List ℕ) (next u v : ℕ) → IsSearch nodes arcs passes start marks order next → slice_get order next ≡ Some u → v < nodes → mark_at marks v ≡ None → depth_at marks u + 1 < nodes
depth_less nodes arcs passes start marks order next u v search now inside fresh =
    let here = search.marked next u now in
    omega (arith, search.shallow u here.0 here.1, ap depth_of here.1, search.counted, few_marked marks v (omega (arith, inside, search.sized)) fresh, search.sized)

pub depth_within : (nodes : ℕ) (arcs : List Arc) (passes : ResidualArc → Type 0) (start : ℕ) (marks : List (Option Mark)) (order : List ℕ) (next u : ℕ) → IsSearch nodes arcs passes start marks order next → slice_get order next ≡ Some u → depth_at marks u < nodes
depth_within nodes arcs passes start marks order next u search now =
    let here = search.marked next u now in
    omega (arith, search.shallow u here.0 here.1, ap depth_of here.1, search.counted, count_by-le-length is_some marks, search.sized)

-- what is not refuted to be seen is seen
pub seen_stable : (marks : List (Option Mark)) (v most : ℕ) → ((IsSeen marks v most → ⊥) → ⊥) → IsSeen marks v most
seen_stable marks v most unrefuted = at_mark (mark_at marks v) refl
  where
    at_mark : (o : Option Mark) → mark_at marks v ≡ o → IsSeen marks v most
    at_mark None at = absurd (unrefuted (λ seen. none-some seen.0 (sym at ∙ seen.1)))
    at_mark (Some m) at =
        elim (cases_lt most m.depth) [
          | inl deeper ↦
              absurd (unrefuted (λ seen.
              let same : seen.0 ≡ m = same_Some _ _ (sym seen.1 ∙ at) in
              omega (arith, deeper, seen.2, ap (λ (n : Mark). n.depth) same)))
          | inr low ↦ (m, at, low)
        ]

-- fewer nodes were found than there are
pub order_le : (nodes : ℕ) (arcs : List Arc) (passes : ResidualArc → Type 0) (start : ℕ) (marks : List (Option Mark)) (order : List ℕ) (next : ℕ) → IsSearch nodes arcs passes start marks order next → length order ≤ nodes
order_le nodes arcs passes start marks order next search =
    omega (arith, search.counted, count_by-le-length is_some marks, search.sized)
