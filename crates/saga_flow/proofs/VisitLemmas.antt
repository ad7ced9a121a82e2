-- A search at one node: the residual arcs that leave it are gone through in turn.
use Rattle.std.proofs.Common.{◌≡◌, ℕ, ◌+◌, ◌<◌, ◌≤◌, Bool, true, false, List, Option, [], ◌∷◌, ◌++◌, Some, None, get_or, set, refl, sym, ap, ◌∙◌, inl, inr, arith}
use Rattle.std.specs.Prelude.{slice_get}
use Rattle.std.proofs.lemmas.Bool.{cases_eq}
use Rattle.saga_flow.specs.declared.nets.Arc.{Arc}
use Rattle.saga_flow.specs.declared.residual_arcs.ResidualArc.{ResidualArc}
use Rattle.saga_flow.specs.declared.searching.Found.{Found}
use Rattle.saga_flow.specs.declared.searching.Place.{Place}
use Rattle.saga_flow.specs.Residual.{Leads}
use Rattle.saga_flow.specs.Adjacency.{IsAdjacencyList, head_of, arc_at}
use Rattle.saga_flow.specs.Search.{IsSeen, IsSearch, IsSearching, IsVisiting, IsMarked}
use Rattle.saga_flow.specs.Marks.{Mark, depth_at, mark_at}
use Rattle.saga_flow.proofs.ListLemmas.{slice_get-append}
use Rattle.saga_flow.proofs.ResidualArcLemmas.{leads_within}
use Rattle.saga_flow.proofs.AdjacencyLemmas.{leads_ends}
use Rattle.saga_flow.proofs.SearchLemmas.{mark_within, search_more, seen_more, seen_new, seen_old, seen_stable, depth_same, search_done}

-- the node at hand is one of the nodes
pub now_within : (nodes : ℕ) (arcs : List Arc) (passes : ResidualArc → Type 0) (start : ℕ) (marks : List (Option Mark)) (order : List ℕ) (next u : ℕ) → IsSearch nodes arcs passes start marks order next → slice_get order next ≡ Some u → u < nodes
now_within nodes arcs passes start marks order next u search now =
    let mark = search.marked next u now in
    omega (arith, mark_within marks u mark.0 mark.1, search.sized)

-- a node that is new gets a mark
module _ (nodes : ℕ) (arcs : List Arc) (passes : ResidualArc → Type 0) (start : ℕ) (marks : List (Option Mark)) (order : List ℕ) (next node depth : ℕ) (search : IsSearch nodes arcs passes start marks order next) (now : slice_get order next ≡ Some node) (deep : depth ≡ depth_at marks node + 1) (to : ℕ) (s : ResidualArc) (lead : Leads arcs s node to) (pass : passes s) (inside : to < nodes) (fresh : mark_at marks to ≡ None) (new_marks : List (Option Mark)) (new_order : List ℕ) (marks_are : new_marks ≡ set marks to (Some (record { depth = depth; by = Some s }))) (order_is : new_order ≡ order ++ to ∷ []) where
  more_search : IsSearch nodes arcs passes start new_marks new_order next
  more_search = rw (marks_are, order_is, deep) (search_more nodes arcs passes start marks order next node to s search now lead pass inside fresh)

  more_now : slice_get new_order next ≡ Some node
  more_now = rw order_is (slice_get-append order (to ∷ []) next node now)

  more_deep : depth ≡ depth_at new_marks node + 1
  more_deep =
      rw (marks_are, deep) (ap (λ n. n + 1) (sym (depth_same nodes arcs passes start marks order next node to s search now lead pass inside fresh)))

  more_kept : (v : ℕ) → IsSeen marks v depth → IsSeen new_marks v depth
  more_kept = rw (marks_are, deep) (λ v seen. seen_more nodes arcs passes start marks order next node to s search now lead pass inside fresh v seen)

  more_here : IsSeen new_marks to depth
  more_here = rw (marks_are, deep) (seen_new nodes arcs passes start marks order next node to s search now lead pass inside fresh)

-- what holds after a node was marked
pub record IsMore (nodes : ℕ) (arcs : List Arc) (passes : ResidualArc → Type 0) (place : Place) (old new : Found) (to : ℕ) : Type 0 where
  pub visit : IsVisiting nodes arcs passes place new
  pub kept : (v : ℕ) → IsSeen old.marks v place.depth → IsSeen new.marks v place.depth
  pub here : IsSeen new.marks to place.depth

pub visit_new : (nodes : ℕ) (arcs : List Arc) (passes : ResidualArc → Type 0) (place : Place) (old new : Found) (to : ℕ) (s : ResidualArc) → IsVisiting nodes arcs passes place old → Leads arcs s place.node to → passes s → to < nodes → mark_at old.marks to ≡ None → IsMarked old new to (record { depth = place.depth; by = Some s }) → IsMore nodes arcs passes place old new to
visit_new nodes arcs passes place old new to s visit lead pass inside fresh marked = record {
  visit = record {
    search = more_search nodes arcs passes place.start old.marks old.order.items place.next place.node place.depth visit.search visit.now visit.deep to s lead pass inside fresh new.marks new.order.items marked.marks marked.order;
    now = more_now nodes arcs passes place.start old.marks old.order.items place.next place.node place.depth visit.search visit.now visit.deep to s lead pass inside fresh new.marks new.order.items marked.marks marked.order;
    deep = more_deep nodes arcs passes place.start old.marks old.order.items place.next place.node place.depth visit.search visit.now visit.deep to s lead pass inside fresh new.marks new.order.items marked.marks marked.order;
  };
  kept = more_kept nodes arcs passes place.start old.marks old.order.items place.next place.node place.depth visit.search visit.now visit.deep to s lead pass inside fresh new.marks new.order.items marked.marks marked.order;
  here = more_here nodes arcs passes place.start old.marks old.order.items place.next place.node place.depth visit.search visit.now visit.deep to s lead pass inside fresh new.marks new.order.items marked.marks marked.order;
}

-- a node with a mark is seen from the node at hand
pub visit_old : (nodes : ℕ) (arcs : List Arc) (passes : ResidualArc → Type 0) (place : Place) (found : Found) (to : ℕ) (m : Mark) → IsVisiting nodes arcs passes place found → mark_at found.marks to ≡ Some m → IsSeen found.marks to place.depth
visit_old nodes arcs passes place found to m visit at =
    rw visit.deep (seen_old nodes arcs passes place.start found.marks found.order.items place.next visit.search place.node to m visit.now at)

-- from the places before `count` of a list the passing residual arcs lead to nodes that are seen
abbrev pub AreSeen : (ResidualArc → Type 0) → Bool → List ℕ → List ℕ → List (Option Mark) → ℕ → ℕ → ℕ → Type 0
AreSeen passes way places heads marks depth first count =
    (p : ℕ) → first ≤ p → p < count → passes (record { arc = get_or places p 0; forward = way }) → IsSeen marks (get_or heads p 0) depth

pub seen_next : (passes : ResidualArc → Type 0) (way : Bool) (places heads : List ℕ) (old new : List (Option Mark)) (depth first count : ℕ) → AreSeen passes way places heads old depth first count → ((v : ℕ) → IsSeen old v depth → IsSeen new v depth) → (passes (record { arc = get_or places count 0; forward = way }) → IsSeen new (get_or heads count 0) depth) → AreSeen passes way places heads new depth first (count + 1)
seen_next passes way places heads old new depth first count seen kept here p low high =
    elim (cases_eq p count) [
      | inl same ↦ rw same here
      | inr other ↦ (λ pass. kept (get_or heads p 0) (seen p low (omega (arith, high, other)) pass))
    ]

step_is : (s : ResidualArc) (k : ℕ) (way : Bool) → s.arc ≡ k → s.forward ≡ way → s ≡ record { arc = k; forward = way }
step_is s k way p q = rw (← p, ← q) refl

-- all residual arcs of a list are gone through
pub steps_seen : (nodes : ℕ) (arcs : List Arc) (passes : ResidualArc → Type 0) (way : Bool) (starts places heads : List ℕ) (marks : List (Option Mark)) (node depth : ℕ) → node < nodes → IsAdjacencyList nodes arcs way starts places heads → AreSeen passes way places heads marks depth (get_or starts node 0) (get_or starts (node + 1) 0) → (s : ResidualArc) (v : ℕ) → s.forward ≡ way → Leads arcs s node v → passes s → IsSeen marks v depth
steps_seen nodes arcs passes way starts places heads marks node depth inside list seen s v same lead pass =
    let ends = leads_ends arcs way s node v same lead in
    seen_stable marks v depth (λ unseen.
    list.all s.arc node (leads_within arcs s node v lead) ends.0 (λ p low high is.
    let step : s ≡ record { arc = get_or places p 0; forward = way } = step_is s (get_or places p 0) way (sym is) same in
    let head : get_or heads p 0 ≡ v = sym (list.leads node p inside low high) ∙ ap (λ k. head_of way (arc_at arcs k)) is ∙ ends.1 in
    unseen (rw head at (seen p low high (rw step at pass)))))

way_cases : {P : Type 0} (way : Bool) → (way ≡ false → P) → (way ≡ true → P) → P
way_cases true back along = along refl
way_cases false back along = back refl

-- all residual arcs of both lists are gone through
pub visit_end : (nodes : ℕ) (arcs : List Arc) (passes : ResidualArc → Type 0) (place : Place) (found : Found) → IsVisiting nodes arcs passes place found → ((s : ResidualArc) (v : ℕ) → s.forward ≡ false → Leads arcs s place.node v → passes s → IsSeen found.marks v place.depth) → ((s : ResidualArc) (v : ℕ) → s.forward ≡ true → Leads arcs s place.node v → passes s → IsSeen found.marks v place.depth) → IsSearching nodes arcs passes place.start found (place.next + 1)
visit_end nodes arcs passes place found visit back along =
    search_done nodes arcs passes place.start found.marks found.order.items place.next visit.search place.node visit.now
    (λ s v lead pass. rw visit.deep at (way_cases s.forward (λ way. back s v way lead pass) (λ way. along s v way lead pass)))
