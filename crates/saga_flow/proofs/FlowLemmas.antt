-- The empty flow to begin with, and what holds when the sink is no longer reached; paths of unbounded arcs.
use Rattle.std.proofs.Common.{◌≡◌, ℕ, ◌^◌, ◌<◌, ◌≤◌, Bool, true, false, not, cond, eqb, List, Option, [], ◌∷◌, ◌++◌, Some, None, length, get_or, replicate, refl, sym, ap, ◌∙◌, inl, inr, arith}
use Rattle.std.specs.Prelude.{is_some}
use Rattle.std.proofs.lemmas.Bool.{true≢false, cases_lt}
use Rattle.std.proofs.lemmas.List.{length-replicate, get_or-replicate, get_or_past}
use Rattle.std.proofs.lemmas.Option.{same_Some, slice_get_within, get_or_from_slice_get}
use Rattle.saga_flow.specs.declared.nets.Arc.{Arc}
use Rattle.saga_flow.specs.declared.nets.Cap.{Cap}
use Rattle.saga_flow.specs.declared.nets.Cap.TheVariants.{Of, Unbounded}
use Rattle.saga_flow.specs.declared.residual_arcs.ResidualArc.{ResidualArc}
use Rattle.saga_flow.specs.Network.{IsNetwork}
use Rattle.saga_flow.specs.Flows.{out_of, into, IsWithin, IsFlow, HasValue, IsGreatest}
use Rattle.saga_flow.specs.Reached.{Reaches, HasUnbounded, IsPath}
use Rattle.saga_flow.specs.Residual.{Joins, Leads, Carries, IsResidual}
use Rattle.saga_flow.specs.Rounds.{IsTrail, IsReachedIn}
use Rattle.saga_flow.specs.Listed.{turned, IsEndless, LeadsEndless}
use Rattle.saga_flow.specs.Search.{IsSearchTree, IsBeforeGoal, IsHomeArc}
use Rattle.saga_flow.specs.Progress.{IsProgress}
use Rattle.saga_flow.specs.Marks.{Mark, mark_at}
use Rattle.saga_flow.proofs.ResidualArcLemmas.{leads_turned, from_turned_twice, to_turned_twice}
use Rattle.saga_flow.proofs.NetLemmas.{AreEnds, AreEnds-from_test}
use Rattle.saga_flow.proofs.TotalLemmas.{total-same, total-none}
use Rattle.saga_flow.proofs.RoundLemmas.{open_count_le}
use Rattle.saga_flow.proofs.LeastCut.{value_le_sum, closed_greatest, reached_in_closed}
use Rattle.saga_flow.proofs.TreeLemmas.{marked_reached, reached_marked, tree_passes, no_goal, unmarked_goal}

-- each amount of the empty flow is 0
empty_at : (n k : ℕ) → get_or {A = ℕ} (replicate n 0) k 0 ≡ 0
empty_at n k =
    elim (cases_lt k n) [
      | inl less ↦ get_or-replicate n k 0 0 less
      | inr more ↦ get_or_past (replicate n 0) k 0 (omega (arith, length-replicate {A = ℕ} n 0))
    ]

within_none : (x : ℕ) (cap : Cap) → x ≡ 0 → IsWithin x cap
within_none x (Of c) h = omega arith
within_none x Unbounded h = tt

either_none : (b : Bool) (x : ℕ) → x ≡ 0 → cond b x 0 ≡ 0
either_none true x h = h
either_none false x h = refl

-- nothing leaves or enters
empty_out : (arcs : List Arc) (node : ℕ) → out_of arcs (replicate (length arcs) 0) node ≡ 0
empty_out arcs node =
    total-same _ (λ a x. 0) arcs (replicate (length arcs) 0) (λ k a at. either_none (eqb a.from node) _ (empty_at (length arcs) k)) ∙ total-none arcs _

empty_into : (arcs : List Arc) (node : ℕ) → into arcs (replicate (length arcs) 0) node ≡ 0
empty_into arcs node =
    total-same _ (λ a x. 0) arcs (replicate (length arcs) 0) (λ k a at. either_none (eqb a.to node) _ (empty_at (length arcs) k)) ∙ total-none arcs _

-- 0 at the source, 1 elsewhere
abbrev first_level : ℕ → ℕ
first_level node = cond (eqb node 0) 0 1

first_le : (node : ℕ) → first_level node ≤ 1
first_le node = one (eqb node 0)
  where
    one : (b : Bool) → cond b 0 1 ≤ 1
    one true = omega arith
    one false = omega arith

-- the empty flow
pub progress_start : (nodes : ℕ) (arcs : List Arc) → 1 < nodes → IsProgress nodes arcs (replicate (length arcs) 0) 0 0
progress_start nodes arcs two = record {
  flow = record {
    sized = length-replicate (length arcs) 0;
    within = λ k a at. within_none _ a.cap (empty_at (length arcs) k);
    conserved = λ node p q. empty_into arcs node ∙ sym (empty_out arcs node);
  };
  worth = omega (arith, empty_into arcs 0, empty_out arcs 0);
  limit = λ k. omega (arith, empty_at (length arcs) k);
  reached = IsReachedIn.none;
  few = omega arith;
  budget = record {
    level = first_level;
    levelled = record { source = refl; near = λ s u v step. omega (arith, first_le v) };
    low = omega arith;
    spent = omega (arith, open_count_le first_level arcs (replicate (length arcs) 0));
  };
}

-- the value stays in range
pub progress_small : (nodes : ℕ) (arcs : List Arc) (on : List ℕ) (value rounds : ℕ) → IsNetwork (record { nodes = nodes; arcs = arcs }) → (Reaches (HasUnbounded arcs) 0 1 → ⊥) → IsProgress nodes arcs on value rounds → value < 2 ^ 63
progress_small nodes arcs on value rounds net apart progress =
    omega (arith, net.bounded, value_le_sum nodes arcs on value net.two (AreEnds-from_test nodes arcs net.ends) apart progress.flow progress.worth)

module _ (nodes : ℕ) (arcs : List Arc) (on : List ℕ) (marks : List (Option Mark)) (tree : IsSearchTree nodes arcs (Carries arcs on 1) 0 None marks) where
  marked_at : (v : ℕ) (o : Option Mark) → mark_at marks v ≡ o → is_some o ≡ true → Reaches (IsResidual arcs on) 0 v
  marked_at v None at test = absurd (true≢false (sym test))
  marked_at v (Some m) at test = marked_reached nodes arcs (Carries arcs on 1) 0 None marks tree v m at

  -- the marked nodes are those that the source reaches
  pub marks_sound : (v : ℕ) → is_some (mark_at marks v) ≡ true → Reaches (IsResidual arcs on) 0 v
  marks_sound v test = marked_at v (mark_at marks v) refl test

  pub marks_whole : (v : ℕ) → Reaches (IsResidual arcs on) 0 v → is_some (mark_at marks v) ≡ true
  marks_whole v r =
      let mark = reached_marked nodes arcs (Carries arcs on 1) 0 None marks tree (no_goal marks) v r in
      ap is_some mark.1

-- the nodes that a search has not marked
abbrev pub unmarked : List (Option Mark) → ℕ → Bool
unmarked marks v = not (is_some (mark_at marks v))

-- no residual arc of the other direction leads from a node without a mark to one with
pub unmarked_closed : (nodes : ℕ) (arcs : List Arc) (passes : ResidualArc → Type 0) (start : ℕ) (goal : Option ℕ) (marks : List (Option Mark)) → IsSearchTree nodes arcs passes start goal marks → ((depth : ℕ) → IsBeforeGoal goal marks depth) → (s : ResidualArc) (u v : ℕ) → Leads arcs s v u → passes s → unmarked marks u ≡ true → unmarked marks v ≡ true
unmarked_closed nodes arcs passes start goal marks tree whole s u v lead pass none = at_mark (mark_at marks v) refl
  where
    at_mark : (o : Option Mark) → mark_at marks v ≡ o → unmarked marks v ≡ true
    at_mark None at = ap (λ o. not (is_some o)) at
    at_mark (Some m) at =
        let seen = tree.near s v u m lead pass at (whole m.depth) in
        absurd (true≢false (sym none ∙ ap (λ o. not (is_some o)) seen.1))

module _ (nodes : ℕ) (arcs : List Arc) (on : List ℕ) (marks : List (Option Mark)) (tree : IsSearchTree nodes arcs (λ s. Carries arcs on 1 (turned s)) 1 (Some 0) marks) (none : is_some (mark_at marks 0) ≡ false) where
  unmarked_source : unmarked marks 0 ≡ true
  unmarked_source = ap not none

  marked_sink : unmarked marks 1 ≡ false
  marked_sink = ap (λ o. not (is_some o)) tree.root

  no_step_out : (u v : ℕ) → IsResidual arcs on u v → unmarked marks u ≡ true → unmarked marks v ≡ true
  no_step_out u v (s, opened) =
      unmarked_closed nodes arcs (λ t. Carries arcs on 1 (turned t)) 1 (Some 0) marks tree (unmarked_goal marks none) (turned s) u v (leads_turned arcs s u v opened.0) (to_turned_twice (Carries arcs on 1) s opened.1)

  -- where the source has no mark the sink is not reached, and the flow is a greatest
  pub unmarked_apart : Reaches (IsResidual arcs on) 0 1 → ⊥
  unmarked_apart r =
      true≢false (sym (reached_in_closed (IsResidual arcs on) (unmarked marks) 0 1 unmarked_source no_step_out r) ∙ marked_sink)

  pub unmarked_greatest : (value : ℕ) → AreEnds nodes arcs → IsFlow arcs on → HasValue arcs on value → IsGreatest arcs value
  unmarked_greatest value ends flow worth =
      closed_greatest (unmarked marks) nodes arcs on value ends flow worth unmarked_source marked_sink no_step_out

-- an unbounded arc is a residual arc along it
endless_step : (arcs : List Arc) (u v : ℕ) → HasUnbounded arcs u v → (s : ResidualArc) × (Leads arcs s u v × IsEndless arcs s)
endless_step arcs u v (k, a, at, from, to, cap) = (record { arc = k; forward = true }, ((a, at, (from, to)), (refl, (a, at, cap))))

-- where a search backward along unbounded arcs did not mark the source, no path of them leads to the sink
pub endless_apart : (nodes : ℕ) (arcs : List Arc) (marks : List (Option Mark)) → IsSearchTree nodes arcs (λ s. IsEndless arcs (turned s)) 1 (Some 0) marks → is_some (mark_at marks 0) ≡ false → Reaches (HasUnbounded arcs) 0 1 → ⊥
endless_apart nodes arcs marks tree none r =
    true≢false (sym (reached_in_closed (HasUnbounded arcs) (unmarked marks) 0 1 (ap not none) closed r) ∙ ap (λ o. not (is_some o)) tree.root)
  where
    closed : (u v : ℕ) → HasUnbounded arcs u v → unmarked marks u ≡ true → unmarked marks v ≡ true
    closed u v arc =
        let step = endless_step arcs u v arc in
        unmarked_closed nodes arcs (λ t. IsEndless arcs (turned t)) 1 (Some 0) marks tree (unmarked_goal marks none) (turned step.0) u v (leads_turned arcs step.0 u v step.1.0) (to_turned_twice (IsEndless arcs) step.0 step.1.1)

-- a residual arc home of such a search is along an unbounded arc
pub home_endless : (nodes : ℕ) (arcs : List Arc) (marks : List (Option Mark)) → IsSearchTree nodes arcs (λ s. IsEndless arcs (turned s)) 1 (Some 0) marks → (s : ResidualArc) (u v : ℕ) → IsHomeArc arcs marks s u v → LeadsEndless arcs s u v
home_endless nodes arcs marks tree s u v (lead, step) =
    (lead, from_turned_twice (IsEndless arcs) s (tree_passes nodes arcs (λ t. IsEndless arcs (turned t)) 1 (Some 0) marks tree (turned s) v u step))

joins_along : (way : Bool) (a : Arc) (u v : ℕ) → way ≡ true → Joins way a u v → (a.from ≡ u) × (a.to ≡ v)
joins_along true a u v p joins = joins
joins_along false a u v p joins = absurd (true≢false (sym p))

pub endless_arc : (arcs : List Arc) (s : ResidualArc) (u v : ℕ) → LeadsEndless arcs s u v → HasUnbounded arcs u v
endless_arc arcs s u v ((a, at, joins), (way, (b, at_b, cap))) =
    let same : b ≡ a = same_Some _ _ (sym at_b ∙ at) in
    let ends = joins_along s.forward a u v way joins in
    (s.arc, a, at, ends.0, ends.1, rw same at cap)

-- and the node that it leads to is the arc's
pub endless_head : (arcs : List Arc) (s : ResidualArc) (u v : ℕ) (d : Arc) → LeadsEndless arcs s u v → (get_or arcs s.arc d).to ≡ v
endless_head arcs s u v d ((a, at, joins), (way, b)) =
    ap (λ (c : Arc). c.to) (get_or_from_slice_get arcs s.arc a d at) ∙ (joins_along s.forward a u v way joins).1

-- one node more at the end of a path
path_push : (R : ℕ → ℕ → Type 0) (path : List ℕ) (u v : ℕ) → IsPath R path u → R u v → IsPath R (path ++ v ∷ []) v
path_push R [] u v path step = absurd path
path_push R (x ∷ []) u v path step = (rw path step, refl)
path_push R (x ∷ y ∷ path) u v (first, rest) step = (first, path_push R (y ∷ path) u v rest step)

-- the nodes of the first residual arcs of a trail
pub record IsWalk (arcs : List Arc) (nodes : List ℕ) (rest : List ResidualArc) : Type 0 where
  pub first : (others : List ℕ) × (nodes ≡ 0 ∷ others)
  pub at : ℕ
  pub path : IsPath (HasUnbounded arcs) nodes at
  pub trail : IsTrail (LeadsEndless arcs) at rest 1

pub walk_start : (arcs : List Arc) (nodes : List ℕ) (steps : List ResidualArc) → nodes ≡ 0 ∷ [] → IsTrail (LeadsEndless arcs) 0 steps 1 → IsWalk arcs nodes steps
walk_start arcs nodes steps is trail = rw is (record { first = ([], refl); at = 0; path = refl; trail = trail })

pub walk_more : (arcs : List Arc) (nodes : List ℕ) (s : ResidualArc) (rest : List ResidualArc) (d : Arc) → IsWalk arcs nodes (s ∷ rest) → IsWalk arcs (nodes ++ (get_or arcs s.arc d).to ∷ []) rest
walk_more arcs nodes s rest d walk =
    let step = walk.trail in
    let head = endless_head arcs s walk.at step.0 d step.1 in
    rw head (record {
      first = (walk.first.0 ++ step.0 ∷ [], ap (λ xs. xs ++ step.0 ∷ []) walk.first.1);
      at = step.0;
      path = path_push (HasUnbounded arcs) nodes walk.at step.0 walk.path (endless_arc arcs s walk.at step.0 step.1);
      trail = step.2;
    })

-- a residual arc of a trail is over an arc of the net
pub walk_within : (arcs : List Arc) (nodes : List ℕ) (s : ResidualArc) (rest : List ResidualArc) → IsWalk arcs nodes (s ∷ rest) → s.arc < length arcs
walk_within arcs nodes s rest walk = slice_get_within arcs s.arc _ walk.trail.1.0.1

pub walk_end : (arcs : List Arc) (nodes : List ℕ) (rest : List ResidualArc) → rest ≡ [] → IsWalk arcs nodes rest → IsPath (HasUnbounded arcs) nodes 1
walk_end arcs nodes rest none walk =
    let ends : walk.at ≡ 1 = rw none at walk.trail in
    rw ends at walk.path
