-- What a finished search says: which nodes are reached, that its depths are levels, and where its marks lead back to.
use Rattle.std.proofs.Common.{◌≡◌, ◌≢◌, ℕ, zero, suc, ◌+◌, ◌-◌, ◌<◌, ◌≤◌, List, Option, [], ◌∷◌, ◌++◌, Some, None, length, refl, sym, ap, ◌∙◌, inl, inr, arith}
use Rattle.std.specs.Prelude.{is_some, false}
use Rattle.std.proofs.lemmas.Bool.{true≢false, cases_eq, cases_lt}
use Rattle.std.proofs.lemmas.Option.{none-some, same_Some}
use Rattle.saga_flow.specs.declared.nets.Arc.{Arc}
use Rattle.saga_flow.specs.declared.residual_arcs.ResidualArc.{ResidualArc}
use Rattle.saga_flow.specs.Residual.{Leads}
use Rattle.saga_flow.specs.Reached.{Reaches, here, next}
use Rattle.saga_flow.specs.Rounds.{IsTrail}
use Rattle.saga_flow.specs.Listed.{turned}
use Rattle.saga_flow.specs.Search.{IsSearchTree, IsTree, IsTreeArc, IsHomeArc, IsBeforeGoal}
use Rattle.saga_flow.proofs.ResidualArcLemmas.{leads_same, leads_turned, from_turned_twice, to_turned_twice}
use Rattle.saga_flow.specs.Residual.{Carries, IsOpen}
use Rattle.saga_flow.specs.Levels.{Nears, IsLevelled}
use Rattle.saga_flow.specs.Marks.{Mark, by_of, depth_at, depth_of, far_in, far_of, mark_at}
use Rattle.saga_flow.proofs.LevelLemmas.{trail_push}

-- a passing residual arc leads from one node to another
abbrev pub HasResidualArc : List Arc → (ResidualArc → Type 0) → ℕ → ℕ → Type 0
HasResidualArc arcs passes from to = (s : ResidualArc) × (Leads arcs s from to × passes s)

module _ (nodes : ℕ) (arcs : List Arc) (passes : ResidualArc → Type 0) (start : ℕ) (goal : Option ℕ) (marks : List (Option Mark)) (tree : IsSearchTree nodes arcs passes start goal marks) where
  -- a node with a mark is reached
  reached_below : (n v : ℕ) (m : Mark) → m.depth < n → mark_at marks v ≡ Some m → Reaches (HasResidualArc arcs passes) start v
  reached_below zero v m low at = absurd (omega arith)
  reached_below (suc n) v m low at =
      elim (cases_eq v start) [
        | inl same ↦ rw same here
        | inr other ↦
            (let found = tree.back v m at other in
            next (reached_below n found.1 found.2 (omega (arith, found.7)) found.6) (found.0, (found.4, found.5)))
      ]

  pub marked_reached : (v : ℕ) (m : Mark) → mark_at marks v ≡ Some m → Reaches (HasResidualArc arcs passes) start v
  marked_reached v m at = reached_below (m.depth + 1) v m (omega arith) at

  -- a node that is reached has a mark, where the goal has none
  pub reached_marked : ((depth : ℕ) → IsBeforeGoal goal marks depth) → (v : ℕ) → Reaches (HasResidualArc arcs passes) start v → (m : Mark) × (mark_at marks v ≡ Some m)
  reached_marked whole v here = (record { depth = 0; by = None }, tree.root)
  reached_marked whole v (next {mid} r step) =
      let before = reached_marked whole mid r in
      let seen = tree.near step.0 mid v before.0 step.1.0 step.1.1 before.1 (whole before.0.depth) in
      (seen.0, seen.1)

  -- its marks lead back
  pub tree_back : IsTree arcs start marks
  tree_back = record {
    root = tree.root;
    back = λ v m at other.
        let found = tree.back v m at other in
        (found.0, found.1, (found.4, (m, found.2, at, found.3, found.6, found.7)));
  }

  -- a node one deeper than another is not the start
  below_start : (v : ℕ) (m p : Mark) → mark_at marks v ≡ Some m → m.depth ≡ p.depth + 1 → v ≢ start
  below_start v m p at deep same =
      let root : m ≡ record { depth = 0; by = None } = same_Some _ _ (sym at ∙ ap (mark_at marks) same ∙ tree.root) in
      omega (arith, ap (λ (n : Mark). n.depth) root)

  -- a residual arc of the tree passes
  pub tree_passes : (s : ResidualArc) (u v : ℕ) → IsTreeArc arcs marks s u v → passes s
  tree_passes s u v (lead, (m, p, at, by, above, deep)) =
      let found = tree.back v m at (below_start v m p at deep) in
      let same : found.0 ≡ s = same_Some _ _ (sym found.3 ∙ by) in
      rw same at found.5

  -- no node is farther than there are nodes
  pub far_le : (v : ℕ) → far_in marks v ≤ nodes
  far_le v = at_mark (mark_at marks v) refl
    where
      at_mark : (o : Option Mark) → mark_at marks v ≡ o → far_in marks v ≤ nodes
      at_mark None at = rw at (omega (arith, tree.sized))
      at_mark (Some m) at = rw at (omega (arith, tree.shallow v m at))

  -- a passing residual arc leads at most one farther, or to a node at least as far as the goal
  pub far_step : (s : ResidualArc) (u v : ℕ) → Leads arcs s u v → passes s → ((m : Mark) → mark_at marks u ≡ Some m → IsBeforeGoal goal marks m.depth) → far_in marks v ≤ far_in marks u + 1
  far_step s u v lead pass before = at_mark (mark_at marks u) refl
    where
      at_mark : (o : Option Mark) → mark_at marks u ≡ o → far_in marks v ≤ far_in marks u + 1
      at_mark None at = rw at (omega (arith, far_le v, tree.sized))
      at_mark (Some m) at =
          let seen = tree.near s u v m lead pass at (before m at) in
          rw (at, seen.1) seen.2

-- a search without a goal has none before it; nor has one whose goal, the source, has no mark
pub no_goal : (marks : List (Option Mark)) (depth : ℕ) → IsBeforeGoal None marks depth
no_goal marks depth v m is at = absurd (none-some v is)

pub unmarked_goal : (marks : List (Option Mark)) → is_some (mark_at marks 0) ≡ false → (depth : ℕ) → IsBeforeGoal (Some 0) marks depth
unmarked_goal marks none depth v m is at =
    let same : 0 ≡ v = same_Some _ _ is in
    absurd (true≢false (sym (ap is_some (ap (mark_at marks) same ∙ at)) ∙ none))

-- a node is before the source where it is at least two nearer
pub before_source : (marks : List (Option Mark)) (depth : ℕ) → depth + 1 < far_in marks 0 → IsBeforeGoal (Some 0) marks depth
before_source marks depth nearer v m is at =
    let same : 0 ≡ v = same_Some _ _ is in
    let far : far_in marks 0 ≡ m.depth = ap (far_of (length marks)) (ap (mark_at marks) same ∙ at) in
    omega (arith, nearer, far)

-- one residual arc further: what the mark at hand says, and the trail with its residual arc turned round
pub home_more : (arcs : List Arc) (marks : List (Option Mark)) (start first node next_node : ℕ) (s : ResidualArc) (steps : List ResidualArc) → IsTree arcs start marks → (m : Mark) × (mark_at marks node ≡ Some m) → by_of (mark_at marks node) ≡ Some s → (to : ℕ) × Leads arcs s next_node to → IsTrail (IsHomeArc arcs marks) first steps node → IsTrail (IsHomeArc arcs marks) first (steps ++ turned s ∷ []) next_node × ((p : Mark) × (mark_at marks next_node ≡ Some p)) × (depth_at marks node ≡ depth_at marks next_node + 1)
home_more arcs marks start first node next_node s steps tree marked by leads trail =
    let here_by : marked.0.by ≡ Some s = sym (ap by_of marked.1) ∙ by in
    let other : node ≢ start = λ same. none-some s (sym (ap by_of (ap (mark_at marks) same ∙ tree.root)) ∙ by) in
    let found = tree.back node marked.0 marked.1 other in
    let step = found.2 in
    let same_mark : step.1.0 ≡ marked.0 = same_Some _ _ (sym step.1.2 ∙ marked.1) in
    let same_step : found.0 ≡ s = same_Some _ _ (sym step.1.3 ∙ ap (λ (n : Mark). n.by) same_mark ∙ here_by) in
    let same_from : found.1 ≡ next_node = (leads_same arcs s found.1 node next_node leads.0 (rw same_step at step.0) leads.1).0 in
    let tree_step : IsTreeArc arcs marks s next_node node = rw (same_step, same_from) at step in
    let above = tree_step.1.4 in
    let home : IsHomeArc arcs marks (turned s) node next_node = (leads_turned arcs s next_node node tree_step.0, to_turned_twice (λ t. IsTreeArc arcs marks t next_node node) s tree_step) in (
      trail_push (IsHomeArc arcs marks) steps (turned s) first node next_node trail home,
      (tree_step.1.1, above),
      ap depth_of tree_step.1.2 ∙ tree_step.1.5 ∙ ap (λ x. x + 1) (sym (ap depth_of above)),
    )

-- a search backward from the sink to the source, over the residual arcs that lead on in the residual network
module _ (nodes : ℕ) (arcs : List Arc) (on : List ℕ) (marks : List (Option Mark)) (tree : IsSearchTree nodes arcs (λ s. Carries arcs on 1 (turned s)) 1 (Some 0) marks) where
  -- a residual arc home is open and leads one nearer
  pub home_nears : (s : ResidualArc) (u v : ℕ) → IsHomeArc arcs marks s u v → Nears arcs on (far_in marks) s u v
  home_nears s u v (lead, step) =
      let pass = tree_passes nodes arcs (λ t. Carries arcs on 1 (turned t)) 1 (Some 0) marks tree (turned s) v u step in
      ((lead, from_turned_twice (Carries arcs on 1) s pass), ap (far_of (length marks)) step.1.2 ∙ step.1.5 ∙ ap (λ x. x + 1) (sym (ap (far_of (length marks)) step.1.4)))

  -- an open residual arc leads at most one nearer, from all nodes nearer than the source
  pub near_step : (s : ResidualArc) (u v : ℕ) → IsOpen arcs on s u v → far_in marks v + 1 < far_in marks 0 → far_in marks u ≤ far_in marks v + 1
  near_step s u v step nearer =
      far_step nodes arcs (λ t. Carries arcs on 1 (turned t)) 1 (Some 0) marks tree (turned s) v u (leads_turned arcs s u v step.0) (to_turned_twice (Carries arcs on 1) s step.1)
      (λ m at. before_source marks m.depth (omega (arith, nearer, ap (far_of (length marks)) at)))

  -- so how much nearer than the source a node is makes levels
  pub near_levelled : IsLevelled arcs on (λ v. far_in marks 0 - far_in marks v)
  near_levelled = record {
    source = omega arith;
    near = λ s u v step.
        elim (cases_lt (far_in marks v + 1) (far_in marks 0)) [
          | inl nearer ↦ omega (arith, near_step s u v step nearer)
          | inr farther ↦ omega (arith, farther)
        ];
  }

  -- at most as high as there are nodes
  pub near_low : far_in marks 0 - far_in marks 1 ≤ nodes
  near_low = omega (arith, far_le nodes arcs (λ t. Carries arcs on 1 (turned t)) 1 (Some 0) marks tree 0)
