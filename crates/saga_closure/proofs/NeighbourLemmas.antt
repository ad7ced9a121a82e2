-- The entries of a definition's lists are its needs, each at its step.
use Rattle.std.proofs.Common.{ℕ, ◌≡◌, ◌<◌, ◌+◌, ◌∙◌, Bool, true, false, not, List, Some, length, get_or, sym, subst, refl, arith, inl, inr}
use Rattle.std.specs.Prelude.{slice_get, Contains}
use Rattle.std.proofs.lemmas.Bool.{cases_lt}
use Rattle.std.proofs.lemmas.List.{get_or_default}
use Rattle.std.proofs.lemmas.Option.{slice_get_within, slice_get-get_or, same_Some}
use Rattle.saga_def.specs.Contents.{Contents}
use Rattle.saga_def.specs.Order.{NeedsDirectly}
use Rattle.saga_def.specs.Rules.{AreKnown, AreSingle}
use Rattle.saga_def.specs.Neighbours.{a_need}
use Rattle.saga_def.specs.declared.steps.Need.{Need}
use Rattle.saga_flow.specs.Residual.{IsOpen}
use Rattle.saga_closure.specs.Capacities.{terms_by}
use Rattle.saga_closure.specs.CaseNet.{network_of}
use Rattle.saga_closure.specs.Links.{need_over, arc_over, LetsThrough, AreLinks}
use Rattle.saga_closure.proofs.ArcCases.{no_need, opens_link, opens_unlink}

-- a need is what is read at its place
pub read_need : (needs : List Need) (k : ℕ) (n : Need) → slice_get needs k ≡ Some n → (k < length needs) × (get_or needs k no_need ≡ n)
read_need needs k n at =
    let lt : k < length needs = slice_get_within needs k n at in
    (lt, same_Some _ _ (sym (slice_get-get_or needs k no_need lt) ∙ at))

-- and stands among the needs
pub has_need : (needs : List Need) (k b a : ℕ) → slice_get needs k ≡ Some (a_need b a) → NeedsDirectly needs b a
has_need needs k b a at =
    let read = read_need needs k (a_need b a) at in
    (k, read.0, get_or_default needs k (a_need b a) no_need read.0 ∙ read.1)

-- no need stands at two places
apart : (needs : List Need) (i j : ℕ) (n : Need) → AreSingle needs → i < j → slice_get needs i ≡ Some n → slice_get needs j ≡ Some n → ⊥
apart needs i j n single lt at_i at_j =
    single i j no_need lt (read_need needs j n at_j).0 ((read_need needs i n at_i).1 ∙ sym (read_need needs j n at_j).1)

pub same_place : (needs : List Need) (i j : ℕ) (n : Need) → AreSingle needs → slice_get needs i ≡ Some n → slice_get needs j ≡ Some n → i ≡ j
same_place needs i j n single at_i at_j = elim (cases_lt i j) [
  | inl less ↦ absurd (apart needs i j n single less at_i at_j)
  | inr le ↦ elim (cases_lt j i) [
    | inl more ↦ absurd (apart needs j i n single more at_j at_i)
    | inr ge ↦ omega (arith, le, ge)
  ]
]

-- ---- residual arcs over needs

-- a step to which one leads
link_known : (needs : List Need) (count k v w : ℕ) (forward : Bool) → AreKnown needs count → slice_get needs k ≡ Some (need_over forward v w) → w < count
link_known needs count k v w true known at =
    let read = read_need needs k (a_need v w) at in
    subst (λ (n : Need). n.on < count) read.1 (known k no_need read.0).1
link_known needs count k v w false known at =
    let read = read_need needs k (a_need w v) at in
    subst (λ (n : Need). n.step < count) read.1 (known k no_need read.0).0

-- a step's lists are its links
pub are_links : (needs : List Need) (count : ℕ) (forward : Bool) (v : ℕ) (steps places : List ℕ) → AreSingle needs → AreKnown needs count → length places ≡ length steps → ((e : ℕ) → e < length steps → slice_get needs (get_or places e 0) ≡ Some (need_over forward v (get_or steps e 0))) → ((k w : ℕ) → slice_get needs k ≡ Some (need_over forward v w) → Contains steps w) → AreLinks needs count forward v steps places
are_links needs count forward v steps places single known sized each all = record {
  sized = sized;
  inside = λ e lt. link_known needs count (get_or places e 0) v (get_or steps e 0) forward known (each e lt);
  each = each;
  all = λ k w at.
      let (e, lt, is) = all k w at in
      let same : get_or steps e 0 ≡ w = get_or_default steps e 0 w lt ∙ is in
      let at_e : slice_get needs (get_or places e 0) ≡ Some (need_over forward v w) = subst (λ x. slice_get needs (get_or places e 0) ≡ Some (need_over forward v x)) same (each e lt) in
      (e, lt, same, same_place needs (get_or places e 0) k (need_over forward v w) single at_e at);
}

-- those that let something through are open
pub opens_over : (d : Contents) (caps on : List ℕ) (k v w : ℕ) (forward : Bool) → slice_get d.needs k ≡ Some (need_over forward v w) → LetsThrough on (arc_over (length d.steps) forward k) → IsOpen (network_of (terms_by d caps)).arcs on (arc_over (length d.steps) forward k) (2 + v) (2 + w)
opens_over d caps on k v w true at pass =
    let read = read_need d.needs k (a_need v w) at in
    subst (λ (n : Need). IsOpen (network_of (terms_by d caps)).arcs on (arc_over (length d.steps) true k) (2 + n.step) (2 + n.on)) read.1 (opens_link (terms_by d caps) on k read.0)
opens_over d caps on k v w false at (inl never) = absurd (cc)
opens_over d caps on k v w false at (inr some) =
    let read = read_need d.needs k (a_need w v) at in
    subst (λ (n : Need). IsOpen (network_of (terms_by d caps)).arcs on (arc_over (length d.steps) false k) (2 + n.on) (2 + n.step)) read.1 (opens_unlink (terms_by d caps) on k read.0 some)

pub need_turned : (forward : Bool) (v w : ℕ) → need_over (not forward) v w ≡ need_over forward w v
need_turned true v w = refl
need_turned false v w = refl
