-- Facts about the steps while they are listed.
use Rattle.std.proofs.Common.{ℕ, ◌≡◌, ◌<◌, ◌≤◌, ◌+◌, ◌*◌, ◌∙◌, Bool, true, false, List, [], ◌∷◌, ◌++◌, length, get_or, set, replicate, refl, sym, subst, inl, inr, arith, get_or-set_other}
use Rattle.std.specs.Prelude.{◌⊎◌, Contains, All, count_by, not, cond}
use Rattle.std.specs.List.{sum_by}
use Rattle.std.proofs.lemmas.Bool.{cases_eq, cases_lt, both_ways}
use Rattle.std.proofs.lemmas.List.{length-set, length-replicate, length_push, get_or-replicate, get_or_past, get_or_append_left, get_or_push, take-append-le, take_at, get_or_default}
use Rattle.std.proofs.lemmas.List.Elements.{All-push, Contains-push, Contains-push_cases, Contains-append_left, Contains-get_or}
use Rattle.std.proofs.lemmas.List.Sums.{sum_by-set, count_by-le-length}
use Rattle.std.proofs.lemmas.List.Folds.{sum_by-replicate}
use Rattle.saga_def.specs.Order.{NeedsDirectly, Precedes, IsAcyclic}
use Rattle.saga_order.specs.Shape.{Shape, IsOrdered}
use Rattle.saga_def.specs.Neighbours.{AreNeedsOf}
use Rattle.saga_order.specs.TopologicalOrder.{is_marked, IsTopological, IsTopologicalOrder, AreAbove, HasVisited}
use Rattle.saga_order.proofs.Chains.{precedes_direct, precedes_trans, known_on}
use Rattle.saga_order.proofs.ListLemmas.{none_in}

-- ---- marks

pub marked_cases : (marks : List Bool) (step : ℕ) → step < length marks → (s : ℕ) → is_marked (set marks step true) s ≡ true → (s ≡ step) ⊎ (is_marked marks s ≡ true)
marked_cases marks step within s is =
    elim (cases_eq s step) [
      | inl e ↦ inl e
      | inr ne ↦ inr (sym (get_or-set_other marks step s true false ne) ∙ is)
    ]

pub none_marked : (count s : ℕ) → is_marked (replicate count false) s ≡ true → ⊥
none_marked count s is =
    both_ways (is_marked (replicate count false) s)
    (elim (cases_lt s count) [
      | inl lt ↦ get_or-replicate count s false false lt
      | inr past ↦ get_or_past (replicate count false) s false (rw length-replicate past)
    ])
    is

-- a mark leaves one step less without
pub count_marked : (marks : List Bool) (step : ℕ) → step < length marks → is_marked marks step ≡ false → count_by not (set marks step true) + 1 ≡ count_by not marks
count_marked marks step within fresh =
    let one : Bool → ℕ = λ mark. cond (not mark) 1 0 in
    let all : sum_by one (set marks step true) + one (get_or marks step false) ≡ sum_by one marks + one true = sum_by-set one marks step true false within in
    omega (arith, rw fresh at all)

pub none_few : (count : ℕ) → count_by not (replicate count false) ≤ count
none_few count = omega (arith, count_by-le-length not (replicate count false), length-replicate count false)

-- ---- an order that grows

pub in_order_none : (shape : Shape) → IsTopological shape []
in_order_none shape = record {
  within = λ k d below. absurd (omega arith);
  earlier = λ k a below direct. absurd (omega arith);
}

pub in_order_push : (shape : Shape) (order : List ℕ) (step : ℕ) → IsTopological shape order → step < shape.count → ((a : ℕ) → NeedsDirectly shape.needs step a → Contains order a) → IsTopological shape (order ++ step ∷ [])
in_order_push shape order step old within listed = record {
  within = All-push (λ (s : ℕ). s < shape.count) order step old.within within;
  earlier = λ k a below direct.
      let short : k < length order + 1 = omega (arith, length_push order step) in
      elim (cases_lt k (length order)) [
        | inl inside ↦
            rw (take-append-le k order (step ∷ []) (omega arith))
            (old.earlier k a inside (rw (get_or_append_left order (step ∷ []) 0 k inside) at direct))
        | inr past ↦
            let last : length order ≡ k = omega arith in
            rw (take_at order (step ∷ []) k last) (listed a (rw (get_or_push order step 0 k last) at direct))
      ];
}

-- ---- placing one step

-- what the loop over the needs of a step has done: the state at its start is marked and order, and the needs that it
-- has passed are listed
pub record HasPassed (shape : Shape) (marked : List Bool) (order : List ℕ) (passed : List ℕ) (visited : List Bool) (order' : List ℕ) : Type 0 where
  pub in_order : IsTopological shape order'
  pub sized : length visited ≡ length marked
  pub listed : (a : ℕ) → Contains passed a → Contains order' a
  pub kept : (s : ℕ) → Contains order s → Contains order' s
  pub settled : (s : ℕ) → is_marked visited s ≡ true → Contains order' s ⊎ (is_marked marked s ≡ true)
  pub fewer : count_by not visited ≤ count_by not marked
  pub room : length order' + count_by not visited ≤ length order + count_by not marked

pub passed_none : (shape : Shape) (marked : List Bool) (order : List ℕ) → IsTopological shape order → HasPassed shape marked order [] marked order
passed_none shape marked order in_order = record {
  in_order = in_order;
  sized = refl;
  listed = λ a has. absurd (none_in a has);
  kept = λ s has. has;
  settled = λ s is. inr is;
  fewer = omega arith;
  room = omega arith;
}

-- a need that was not visited was listed by a call
pub passed_call : (shape : Shape) (marked : List Bool) (order passed : List ℕ) (on : ℕ) (visited new : List Bool) (order' last : List ℕ) → HasPassed shape marked order passed visited order' → HasVisited shape visited order' on new last → HasPassed shape marked order (passed ++ on ∷ []) new last
passed_call shape marked order passed on visited new order' last old done = record {
  in_order = done.in_order;
  sized = done.sized ∙ old.sized;
  listed = λ a has.
      elim (Contains-push_cases passed on a has) [
        | inl earlier ↦ done.kept a (old.listed a earlier)
        | inr here ↦ subst (λ (s : ℕ). Contains last s) here done.listed
      ];
  kept = λ s has. done.kept s (old.kept s has);
  settled = λ s is.
      elim (done.settled s is) [
        | inl has ↦ inl has
        | inr before ↦ elim (old.settled s before) [ inl has ↦ inl (done.kept s has) | inr first ↦ inr first ]
      ];
  fewer = omega (arith, old.fewer, done.fewer);
  room = omega (arith, old.room, done.room);
}

-- a need that is visited already is listed
pub passed_visited : (shape : Shape) (marked : List Bool) (order passed : List ℕ) (on : ℕ) (visited : List Bool) (order' : List ℕ) → HasPassed shape marked order passed visited order' → Contains order' on → HasPassed shape marked order (passed ++ on ∷ []) visited order'
passed_visited shape marked order passed on visited order' old there = record {
  in_order = old.in_order;
  sized = old.sized;
  listed = λ a has.
      elim (Contains-push_cases passed on a has) [
        | inl earlier ↦ old.listed a earlier
        | inr here ↦ subst (λ (s : ℕ). Contains order' s) here there
      ];
  kept = old.kept;
  settled = old.settled;
  fewer = old.fewer;
  room = old.room;
}

-- in the loop of a step, an visited step is listed, or is the step, or is above it
pub passed_cases : (shape : Shape) (first : List Bool) (order : List ℕ) (step : ℕ) (passed : List ℕ) (visited : List Bool) (order' : List ℕ) → step < length first → AreAbove shape first order step → HasPassed shape (set first step true) order passed visited order' → (s : ℕ) → is_marked visited s ≡ true → Contains order' s ⊎ ((s ≡ step) ⊎ Precedes shape.needs step s)
passed_cases shape first order step passed visited order' within above old s is =
    elim (old.settled s is) [
      | inl has ↦ inl has
      | inr before ↦
          elim (marked_cases first step within s before) [
            | inl here ↦ inr (inl here)
            | inr was ↦ elim (above.above s was) [ inl has ↦ inl (old.kept s has) | inr over ↦ inr (inr over) ]
          ]
    ]

-- so what the loop calls for a need may be called
pub above_need : (shape : Shape) (first : List Bool) (order : List ℕ) (step on : ℕ) (passed : List ℕ) (visited : List Bool) (order' : List ℕ) → step < length first → AreAbove shape first order step → HasPassed shape (set first step true) order passed visited order' → NeedsDirectly shape.needs step on → AreAbove shape visited order' on
above_need shape first order step on passed visited order' within above old direct = record {
  above = λ s is.
      let before : Precedes shape.needs on step = precedes_direct shape.needs step on direct in
      elim (passed_cases shape first order step passed visited order' within above old s is) [
        | inl has ↦ inl has
        | inr other ↦
            elim other [
              | inl here ↦ inr (rw here before)
              | inr over ↦ inr (precedes_trans shape.needs on step s before over)
            ]
      ];
}

-- and a need that is visited is listed, since no step precedes itself
pub need_visited : (shape : Shape) (first : List Bool) (order : List ℕ) (step on : ℕ) (passed : List ℕ) (visited : List Bool) (order' : List ℕ) → IsAcyclic shape.needs → step < length first → AreAbove shape first order step → HasPassed shape (set first step true) order passed visited order' → NeedsDirectly shape.needs step on → is_marked visited on ≡ true → Contains order' on
need_visited shape first order step on passed visited order' acyclic within above old direct is =
    let before : Precedes shape.needs on step = precedes_direct shape.needs step on direct in
    elim (passed_cases shape first order step passed visited order' within above old on is) [
      | inl has ↦ has
      | inr other ↦
          elim other [
            | inl here ↦ absurd (acyclic.none step (rw here at before))
            | inr over ↦ absurd (acyclic.none step (precedes_trans shape.needs step on step over before))
          ]
    ]

-- the need that the loop is at
pub need_at : (shape : Shape) (step : ℕ) (list : List ℕ) (i : ℕ) → AreNeedsOf shape.needs step list → i < length list → NeedsDirectly shape.needs step (get_or list i 0)
need_at shape step list i are below = are.found (get_or list i 0) (Contains-get_or list i 0 below)

-- after the loop the step itself is listed
pub visited_step : (shape : Shape) (first : List Bool) (order : List ℕ) (step : ℕ) (needs : List ℕ) (visited : List Bool) (order' : List ℕ) → step < shape.count → step < length first → is_marked first step ≡ false → AreNeedsOf shape.needs step needs → HasPassed shape (set first step true) order needs visited order' → HasVisited shape first order step visited (order' ++ step ∷ [])
visited_step shape first order step needs visited order' known within fresh are old =
    let counted : count_by not (set first step true) + 1 ≡ count_by not first = count_marked first step within fresh in
    record {
      in_order = in_order_push shape order' step old.in_order known (λ a direct. old.listed a (are.all a direct));
      sized = old.sized ∙ length-set first step true;
      listed = Contains-push order' step;
      kept = λ s has. Contains-append_left order' (step ∷ []) s (old.kept s has);
      settled = λ s is.
          elim (old.settled s is) [
            | inl has ↦ inl (Contains-append_left order' (step ∷ []) s has)
            | inr before ↦
                elim (marked_cases first step within s before) [
                  | inl here ↦ inl (rw here (Contains-push order' step))
                  | inr was ↦ inr was
                ]
          ];
      fewer = omega (arith, old.fewer);
      room = omega (arith, old.room, length_push order' step);
    }

-- ---- placing all

-- no step is between: the visited steps are listed, and those below a number
pub record AreAllVisited (shape : Shape) (visited : List Bool) (order : List ℕ) (below : ℕ) : Type 0 where
  pub in_order : IsTopological shape order
  pub sized : length visited ≡ shape.count
  pub settled : (s : ℕ) → is_marked visited s ≡ true → Contains order s
  pub listed : (s : ℕ) → s < below → Contains order s
  pub room : length order + count_by not visited ≤ shape.count

pub all_none : (shape : Shape) → AreAllVisited shape (replicate shape.count false) [] 0
all_none shape =
    let one : Bool → ℕ = λ mark. cond (not mark) 1 0 in
    let all : sum_by one (replicate shape.count false) ≡ shape.count * one false = sum_by-replicate one shape.count false in
    record {
      in_order = in_order_none shape;
      sized = length-replicate shape.count false;
      settled = λ s is. absurd (none_marked shape.count s is);
      listed = λ s lt. absurd (omega arith);
      room = omega (arith, all);
    }

pub all_above : (shape : Shape) (visited : List Bool) (order : List ℕ) (below : ℕ) → AreAllVisited shape visited order below → AreAbove shape visited order below
all_above shape visited order below old = record { above = λ s is. inl (old.settled s is) }

below_next : (P : ℕ → Type 0) (below : ℕ) → ((s : ℕ) → s < below → P s) → P below → (s : ℕ) → s < below + 1 → P s
below_next P below earlier here s lt =
    elim (cases_lt s below) [
      | inl before ↦ earlier s before
      | inr past ↦ let is : below ≡ s = omega arith in subst P is here
    ]

pub all_call : (shape : Shape) (visited : List Bool) (order : List ℕ) (below : ℕ) (new : List Bool) (order' : List ℕ) → AreAllVisited shape visited order below → HasVisited shape visited order below new order' → AreAllVisited shape new order' (below + 1)
all_call shape visited order below new order' old done = record {
  in_order = done.in_order;
  sized = done.sized ∙ old.sized;
  settled = λ s is. elim (done.settled s is) [ inl has ↦ has | inr was ↦ done.kept s (old.settled s was) ];
  listed = below_next (λ (s : ℕ). Contains order' s) below (λ s lt. done.kept s (old.listed s lt)) done.listed;
  room = omega (arith, old.room, done.room);
}

pub all_visited : (shape : Shape) (visited : List Bool) (order : List ℕ) (below : ℕ) → AreAllVisited shape visited order below → is_marked visited below ≡ true → AreAllVisited shape visited order (below + 1)
all_visited shape visited order below old is = record {
  in_order = old.in_order;
  sized = old.sized;
  settled = old.settled;
  listed = below_next (λ (s : ℕ). Contains order s) below old.listed (old.settled below is);
  room = old.room;
}

pub all_are_listed : (shape : Shape) (visited : List Bool) (order : List ℕ) (below : ℕ) → AreAllVisited shape visited order below → shape.count ≤ below → IsTopologicalOrder shape order
all_are_listed shape visited order below old past = record {
  in_order = old.in_order;
  few = omega (arith, old.room);
  all = λ s lt. old.listed s (omega arith);
}

-- what a step needs is known
pub needs_within : (shape : Shape) (step : ℕ) (list : List ℕ) → IsOrdered shape → AreNeedsOf shape.needs step list → All (λ (a : ℕ). a < shape.count) list
needs_within shape step list ordered are = λ k d below.
    let a : ℕ = get_or list k d in
    known_on shape.needs shape.count step a ordered.known (are.found a (k, below, get_or_default list k a d below))
