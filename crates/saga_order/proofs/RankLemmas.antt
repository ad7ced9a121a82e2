-- Facts about the ranks while they are made.
use Rattle.std.proofs.Common.{ℕ, ◌≡◌, ◌<◌, ◌≤◌, ◌+◌, ◌∙◌, max, zero, suc, List, [], ◌∷◌, ◌++◌, length, get_or, set, replicate, refl, sym, subst, inl, inr, arith, get_or-set_same, get_or-set_other}
use Rattle.std.specs.Prelude.{Contains, All}
use Rattle.std.proofs.lemmas.Bool.{cases_eq, cases_lt}
use Rattle.std.proofs.lemmas.List.{length-set, length-replicate, length_push, get_or_past, get_or_read}
use Rattle.std.proofs.lemmas.List.Elements.{All-set, All-weaker, All-replicate, Contains-push, Contains-push_cases, Contains-append_left}
use Rattle.saga_def.specs.declared.steps.Need.{Need}
use Rattle.saga_def.specs.Order.{NeedsDirectly, Leads}
use Rattle.saga_order.specs.Shape.{Shape}
use Rattle.saga_def.specs.Neighbours.{AreNeedsOf}
use Rattle.saga_order.specs.TopologicalOrder.{IsTopologicalOrder}
use Rattle.saga_order.specs.Rank.{IsRank, AreRanks, IsNextRank}
use Rattle.saga_order.proofs.ListLemmas.{none_in}

-- ---- the rank over the ranks of what is needed

pub next_none : (ranks : List ℕ) → IsNextRank [] ranks 0
next_none ranks = record { above = λ a has. absurd (none_in a has); least = inl refl }

pub next_more : (front ranks : List ℕ) (on rank : ℕ) → IsNextRank front ranks rank → IsNextRank (front ++ on ∷ []) ranks (max rank (get_or ranks on 0 + 1))
next_more front ranks on rank old = record {
  above = λ a has.
      elim (Contains-push_cases front on a has) [
        | inl earlier ↦ let below : get_or ranks a 0 < rank = old.above a earlier in omega arith
        | inr here ↦ rw (← here) (omega arith)
      ];
  least =
      elim (cases_lt (get_or ranks on 0) rank) [
        | inl lower ↦
            let same : max rank (get_or ranks on 0 + 1) ≡ rank = omega arith in
            elim old.least [
              | inl none ↦ inl (same ∙ none)
              | inr (a, has, is) ↦ inr (a, Contains-append_left front (on ∷ []) a has, same ∙ is)
            ]
        | inr higher ↦ inr (on, Contains-push front on, omega arith)
      ];
}

-- no chain that begins at a step is longer than the rank over what it needs
longest_over : (needs : List Need) (b : ℕ) (needed ranks : List ℕ) (rank : ℕ) → AreNeedsOf needs b needed → ((a : ℕ) → Contains needed a → IsRank needs a (get_or ranks a 0)) → IsNextRank needed ranks rank → (n c : ℕ) → Leads needs n b c → n ≤ rank
longest_over needs b needed ranks rank are right next zero c leads = omega arith
longest_over needs b needed ranks rank are right next (suc n) c (a, direct, leads) =
    let has : Contains needed a = are.all a direct in
    let below : get_or ranks a 0 < rank = next.above a has in
    let short : n ≤ get_or ranks a 0 = (right a has).longest n c leads in
    omega arith

pub longer : (needs : List Need) (n b a c rank : ℕ) → rank ≡ n + 1 → NeedsDirectly needs b a → Leads needs n a c → Leads needs rank b c
longer needs n b a c rank is direct leads =
    let chain : Leads needs (suc n) b c = (a, direct, leads) in
    let next : suc n ≡ rank = omega arith in
    subst (λ (k : ℕ). Leads needs k b c) next chain

pub none_on : (needs : List Need) (b rank : ℕ) → rank ≡ 0 → Leads needs rank b b
none_on needs b rank is = let chain : Leads needs zero b b = refl in subst (λ (k : ℕ). Leads needs k b b) (sym is) chain

-- where the ranks of what is needed are right, the next one is
pub rank_from_next : (needs : List Need) (b : ℕ) (needed ranks : List ℕ) (rank : ℕ) → AreNeedsOf needs b needed → ((a : ℕ) → Contains needed a → IsRank needs a (get_or ranks a 0)) → IsNextRank needed ranks rank → IsRank needs b rank
rank_from_next needs b needed ranks rank are right next = record {
  reached =
      elim next.least [
        | inl none ↦ (b, none_on needs b rank none)
        | inr (a, has, is) ↦
            ((right a has).reached.0, longer needs (get_or ranks a 0) b a (right a has).reached.0 rank is (are.found a has) (right a has).reached.1)
      ];
  longest = longest_over needs b needed ranks rank are right next;
}

-- ---- the ranks of the first steps in order

pub record AreRanksOf (shape : Shape) (front ranks : List ℕ) : Type 0 where
  pub sized : length ranks ≡ shape.count
  pub small : All (λ (rank : ℕ). rank ≤ length front) ranks
  pub each : (b : ℕ) → Contains front b → IsRank shape.needs b (get_or ranks b 0)

pub ranks_none : (shape : Shape) → AreRanksOf shape [] (replicate shape.count 0)
ranks_none shape = record {
  sized = length-replicate shape.count 0;
  small = All-replicate (λ (rank : ℕ). rank ≤ 0) shape.count 0 (omega arith);
  each = λ b has. absurd (none_in b has);
}

next_small : (front needed ranks : List ℕ) (rank : ℕ) → All (λ (r : ℕ). r ≤ length front) ranks → IsNextRank needed ranks rank → rank ≤ length front + 1
next_small front needed ranks rank small next =
    elim next.least [
      | inl none ↦ omega arith
      | inr (a, has, is) ↦
          elim (cases_lt a (length ranks)) [
            | inl inside ↦ let short : get_or ranks a 0 ≤ length front = small a 0 inside in omega arith
            | inr past ↦ let zero_is : get_or ranks a 0 ≡ 0 = get_or_past ranks a 0 past in omega arith
          ]
    ]

pub ranks_more : (shape : Shape) (front needed ranks : List ℕ) (step rank : ℕ) → step < shape.count → AreNeedsOf shape.needs step needed → ((a : ℕ) → NeedsDirectly shape.needs step a → Contains front a) → AreRanksOf shape front ranks → IsNextRank needed ranks rank → AreRanksOf shape (front ++ step ∷ []) (set ranks step rank)
ranks_more shape front needed ranks step rank known are earlier old next =
    let within : step < length ranks = rw old.sized known in
    let is : IsRank shape.needs step rank =
    rank_from_next shape.needs step needed ranks rank are (λ a has. old.each a (earlier a (are.found a has))) next in
    record {
      sized = length-set ranks step rank ∙ old.sized;
      small = rw length_push (All-set (λ (r : ℕ). r ≤ length front + 1) ranks step rank (next_small front needed ranks rank old.small next)
          (All-weaker (λ (r : ℕ). r ≤ length front) (λ (r : ℕ). r ≤ length front + 1) (λ r short. omega arith) ranks old.small));
      each = λ b has.
          elim (cases_eq b step) [
            | inl e ↦ rw (e, get_or-set_same ranks step rank 0 within) is
            | inr ne ↦
                elim (Contains-push_cases front step b has) [
                  | inl before ↦ rw (get_or-set_other ranks step b rank 0 ne) (old.each b before)
                  | inr here ↦ absurd (ne (sym here))
                ]
          ];
    }

-- all of them
pub ranks_all : (shape : Shape) (front order ranks : List ℕ) → front ≡ order → IsTopologicalOrder shape order → AreRanksOf shape front ranks → AreRanks shape ranks
ranks_all shape front order ranks whole placement old = record {
  sized = old.sized;
  each = λ b below. old.each b (rw whole (placement.all b below));
}

pub read_rank : (shape seen : Shape) (ranks : List ℕ) → AreRanks shape ranks → shape ≡ seen → (step rank : ℕ) → step < seen.count → rank ≡ get_or ranks step rank → IsRank seen.needs step rank
read_rank shape seen ranks are is step rank within read =
    let within' : step < shape.count = rw is within in
    subst (λ (s : Shape). IsRank s.needs step rank) is
    (subst (λ (r : ℕ). IsRank shape.needs step r) (sym (get_or_read ranks step rank (rw are.sized within') read 0)) (are.each step within'))
