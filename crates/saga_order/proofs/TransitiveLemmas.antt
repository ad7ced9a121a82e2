-- Facts about the closure of what precedes what while they are made.
use Rattle.std.proofs.Common.{ℕ, ◌≡◌, ◌<◌, ◌≤◌, ◌*◌, ◌∙◌, Bool, true, false, List, [], ◌∷◌, ◌++◌, length, get_or, set, replicate, sym, ap, subst, inl, inr, arith}
use Rattle.std.specs.Prelude.{◌↔◌, IsTrue, Contains, All, ◌==◌, ◌%◌}
use Rattle.std.proofs.lemmas.Bool.{cases_eq, both_ways, or_cases, or_left, or_right}
use Rattle.std.proofs.lemmas.Grind.{div_ceil_times}
use Rattle.std.proofs.lemmas.List.{length-set, length-replicate}
use Rattle.std.proofs.lemmas.List.Elements.{All-set, All-replicate, Contains-push, Contains-push_cases, Contains-append_left}
use Rattle.std.proofs.lemmas.Nat.Bits.{bit_at-zero}
use Rattle.saga_def.specs.Order.{NeedsDirectly, Precedes}
use Rattle.saga_order.specs.Shape.{Shape}
use Rattle.saga_def.specs.Neighbours.{AreNeedsOf}
use Rattle.saga_order.specs.Bits.{holds, words_for, IsEmptyFor, IsWith, IsJoined}
use Rattle.saga_order.specs.TopologicalOrder.{IsTopologicalOrder}
use Rattle.saga_order.specs.TransitiveClosure.{set_at, IsTransitiveClosure, AreNarrow, ArePrecedingOver}
use Rattle.saga_order.proofs.Chains.{precedes_direct, precedes_through, precedes_first}
use Rattle.saga_order.proofs.ListLemmas.{none_in, set_at-read, set_at-replicate, set_at-set_cases}

-- the words for so many steps have room for each of them
pub room_for : (count s : ℕ) → s < count → s < 64 * words_for count
room_for count s below = omega (arith, (div_ceil_times count 64 (omega arith)).0)

holds_nil : (s : ℕ) → holds [] s ≡ false
holds_nil s = ap (λ (b : ℕ). b == 1) (bit_at-zero (s % 64))

-- ---- one preceding

pub preceding_none : (closure : List (List ℕ)) (preceding : List ℕ) → IsEmptyFor (length closure) preceding → ArePrecedingOver [] closure preceding
preceding_none closure preceding none = record {
  sized = none.sized;
  found = λ x is. absurd (both_ways (holds preceding x) (none.empty x) is);
  direct = λ a has. absurd (none_in a has);
  further = λ a x has is. absurd (none_in a has);
}

with_kept : (preceding grown : List ℕ) (on a : ℕ) → IsWith preceding on grown → holds preceding a ≡ true → holds grown a ≡ true
with_kept preceding grown on a more is =
    elim (cases_eq a on) [
      | inl e ↦ rw e more.same
      | inr ne ↦ more.others a ne ∙ is
    ]

pub preceding_more : (front : List ℕ) (on : ℕ) (closure : List (List ℕ)) (preceding grown joined : List ℕ) → ArePrecedingOver front closure preceding → IsWith preceding on grown → IsJoined grown (set_at closure on) joined → ArePrecedingOver (front ++ on ∷ []) closure joined
preceding_more front on closure preceding grown joined old more both = record {
  sized = both.sized ∙ more.sized ∙ old.sized;
  found = λ x is.
      elim (or_cases (holds grown x) (holds (set_at closure on) x) (sym (both.either x) ∙ is)) [
        | inl in_grown ↦
            elim (cases_eq x on) [
              | inl e ↦ (on, Contains-push front on, inl e)
              | inr ne ↦
                  let before = old.found x (sym (more.others x ne) ∙ in_grown) in
                  (before.0, Contains-append_left front (on ∷ []) before.0 before.1, before.2)
            ]
        | inr in_preceding ↦ (on, Contains-push front on, inr in_preceding)
      ];
  direct = λ a has.
      elim (Contains-push_cases front on a has) [
        | inl earlier ↦ both.either a ∙ or_left (holds grown a) (holds (set_at closure on) a) (with_kept preceding grown on a more (old.direct a earlier))
        | inr here ↦ both.either a ∙ or_left (holds grown a) (holds (set_at closure on) a) (rw (← here) more.same)
      ];
  further = λ a x has is.
      elim (Contains-push_cases front on a has) [
        | inl earlier ↦ both.either x ∙ or_left (holds grown x) (holds (set_at closure on) x) (with_kept preceding grown on x more (old.further a x earlier is))
        | inr here ↦ both.either x ∙ or_right (holds grown x) (holds (set_at closure on) x) (rw here is)
      ];
}

-- ---- the closure of the first steps in order

pub record IsClosureOf (shape : Shape) (front : List ℕ) (closure : List (List ℕ)) : Type 0 where
  pub sized : length closure ≡ shape.count
  pub narrow : AreNarrow closure
  pub found : (b x : ℕ) → holds (set_at closure b) x ≡ true → Precedes shape.needs x b
  pub all : (b x : ℕ) → Contains front b → Precedes shape.needs x b → holds (set_at closure b) x ≡ true

narrow_none : (count : ℕ) → AreNarrow (replicate count [])
narrow_none count =
    let width : ℕ = words_for (length (replicate {A = List ℕ} count [])) in
    All-replicate (λ (preceding : List ℕ). length preceding ≤ width) count [] (omega arith)

pub closure_none : (shape : Shape) → IsClosureOf shape [] (replicate shape.count [])
closure_none shape = record {
  sized = length-replicate shape.count [];
  narrow = narrow_none shape.count;
  found = λ b x is. absurd (both_ways (holds [] x) (holds_nil x) (rw (set_at-replicate shape.count b) at is));
  all = λ b x has before. absurd (none_in b has);
}

-- a preceding over the closure of what is needed holds what precedes the step
preceding_found : (shape : Shape) (front needed : List ℕ) (closure : List (List ℕ)) (step : ℕ) (preceding : List ℕ) → AreNeedsOf shape.needs step needed → IsClosureOf shape front closure → ArePrecedingOver needed closure preceding → (x : ℕ) → holds preceding x ≡ true → Precedes shape.needs x step
preceding_found shape front needed closure step preceding are old over x is =
    let from = over.found x is in
    let direct : NeedsDirectly shape.needs step from.0 = are.found from.0 from.1 in
    elim from.2 [
      | inl e ↦ rw e (precedes_direct shape.needs step from.0 direct)
      | inr further ↦ precedes_through shape.needs step from.0 x direct (old.found from.0 x further)
    ]

preceding_all : (shape : Shape) (front needed : List ℕ) (closure : List (List ℕ)) (step : ℕ) (preceding : List ℕ) → AreNeedsOf shape.needs step needed → ((a : ℕ) → NeedsDirectly shape.needs step a → Contains front a) → IsClosureOf shape front closure → ArePrecedingOver needed closure preceding → (x : ℕ) → Precedes shape.needs x step → holds preceding x ≡ true
preceding_all shape front needed closure step preceding are earlier old over x before =
    let from = precedes_first shape.needs step x before in
    let has : Contains needed from.0 = are.all from.0 from.1 in
    elim from.2 [
      | inl e ↦ rw e (over.direct from.0 has)
      | inr further ↦ over.further from.0 x has (old.all from.0 x (earlier from.0 from.1) further)
    ]

pub closure_more : (shape : Shape) (front needed : List ℕ) (closure : List (List ℕ)) (step : ℕ) (preceding : List ℕ) → step < shape.count → AreNeedsOf shape.needs step needed → ((a : ℕ) → NeedsDirectly shape.needs step a → Contains front a) → IsClosureOf shape front closure → ArePrecedingOver needed closure preceding → IsClosureOf shape (front ++ step ∷ []) (set closure step preceding)
closure_more shape front needed closure step preceding known are earlier old over =
    let within : step < length closure = rw old.sized known in
    record {
      sized = length-set closure step preceding ∙ old.sized;
      narrow =
          let P : ℕ → Type 0 = λ count. All (λ (r : List ℕ). length r ≤ words_for count) (set closure step preceding) in
          subst P (sym (length-set closure step preceding))
          (All-set (λ (r : List ℕ). length r ≤ words_for (length closure)) closure step preceding (omega (arith, over.sized)) old.narrow);
      found = λ b x is.
          elim (set_at-set_cases closure step preceding within b) [
            | inl (e, here) ↦ rw e (preceding_found shape front needed closure step preceding are old over x (rw here at is))
            | inr (ne, other) ↦ old.found b x (rw other at is)
          ];
      all = λ b x has before.
          elim (set_at-set_cases closure step preceding within b) [
            | inl (e, here) ↦ rw here (preceding_all shape front needed closure step preceding are earlier old over x (rw e at before))
            | inr (ne, other) ↦
                elim (Contains-push_cases front step b has) [
                  | inl placed ↦ rw other (old.all b x placed before)
                  | inr same ↦ absurd (ne (sym same))
                ]
          ];
    }

-- all of them
pub closure_all : (shape : Shape) (front order : List ℕ) (closure : List (List ℕ)) → front ≡ order → IsTopologicalOrder shape order → IsClosureOf shape front closure → IsTransitiveClosure shape closure
closure_all shape front order closure whole placement old = record {
  sized = old.sized;
  found = old.found;
  all = λ b x below before. old.all b x (rw whole (placement.all b below)) before;
}

pub read_closure : (shape seen : Shape) (closure : List (List ℕ)) → IsTransitiveClosure shape closure → shape ≡ seen → (a b : ℕ) (preceding : List ℕ) (answer : Bool) → b < seen.count → preceding ≡ get_or closure b preceding → answer ≡ holds preceding a → IsTrue answer ↔ Precedes seen.needs a b
read_closure shape seen closure are is a b preceding answer within read answers =
    let within' : b < shape.count = rw is within in
    let at_list : preceding ≡ set_at closure b = set_at-read closure b preceding (rw are.sized within') read in
    let answers' : answer ≡ holds (set_at closure b) a = rw at_list at answers in
    subst (λ (s : Shape). IsTrue answer ↔ Precedes s.needs a b) is
    ((λ yes. are.found b a (sym answers' ∙ yes)), (λ before. answers' ∙ are.all b a within' before))
