-- Weak duality: no flow of a case has a larger value than a closed set costs. So a plan whose flow has its cost as value is least.
use Rattle.std.proofs.Common.{ℕ, ◌≡◌, ◌<◌, ◌≤◌, ◌+◌, ◌∙◌, List, [], ◌∷◌, length, get_or, sym, refl, arith, suc}
use Rattle.std.specs.Prelude.{Bool, true, false, slice_index, if◌then◌else◌, ◌==◌}
use Rattle.std.proofs.lemmas.Bool.{eq-eqb, ne_eqb}
use Rattle.std.proofs.lemmas.List.Elements.{Contains-get_or}
use Rattle.saga_def.specs.declared.steps.Price.{Price}
use Rattle.saga_def.specs.declared.steps.Price.TheVariants.{Of, Never}
use Rattle.saga_def.specs.declared.steps.Need.{Need}
use Rattle.saga_def.specs.Order.{Steps, IsClosed, member}
use Rattle.saga_def.specs.Rules.{AreKnown}
use Rattle.saga_case.specs.declared.answers.Plan.{Plan}
use Rattle.saga_case.specs.Terms.{Terms, price_in, cost_of, AtMost, IsLeast}
use Rattle.saga_case.specs.Flow.{Flow, FitsIn, IsWithin, IsConserved, carried, into_step, out_of_step, sum_below, value_of}
use Rattle.saga_case.specs.Right.{flow_of, IsRightPlan}
use Rattle.saga_case.proofs.SumLemmas.{sum_same, sum_add, sum_zero, sum_one, sum_within}
use Rattle.saga_case.proofs.ClosedLemmas.{closed_direct}

-- the amount where the test holds
when : Bool → ℕ → ℕ
when b x = if b then x else 0

when_zero : (b : Bool) → when b 0 ≡ 0
unfolding when
when_zero true = refl
when_zero false = refl

when_add : (b : Bool) (x y : ℕ) → when b (x + y) ≡ when b x + when b y
unfolding when
when_add true x y = refl
when_add false x y = refl

-- what the needs carry whose end, their step or what they need, is a member: counted by the members
by_end : (end : Need → ℕ) (n : ℕ) (set : Steps) (needs : List Need) (links : List ℕ) → ((k : ℕ) (d : Need) → k < length needs → end (get_or needs k d) < n) → sum_below n (λ s. when (set s) (carried (λ (m : Need). end m == s) needs links)) ≡ carried (λ (m : Need). set (end m)) needs links
unfolding carried when
by_end end n set [] links known = sum_zero n _ (λ s lt. when_zero (set s))
by_end end n set (m ∷ needs) [] known = sum_zero n _ (λ s lt. when_zero (set s))
by_end end n set (m ∷ needs) (x ∷ links) known =
    let first : ℕ → ℕ = λ s. when (set s) (when (end m == s) x) in
    let others : ℕ → ℕ = λ s. when (set s) (carried (λ (k : Need). end k == s) needs links) in
    let split : sum_below n (λ s. when (set s) (when (end m == s) x + carried (λ (k : Need). end k == s) needs links)) ≡ sum_below n (λ s. first s + others s) =
    sum_same n _ _ (λ s lt. when_add (set s) _ _) in
    let one : sum_below n first ≡ first (end m) =
    sum_one n (end m) first (known 0 m (omega arith)) (λ s lt apart. rw (ne_eqb (end m) s (λ e. apart (sym e))) (when_zero (set s))) in
    let here : first (end m) ≡ when (set (end m)) x = rw (eq-eqb (end m) (end m) refl) refl in
    let rest : sum_below n others ≡ carried (λ (k : Need). set (end k)) needs links =
    by_end end n set needs links (λ k d lt. known (suc k) d (omega (arith, lt))) in
    omega (arith, split, sum_add n first others, one, here, rest)

-- what the needs of members carry, they carry to members of a closed set
carried_le : (p q : Need → Bool) (needs : List Need) (links : List ℕ) → ((k : ℕ) (d : Need) → k < length needs → p (get_or needs k d) ≡ true → q (get_or needs k d) ≡ true) → carried p needs links ≤ carried q needs links
unfolding carried
carried_le p q [] links implies = omega arith
carried_le p q (m ∷ needs) [] implies = omega arith
carried_le p q (m ∷ needs) (x ∷ links) implies =
    let rest : carried p needs links ≤ carried q needs links = carried_le p q needs links (λ k d lt. implies (suc k) d (omega (arith, lt))) in
    let here : (if p m then x else 0) ≤ (if q m then x else 0) = first_le (p m) (q m) (λ e. implies 0 m (omega arith) e) in
    omega (arith, rest, here)
  where
    first_le : (a b : Bool) → (a ≡ true → b ≡ true) → (if a then x else 0) ≤ (if b then x else 0)
    first_le false b imp = omega arith
    first_le true b imp = rw (imp refl) (omega arith)

-- at each step: what leaves the source, and what comes in at a member, is what the set's price bounds, and what goes out at a member
balance : (b : Bool) (leave stand into out : ℕ) → leave + into ≡ stand + out → leave + when b into ≡ (if b then stand else leave) + when b out
unfolding when
balance true leave stand into out even = even
balance false leave stand into out even = refl

-- no flow of a case has a larger value than a closed set costs
pub value-le-cost : (t : Terms) (f : Flow) (set : Steps) (cost : ℕ) → AreKnown t.needs t.count → IsWithin t f → IsConserved t f → IsClosed t.needs set → cost_of t set ≡ Of cost → value_of t f ≤ cost
value-le-cost t f set cost known within conserved closed priced =
    let leave : ℕ → ℕ = slice_index f.leave in
    let stand : ℕ → ℕ = slice_index f.stand in
    let ins : ℕ → ℕ = λ s. when (set s) (into_step t f s) in
    let outs : ℕ → ℕ = λ s. when (set s) (out_of_step t f s) in
    let cut : ℕ → ℕ = λ s. if set s then stand s else leave s in
    let even : sum_below t.count (λ s. leave s + ins s) ≡ sum_below t.count (λ s. cut s + outs s) =
    sum_same t.count _ _ (λ s lt. balance (set s) (leave s) (stand s) (into_step t f s) (out_of_step t f s) (conserved.at_step s lt)) in
    let comes_in : sum_below t.count ins ≡ carried (λ (m : Need). set m.on) t.needs f.links =
    by_end (λ (m : Need). m.on) t.count set t.needs f.links (λ k d lt. (known k d lt).1) in
    let goes_out : sum_below t.count outs ≡ carried (λ (m : Need). set m.step) t.needs f.links =
    by_end (λ (m : Need). m.step) t.count set t.needs f.links (λ k d lt. (known k d lt).0) in
    let stays : carried (λ (m : Need). set m.step) t.needs f.links ≤ carried (λ (m : Need). set m.on) t.needs f.links =
    carried_le _ _ t.needs f.links (λ k d lt here. closed_direct t.needs set closed (get_or t.needs k d).step (get_or t.needs k d).on here (Contains-get_or t.needs k d lt)) in
    let cuts : sum_below t.count cut ≤ cost =
    sum_within t.count cut (price_in t set) cost (λ s lt. fits (set s) (leave s) (stand s) (t.leave s) (t.stand s) (within.leave s lt) (within.stand s lt)) priced in
    omega (arith, even, sum_add t.count leave ins, sum_add t.count cut outs, comes_in, goes_out, stays, cuts)
  where
    fits : (b : Bool) (x y : ℕ) (p q : Price) → FitsIn x p → FitsIn y q → FitsIn (if b then y else x) (if b then q else p)
    fits true x y p q fx fy = fy
    fits false x y p q fx fy = fx

-- a right plan is least
pub IsLeast-plan : (t : Terms) (plan : Plan) → AreKnown t.needs t.count → IsRightPlan t plan → IsLeast t (member plan.kept)
IsLeast-plan t plan known right = record {
  allowed = record { closed = right.closed; priced = λ never. let bad = sym right.priced ∙ never in cc };
  least = λ other allowed. rw right.priced (bounded (cost_of t other) (λ c is.
      rw (← right.valued) (value-le-cost t (flow_of plan) other c known right.within right.conserved allowed.closed is)));
}
  where
    bounded : (p : Price) → ((c : ℕ) → p ≡ Of c → plan.cost ≤ c) → AtMost (Of plan.cost) p
    bounded (Of c) le = le c refl
    bounded Never le = tt
