use Rattle.std.proofs.Common.{◌≡◌, ℕ, ◌-◌, ◌∙◌, ap, arith, IfOk, Result, List, subst}
use Rattle.std.specs.declared.alloc.AllocError.{AllocError}
use Rattle.std.specs.List.{range_with_len, AllZip}
use Rattle.rayon.specs.Numbers.{nat_range}
use Rattle.rayon.proofs.ListFacts.{IfOk-then}
use Rattle.saga_audit.specs.declared.answers.Finding.{Finding}
use Rattle.saga_audit.specs.Groups.{Finds, is_in}
use Rattle.saga_audit.proofs.audits.find_all.Goals as goal

pub returns : goal.returns
returns g c =
    let ends = c.into_par_iter.ensures in
    let n = c.args.workers in
    let whole : n - 0 ≡ n = omega arith in
    IfOk-then c.collect.result _ _ c.collect.ensures (λ v h.
    let chain = rw (c.map.ensures.base, c.map.ensures.f, c.with_min_len.ensures.base) at h.1 in
    let places = chain.1 ∙ (λ i. nat_range (ends.0 i) (ends.1 i)) ∙ ap (range_with_len 0) whole in
    rw h.2 (subst (λ (z : List ℕ). AllZip (λ (k : ℕ) (r : Result Finding AllocError). IfOk r (Finds c.args.shelf.now (is_in c.args.workers k) c.args.events.now)) z h.0) places chain.2))
