use Rattle.std.proofs.Common.{rules, ◌≡◌, ℕ, ◌+◌, ◌-◌, ◌<◌, ◌++◌, ◌∷◌, [], length, Option, Some, Bool, true, List, sym, ◌∙◌, subst, refl, arith, ◌==◌}
use Rattle.std.specs.Prelude.{if◌then◌else◌, slice_get}
use Rattle.std.specs.BTreeMap.{get}
use Rattle.std.specs.Ordering.{nat_cmp}
use Rattle.std.proofs.lemmas.Option.{slice_get_read}
use Rattle.saga_history.specs.declared.events.Event.{Event}
use Rattle.saga_history.specs.Changes.{saga_of}
use Rattle.saga_audit.specs.declared.chains.Link.{Link}
use Rattle.saga_audit.specs.Chains.{AreChains}
use Rattle.saga_audit.specs.Groups.{is_in}
use Rattle.saga_audit.proofs.ChainLemmas.{add_event, new_link}
use Rattle.saga_audit.proofs.chains.chains_of.Goals as goal

pub loop-place-preserved-in-Continue-branch-2 : goal.loop-place-preserved-in-Continue-branch-2
loop-place-preserved-in-Continue-branch-2 c =
    let events : List Event = c.args.events.now in
    let mine : ℕ → Bool = is_in c.args.workers c.args.group in
    let place : ℕ = c.loop-place.place - 1 in
    let links : List Link = c.loop-place.links.items in
    let e : Event = c.index-events-place.result in
    let old : ℕ → Option ℕ = get nat_cmp c.loop-place.heads in
    let new : ℕ → Option ℕ = get nat_cmp c.insert.new.self in
    let some : 0 < c.loop-place.place = search rules in
    let within : place < length events = omega (arith, some, c.loop-place.invariant.1) in
    let here : slice_get events place ≡ Some e = slice_get_read events (length events) place e refl within c.index-events-place.is in
    let again : place + 1 ≡ c.loop-place.place = omega (arith, some) in
    let ours : mine (saga_of e) ≡ true = rw c.saga-saga.ensures at (sym c.is_in.ensures ∙ c.if-is_in.true) in
    let put : (q : ℕ) → new q ≡ (if c.saga-saga.result == q then Some (length links) else old q) = search rules in
    let written : (q : ℕ) → new q ≡ (if saga_of e == q then Some (length links) else old q) = rw c.saga-saga.ensures at put in
    let next : c.in_ok-next.next ≡ old (saga_of e) = rw c.saga-saga.ensures at c.in_ok-next.ensures.old in
    let pushed : c.push.new.self.items ≡ links ++ new_link place c.in_ok-next.next ∷ [] = search rules in
    let made : c.push.new.self.items ≡ links ++ new_link place (old (saga_of e)) ∷ [] = rw next at pushed in
    let chains : AreChains mine events links old (place + 1) = subst (AreChains mine events links old) (sym again) c.loop-place.invariant.0 in
    (rw made (add_event mine events links old new place e here ours written chains), omega (arith, within))
