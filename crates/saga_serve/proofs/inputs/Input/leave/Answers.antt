use Rattle.std.proofs.Common.{◌≡◌, ◌∙◌, ◌-◌, ◌≤◌, List, ℕ, ap, drop, length, subst, sym, take}
use Rattle.saga_serve.specs.Inputs.{Input}
use Rattle.saga_serve.proofs.InputLemmas.{left_last}
use Rattle.saga_serve.proofs.inputs.Input.leave.Goals as goal

pub returns-clause-left : goal.returns-clause-left
returns-clause-left c =
    let inside = c.self.inside in
    let bytes = inside.buffer.items in
    let is : take (inside.until - inside.from) (drop inside.from bytes) ≡ c.args.self.now.left = ap (λ (i : Input). i.left) c.self.view_is in
    let few = subst (λ (l : List ℕ). c.args.left ≤ length l) (sym is) c.requires in
    left_last bytes inside.from inside.until c.args.left c.self.invariant.0 c.self.invariant.1 few
    ∙ ap (λ (l : List ℕ). drop (length l - c.args.left) l) is
