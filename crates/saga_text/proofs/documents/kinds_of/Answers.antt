use Rattle.std.proofs.Common.{◌≡◌, length, map, arith}
use Rattle.std.proofs.lemmas.List.{length-map}
use Rattle.toml.specs.View.{view}
use Rattle.saga_text.specs.Drafts.{names_of}
use Rattle.saga_text.specs.Format.{step_of, needs_of}
use Rattle.saga_bytes.proofs.ReadingLemmas.{length-each}
use Rattle.saga_text.proofs.documents.kinds_of.Goals as goal

pub invariant_of-result : goal.invariant_of-result
invariant_of-result c =
    let items = map view c.in_ok-items.items.now in
    let steps : length c.in_ok-steps.steps.items ≡ length items = length-each step_of items _ c.in_ok-steps.ensures in
    let needs : length (map names_of c.in_ok-needs.needs.items) ≡ length items = length-each needs_of items _ c.in_ok-needs.ensures in
    let names = length-map c.in_ok-needs.needs.items names_of in
    record { paired = omega arith }
