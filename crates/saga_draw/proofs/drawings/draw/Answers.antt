use Rattle.std.proofs.Common.{option_map, string_bytes}
use Rattle.saga_draw.proofs.DrawingLemmas.{drawn}
use Rattle.saga_draw.proofs.NameLemmas.{plain_names}
use Rattle.saga_draw.proofs.drawings.draw.Goals as goal

pub returns-clause-text : goal.returns-clause-text
returns-clause-text c =
    drawn c.args.definition.now (option_map (λ s. s.now) c.args.states) (option_map (λ a. a.now) c.args.answer) c.in_ok-marks.marks
    (string_bytes c.new-text.result) (string_bytes c.push_head.new.text) (string_bytes c.push_nodes.new.text) (string_bytes c.push_edges.new.text) (string_bytes c.push_str.new.self)
    c.in_ok-marks.ensures c.new-text.ensures.bytes (rw (← c.name.ensures) c.in_ok-push_head.ensures) c.in_ok-push_nodes.ensures
    (rw (← c.all_steps.ensures.items, ← c.all_needs.ensures.items) c.in_ok-push_edges.ensures) c.in_ok-push_str.ensures.bytes

pub returns-clause-names : goal.returns-clause-names
returns-clause-names c = plain_names c.args.definition.now c.all_steps.ensures.sound
