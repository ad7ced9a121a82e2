use Rattle.std.proofs.Common.{◌≡◌, ◌<◌, ◌∙◌, sym, arith, length, take, true, false, is_some, length-take-le, Some}
use Rattle.std.proofs.lemmas.List.{take_more, take_all}
use Rattle.std.proofs.lemmas.Map.Text.{hash_map_updates_str}
use Rattle.saga_text.specs.Numbers.{at_text}
use Rattle.saga_text.proofs.NumberLemmas.{place_of-known, place_of-new, place_of-or_len}
use Rattle.saga_text.proofs.numbers.numbers_of.Goals as goal
use Rattle.saga_text.proofs.numbers.numbers_of.Goals.{then-not-contains_key+in_ok-insert, else-not-contains_key}

pub loop-number-preserved : goal.loop-number-preserved
loop-number-preserved c = λ name.
    let steps = c.args.steps.now in
    let number = c.loop-number.number in
    let step = c.index-steps-number.result in
    let before = take number steps in
    let within : number < length steps = omega arith in
    let same : c.as_str-name.result.now ≡ step.name = c.as_str-name.ensures in
    elim c.if-not-contains_key.branch [
      | then-not-contains_key+in_ok-insert w ↦
          let absent : is_some (at_text c.loop-number.numbers step.name) ≡ false = rw (← same) (sym c.contains_key.ensures ∙ w.if-not-contains_key.true) in
          let updated = hash_map_updates_str c.as_str-name.result.now c.loop-number.numbers w.insert.new.self (Some number) w.in_ok-insert.ensures.updates name in
          let long : length before ≡ number = length-take-le number steps (omega arith) in
          rw (w.numbers-is, updated, take_more steps number step within, ← c.index-steps-number.is, same, c.loop-number.invariant name, place_of-new before step name (rw (c.loop-number.invariant step.name) at absent), long)
      | else-not-contains_key w ↦
          let known : is_some (at_text c.loop-number.numbers step.name) ≡ true = rw (← same) (sym c.contains_key.ensures ∙ w.if-not-contains_key.false) in
          rw (w.numbers-is, c.loop-number.invariant name, take_more steps number step within, ← c.index-steps-number.is) (sym (place_of-known before step name (rw (c.loop-number.invariant step.name) at known)))
    ]

pub returns : goal.returns
returns c = λ name.
    let whole : take c.loop-number.number c.args.steps.now ≡ c.args.steps.now = take_all c.loop-number.number c.args.steps.now (omega arith) in
    rw (c.loop-number.invariant name, whole) (place_of-or_len c.args.steps.now name)
