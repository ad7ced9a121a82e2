use Rattle.std.proofs.Common.{◌∙◌, ap, codes, map, string_bytes}
use Rattle.saga_views.specs.Words.{listed}
use Rattle.saga_views.proofs.busy.busy_text.Goals as goal

pub returns : goal.returns
returns c =
    let told = c.as_str.ensures.value ∙ (c.in_ok-tasks.ensures ∙ ap (listed (codes ",")) (ap (map string_bytes) c.deref.ensures.value ∙ c.in_ok-busy_texts.ensures)) in
    rw (← told) c.concat.ensures.ok
