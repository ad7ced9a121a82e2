-- Names need no escape.
use Rattle.std.proofs.Common.{◌∙◌, ℕ, List, sym, ap}
use Rattle.std.specs.Prelude.{IsTrue, ◌≢◌}
use Rattle.std.proofs.lemmas.Bool.{false≢true}
use Rattle.std.proofs.lemmas.List.Elements.{All-weaker}
use Rattle.saga_def.specs.Contents.{Contents}
use Rattle.saga_def.specs.Rules.{IsName, is_name_byte}
use Rattle.saga_def.specs.declared.steps.Step.{Step}
use Rattle.saga_def.specs.Sound.{IsSound}
use Rattle.saga_draw.specs.Drawings.{HasPlainNames, NeedsNoEscape}

plain : (byte : ℕ) → IsTrue (is_name_byte byte) → (byte ≢ 34) × (byte ≢ 92)
plain byte good = (
  λ quote. false≢true (sym (ap is_name_byte quote) ∙ good),
  λ backslash. false≢true (sym (ap is_name_byte backslash) ∙ good),
)

plain_name : (text : List ℕ) → IsName text → NeedsNoEscape text
plain_name text good = All-weaker (λ byte. IsTrue (is_name_byte byte)) (λ byte. (byte ≢ 34) × (byte ≢ 92)) plain text good.bytes

pub plain_names : (d : Contents) → IsSound d → HasPlainNames d
plain_names d sound = record {
  saga = plain_name d.name sound.names.0;
  steps = All-weaker (λ (s : Step). IsName s.name) (λ (s : Step). NeedsNoEscape s.name) (λ s. plain_name s.name) d.steps sound.names.1;
}
