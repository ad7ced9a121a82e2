-- Each step has the events that its state tells.
use Rattle.std.proofs.Common.{ℕ, ◌<◌, List, length}
use Rattle.std.specs.Prelude.{All}
use Rattle.saga_def.specs.Contents.{Contents}
use Rattle.saga_def.specs.Sound.{IsSound}
use Rattle.saga_history.specs.declared.events.Event.{Event}
use Rattle.saga_history.specs.Changes.{Change, changes}
use Rattle.saga_history.specs.States.{transitions}
use Rattle.saga_history.specs.Rules.{tries, undo_tries, IsLegal}
use Rattle.saga_history.specs.Tallies.{IsTallied, AllAreTallied}
use Rattle.saga_history.proofs.SagaLemmas.{saga_is_legal, IsLegalUnder, legal_under}
use Rattle.saga_history.proofs.TransitionLemmas.{in_sequence, FewMisses, few_misses}
use Rattle.saga_history.proofs.NeedLemmas.{pairs}
use Rattle.saga_history.proofs.HeadlineLemmas.{tally_of, definition_sound}
use Rattle.saga_history.proofs.TurnLemmas.{none_busy, drained_from}
use Rattle.saga_history.proofs.CountLemmas.{some_tries}

pub few_of : (d : Contents) (l : List Change) (s : ℕ) → IsSound d → IsLegalUnder d l → s < length d.steps → FewMisses (tries d s) (undo_tries d s) (transitions l s)
few_of d l s sound legal lt =
    let t = some_tries d s sound lt in
    few_misses (tries d s) (undo_tries d s) (transitions l s) t.0 t.1 (in_sequence d s l legal)

told : (d : Contents) (l : List Change) → IsSound d → IsLegalUnder d l → IsTallied d l
told d l sound legal = record {
  tally = λ s lt. tally_of d l s legal;
  misses = λ s lt. (few_of d l s sound legal lt).few;
  undo_misses = λ s lt. (few_of d l s sound legal lt).few_undo;
  needs = pairs d l legal;
  drained = λ planning. drained_from d l (none_busy d l legal planning);
}

pub all_are_tallied : (shelf : List Contents) (h : List Event) → All IsSound shelf → IsLegal shelf h → AllAreTallied shelf h
all_are_tallied shelf h sound legal = λ i d is. told d (changes i h) (definition_sound shelf (changes i h) d sound is) (legal_under shelf d (changes i h) (saga_is_legal shelf i h legal) is)
