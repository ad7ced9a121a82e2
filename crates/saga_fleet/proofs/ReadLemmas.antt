-- Events of lines, one behind the other.
use Rattle.std.proofs.Common.{◌≡◌, ℕ, Some, Result, Ok, Err, List, [], ◌∷◌, ◌++◌, refl, sym, ap, append_assoc}
use Rattle.std.proofs.lemmas.List.{append-nil}
use Rattle.saga_bytes.specs.Readings.{with_front}
use Rattle.saga_fleet.specs.declared.events.Event.{Event}
use Rattle.saga_fleet.specs.declared.lines.LineFault.{LineFault}
use Rattle.saga_fleet.specs.Lines.{put_before}

abbrev read_as : List Event → Result (List Event) LineFault
read_as events = Ok events

pub front_put : (xs : List Event) (number : ℕ) (e : Event) (r : Result (List Event) LineFault)
    → with_front xs (put_before number (Some e) r) ≡ with_front (xs ++ e ∷ []) r
front_put xs number e (Ok rest) = ap read_as (sym (append_assoc xs (e ∷ []) rest))
front_put xs number e (Err fault) = refl

pub front_last : (xs : List Event) → with_front xs (read_as []) ≡ Ok xs
front_last xs = ap read_as (append-nil xs)

pub front_first : (r : Result (List Event) LineFault) → with_front [] r ≡ r
front_first (Ok rest) = refl
front_first (Err fault) = refl
