-- Readings of parts of a text: each returns a value or a fault, and they can be sequenced.
use Rattle.std.specs.Prelude.{List, [], ◌∷◌, ◌++◌, Result, Ok, Err}

infixl 10 ◌>>=◌
-- the first reading, and then the next one with its value; a fault ends the sequence
abbrev pub ◌>>=◌ : {A B E : Type 0} → Result A E → (A → Result B E) → Result B E
(Ok x) >>= next = next x
(Err fault) >>= next = Err fault

-- the reading of each element, in order; the first fault ends it
abbrev pub each : {A B E : Type 0} → (A → Result B E) → List A → Result (List B) E
each read [] = Ok []
each read (x ∷ xs) = do
  y ← read x
  ys ← each read xs
  Ok (y ∷ ys)

-- the reading, with its value as `view` shows it
abbrev pub seen : {A B E : Type 0} → (B → A) → Result B E → Result A E
seen view (Ok x) = Ok (view x)
seen view (Err fault) = Err fault

-- a reading of the rest of a list, with the elements that were read before it in front
abbrev pub with_front : {A E : Type 0} → List A → Result (List A) E → Result (List A) E
with_front front (Ok rest) = Ok (front ++ rest)
with_front front (Err fault) = Err fault
