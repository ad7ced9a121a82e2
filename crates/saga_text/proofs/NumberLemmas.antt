-- The first place of a name, as steps are added.
use Rattle.std.proofs.Common.{◌≡◌, ℕ, Bool, true, false, not, cond, ◌+◌, List, [], ◌∷◌, ◌++◌, length, Option, Some, None, IsSome, is_some, unwrap_or, append_assoc, refl, sym, ◌∙◌, arith, zero-add, map, Bor}
use Rattle.std.proofs.lemmas.Slice.Eq.{bytes_eq-Decides}
use Rattle.std.specs.List.{position_from, position_or_len}
use Rattle.std.specs.Option.{option_or}
use Rattle.std.specs.Str.{bytes_eq}
use Rattle.saga_def.specs.declared.steps.Need.{Need}
use Rattle.saga_def.specs.declared.steps.Step.{Step}
use Rattle.saga_text.specs.Format.{number_of}

-- the place of the first step with the name, from a number on
abbrev pub place_from : ℕ → List Step → List ℕ → Option ℕ
place_from first steps name = position_from (λ (step : Step). bytes_eq name step.name) first steps

abbrev pub place_of : List Step → List ℕ → Option ℕ
place_of steps name = place_from 0 steps name

cond-or : (b : Bool) (i : ℕ) (o p q : Option ℕ) → o ≡ option_or p q → cond b (Some i) o ≡ option_or (cond b (Some i) p) q
cond-or true i o p q e = refl
cond-or false i o p q e = e

-- one more step is looked at last
place_from-push : (steps : List Step) (first : ℕ) (step : Step) (name : List ℕ) → place_from first (steps ++ step ∷ []) name ≡ option_or (place_from first steps name) (cond (bytes_eq name step.name) (Some (first + length steps)) None)
place_from-push [] first step name = let e : first + 0 ≡ first = omega arith in rw e
place_from-push (s ∷ steps) first step name =
    let e : first + length (s ∷ steps) ≡ first + 1 + length steps = omega arith in
    rw e (cond-or (bytes_eq name s.name) first _ _ _ (place_from-push steps (first + 1) step name))

or-found : (o p : Option ℕ) → IsSome o → option_or o p ≡ o
or-found (Some n) p h = refl
or-found None p h = cc

or-none : (o : Option ℕ) → option_or o None ≡ o
or-none (Some n) = refl
or-none None = refl

-- a name that a step has already keeps each name's place
pub place_of-known : (steps : List Step) (step : Step) (name : List ℕ) → IsSome (place_of steps step.name) → place_of (steps ++ step ∷ []) name ≡ place_of steps name
place_of-known steps step name h =
    place_from-push steps 0 step name ∙ known_at (bytes_eq name step.name) refl
  where
    known_at : (b : Bool) → bytes_eq name step.name ≡ b → option_or (place_of steps name) (cond b (Some (0 + length steps)) None) ≡ place_of steps name
    known_at true e =
        let same : name ≡ step.name = (bytes_eq-Decides name step.name).0 e in
        or-found _ _ (rw same h)
    known_at false e = or-none _

none-from : (o : Option ℕ) → is_some o ≡ false → o ≡ None
none-from None h = refl
none-from (Some n) h = cc

-- a new name has the place of the new step
pub place_of-new : (steps : List Step) (step : Step) (name : List ℕ) → is_some (place_of steps step.name) ≡ false → place_of (steps ++ step ∷ []) name ≡ cond (bytes_eq step.name name) (Some (length steps)) (place_of steps name)
place_of-new steps step name h =
    place_from-push steps 0 step name ∙ new_at (bytes_eq name step.name) (bytes_eq step.name name) refl refl
  where
    new_at : (b d : Bool) → bytes_eq name step.name ≡ b → bytes_eq step.name name ≡ d → option_or (place_of steps name) (cond b (Some (0 + length steps)) None) ≡ cond d (Some (length steps)) (place_of steps name)
    new_at true true e f =
        let same : name ≡ step.name = (bytes_eq-Decides name step.name).0 e in
        let here : 0 + length steps ≡ length steps = omega arith in
        rw (same, none-from _ h, here)
    new_at false false e f = or-none _
    new_at true false e f =
        let same : name ≡ step.name = (bytes_eq-Decides name step.name).0 e in
        let d = (bytes_eq-Decides step.name name).1 (sym same) in cc
    new_at false true e f =
        let same : step.name ≡ name = (bytes_eq-Decides step.name name).0 f in
        let d = (bytes_eq-Decides name step.name).1 (sym same) in cc

or_len-more : (b : Bool) (first : ℕ) (o : Option ℕ) (n m : ℕ) → unwrap_or o (first + 1 + n) ≡ first + 1 + m → unwrap_or (cond b (Some first) o) (first + (1 + n)) ≡ first + cond (not b) (1 + m) 0
or_len-more true first o n m e = omega arith
or_len-more false first o n m e =
    let long : first + (1 + n) ≡ first + 1 + n = omega arith in
    let same : first + 1 + m ≡ first + (1 + m) = omega arith in
    rw long (e ∙ same)

place_or_len : (steps : List Step) (first : ℕ) (name : List ℕ) → unwrap_or (place_from first steps name) (first + length steps) ≡ first + position_or_len (λ (step : Step). bytes_eq name step.name) steps
place_or_len [] first name = refl
place_or_len (s ∷ steps) first name =
    let e : length (s ∷ steps) ≡ 1 + length steps = omega arith in
    rw e (or_len-more (bytes_eq name s.name) first _ _ _ (place_or_len steps (first + 1) name))

-- the place, or the number of steps
pub place_of-or_len : (steps : List Step) (name : List ℕ) → unwrap_or (place_of steps name) (length steps) ≡ position_or_len (λ (step : Step). bytes_eq name step.name) steps
place_of-or_len steps name = simp zero-add at (place_or_len steps 0 name)

-- the needs of one step, by numbers that are those of the names
pub map-numbered : (step : ℕ) (steps : List Step) (number : List ℕ → ℕ) → ((name : List ℕ) → number name ≡ number_of steps name) → (names : List (Bor (List ℕ)))
    → map {B = Need} (λ name. record { step = step; on = number name.now }) names ≡ map {B = Need} (λ name. record { step = step; on = number_of steps name }) (map (λ name. name.now) names)
map-numbered step steps number same [] = refl
map-numbered step steps number same (name ∷ names) =
    let rest = map-numbered step steps number same names in
    rw (same name.now, rest)

-- the needs of one step are added to those so far
pub needs-more : (before pushed front rest after whole : List Need) → after ≡ before ++ pushed → pushed ≡ front → before ++ (front ++ rest) ≡ whole → after ++ rest ≡ whole
needs-more before pushed front rest after whole added same all = rw (added, same, append_assoc) all
