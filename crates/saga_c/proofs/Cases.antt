-- What a lease that is held has.
use Rattle.std.proofs.Common.{◌≡◌, refl, subst}
use Rattle.std.specs.Prelude.{Option, Some, None, IsSome, Bool, true, false}

abbrev nothing_where : Bool → Type 0
nothing_where true = ⊥
nothing_where false = Unit {0}

pub some_of : {A : Type 0} → (x : Option A) → IsSome x → (s : A) × (x ≡ Some s)
some_of (Some s) i = (s, refl)
some_of None i = absurd (subst nothing_where i tt)
