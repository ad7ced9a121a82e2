-- What calls ensure whose refusal was turned into an error.
use Rattle.std.proofs.Common.{◌≡◌, subst}
use Rattle.std.specs.Prelude.{true, Result, Ok, Err, MatchResult, IfOk, OnOk, is_ok}

-- of a call that was accepted
pub accepted : {T E P : Type 0} (r : Result T E) → true ≡ is_ok r → OnOk r P → P
accepted (Ok x) is p = p
accepted (Err e) is p = absurd (cc)

-- of a call whose answer is handed on
pub handed_on : {T U E F P Q : Type 0} (r : Result T E) (own : Result U F) → is_ok own ≡ is_ok r → (P → Q) → OnOk r P → OnOk own Q
handed_on (Ok x) (Ok y) is f p = f p
handed_on (Ok x) (Err e) is f p = tt
handed_on (Err d) (Ok y) is f p = absurd (cc)
handed_on (Err d) (Err e) is f p = tt

-- of the value that a call gave
pub given : {T E : Type 0} (F : Type 0) (P : T → Type 0) (Q : E → Type 0) (r : Result T E) (v : T)
    → MatchResult r (λ x. let own : Result T F = Ok v in own ≡ Ok x) Q → true ≡ is_ok r → IfOk r P → P v
given F P Q (Ok x) v same is p = let e : x ≡ v = cc same in subst P e p
given F P Q (Err d) v same is p = absurd (cc)
