-- Which faults readings have, and how much they read.
use Rattle.std.proofs.Common.{◌≡◌, ℕ, ◌+◌, Bool, true, false, cond, List, [], ◌∷◌, length, Result, Ok, Err, refl, arith}
use Rattle.saga_bytes.specs.Readings.{◌>>=◌, each}

-- the reading has faults of that kind alone
abbrev pub Stays : {A E : Type 0} → (E → Type 0) → Result A E → Type 0
Stays Kind (Ok x) = Unit {0}
Stays Kind (Err fault) = Kind fault

pub then : {A B E : Type 0} (Kind : E → Type 0) (first : Result A E) (next : A → Result B E) → Stays Kind first → ((x : A) → Stays Kind (next x)) → Stays Kind (first >>= next)
then Kind (Ok x) next h more = more x
then Kind (Err fault) next h more = h

pub each-stays : {A B E : Type 0} (Kind : E → Type 0) (read : A → Result B E) (xs : List A) → ((x : A) → Stays Kind (read x)) → Stays Kind (each read xs)
each-stays Kind read [] h = tt {0}
each-stays Kind read (x ∷ xs) h = then Kind (read x) _ (h x) (λ y. then Kind (each read xs) _ (each-stays Kind read xs h) (λ ys. tt {0}))

pub either : {A E : Type 0} (Kind : E → Type 0) (test : Bool) (x y : Result A E) → Stays Kind x → Stays Kind y → Stays Kind (cond test x y)
either Kind true x y h k = h
either Kind false x y h k = k

length-more : {B E : Type 0} (first : Result B E) (rest : Result (List B) E) (n : ℕ) (ys : List B) → ((zs : List B) → rest ≡ Ok zs → length zs ≡ n) → (first >>= (λ y. rest >>= (λ zs. Ok (y ∷ zs)))) ≡ Ok ys → length ys ≡ n + 1
length-more (Ok y) (Ok zs) n ys same e =
    let all : y ∷ zs ≡ ys = cc in
    let more : length zs ≡ n = same zs refl in
    let long : length (y ∷ zs) ≡ n + 1 = omega arith in
    rw (← all) long
length-more (Ok y) (Err fault) n ys same e = cc
length-more (Err fault) rest n ys same e = cc

-- as many are read as there are
pub length-each : {A B E : Type 0} (read : A → Result B E) (xs : List A) (ys : List B) → each read xs ≡ Ok ys → length ys ≡ length xs
length-each read [] ys e = let none : [] ≡ ys = cc in rw (← none)
length-each read (x ∷ xs) ys e =
    let more = length-more (read x) (each read xs) (length xs) ys (λ zs. length-each read xs zs) e in
    omega (arith, more)
