-- One more history that is followed.
use Rattle.std.proofs.Common.{◌≡◌, ◌∙◌, ℕ, ◌+◌, ◌<◌, ◌++◌, ◌∷◌, [], List, Bor, length, map, take, get_or, sym, ap, subst, arith, zero, suc, length-append}
use Rattle.std.specs.Prelude.{Some, slice_get}
use Rattle.std.specs.HashMap.{HashMap}
use Rattle.std.proofs.lemmas.List.{take_more, map-append}
use Rattle.std.proofs.lemmas.Option.{none-some}
use Rattle.saga_history.specs.declared.events.Event.{Event}
use Rattle.saga_report.specs.declared.sagas.Saga.{Saga}
use Rattle.saga_report.specs.Tells.{AreFollowed, Follows}

each_more : {S : Type 0} (books : List (HashMap ℕ Saga S)) (histories : List (List Event)) (book : HashMap ℕ Saga S) (h : List Event) → length books ≡ length histories
    → ((place : ℕ) (b : HashMap ℕ Saga S) → slice_get books place ≡ Some b → Follows b (get_or histories place [])) → Follows book h
    → (place : ℕ) (b : HashMap ℕ Saga S) → slice_get (books ++ book ∷ []) place ≡ Some b → Follows b (get_or (histories ++ h ∷ []) place [])
each_more [] [] book h l each new zero b is = let same : book ≡ b = cc in subst (λ (x : HashMap ℕ Saga _). Follows x h) same new
each_more [] [] book h l each new (suc place) b is = absurd (none-some b is)
each_more [] (g ∷ histories) book h l each new place b is = absurd (omega (arith, l))
each_more (x ∷ books) [] book h l each new place b is = absurd (omega (arith, l))
each_more (x ∷ books) (g ∷ histories) book h l each new zero b is = each zero b is
each_more (x ∷ books) (g ∷ histories) book h l each new (suc place) b is =
    each_more books histories book h (omega (arith, l)) (λ q c e. each (suc q) c e) new place b is

pub followed_more : {S : Type 0} (books : List (HashMap ℕ Saga S)) (histories : List (Bor (List Event))) (k : ℕ) (book : HashMap ℕ Saga S) (h : Bor (List Event)) → k < length histories → h ≡ get_or histories k h
    → AreFollowed books (map (λ (g : Bor (List Event)). g.now) (take k histories)) → Follows book h.now → AreFollowed (books ++ book ∷ []) (map (λ (g : Bor (List Event)). g.now) (take (k + 1) histories))
followed_more books histories k book h lt is old new =
    let now : Bor (List Event) → List Event = λ g. g.now in
    let more : map now (take (k + 1) histories) ≡ map now (take k histories) ++ now h ∷ [] =
    ap (map now) (take_more histories k h lt ∙ ap (λ x. take k histories ++ x ∷ []) (sym is)) ∙ map-append now (take k histories) (h ∷ []) in
    rw more (record {
      sized = omega (arith, length-append books (book ∷ []), length-append (map now (take k histories)) (now h ∷ []), old.sized);
      each = each_more books (map now (take k histories)) book h.now old.sized old.each new;
    })
