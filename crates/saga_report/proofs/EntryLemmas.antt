-- The sagas that histories open.
use Rattle.std.proofs.Common.{◌≡◌, ◌∙◌, ℕ, ◌+◌, ◌<◌, ◌++◌, ◌∷◌, [], List, length, map, take, get_or, sym, ap, arith, append_assoc, append-nil, suc, Bor}
use Rattle.std.proofs.lemmas.List.{take_more, flat_map_more, map-append, length-map, length-take-le}
use Rattle.saga_history.specs.declared.events.Event.{Event}
use Rattle.saga_history.specs.Changes.{saga_of, change_of}
use Rattle.saga_report.specs.declared.sagas.Entry.{Entry}
use Rattle.saga_report.specs.Opened.{opened_by, opened_sagas}
use Rattle.saga_report.specs.Reports.{entry, entries_from}

opened : Event → List ℕ
opened e = opened_by (saga_of e) (change_of e)

-- one more event, and what it opens
pub opened_more : (place : ℕ) (before : List Entry) (events : List Event) (k : ℕ) (e : Event) (numbers : List ℕ) → k < length events → e ≡ get_or events k e → opened_by (saga_of e) (change_of e) ≡ numbers
    → (before ++ map (entry place) (opened_sagas (take k events))) ++ map (entry place) numbers ≡ before ++ map (entry place) (opened_sagas (take (k + 1) events))
opened_more place before events k e numbers lt is opens =
    let front = opened_sagas (take k events) in
    let more : take (k + 1) events ≡ take k events ++ e ∷ [] = take_more events k e lt ∙ ap (λ x. take k events ++ x ∷ []) (sym is) in
    let all : front ++ numbers ≡ opened_sagas (take (k + 1) events) =
    ap (λ n. front ++ n) (sym opens) ∙ (flat_map_more (λ e. opened_by (saga_of e) (change_of e)) [] (take k events) e ∙ ap opened_sagas (sym more)) in
    append_assoc before (map (entry place) front) (map (entry place) numbers)
    ∙ ap (λ x. before ++ x) (sym (map-append (entry place) front numbers) ∙ ap (map (entry place)) all)

-- one more history
pub entries_more : (first : ℕ) (histories : List (List Event)) (h : List Event) → entries_from first (histories ++ h ∷ []) ≡ entries_from first histories ++ map (entry (first + length histories)) (opened_sagas h)
entries_more first [] h =
    let e : first ≡ first + 0 = omega arith in
    append-nil (map (entry first) (opened_sagas h)) ∙ ap (λ n. map (entry n) (opened_sagas h)) e
entries_more first (g ∷ histories) h =
    let e : first + 1 + length histories ≡ first + suc (length histories) = omega arith in
    let front = map (entry first) (opened_sagas g) in
    ap (λ rest. front ++ rest) (entries_more (first + 1) histories h ∙ ap (λ n. entries_from (first + 1) histories ++ map (entry n) (opened_sagas h)) e)
    ∙ sym (append_assoc front (entries_from (first + 1) histories) (map (entry (first + suc (length histories))) (opened_sagas h)))

-- the same of histories behind pointers
pub entries_more_at : (histories : List (Bor (List Event))) (k : ℕ) (d : Bor (List Event)) → k < length histories
    → entries_from 0 (map (λ h. h.now) (take k histories)) ++ map (entry k) (opened_sagas (get_or histories k d).now) ≡ entries_from 0 (map (λ h. h.now) (take (k + 1) histories))
entries_more_at histories k d lt =
    let now : Bor (List Event) → List Event = λ h. h.now in
    let h = get_or histories k d in
    let more : map now (take (k + 1) histories) ≡ map now (take k histories) ++ now h ∷ [] = ap (map now) (take_more histories k d lt) ∙ map-append now (take k histories) (h ∷ []) in
    let long : 0 + length (map now (take k histories)) ≡ k = omega (arith, length-map (take k histories) now, length-take-le k histories (omega (arith, lt))) in
    sym (ap (entries_from 0) more ∙ (entries_more 0 (map now (take k histories)) (now h) ∙ ap (λ n. entries_from 0 (map now (take k histories)) ++ map (entry n) (opened_sagas (now h))) long))
