-- What whole runs leave.
use Rattle.std.proofs.Common.{◌≡◌, ℕ, ◌<◌, ◌≤◌, List, [], ◌++◌, length, get_or, set, map, sym, ap, ◌∙◌, subst, arith, inl, inr, get_or-set_same, get_or-set_other, length-set}
use Rattle.std.specs.List.{flat_map, All}
use Rattle.std.proofs.lemmas.List.{get_or_past, append-nil, get_or-map, length-map}
use Rattle.std.proofs.lemmas.Grind.{flat_map-append}
use Rattle.std.proofs.lemmas.Option.{get_or_from_slice_get}
use Rattle.std.proofs.lemmas.List.Elements.{All-nil, All-same}
use Rattle.std.proofs.lemmas.Bool.{cases_lt}
use Rattle.saga_def.specs.Contents.{Contents}
use Rattle.saga_history.specs.declared.events.Mark.{Mark}
use Rattle.saga_core.specs.Book.{Book}
use Rattle.saga_desk.specs.Agreement.{Agree, receipts_of}
use Rattle.saga_desk.specs.Finish.{AreFirstSeats, AreOfShards}
use Rattle.saga_desk.specs.Seat.{Seat}
use Rattle.saga_desk.specs.declared.receipts.Receipt.{Receipt}
use Rattle.saga_work.specs.Added.{EachAdds}
use Rattle.saga_work.specs.Answered.{IsWork}
use Rattle.saga_work.specs.Asked.{AreNumbered, AreOpened, AreOpenedAsAsked, EachGained, IsOpening, OpensAll, opening_on}
use Rattle.saga_work.proofs.AskedLemmas.{none_opened, opened_as_asked}

list_at : (seats : List Seat) (i : ℕ) (s : Seat) → i < length seats → get_or (receipts_of seats) i [] ≡ (get_or seats i s).receipts
list_at seats i s lt = get_or-map (λ (v : Seat). v.receipts) seats i s [] lt

list_past : (seats : List Seat) (i : ℕ) → length seats ≤ i → get_or (receipts_of seats) i [] ≡ []
list_past seats i past = get_or_past (receipts_of seats) i [] (omega (arith, length-map seats (λ (v : Seat). v.receipts)))

-- what each worker added, of the seats that came back
pub each_gained : {S : Type 0} (P : Mark → Type 0) (d : S) (seats : List Seat) (done : List (Seat × S)) (back : List Seat)
    → length done ≡ length seats → EachAdds P seats done → back ≡ map (λ q. q.0) done → EachGained P seats back
each_gained {S} P d seats done back len adds is i =
    let count : length back ≡ length done = ap length is ∙ length-map done (λ (q : Seat × S). q.0) in
    elim (cases_lt i (length seats)) [
      | inl lt ↦
          let s : Seat = record { number = 0; receipts = []; claims = 0 } in
          let t = adds i s d lt in
          let at : get_or back i s ≡ (get_or done i (s, d)).0 =
          ap (λ z. get_or z i s) is ∙ get_or-map (λ (q : Seat × S). q.0) done i (s, d) s (omega (arith, lt, len)) in (
            t.added,
            list_at back i s (omega (arith, lt, len, count))
                ∙ (ap (λ (v : Seat). v.receipts) at ∙ (t.receipts ∙ ap (λ z. z ++ t.added) (sym (list_at seats i s lt)))),
            t.marks,
          )
      | inr past ↦ (
        [],
        list_past back i (omega (arith, past, len, count))
            ∙ (sym (list_past seats i past) ∙ sym (append-nil (get_or (receipts_of seats) i []))),
        All-nil (λ (r : Receipt). P r.mark),
      )
    ]

-- the first of the seats has opened, the others are as they were handed out
pub first_opened : (n shards : ℕ) (asks : List ℕ) (seats : List Seat) (seat : Seat)
    → 0 < n → AreFirstSeats n seats → OpensAll shards asks seat.receipts → All IsOpening seat.receipts
    → AreOpened shards asks (set seats 0 seat)
first_opened n shards asks seats seat pos are all only =
    let len = length-set seats 0 seat in
    let here : get_or (receipts_of (set seats 0 seat)) 0 [] ≡ seat.receipts =
    list_at (set seats 0 seat) 0 seat (omega (arith, len, pos, are.all))
    ∙ ap (λ (v : Seat). v.receipts) (get_or-set_same seats 0 seat seat (omega (arith, pos, are.all))) in
    record {
      all = subst (OpensAll shards asks) (sym here) all;
      only = All-same IsOpening _ seat.receipts here only;
      others = λ i ne. elim (cases_lt i (length seats)) [
        | inl lt ↦
            let v : Seat = record { number = i; receipts = []; claims = 0 } in
            list_at (set seats 0 seat) i seat (omega (arith, lt, len))
            ∙ ap (λ (u : Seat). u.receipts)
            (get_or-set_other seats 0 i seat seat ne ∙ get_or_from_slice_get seats i v seat (are.new i (omega (arith, lt, are.all))))
        | inr past ↦ list_past (set seats 0 seat) i (omega (arith, past, len))
      ];
    }

pub run_opened : (shards : ℕ) (asks : List ℕ) (shelf : List Contents) (books : List Book) (seats back : List Seat)
    → 0 < shards → AreOpened shards asks seats → EachGained IsWork seats back
    → AreOfShards shelf shards books → AreNumbered books → Agree books back → AreOpenedAsAsked shards asks books
run_opened shards asks shelf books seats back pos opened gained are numbers agree =
    let first = get_or (receipts_of seats) 0 [] in
    opened_as_asked shards asks shelf books back first pos are numbers agree opened.all
    (λ s. let a = gained 0 in
    ap (flat_map (opening_on s)) a.1 ∙ (flat_map-append (opening_on s) first a.0
    ∙ (ap (λ z. flat_map (opening_on s) first ++ z) (none_opened s a.0 a.2)
    ∙ append-nil (flat_map (opening_on s) first))))
    (λ s i ne. let a = gained i in
    ap (flat_map (opening_on s)) (a.1 ∙ ap (λ z. z ++ a.0) (opened.others i ne))
    ∙ none_opened s a.0 a.2)
