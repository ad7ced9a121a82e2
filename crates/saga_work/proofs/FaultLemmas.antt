-- Which fault a run ends in, and which stop it tells.
use Rattle.std.proofs.Common.{◌≡◌, ℕ, ◌<◌, List, length, get_or, map, sym, ap, ◌∙◌, arith}
use Rattle.std.proofs.lemmas.Option.{get_or_from_slice_get, slice_get-get_or, slice_get_within}
use Rattle.std.proofs.lemmas.List.{get_or-map, length-map}
use Rattle.saga_def.specs.Contents.{Contents}
use Rattle.saga_desk.specs.Desk.{Desk}
use Rattle.saga_desk.specs.Finish.{AreAll, FinishIsRefused}
use Rattle.saga_desk.specs.Seat.{Seat}
use Rattle.saga_desk.specs.declared.desks.finish.FinishRefused.{FinishRefused}
use Rattle.saga_desk.specs.declared.desks.finish.FinishRefused.TheVariants as finish
use Rattle.saga_history.specs.declared.events.Mark.{Mark}
use Rattle.saga_work.specs.Added.{EachAdds}
use Rattle.saga_work.specs.Asked.{AreSeated}
use Rattle.saga_work.specs.Faults.{AreOnShelf, IsRunFault, fault_of_finish}

-- seats that are numbered from 0 on are all seats of a desk of so many
pub seated_all : (desk : Desk) (count : ℕ) (seats : List Seat) → desk.seats ≡ count → AreSeated count seats → AreAll desk seats
seated_all desk count seats same seated = record {
  own = record {
    known = λ i s at. let n = seated.number i s at in let w = slice_get_within seats i s at in omega (arith, seated.all);
    once = λ i j s t at_i at_j lt e. (let m = seated.number i s at_i in let n = seated.number j t at_j in omega arith);
  };
  all = seated.all ∙ sym same;
}

-- a desk whose seats all came back is refused its end by no stranger and for no missing seat
pub finishing_fault : {P : Type 0} (shards : ℕ) (shelf : List Contents) (asks : List ℕ) (desk : Desk) (count : ℕ) (seats : List Seat) (why : FinishRefused P) → desk.seats ≡ count
    → AreSeated count seats → AreOnShelf shelf asks (length asks) → FinishIsRefused desk seats why → IsRunFault shards shelf asks (fault_of_finish why)
finishing_fault {P} shards shelf asks desk count seats (finish.Stranger d ss) same seated known is = absurd (is.2 (seated_all desk count seats same seated).own)
finishing_fault {P} shards shelf asks desk count seats (finish.Missing d ss) same seated known is = absurd (is.3 (seated_all desk count seats same seated).all)
finishing_fault {P} shards shelf asks desk count seats (finish.OutOfMemory d ss) same seated known is = tt
finishing_fault {P} shards shelf asks desk count seats (finish.Torn books ss) same seated known is = known

-- the seats that come back have the numbers of those that were worked
pub seated_back : {S : Type 0} (P : Mark → Type 0) (x : S) (count : ℕ) (seats : List Seat) (done : List (Seat × S)) (back : List Seat)
    → AreSeated count seats → length done ≡ length seats → EachAdds P seats done → back ≡ map (λ q. q.0) done → AreSeated count back
seated_back {S} P x count seats done back seated len adds is =
    let same : length back ≡ length done = ap length is ∙ length-map done (λ (q : Seat × S). q.0) in
    record {
      all = same ∙ (len ∙ seated.all);
      number = λ i s at.
          let within : i < length back = slice_get_within back i s at in
          let lt : i < length seats = omega (arith, same, len) in
          let a = adds i s x lt in
          let here : get_or back i s ≡ (get_or done i (s, x)).0 =
          ap (λ z. get_or z i s) is ∙ get_or-map (λ (q : Seat × S). q.0) done i (s, x) s (omega (arith, same)) in
          let own : get_or back i s ≡ s = get_or_from_slice_get back i s s at in
          ap (λ (v : Seat). v.number) (sym own ∙ here) ∙ (a.number ∙ seated.number i (get_or seats i s) (slice_get-get_or seats i s lt));
    }
