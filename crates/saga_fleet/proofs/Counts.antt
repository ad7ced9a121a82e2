-- No number of a log is greater than the number of its events.
use Rattle.std.proofs.Common.{◌≡◌, ◌≤◌, ◌<◌, ◌+◌, ℕ, Bool, List, [], length, get_or, sym, subst, arith, length-take}
use Rattle.std.proofs.lemmas.List.{length_push}
use Rattle.std.proofs.lemmas.List.Elements.{All-get_or, All-nil, All-push, All-set, All-weaker}
use Rattle.std.specs.List.{All}
use Rattle.saga_fleet.specs.declared.events.Deed.{Deed}
use Rattle.saga_fleet.specs.declared.events.Deed.TheVariants.{Decided, Written, TurnedDown, Heard, Told}
use Rattle.saga_fleet.specs.declared.events.Event.{Event}
use Rattle.saga_fleet.specs.declared.events.Event.TheVariants.{TookOver, Did, Shipped, FailedOver}
use Rattle.saga_fleet.specs.declared.watch.Now.{Now}
use Rattle.saga_fleet.specs.declared.watch.Tally.{Tally}
use Rattle.saga_fleet.specs.Fleet.{nothing}
use Rattle.saga_fleet.specs.Records.{AreWithin, MayFollow, blank, did, digests_after, digests_did, now_after, now_of, tallies_after}

abbrev Counts : ℕ → Tally → Type 0
Counts n t = t.known + t.asked ≤ n

more_counts : (n m : ℕ) (ts : List Tally) → n ≤ m → All (Counts n) ts → All (Counts m) ts
more_counts n m ts le all = All-weaker (Counts n) (Counts m) (λ t h. omega (arith, le, h)) ts all

pub more : (n m : ℕ) (now : Now) (ds : List ℕ) (ts : List Tally) → n ≤ m → AreWithin n now ds ts → AreWithin m now ds ts
more n m now ds ts le w = record {
  servers = omega (arith, le, w.servers);
  chunks = omega (arith, le, w.chunks);
  counts = more_counts n m ts le w.counts;
}

did_counts : (n : ℕ) (t : Tally) (d : Deed) → Counts n t → Counts (n + 1) (did t d)
did_counts n t (Decided digest) h = omega (arith, h)
did_counts n t (Written first digest) h = omega (arith, h)
did_counts n t TurnedDown h = omega (arith, h)
did_counts n t Heard h = omega (arith, h)
did_counts n t (Told m) h = omega (arith, h)

did_chunks : (n : ℕ) (ds : List ℕ) (d : Deed) → length ds ≤ n → length (digests_did ds d) ≤ n + 1
did_chunks n ds (Decided digest) h = omega (arith, h)
did_chunks n ds (Written first digest) h = omega (arith, h, length_push ds digest)
did_chunks n ds TurnedDown h = omega (arith, h)
did_chunks n ds Heard h = omega (arith, h)
did_chunks n ds (Told m) h = omega (arith, h)

-- behind one more event
pub next : (b : Bool) (n : ℕ) (now : Now) (ds : List ℕ) (ts : List Tally) (e : Event) → AreWithin n now ds ts → MayFollow b now ds ts e
    → AreWithin (n + 1) (now_after now e) (digests_after ds e) (tallies_after now ds ts e)
next b n now ds ts (TookOver epoch read digest) w may = record {
  servers = omega (arith, w.servers);
  chunks = omega (arith, w.chunks);
  counts = All-push (Counts (n + 1)) ts _ (more_counts n (n + 1) ts (omega arith) w.counts) (omega (arith, may.1, w.chunks));
}
next b n now ds ts (Did k d) w may = record {
  servers = omega (arith, w.servers);
  chunks = did_chunks n ds d w.chunks;
  counts = All-set (Counts (n + 1)) ts k (did (get_or ts k blank) d) (did_counts n (get_or ts k blank) d (All-get_or (Counts n) ts k blank may.0 w.counts))
      (more_counts n (n + 1) ts (omega arith) w.counts);
}
next b n now ds ts (Shipped m) w may = record {
  servers = omega (arith, w.servers);
  chunks = omega (arith, w.chunks);
  counts = more_counts n (n + 1) ts (omega arith) w.counts;
}
next b n now ds ts (FailedOver m epoch) w may = record {
  servers = omega (arith, w.servers);
  chunks = omega (arith, w.chunks, length-take m ds);
  counts = more_counts n (n + 1) ts (omega arith) w.counts;
}

pub at_birth : AreWithin 0 (now_of nothing) [] []
at_birth = record { servers = omega arith; chunks = omega arith; counts = All-nil (Counts 0) }

-- one session's
pub of_session : (n k : ℕ) (now : Now) (ds : List ℕ) (ts : List Tally) → k < length ts → AreWithin n now ds ts → (get_or ts k blank).known + (get_or ts k blank).asked ≤ n
of_session n k now ds ts lt w = All-get_or (Counts n) ts k blank lt w.counts

pub same : (n : ℕ) (now now2 : Now) (ds ds2 : List ℕ) (ts ts2 : List Tally) → now2 ≡ now → ds2 ≡ ds → ts2 ≡ ts → AreWithin n now ds ts → AreWithin n now2 ds2 ts2
same n now now2 ds ds2 ts ts2 is_now is_ds is_ts w =
    subst (λ (x : Now). AreWithin n x ds2 ts2) (sym is_now)
    (subst (λ (x : List ℕ). AreWithin n now x ts2) (sym is_ds) (subst (λ (x : List Tally). AreWithin n now ds x) (sym is_ts) w))
