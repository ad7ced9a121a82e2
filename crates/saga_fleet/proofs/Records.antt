-- The checker's numbers are those of the log.
use Rattle.std.proofs.Common.{IsTrue, ◌≡◌, ◌≤◌, ◌<◌, ◌+◌, ℕ, zero, suc, Bool, Some, None, List, [], ◌∷◌, ◌++◌, length, take, map, set, get_or, refl, sym, ◌∙◌, ap, subst, arith, length-append}
use Rattle.std.proofs.lemmas.List.{map-append, map-set, length_push, take-map, take_more}
use Rattle.saga_fleet.specs.declared.reasons.Reason.{Reason}
use Rattle.saga_fleet.specs.declared.reasons.Reason.TheVariants as why
use Rattle.saga_fleet.specs.declared.events.Deed.{Deed}
use Rattle.saga_fleet.specs.declared.events.Deed.TheVariants.{Decided, Written, TurnedDown, Heard, Told}
use Rattle.saga_fleet.specs.declared.events.Event.{Event}
use Rattle.saga_fleet.specs.declared.events.Event.TheVariants.{TookOver, Did, Shipped, FailedOver}
use Rattle.saga_fleet.specs.declared.events.Stage.TheVariants.{Idle, Done, Refused}
use Rattle.saga_fleet.specs.declared.watch.Now.{Now}
use Rattle.saga_fleet.specs.declared.watch.Tally.{Tally}
use Rattle.saga_fleet.specs.Fleet.{AreAllowed, Chunk, IsAllowed, IsDone, IsIdle, IsSent, Log, Move, Session, answered, at_stage, happens, nobody, nothing, rules, run, sent, session}
use Rattle.saga_fleet.specs.Order.{IsFirstReason}
use Rattle.saga_fleet.specs.Records.{AreCounts, CountFails, DeedFails, Fails, IsFirstFault, Fits, FitsDeed, IsRecordFrom, May, MayFollow, any, blank, deed_of, did, digest_of, digests, digests_after, digests_of, log_after, move_of, now_after, now_of, only, tallies_after, tallies_of, tally}
use Rattle.saga_fleet.specs.Told.{Holds, HoldsUnlessCut}
use Rattle.std.proofs.lemmas.Bool.{false≢true}
use Rattle.std.proofs.lemmas.Option.{none-some, same_Some}
use Rattle.saga_fleet.proofs.Lists.{began}
use Rattle.saga_fleet.proofs.Runs.{at_end, holds, holds_unless_cut}

count_map : (ss : List Session) → length (map tally ss) ≡ length ss
count_map [] = refl
count_map (s ∷ ss) = ap suc (count_map ss)

at_map : (ss : List Session) (k : ℕ) → get_or (map tally ss) k blank ≡ tally (get_or ss k nobody)
at_map [] k = refl
at_map (s ∷ ss) zero = refl
at_map (s ∷ ss) (suc k) = at_map ss k

-- so many digests as chunks
many : (cs : List Chunk) → length (digests cs) ≡ length cs
many [] = refl
many (c ∷ cs) = ap suc (many cs)

-- the only one of them is all of them
only_is : (ds : List ℕ) (d : ℕ) → only ds ≡ Some d → ds ≡ d ∷ []
only_is [] d is = absurd (none-some d is)
only_is (e ∷ []) d is = ap (λ (x : ℕ). x ∷ []) (same_Some e d is)
only_is (e ∷ f ∷ ds) d is = absurd (none-some d is)

-- ---- what the numbers allow is what is allowed

deed_may : (b : Bool) (w : Log) (k : ℕ) (d : Deed) → k < length w.sessions → May b (now_of w) (digests_of w) (tally (session w k)) d → FitsDeed w k d × IsAllowed (rules b) any w (deed_of k d)
deed_may b w k (Decided digest) lt may = (tt, (may, tt))
deed_may b w k (Written first digest) lt may = ((may.3 ∙ many w.chunks, may.4), (may.0, λ y. may.1, λ y. may.2, λ no_. absurd (false≢true no_)))
deed_may b w k TurnedDown lt may = (tt, may)
deed_may b w k Heard lt may = (tt, (may.0, may.1, λ y. omega (arith, may.2 y, length-append (session w k).known (session w k).asked)))
deed_may b w k (Told n) lt may = (tt, (lt, λ y. may))

may_deed : (b : Bool) (w : Log) (k : ℕ) (d : Deed) → FitsDeed w k d → IsAllowed (rules b) any w (deed_of k d) → (k < length w.sessions) × May b (now_of w) (digests_of w) (tally (session w k)) d
may_deed b w k (Decided digest) fits may = (began IsIdle (λ nobody_is. nobody_is) w.sessions k may.0, may.0)
may_deed b w k (Written first digest) fits may = (began IsSent (λ nobody_is. nobody_is) w.sessions k may.0, (may.0, may.1 refl, may.2 refl, fits.0 ∙ sym (many w.chunks), fits.1))
may_deed b w k TurnedDown fits may = (began IsSent (λ nobody_is. nobody_is) w.sessions k may, may)
may_deed b w k Heard fits may =
    (began IsDone (λ nobody_is. nobody_is) w.sessions k may.0, (may.0, may.1, λ y. omega (arith, may.2 y, length-append (session w k).known (session w k).asked)))
may_deed b w k (Told n) fits may = (may.0, may.1 refl)

pub allowed : (b : Bool) (w : Log) (e : Event) → MayFollow b (now_of w) (digests_of w) (tallies_of w) e → Fits w e × IsAllowed (rules b) any w (move_of e)
allowed b w (TookOver epoch read digest) may = ((may.0, may.1 ∙ many w.chunks, may.2), tt)
allowed b w (Did k d) may = deed_may b w k d (subst (λ n. k < n) (count_map w.sessions) may.0) (subst (λ (t : Tally). May b (now_of w) (digests_of w) t d) (at_map w.sessions k) may.1)
allowed b w (Shipped n) may = (tt, (may.0, omega (arith, may.1, many w.chunks)))
allowed b w (FailedOver n epoch) may = (omega (arith, may.1, many w.chunks), may.0)

pub follows : (b : Bool) (w : Log) (e : Event) → Fits w e → IsAllowed (rules b) any w (move_of e) → MayFollow b (now_of w) (digests_of w) (tallies_of w) e
follows b w (TookOver epoch read digest) fits may = (fits.0, fits.1 ∙ sym (many w.chunks), fits.2)
follows b w (Did k d) fits may =
    let m = may_deed b w k d fits may in
    (subst (λ n. k < n) (sym (count_map w.sessions)) m.0, subst (λ (t : Tally). May b (now_of w) (digests_of w) t d) (sym (at_map w.sessions k)) m.1)
follows b w (Shipped n) fits may = (may.0, omega (arith, may.1, many w.chunks))
follows b w (FailedOver n epoch) fits may = (may, omega (arith, fits, many w.chunks))

-- ---- what speaks against an event does not let it follow

deed_denied : (b : Bool) (now : Now) (ds : List ℕ) (t : Tally) (d : Deed) (r : Reason) → DeedFails b now ds t d r → May b now ds t d → ⊥
deed_denied b now ds t (Decided digest) why.NotIdle fails may = fails may
deed_denied b now ds t (Written first digest) why.NothingSent fails may = fails may.0
deed_denied b now ds t (Written first digest) why.OtherServer fails may = fails may.1
deed_denied b now ds t (Written first digest) why.OldEpoch fails may = fails may.2
deed_denied b now ds t (Written first digest) why.OtherPlace fails may = fails may.3
deed_denied b now ds t (Written first digest) why.OtherContent fails may = fails may.4
deed_denied b now ds t TurnedDown why.NothingSent fails may = fails may
deed_denied b now ds t Heard why.NothingDone fails may = fails may.0
deed_denied b now ds t Heard why.OtherServer fails may = fails may.1
deed_denied b now ds t Heard why.NotShipped fails may = omega (arith, fails.1, may.2 fails.0)
deed_denied b now ds t (Told n) why.NotKnown fails may = omega (arith, fails, may)
deed_denied b now ds t d r fails may = absurd fails

count_denied : (now : Now) (ds : List ℕ) (n : ℕ) (r : Reason) → CountFails now ds n r → (now.shipped ≤ n) × (n ≤ length ds) → ⊥
count_denied now ds n why.FewerThanShipped fails may = omega (arith, fails, may.0)
count_denied now ds n why.MoreThanWritten fails may = omega (arith, fails, may.1)
count_denied now ds n r fails may = absurd fails

pub denied : (b : Bool) (now : Now) (ds : List ℕ) (ts : List Tally) (e : Event) (r : Reason) → Fails b now ds ts e r → MayFollow b now ds ts e → ⊥
denied b now ds ts (TookOver epoch read digest) why.EpochNotNext fails may = fails may.0
denied b now ds ts (TookOver epoch read digest) why.OtherLength fails may = fails may.1
denied b now ds ts (TookOver epoch read digest) why.OtherContent fails may = fails may.2
denied b now ds ts (Did k d) why.NoSuchSession fails may = omega (arith, fails, may.0)
denied b now ds ts (Did k d) r fails may = deed_denied b now ds (get_or ts k blank) d r fails may.1
denied b now ds ts (Shipped n) r fails may = count_denied now ds n r fails may
denied b now ds ts (FailedOver n epoch) r fails may = count_denied now ds n r fails may
denied b now ds ts e r fails may = absurd fails

-- ---- and what they become is what the log becomes

now_is : (b : Bool) (w : Log) (e : Event) → Fits w e → now_after (now_of w) e ≡ now_of (happens (rules b) w (move_of e))
now_is b w (TookOver epoch read digest) fits = ap (λ (n : ℕ). record { epoch = n; shipped = w.shipped; servers = length w.cuts }) fits.0
now_is b w (Did k (Decided digest)) fits = refl
now_is b w (Did k (Written first digest)) fits = refl
now_is b w (Did k TurnedDown) fits = refl
now_is b w (Did k Heard) fits = refl
now_is b w (Did k (Told n)) fits = refl
now_is b w (Shipped n) fits = refl
now_is b w (FailedOver n epoch) fits = ap (λ (m : ℕ). record { epoch = epoch; shipped = w.shipped; servers = m }) (sym (length_push w.cuts n))

digests_are : (b : Bool) (w : Log) (e : Event) → Fits w e → digests_after (digests_of w) e ≡ digests_of (happens (rules b) w (move_of e))
digests_are b w (TookOver epoch read digest) fits = refl
digests_are b w (Did k (Decided digest)) fits = refl
digests_are b w (Did k (Written first digest)) fits =
    ap (λ (l : List ℕ). digests w.chunks ++ l) (sym (only_is (digests (session w k).asked) digest fits.1))
    ∙ sym (map-append digest_of w.chunks (session w k).asked)
digests_are b w (Did k TurnedDown) fits = refl
digests_are b w (Did k Heard) fits = refl
digests_are b w (Did k (Told n)) fits = refl
digests_are b w (Shipped n) fits = refl
digests_are b w (FailedOver n epoch) fits = take-map digest_of n w.chunks

-- a session of the other numbers
abbrev with_known : Tally → ℕ → Tally
with_known t n = record { server = t.server; epoch = t.epoch; known = n; asked = 0; digest = None; stage = Idle }

set_same : (ts : List Tally) (k : ℕ) → set ts k (get_or ts k blank) ≡ ts
set_same [] k = refl
set_same (t ∷ ts) zero = refl
set_same (t ∷ ts) (suc k) = ap (λ (l : List Tally). t ∷ l) (set_same ts k)

deed_tallies : (b : Bool) (w : Log) (k : ℕ) (d : Deed) → set (map tally w.sessions) k (did (get_or (map tally w.sessions) k blank) d) ≡ map tally (happens (rules b) w (deed_of k d)).sessions
deed_tallies b w k (Decided digest) = ap (λ (t : Tally). set (map tally w.sessions) k (did t (Decided digest))) (at_map w.sessions k) ∙ sym (map-set tally w.sessions k (sent (session w k) ((digest ∷ []) ∷ [])))
deed_tallies b w k (Written first digest) = ap (λ (t : Tally). set (map tally w.sessions) k (did t (Written first digest))) (at_map w.sessions k) ∙ sym (map-set tally w.sessions k (at_stage Done (session w k)))
deed_tallies b w k TurnedDown = ap (λ (t : Tally). set (map tally w.sessions) k (did t TurnedDown)) (at_map w.sessions k) ∙ sym (map-set tally w.sessions k (at_stage Refused (session w k)))
deed_tallies b w k Heard =
    ap (λ (t : Tally). set (map tally w.sessions) k (did t Heard)) (at_map w.sessions k)
    ∙ ap (λ (n : ℕ). set (map tally w.sessions) k (with_known (tally (session w k)) n)) (sym (length-append (session w k).known (session w k).asked))
    ∙ sym (map-set tally w.sessions k (answered (session w k)))
deed_tallies b w k (Told n) = set_same (map tally w.sessions) k

-- of a takeover under that epoch that read so many chunks
abbrev taken : Log → ℕ → ℕ → List Tally
taken w epoch read = map tally w.sessions ++ record { server = length w.cuts; epoch = epoch; known = 0; asked = read; digest = only (digests w.chunks); stage = Done } ∷ []

tallies_are : (b : Bool) (w : Log) (e : Event) → Fits w e → tallies_after (now_of w) (digests_of w) (tallies_of w) e ≡ tallies_of (happens (rules b) w (move_of e))
tallies_are b w (TookOver epoch read digest) fits =
    ap (λ (n : ℕ). taken w n read) fits.0
    ∙ ap (λ (n : ℕ). taken w (suc w.epoch) n) fits.1
    ∙ sym (map-append tally w.sessions (record { server = length w.cuts; epoch = suc w.epoch; known = []; asked = w.chunks; stage = Done } ∷ []))
tallies_are b w (Did k d) fits = deed_tallies b w k d
tallies_are b w (Shipped n) fits = refl
tallies_are b w (FailedOver n epoch) fits = refl

-- ---- whole records

-- the numbers of a log
pub record AreOf (now : Now) (ds : List ℕ) (ts : List Tally) (w : Log) : Type 0 where
  pub log : now ≡ now_of w
  pub digests : ds ≡ digests_of w
  pub tallies : ts ≡ tallies_of w

pub at_birth : AreOf (now_of nothing) [] [] nothing
at_birth = record { log = refl; digests = refl; tallies = refl }

-- behind an event of the record
pub next_are : (b : Bool) (now : Now) (ds : List ℕ) (ts : List Tally) (w : Log) (e : Event) → AreOf now ds ts w → Fits w e
    → AreOf (now_after now e) (digests_after ds e) (tallies_after now ds ts e) (happens (rules b) w (move_of e))
next_are b now ds ts w e are fits = record {
  log = ap (λ (n : Now). now_after n e) are.log ∙ now_is b w e fits;
  digests = ap (λ (l : List ℕ). digests_after l e) are.digests ∙ digests_are b w e fits;
  tallies = ap (λ (n : Now). tallies_after n ds ts e) are.log ∙ ap (λ (l : List ℕ). tallies_after (now_of w) l ts e) are.digests
      ∙ ap (λ (l : List Tally). tallies_after (now_of w) (digests_of w) l e) are.tallies ∙ tallies_are b w e fits;
}

pub are_same : (now now2 : Now) (ds ds2 : List ℕ) (ts ts2 : List Tally) (w : Log) → now2 ≡ now → ds2 ≡ ds → ts2 ≡ ts → AreOf now ds ts w → AreOf now2 ds2 ts2 w
are_same now now2 ds ds2 ts ts2 w n d t are = record { log = n ∙ are.log; digests = d ∙ are.digests; tallies = t ∙ are.tallies }

-- and how many there are
pub counted : (b : Bool) (es : List Event) (now : Now) (ds : List ℕ) (ts : List Tally) (sessions chunks failovers events : ℕ) → AreOf now ds ts (log_after b nothing es)
    → sessions ≡ length ts → chunks ≡ length ds → failovers ≡ now.servers → events ≡ length es → AreCounts b es sessions chunks failovers events
counted b es now ds ts sessions chunks failovers events are s c f e = record {
  sessions_are = s ∙ ap length are.tallies ∙ count_map (log_after b nothing es).sessions;
  chunks_are = c ∙ ap length are.digests ∙ many (log_after b nothing es).chunks;
  failovers_are = f ∙ ap (λ (n : Now). n.servers) are.log;
  events_are = e;
}

-- what is said of its numbers is said of it
pub said_of : (P : Now → List ℕ → List Tally → Type 0) (now : Now) (ds : List ℕ) (ts : List Tally) (w : Log) → AreOf now ds ts w
    → P now ds ts → P (now_of w) (digests_of w) (tallies_of w)
said_of P now ds ts w are p =
    subst (λ (n : Now). P n (digests_of w) (tallies_of w)) are.log
    (subst (λ (l : List ℕ). P now l (tallies_of w)) are.digests (subst (λ (l : List Tally). P now ds l) are.tallies p))

pub record_push : (b : Bool) (w : Log) (es : List Event) (e : Event) → IsRecordFrom b w es → Fits (log_after b w es) e
    → IsAllowed (rules b) any (log_after b w es) (move_of e) → IsRecordFrom b w (es ++ e ∷ [])
record_push b w [] e r fits may = (fits, may, tt)
record_push b w (x ∷ es) e r fits may = (r.0, r.1, record_push b (happens (rules b) w (move_of x)) es e r.2 fits may)

pub log_push : (b : Bool) (w : Log) (es : List Event) (e : Event) → log_after b w (es ++ e ∷ []) ≡ happens (rules b) (log_after b w es) (move_of e)
log_push b w [] e = refl
log_push b w (x ∷ es) e = log_push b (happens (rules b) w (move_of x)) es e

pub record_last : (b : Bool) (w : Log) (es : List Event) (e : Event) → IsRecordFrom b w (es ++ e ∷ [])
    → Fits (log_after b w es) e × IsAllowed (rules b) any (log_after b w es) (move_of e)
record_last b w [] e r = (r.0, r.1)
record_last b w (x ∷ es) e r = record_last b (happens (rules b) w (move_of x)) es e r.2

pub record_front : (b : Bool) (w : Log) (n : ℕ) (es : List Event) → IsRecordFrom b w es → IsRecordFrom b w (take n es)
record_front b w zero es r = tt
record_front b w (suc n) [] r = tt
record_front b w (suc n) (x ∷ es) r = (r.0, r.1, record_front b (happens (rules b) w (move_of x)) n es r.2)

-- the event at a place, behind which the log's numbers are known
module _ (b : Bool) (es : List Event) (i : ℕ) (now : Now) (ds : List ℕ) (ts : List Tally) (lt : i < length es)
    (are : AreOf now ds ts (log_after b nothing (take i es))) (before : IsRecordFrom b nothing (take i es)) where
  abbrev there : Event
  there = get_or es i (TookOver 0 0 0)

  abbrev log_there : Log
  log_there = log_after b nothing (take i es)

  pub fault : (r : Reason) → IsFirstReason (Fails b now ds ts there) r → IsFirstFault b es i r
  fault r fails =
      let here = said_of (λ n l t. IsFirstReason (Fails b n l t there) r) now ds ts log_there are fails in
      record {
        inside = lt;
        before = before;
        fails = here;
        denied = λ rec.
            let last = record_last b nothing (take i es) there (subst (IsRecordFrom b nothing) (take_more es i (TookOver 0 0 0) lt) rec) in
            denied b (now_of log_there) (digests_of log_there) (tallies_of log_there) there r here.here (follows b log_there there last.0 last.1);
      }

  pub goes_on : MayFollow b now ds ts there
      → AreOf (now_after now there) (digests_after ds there) (tallies_after now ds ts there) (log_after b nothing (take (i + 1) es))
      × IsRecordFrom b nothing (take (i + 1) es)
  goes_on may =
      let ok = allowed b log_there there (said_of (λ n l t. MayFollow b n l t there) now ds ts log_there are may) in
      let more = sym (take_more es i (TookOver 0 0 0) lt) in (
        subst (λ (l : List Event). AreOf (now_after now there) (digests_after ds there) (tallies_after now ds ts there) (log_after b nothing l)) more
            (subst (AreOf (now_after now there) (digests_after ds there) (tallies_after now ds ts there)) (sym (log_push b nothing (take i es) there))
            (next_are b now ds ts log_there there are ok.0)),
        subst (IsRecordFrom b nothing) more (record_push b nothing (take i es) there before ok.0 ok.1),
      )

-- ---- what a record implies

abbrev moves_of : List Event → List Move
moves_of [] = []
moves_of (e ∷ es) = move_of e ∷ moves_of es

are_allowed : (b : Bool) (w : Log) (es : List Event) → IsRecordFrom b w es → AreAllowed (rules b) any w (moves_of es)
are_allowed b w [] r = tt
are_allowed b w (e ∷ es) r = (r.1, are_allowed b (happens (rules b) w (move_of e)) es r.2)

leads_there : (b : Bool) (w : Log) (es : List Event) → run (rules b) w (moves_of es) ≡ log_after b w es
leads_there b w [] = refl
leads_there b w (e ∷ es) = leads_there b (happens (rules b) w (move_of e)) es

pub record_holds : (b : Bool) (es : List Event) → IsRecordFrom b nothing es → HoldsUnlessCut (log_after b nothing es)
record_holds b es r = subst HoldsUnlessCut (leads_there b nothing es)
    (holds_unless_cut b any tt (run (rules b) nothing (moves_of es)) (at_end b any tt (moves_of es) (are_allowed b nothing es r)))

pub record_holds_all : (b : Bool) (es : List Event) → IsRecordFrom b nothing es → IsTrue b → Holds (log_after b nothing es)
record_holds_all b es r sure = subst Holds (leads_there b nothing es)
    (holds b any tt (run (rules b) nothing (moves_of es)) sure (at_end b any tt (moves_of es) (are_allowed b nothing es r)))
