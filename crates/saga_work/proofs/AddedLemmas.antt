-- Seats that gain receipts.
use Rattle.std.proofs.Common.{◌≡◌, ℕ, ◌++◌, ap, ◌∙◌, Option, None}
use Rattle.std.proofs.lemmas.List.{append_assoc}
use Rattle.std.proofs.lemmas.List.Elements.{All-append}
use Rattle.saga_history.specs.declared.events.Mark.{Mark}
use Rattle.saga_desk.specs.Seat.{Seat}
use Rattle.saga_desk.specs.declared.receipts.Receipt.{Receipt}
use Rattle.saga_work.specs.Added.{Adds, HasClaims}
use Rattle.saga_work.specs.declared.faults.Stop.{Stop}

pub adds_on : (P : Mark → Type 0) (a b c : Seat) → Adds P a b → Adds P b c → Adds P a c
adds_on P a b c v w = record {
  number = w.number ∙ v.number;
  added = v.added ++ w.added;
  receipts = w.receipts ∙ (ap (λ z. z ++ w.added) v.receipts ∙ append_assoc a.receipts v.added w.added);
  marks = All-append (λ (r : Receipt). P r.mark) v.added w.added v.marks w.marks;
}

-- claims that were outstanding before are so after
pub claims_on : (why : Option Stop) (seat : Seat) (m n : ℕ) → m ≡ n → HasClaims why seat m → HasClaims why seat n
claims_on why seat m n same has = λ other. has other ∙ same

pub claims_same : (seat : Seat) (n : ℕ) → HasClaims None seat n → seat.claims ≡ n
claims_same seat n has = has (λ e. cc)
