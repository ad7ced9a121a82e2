-- What a change of one row makes of the marks and the count of all rows.
use Rattle.saga_rows.proofs.RowLemmas.{one_if_few}
use Rattle.std.proofs.Common.{ℕ, ◌≡◌, ◌<◌, ◌≤◌, ◌+◌, ◌∙◌, inl, inr, List, [], ◌∷◌, ◌++◌, length, get_or, set, ap, sym, refl, suc, arith}
use Rattle.std.specs.Prelude.{Bool, true, false, not, ◌==◌}
use Rattle.std.specs.List.{count_by}
use Rattle.std.proofs.lemmas.Bool.{cases_eq, cases_lt, eq-eqb, eqb-true, false≢true}
use Rattle.std.proofs.lemmas.List.{length-set, get_or-set_same, get_or-set_other, get_or_past, length_push, get_or_push, get_or_append_left}
use Rattle.std.proofs.lemmas.List.Sums.{sum_by-cons, sum_by-set, sum_by_push, get_or-le-sum_by, count_by-le-length}
use Rattle.saga_rows.specs.Limits.{max_rows}
use Rattle.saga_rows.specs.Row.{Row, RowAllowsNone, mark_at, one_if}
use Rattle.saga_rows.specs.Rows.{AreMarked, AreRows, IsCountBut, IsMarkOf, is_open, is_over, no_row, row_at}

pub marked : (rows : List Row) (marks : List Bool) (i : ℕ) (on : Bool) → i < length rows → AreMarked rows marks i → IsMarkOf (row_at rows i) on → AreMarked rows (set marks i on) (length rows)
marked rows marks i on lt old is = record {
  sized = omega (arith, length-set marks i on, old.sized);
  tight = omega (arith, length-set marks i on, old.tight);
  few = old.few;
  each = λ k within _. elim (cases_eq k i) [
    | inl e ↦ rw (e, get_or-set_same marks i on false (omega (arith, lt, old.sized))) is
    | inr ne ↦ rw (get_or-set_other marks i k on false ne) (old.each k within ne)
  ];
  past = λ k le. get_or-set_other marks i k on false (λ e. absurd (omega (arith, e, le, lt))) ∙ old.past k le;
}

pub but_one : (rows : List Row) (marks : List Bool) (i : ℕ) (row : Row) → AreMarked rows marks (length rows) → AreMarked (set rows i row) marks i
but_one rows marks i row old =
    let long : length (set rows i row) ≡ length rows = length-set rows i row in
    record {
      sized = omega (arith, long, old.sized);
      tight = omega (arith, long, old.tight);
      few = omega (arith, long, old.few);
      each = λ k within ne. rw (get_or-set_other rows i k row no_row ne) (old.each k (omega (arith, within, long)) (λ e. absurd (omega (arith, e, within, long))));
      past = λ k le. old.past k (omega (arith, le, long));
    }

pub but_new : (rows : List Row) (marks : List Bool) (row : Row) → length rows < max_rows → length rows < length marks → AreMarked rows marks (length rows) → AreMarked (rows ++ row ∷ []) marks (length rows)
but_new rows marks row few room old =
    let long : length (rows ++ row ∷ []) ≡ length rows + 1 = length_push rows row in
    record {
      sized = omega (arith, long);
      tight = omega (arith, long, old.tight);
      few = omega (arith, long);
      each = λ k within ne. rw (get_or_append_left rows (row ∷ []) no_row k (omega (arith, within, long, ne))) (old.each k (omega (arith, within, long, ne)) ne);
      past = λ k le. old.past k (omega (arith, le, long));
    }

-- a mark more, that nothing is there
pub mark_more : (rows : List Row) (marks : List Bool) → length marks ≡ length rows → AreMarked rows marks (length rows) → AreMarked rows (marks ++ false ∷ []) (length rows)
mark_more rows marks same old =
    let long : length (marks ++ false ∷ []) ≡ length marks + 1 = length_push marks false in
    record {
      sized = omega (arith, long);
      tight = omega (arith, long, same, old.few);
      few = old.few;
      each = λ k within ne. rw (get_or_append_left marks (false ∷ []) false k (omega (arith, within, same))) (old.each k within ne);
      past = λ k le. elim (cases_eq k (length marks)) [
        | inl e ↦ get_or_push marks false false k (sym e)
        | inr ne ↦ get_or_past (marks ++ false ∷ []) k false (omega (arith, long, le, same, ne))
      ];
    }

pub no_rows : (marks : List Bool) → marks ≡ [] → AreRows [] marks 0
no_rows marks is = rw is (record {
  marked = record {
    sized = omega arith;
    tight = omega arith;
    few = omega arith;
    each = λ k within ne. absurd (let h : k < 0 = within in omega (arith, h));
    past = λ k le. refl;
  };
  counted = refl;
})

pub next_of : (rows : List Row) (marks : List Bool) (i : ℕ) → AreMarked rows marks (length rows) → mark_at marks i ≡ true → (i < length rows) × ((RowAllowsNone (row_at rows i)) → ⊥)
next_of rows marks i old on =
    let within : i < length rows = elim (cases_lt i (length rows)) [ inl lt ↦ lt | inr past ↦ absurd (false≢true (sym (old.past i past) ∙ on)) ] in
    let has = (old.each i within (λ e. absurd (omega (arith, e, within)))).some on in
    (within, λ none. none has.0 has.1)

pub none_marked : (rows : List Row) (marks : List Bool) (i : ℕ) → AreMarked rows marks (length rows) → i < length rows → get_or marks i false ≡ false → RowAllowsNone (row_at rows i)
none_marked rows marks i old within off = (old.each i within (λ e. absurd (omega (arith, e, within)))).none off

pub closed_one : (rows all : List Row) (row : Row) (marks : List Bool) (n : ℕ) → all ≡ rows ++ row ∷ [] → n + 1 ≡ length all → AreMarked all marks (length all) → AreMarked rows (set marks n false) (length rows)
closed_one rows all row marks n is one old =
    let long : length all ≡ length rows + 1 = ap length is ∙ length_push rows row in
    record {
      sized = omega (arith, length-set marks n false, long, old.sized);
      tight = omega (arith, length-set marks n false, old.tight);
      few = omega (arith, long, old.few);
      each = λ k within ne.
          let same : row_at all k ≡ row_at rows k = ap (λ (r : List Row). row_at r k) is ∙ get_or_append_left rows (row ∷ []) no_row k within in
          rw (get_or-set_other marks n k false false (λ e. absurd (omega (arith, e, one, long, within)))) (rw same at (old.each k (omega (arith, within, long)) (λ e. absurd (omega (arith, e, within, long)))));
      past = λ k le. elim (cases_eq k n) [
        | inl e ↦ rw e (get_or-set_same marks n false false (omega (arith, one, old.sized)))
        | inr ne ↦ get_or-set_other marks n k false false ne ∙ old.past k (omega (arith, le, ne, one, long))
      ];
    }

-- ---- the count of open rows

-- the count as it was, once a row has changed
pub counted_but : (rows : List Row) (i : ℕ) (row : Row) (was : Bool) (count : ℕ) → i < length rows → count ≡ count_by is_open rows → was ≡ is_open (row_at rows i) → IsCountBut (set rows i row) i was count
counted_but rows i row was count lt counted is =
    let here : row_at (set rows i row) i ≡ row = get_or-set_same rows i row no_row lt in
    rw (is, here) (omega (arith, counted, sum_by-set (λ r. one_if (is_open r)) rows i row no_row lt))

pub count_enough : (rows : List Row) (i : ℕ) (was : Bool) (count : ℕ) → IsCountBut rows i was count → i < length rows → was ≡ true → 1 ≤ count
count_enough rows i was count but lt is =
    let one : one_if was ≡ 1 = ap one_if is in
    omega (arith, but, one, get_or-le-sum_by (λ r. one_if (is_open r)) rows i no_row lt)

pub count_room : (rows : List Row) (i : ℕ) (was : Bool) (count : ℕ) → IsCountBut rows i was count → length rows ≤ max_rows → count ≤ 65535
count_room rows i was count but few = omega (arith, but, one_if_few was, count_by-le-length is_open rows)

pub count_push : (rows : List Row) (row : Row) → count_by is_open (rows ++ row ∷ []) ≡ count_by is_open rows + one_if (is_open row)
count_push rows row = sum_by_push (λ r. one_if (is_open r)) rows row

pub none_open : (rows : List Row) (count : ℕ) → count ≡ count_by is_open rows → (count == 0) ≡ true → (i : ℕ) → i < length rows → is_over (row_at rows i) ≡ true
none_open rows count is none i lt =
    over_from (is_over (row_at rows i)) (omega (arith, is, eqb-true count 0 none, get_or-le-sum_by (λ r. one_if (is_open r)) rows i no_row lt))
  where
    over_from : (b : Bool) → one_if (not b) ≤ 0 → b ≡ true
    over_from true le = refl
    over_from false le = absurd (omega (arith, le))

all_over : (rows : List Row) → ((i : ℕ) → i < length rows → is_over (row_at rows i) ≡ true) → count_by is_open rows ≡ 0
all_over [] over = refl
all_over (row ∷ rows) over =
    let here : one_if (is_open row) ≡ 0 = ap (λ b. one_if (not b)) (over 0 (omega arith)) in
    omega (arith, sum_by-cons (λ r. one_if (is_open r)) row rows, here, all_over rows (λ i lt. over (suc i) (omega (arith, lt))))

pub open_none : (rows : List Row) (count : ℕ) → count ≡ count_by is_open rows → ((i : ℕ) → i < length rows → is_over (row_at rows i) ≡ true) → (count == 0) ≡ true
open_none rows count is over = eq-eqb count 0 (is ∙ all_over rows over)
