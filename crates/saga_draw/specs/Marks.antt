-- The marks of an answer.
use Rattle.std.specs.Prelude.{ℕ, Bool, List, Option, Some, None, length, slice_index, nat_eq, if◌then◌else◌, ◌≡◌, ◌==◌, ◌&&◌, ◌+◌, ◌-◌}
use Rattle.std.specs.HashSet.{contains}
use Rattle.std.specs.List.{list_any, range_with_len}
use Rattle.saga_def.specs.Order.{member}
use Rattle.saga_def.specs.declared.steps.Need.{Need}
use Rattle.saga_case.specs.declared.answers.Answer.{Answer}
use Rattle.saga_case.specs.declared.answers.Answer.TheVariants as answer
use Rattle.saga_draw.specs.declared.marks.Mark.{Mark}
use Rattle.saga_draw.specs.declared.marks.Mark.TheVariants.{Plain, Kept, Chained}
use Rattle.saga_draw.specs.declared.marks.Marks.{Marks}
use Rattle.saga_draw.specs.declared.marks.Marks.TheVariants as marks

abbrev pub mark_if : Mark → Bool → Mark
mark_if mark marked = if marked then mark else Plain

-- the two steps are consecutive in the chain
abbrev pub along : List ℕ → ℕ → ℕ → Bool
along chain s o =
    list_any (λ k. slice_index chain k == s && slice_index chain (k + 1) == o) (range_with_len 0 (length chain - 1))

-- a step that the plan keeps, or one of the chain
abbrev pub mark_of : Option Answer → ℕ → Mark
mark_of None s = Plain
mark_of (Some (answer.Plan plan)) s = mark_if Kept (member plan.kept s)
mark_of (Some (answer.Blocked chain)) s = mark_if Chained (list_any (λ x. s == x) chain)

-- a need of a kept step on a kept one, or from a step of the chain to the next
abbrev pub need_mark_of : Option Answer → Need → Mark
need_mark_of None n = Plain
need_mark_of (Some (answer.Plan plan)) n = mark_if Kept (member plan.kept n.step && member plan.kept n.on)
need_mark_of (Some (answer.Blocked chain)) n = mark_if Chained (along chain n.step n.on)

-- the marks that the tables have
abbrev pub mark_in : Marks → ℕ → Mark
mark_in marks.Nothing s = Plain
mark_in (marks.Kept kept) s = mark_if Kept (member kept.now s)
mark_in (marks.Chain steps links) s = mark_if Chained (contains nat_eq steps s)

abbrev pub need_mark_in : Marks → Need → Mark
need_mark_in marks.Nothing n = Plain
need_mark_in (marks.Kept kept) n = mark_if Kept (member kept.now n.step && member kept.now n.on)
need_mark_in (marks.Chain steps links) n =
    mark_if Chained (contains (λ x y. x.0 == y.0 && x.1 == y.1) links (n.step, n.on))

-- the tables have the marks of the answer
pub record AreMarksOf (answer : Option Answer) (marks : Marks) : Type 0 where
  pub steps : (s : ℕ) → mark_in marks s ≡ mark_of answer s
  pub needs : (n : Need) → need_mark_in marks n ≡ need_mark_of answer n
