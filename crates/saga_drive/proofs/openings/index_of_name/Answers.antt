use Rattle.std.proofs.Common.{◌≡◌, ◌∙◌, ◌<◌, ℕ, List, Option, Some, arith, below_more, false, true, length, refl, slice_get, sym}
use Rattle.std.proofs.lemmas.Option.{slice_get_read, slice_get_within}
use Rattle.saga_def.specs.Contents.{Contents}
use Rattle.saga_drive.specs.Openings.{HasName}
use Rattle.saga_drive.proofs.openings.index_of_name.Goals as goal

no_name : (shelf : List Contents) (name : List ℕ) (k : ℕ) (d : Contents) → slice_get shelf k ≡ Some d → (d.name ≡ name → ⊥) → HasName shelf name k → ⊥
no_name shelf name k d is not (e, at, named) =
    let both : ◌≡◌ {A = Option Contents} (Some d) (Some e) = sym is ∙ at in
    let same : d ≡ e = cc in
    not (let here : d.name ≡ name = cc in here)

pub loop-index-preserved : goal.loop-index-preserved
loop-index-preserved c =
    below_more _ _ c.loop-index.invariant
    (no_name c.args.shelf.now c.args.name.now c.loop-index.index c.index-shelf-index.result
    (slice_get_read c.args.shelf.now (length c.args.shelf.now) c.loop-index.index c.index-shelf-index.result refl (omega arith) c.index-shelf-index.is)
    (λ is. absurd (let no : false ≡ true = c.if-is_named.ensures.1 is in cc)))

pub returns-then-index : goal.returns-then-index
returns-then-index c = λ j lt. c.loop-index.invariant j (omega (arith, lt, c.if-index.true))

pub returns-then-is_named : goal.returns-then-is_named
returns-then-is_named c = (
  omega arith,
  (
    c.index-shelf-index.result,
    slice_get_read c.args.shelf.now (length c.args.shelf.now) c.loop-index.index c.index-shelf-index.result refl (omega arith) c.index-shelf-index.is,
    c.if-is_named.ensures.0 refl,
  ),
  c.loop-index.invariant,
)

no_more : (shelf : List Contents) (name : List ℕ) (j : ℕ) → HasName shelf name j → j < length shelf
no_more shelf name j (d, at, named) = slice_get_within shelf j d at

pub returns : goal.returns
returns c = λ j lt has. c.loop-index.invariant j (omega (arith, no_more c.args.shelf.now c.args.name.now j has)) has
