-- The ownership of a lease: a session, the definitions that it borrows, and the lifetime of this borrow.
use Rattle.std.specs.Prelude.{ℕ, [], ◌∷◌, Option, Some, None}
use Rattle.std.specs.Box.Ownership.{box_owns}
use Rattle.std.specs.contracts.alloc.Global as Global
use Rattle.std.specs.contracts.impls.GlobalAllocator.TheImpl.{ghosts}
use Rattle.std.specs.contracts.option.Option as OptionRow
use Rattle.std.specs.contracts.vec.Vec as Vec
use Rattle.saga_def.specs.contracts.Definition as DefinitionRow
use Rattle.saga_c.specs.contracts.sessions.Session as SessionRow
use Rattle.saga_c.specs.declared.sessions.Session.{Session}
use Rattle.std.specs.declared.alloc.Global.{Global as Handle}
use mir.Syntax.{named}
use mir.Raw.{raw}
use base.Fraction.{full_share}
use base.Fml.{Fml, Lft, GName, ftrue, ffalse, fex, fsep, flft, flent}
use types.SemTy.{Body}
use denote.Memory.{lone, mem}
use denote.RattleType.{RattleType}
use denote.RawPtr.{Ptr, block_ptr, null_ptr}
use denote.Ref.{NamedLft}

-- a lifetime, with the name of the first lifetime of a function
abbrev pub life : Lft → NamedLft
life κ = record { mir = named 0; lft = κ }

-- the types of the two blocks
abbrev pub CellRow : Lft → RattleType
CellRow κ = OptionRow.the_row (SessionRow.the_row (life κ))

abbrev pub ShelfRow : RattleType
ShelfRow = Vec.the_row DefinitionRow.the_row Global.the_row ghosts

-- the right to get the definitions back after the lifetime has ended
abbrev pub shelf_lent : Lft → Ptr → Fml
shelf_lent κ (block_ptr b o) = fex GName (λ γ. flent κ (Body (mem ShelfRow) b o γ))
shelf_lent κ null_ptr = ffalse

-- the ownership of all parts while there is a session
abbrev pub lease_parts : Lft → Handle → Ptr → Ptr → Session → Fml
lease_parts κ alloc session shelf it =
    fsep (flft κ full_share) (fsep (box_owns (ghosts.dealloc_token alloc) (CellRow κ) session (Some it))
    (fsep (shelf_lent κ shelf) (ghosts.dealloc_token alloc (raw (lone ShelfRow.mir)) shelf)))

abbrev pub lease_owns : Ptr → Ptr → Option Session → Fml
lease_owns session shelf None = ftrue
lease_owns session shelf (Some it) = fex ℕ (λ α. fex Handle (λ alloc. lease_parts (α ∷ []) alloc session shelf it))
