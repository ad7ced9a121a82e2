-- The ownership of a block.
use Rattle.std.specs.Box.Ownership.{box_owns}
use Rattle.std.specs.contracts.impls.GlobalAllocator.TheImpl.{ghosts}
use Rattle.std.specs.declared.alloc.Global.{Global as Handle}
use base.Fml.{Fml, fex}
use denote.RattleType.{RattleType}
use denote.RawPtr.{Ptr}

-- the ownership of a box, for every handle of the allocator
abbrev pub block_owns : (R : RattleType) → Ptr → R.Denot → Fml
block_owns R p x = fex Handle (λ alloc. box_owns (ghosts.dealloc_token alloc) R p x)
