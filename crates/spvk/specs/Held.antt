-- What the handle of a grammar owns, and what is shown of it. (Own.)
use Rattle.std.specs.Prelude.{ℕ, [], ◌∷◌, Option, Some, None}
use Rattle.std.specs.declared.alloc.Global.{Global}
use Rattle.std.specs.contracts.impls.GlobalAllocator.TheImpl.{ghosts}
use Rattle.std.specs.Box.Ownership.{box_owns}
use Rattle.spv_table.specs.Table.{Table}
use Rattle.spv_table.specs.contracts.table.Table.{the_row as the_table}
use base.Fraction.{full_share}
use base.Fml.{Fml, Lft, Share, ftrue, ffalse, fex, flent, flft, fsep}
use denote.Memory.{hidden_shr}
use denote.RawPtr.{Ptr, block_ptr, null_ptr, Testable}

-- the C library's heap
abbrev pub heap : Global
heap = record { memory = record { seal = tt } }

-- a table that lies at the pointer in a block of the heap, and the right to free it
abbrev pub boxed : Ptr → Table → Fml
boxed = box_owns (ghosts.dealloc_token heap) the_table

-- a table behind the pointer, or a null pointer and no table
abbrev pub held : Ptr → Option Table → Fml
held null_ptr None = ftrue
held (block_ptr b o) (Some G) = boxed (block_ptr b o) G
held null_ptr (Some G) = ffalse
held (block_ptr b o) None = ffalse

-- what a caller shows of a table that others may read at the same time: a share of the token of a lifetime, and what a
-- `&` of that lifetime to the table at the pointer holds; nothing of a null pointer
abbrev pub shown : Ptr → Lft × Share × Table → Fml
shown null_ptr s = ftrue
shown (block_ptr b o) s =
    fsep (flft s.0 s.1) (fsep (hidden_shr the_table s.0 s.2 b o) (fex (Testable (block_ptr b o)) (λ _. ftrue)))

-- all that can be shown of a table for the lifetime, and the table once that is over
abbrev pub lent : Ptr → Table → ℕ → Fml
lent null_ptr G ν = ffalse
lent (block_ptr b o) G ν =
    fsep (shown (block_ptr b o) (ν ∷ [], full_share, G)) (flent (ν ∷ []) (boxed (block_ptr b o) G))
