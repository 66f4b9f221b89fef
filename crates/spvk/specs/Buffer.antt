-- What a buffer of C owns. (Own.)
use Rattle.std.specs.Prelude.{◌≡◌, ℕ, List, Option, Some, None}
use Rattle.std.specs.contracts.alloc.Global.{the_row as the_heap}
use Rattle.std.specs.contracts.impls.GlobalAllocator.TheImpl.{ghosts}
use Rattle.std.specs.Box.Ownership.{box_owns}
use Rattle.std_alloc.specs.contracts.vec.Vec.{the_row as the_vec}
use Rattle.spvk.specs.Held.{heap}
use base.Fml.{Fml, ftrue, ffalse, fex, fsep}
use denote.Builtin.{u8}
use denote.RattleType.{RattleType}
use denote.RawPtr.{Ptr, block_ptr, null_ptr}

-- a vector of bytes, as the logic sees it
abbrev pub Octets : RattleType
Octets = the_vec u8 the_heap ghosts

-- The vector's bytes are these, and lie at the pointer.
pub record LieAt (start : Ptr) (size : ℕ) (bytes : List ℕ) (v : Octets.Denot) : Type 0 where
  pub items : v.items ≡ bytes
  pub at : start ≡ v.ptr
  pub count : size ≡ v.len

-- a vector that lies in a block of the heap, and the right to free it, with the place of its bytes; or nothing
abbrev pub kept : Ptr → ℕ → Ptr → Option (List ℕ) → Fml
kept start size null_ptr None = fex ((start ≡ null_ptr) × (size ≡ 0)) (λ _. ftrue)
kept start size (block_ptr b o) (Some bytes) =
    fex Octets.Denot
    (λ v. fsep (box_owns (ghosts.dealloc_token heap) Octets (block_ptr b o) v)
    (fex (LieAt start size bytes v) (λ _. ftrue)))
kept start size null_ptr (Some bytes) = ffalse
kept start size (block_ptr b o) None = ffalse
