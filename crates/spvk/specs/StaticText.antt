-- What C may read of a text of the library. (Own.)
use Rattle.std.specs.Prelude.{ℕ, List, [], Option, Some, None}
use base.Fml.{Fml, ftrue, ffalse, fhide}
use denote.Builtin.{u8}
use denote.RawPtr.{Ptr, block_ptr, null_ptr}
use denote.Slice.{elements_shared}

-- what a reference that lasts for ever holds of these octets, the first of which lies at the pointer; or a null
-- pointer, and none
abbrev pub lasting : Ptr → Option (List ℕ) → Fml
lasting null_ptr None = ftrue
lasting (block_ptr b o) (Some octets) = fhide (elements_shared u8 octets b o [])
lasting null_ptr (Some octets) = ffalse
lasting (block_ptr b o) None = ffalse
