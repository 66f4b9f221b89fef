-- Which decorations ids and members have, by which instructions, and where that breaks O7 to O11. [2.16.1, 2.18.2,
-- 3.20]
use Rattle.std.specs.Prelude.{◌≡◌, ◌≤◌, ◌⊎◌, ℕ, List, ◌∷◌, Some, slice_get, codes}
use Rattle.spv_table.specs.Table.{Table}
use Rattle.spv_table.specs.Lookups.{number_named}
use Rattle.spv_module.specs.declared.opcode.TheConstants as opcode
use Rattle.spv_module.specs.Operand.{Plain, OfType, Result, Id, Value, PlainInst}
use Rattle.spv_layout.specs.Place.{IsOfSection}
use Rattle.spv_conditions.specs.Further.{IsGroup, IsMember}
use Rattle.spv_capabilities.specs.Entry.{entered_by, imported_by}
use Rattle.spv_declarations.specs.Given.{Gives, HasId, HasIdBehind, NamesMember, NamesTarget, member_given_by}
use Rattle.spv_declarations.specs.Table.{IsNeverOnMembers, StandsOn}

-- What instructions say of ids, the id x has by instruction n: that says it of x, which is no OpDecorationGroup; or it
-- is an OpGroupDecorate with x among its targets, and some instruction says it of its group. [3.49.3]
pub data Has (is : List PlainInst) (Says : PlainInst → ℕ → Type 0) (x n : ℕ) : Type 0 where
  own : (i : PlainInst) → slice_get is n ≡ Some i → Says i x → ¬ (IsGroup is x) → Has is Says x n
  by_group : (i j : PlainInst) (g m : ℕ) → slice_get is n ≡ Some i → NamesTarget i g x → slice_get is m ≡ Some j
      → Says j g → Has is Says x n

-- The id x has the decoration d by instruction n. [3.49.3]
abbrev pub HasBy : List PlainInst → ℕ → ℕ → ℕ → Type 0
HasBy is x d n = Has is (Gives d) x n

-- The member k of t has the decoration d by instruction n, in the same way. [3.49.3]
pub data HasOnMember (is : List PlainInst) (t k d n : ℕ) : Type 0 where
  own : (i : PlainInst) → slice_get is n ≡ Some i → member_given_by i ≡ Some (t, k, d) → HasOnMember is t k d n
  by_group : (i j : PlainInst) (g m : ℕ) → slice_get is n ≡ Some i → NamesMember i g t k → slice_get is m ≡ Some j
      → Gives d j g → HasOnMember is t k d n

-- O7: an id stands behind the decoration of an OpDecorate; or an id has by the instruction a decoration that may not
-- stand on it, or a member one that is never one of members. [3.20, 3.49.3]
pub data IsMisplaced (is : List PlainInst) (n : ℕ) : Type 0 where
  with_id : (i : PlainInst) → slice_get is n ≡ Some i → i.opcode ≡ opcode.DECORATE → HasIdBehind i.operands
      → IsMisplaced is n
  on_id : (x d : ℕ) → HasBy is x d n → ¬ (StandsOn is d x) → IsMisplaced is n
  on_member : (t k d : ℕ) → HasOnMember is t k d n → IsNeverOnMembers d → IsMisplaced is n

-- n is the least instruction by which x has d
pub record IsLeastBy (is : List PlainInst) (x d n : ℕ) : Type 0 where
  pub has : HasBy is x d n
  pub least : (m : ℕ) → HasBy is x d m → n ≤ m

-- O8: of the least instruction by which an id has Restrict (19) and the least by which it has Aliased (20), n is the
-- greater. [2.18.2]
pub record IsSecond (is : List PlainInst) (n : ℕ) : Type 0 where
  pub id : ℕ
  pub restricted : ℕ
  pub aliased : ℕ
  pub one : IsLeastBy is id 19 restricted
  pub other : IsLeastBy is id 20 aliased
  pub greater : (restricted ≤ n) × (aliased ≤ n) × ((n ≡ restricted) ⊎ (n ≡ aliased))

-- An OpEntryPoint names the function by its id. [3.49.5]
pub record IsEntered (is : List PlainInst) (x : ℕ) : Type 0 where
  pub place : ℕ
  pub inst : PlainInst
  pub there : slice_get is place ≡ Some inst
  pub named : entered_by inst ≡ Some x

-- O9: the function of an OpEntryPoint has LinkageAttributes (41) by the instruction. [2.16.1]
abbrev pub IsLinkedEntry : List PlainInst → ℕ → Type 0
IsLinkedEntry is n = (x : ℕ) × IsEntered is x × HasBy is x 41 n

-- An id has LinkageAttributes with the LinkageType Import (1). [3.17, 3.20]
abbrev pub Imports : Table → PlainInst → ℕ → Type 0
Imports G i x = imported_by (number_named G (codes "LinkageType")) i ≡ Some x

abbrev pub HasImport : Table → List PlainInst → ℕ → Type 0
HasImport G is x = (n : ℕ) × Has is (Imports G) x n

-- O10: a variable of section 9, %x = OpVariable %t class %initializer, is of the class Input (1), or imported. [2.16.1,
-- 3.7]
pub record IsInitialized (G : Table) (is : List PlainInst) (n : ℕ) : Type 0 where
  pub inst : PlainInst
  pub there : slice_get is n ≡ Some inst
  pub opcode : inst.opcode ≡ opcode.VARIABLE
  pub section : IsOfSection is n 11
  pub type : ℕ
  pub id : ℕ
  pub kind : ℕ
  pub class : ℕ
  pub initializer : ℕ
  pub rest : List Plain
  pub operands : inst.operands ≡ OfType type ∷ Result id ∷ Value kind class ∷ Id initializer ∷ rest
  pub outside : (class ≡ 1) ⊎ HasImport G is id

-- A member of a struct has BuiltIn (11); and some member of it. [2.16.1]
abbrev pub IsBuiltIn : List PlainInst → ℕ → ℕ → Type 0
IsBuiltIn is t k = IsMember is t k × ((n : ℕ) × HasOnMember is t k 11 n)

abbrev pub HasBuiltIn : List PlainInst → ℕ → Type 0
HasBuiltIn is t = (k : ℕ) × IsBuiltIn is t k

-- O11: at %t = OpTypeStruct .., one member of t has BuiltIn and another has not; or a member's type is an OpTypeStruct
-- with such a member. [2.16.1]
pub data IsHalfBuiltIn (is : List PlainInst) (n : ℕ) : Type 0 where
  in_part : (i : PlainInst) (t k j : ℕ) (ms : List Plain) → slice_get is n ≡ Some i → i.opcode ≡ opcode.TYPE_STRUCT
      → i.operands ≡ Result t ∷ ms → IsBuiltIn is t k → IsMember is t j → ¬ (IsBuiltIn is t j) → IsHalfBuiltIn is n
  within : (i : PlainInst) (t u : ℕ) (ms : List Plain) → slice_get is n ≡ Some i → i.opcode ≡ opcode.TYPE_STRUCT
      → i.operands ≡ Result t ∷ ms → HasId ms u → HasBuiltIn is u → IsHalfBuiltIn is n
