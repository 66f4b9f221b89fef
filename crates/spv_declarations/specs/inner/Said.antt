-- What is gathered of decorations. (For the code alone.)
use Rattle.std.specs.Prelude.{◌≡◌, ◌⊎◌, ℕ, List, Option, Some, IsTrue}
use Rattle.std.specs.BTreeSet.{BTreeSet}
use Rattle.spv_module.specs.declared.opcode.TheConstants as opcode
use Rattle.spv_module.specs.Operand.{PlainInst}
use Rattle.spv_conditions.specs.Further.{IsGroup, IsMember}
use Rattle.spv_capabilities.specs.Entry.{imported_by}
use Rattle.spv_declarations.specs.Given.{Gives, NamesMember, NamesTarget, group_by, member_given_by}
use Rattle.spv_declarations.specs.Table.{is_among, is_listed, lines, never_on_members}
use Rattle.spv_declarations.specs.declared.said.Said.{Said}
use Rattle.spv_declarations.specs.inner.Sets.{IsIn, HasBoth, IsSaid}

-- a decoration of which the table speaks
abbrev pub IsKnown : ℕ → Type 0
IsKnown d = IsTrue (is_listed lines d) ⊎ IsTrue (is_among never_on_members d)

-- an instruction names the id as a group; imports it, where the kind LinkageType has that number
abbrev pub NamesGroup : PlainInst → ℕ → Type 0
NamesGroup i g =
    (group_by opcode.GROUP_DECORATE i ≡ Some g) ⊎ (group_by opcode.GROUP_MEMBER_DECORATE i ≡ Some g)

abbrev pub ImportsBy : Option ℕ → PlainInst → ℕ → Type 0
ImportsBy l i x = imported_by l i ≡ Some x

-- an instruction gives one of these groups a decoration of which the table speaks; imports one of them
abbrev pub GivesGroup : BTreeSet ℕ → PlainInst → ℕ → ℕ → Type 0
GivesGroup groups i g d = IsIn groups g × IsKnown d × Gives d i g

abbrev pub ImportsGroup : BTreeSet ℕ → Option ℕ → PlainInst → ℕ → Type 0
ImportsGroup groups l i g = IsIn groups g × ImportsBy l i g

-- Of the ids that instructions name as groups, what is said of them, as far as the table speaks of it.
pub record AreSaid (l : Option ℕ) (is : List PlainInst) (s : Said) : Type 0 where
  pub kept : (g d : ℕ) → HasBoth s.pairs g d → IsKnown d × IsSaid is (λ i. Gives d i g)
  pub keeps : (g d : ℕ) → IsSaid is (λ i. NamesGroup i g) → IsKnown d → IsSaid is (λ i. Gives d i g)
      → HasBoth s.pairs g d
  pub imported : (g : ℕ) → IsIn s.importing g → IsSaid is (λ i. ImportsBy l i g)
  pub imports : (g : ℕ) → IsSaid is (λ i. NamesGroup i g) → IsSaid is (λ i. ImportsBy l i g) → IsIn s.importing g

-- By this instruction the id has what instructions say of ids: as `Has` of specs/Decorated. A member has a decoration.
pub data HasAt (is : List PlainInst) (Says : PlainInst → ℕ → Type 0) (x : ℕ) (i : PlainInst) : Type 0 where
  own : Says i x → ¬ (IsGroup is x) → HasAt is Says x i
  by_group : (g : ℕ) → NamesTarget i g x → IsSaid is (λ j. Says j g) → HasAt is Says x i

pub data HasMemberAt (is : List PlainInst) (t k d : ℕ) (i : PlainInst) : Type 0 where
  own : member_given_by i ≡ Some (t, k, d) → HasMemberAt is t k d i
  by_group : (g : ℕ) → NamesMember i g t k → IsSaid is (λ j. Gives d j g) → HasMemberAt is t k d i

-- the instruction gives a member that is there BuiltIn (11)
abbrev pub BuildsIn : List PlainInst → PlainInst → ℕ → ℕ → Type 0
BuildsIn is i t k = IsMember is t k × HasMemberAt is t k 11 i
