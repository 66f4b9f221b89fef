-- Members that are named, forward pointers, widths and the memory model: O6, O12 and O13. [2.16.1, 3.49.2, 3.49.6]
use Rattle.std.specs.Prelude.{if◌then◌else◌, ◌≡◌, ◌⊎◌, ℕ, List, Option, Some, None, nat_eq}
use Rattle.spv_table.specs.Table.{Table}
use Rattle.spv_module.specs.declared.opcode.TheConstants as opcode
use Rattle.spv_module.specs.Operand.{PlainInst}
use Rattle.spv_type_forms.specs.declared.form.Form.TheVariants as form
use Rattle.spv_type_forms.specs.declared.form.Scalar.TheVariants as scalar
use Rattle.spv_type_forms.specs.Form.{form_in, form_of}
use Rattle.spv_type_forms.specs.Types.{PointsTo}
use Rattle.spv_conditions.specs.Further.{IsMember}
use Rattle.spv_capabilities.specs.Capable.{Has}
use Rattle.spv_declarations.specs.Given.{At, first_in, member_by}

-- O6: the instruction is OpMemberName %t k .., OpMemberDecorate or OpMemberDecorateString, where t is no OpTypeStruct,
-- or k not below its number of members. [3.49.2, 3.49.3]
abbrev pub NamesNoMember : List PlainInst → PlainInst → Type 0
NamesNoMember is i = (t k : ℕ) × (member_by i ≡ Some (t, k)) × (¬ (IsMember is t k))

abbrev pub IsOfNoMember : List PlainInst → ℕ → Type 0
IsOfNoMember is n = At is (NamesNoMember is) n

-- the pointer type that OpTypeForwardPointer %t .. names [3.49.6]
abbrev pub announced_by : PlainInst → Option ℕ
announced_by i = if nat_eq i.opcode opcode.TYPE_FORWARD_POINTER then first_in i.operands else None

-- O12: the instruction is OpTypeForwardPointer %t .., where t points to what is no OpTypeStruct. [3.49.6]
abbrev pub AnnouncesElsewhere : List PlainInst → PlainInst → Type 0
AnnouncesElsewhere is i =
    (t p : ℕ) × (announced_by i ≡ Some t) × PointsTo is t p × (¬ (form_of is p ≡ Some form.Struct))

abbrev pub IsForwardElsewhere : List PlainInst → ℕ → Type 0
IsForwardElsewhere is n = At is (AnnouncesElsewhere is) n

-- Ints of 8 bits may be declared: Int8 (39), StorageBuffer8BitAccess (4448), UniformAndStorageBuffer8BitAccess (4449)
-- or StoragePushConstant8 (4450) is implied. [2.16.1]
abbrev pub HasBytes : Table → List PlainInst → Type 0
HasBytes G is = Has G is 39 ⊎ Has G is 4448 ⊎ Has G is 4449 ⊎ Has G is 4450

-- O13: the instruction is %t = OpTypeInt 8 .. without that; or the OpMemoryModel, where VulkanMemoryModel (5345) is
-- implied. [2.16.1, 3.31]
abbrev pub NeedsAnother : Table → List PlainInst → PlainInst → Type 0
NeedsAnother G is i = ((form_in i ≡ Some (form.Scalar (scalar.Int 8))) × (¬ (HasBytes G is)))
    ⊎ ((i.opcode ≡ opcode.MEMORY_MODEL) × Has G is 5345)

abbrev pub IsIncapable : Table → List PlainInst → ℕ → Type 0
IsIncapable G is n = At is (NeedsAnother G is) n
