-- What rows ask of instructions outside blocks, whose operands are no values. [3.49.3 to 3.49.5; own: Y5]
use Rattle.std.specs.Prelude.{◌≡◌, ◌≢◌, ◌⊎◌, ◌<◌, ℕ, List, [], ◌∷◌, Option, Some, None, Bool, IsSomeAnd, IsTrue}
use Rattle.std.specs.Prelude.{MatchOption}
use Rattle.std.specs.Prelude.{◌||◌, codes, bytes_eq, nat_eq, drop, option_and_then, slice_get, if◌then◌else◌}
use Rattle.std.specs.List.{AllByRecursion, starts_with}
use Rattle.spv_module.specs.declared.opcode.TheConstants as opcode
use Rattle.spv_module.specs.Operand.{Plain, Result, Id, Word, Value, Text, PlainInst}
use Rattle.spv_module.specs.Width.{definition_of, type_of}
use Rattle.spv_layout.specs.Place.{IsOfBlock}
use Rattle.spv_type_forms.specs.declared.form.Form.TheVariants as form
use Rattle.spv_type_forms.specs.Form.{form_of}
use Rattle.spv_type_forms.specs.Definitions.{IsConstant}
use Rattle.spv_type_forms.specs.Parts.{count_of}
use Rattle.spv_type_forms.specs.Types.{IsSomeInt}
use Rattle.spv_conditions.specs.Group.{all_ids_in}
use Rattle.spv_conditions.specs.Variable.{MayInitialize}

-- what follows an execution mode or a decoration: %f mode .., %x decoration .., %t member decoration ..
abbrev pub after_enumerant : List Plain → List Plain
after_enumerant (Id x ∷ Value k m ∷ os) = os
after_enumerant (Id x ∷ Word n ∷ Value k m ∷ os) = os
after_enumerant os = []

-- there are operands, and each is such a one
abbrev pub AreSome : (Plain → Type 0) → List Plain → Type 0
AreSome P os = (os ≢ []) × AllByRecursion P os

-- an operand is the id of a constant of int type [3.49.5 OpExecutionModeId]; of a constant or of a variable of section
-- 9 [3.49.3 OpDecorateId]; a text [3.49.3 OpDecorateString]
abbrev pub IsIntConstant : List PlainInst → Plain → Type 0
IsIntConstant is (Id x) = IsConstant is x × IsSomeAnd (type_of is x) (IsSomeInt is)
IsIntConstant is o = ⊥

abbrev pub IsLasting : List PlainInst → Plain → Type 0
IsLasting is (Id x) = MayInitialize is x
IsLasting is o = ⊥

abbrev pub IsText : Plain → Type 0
IsText (Text t) = Unit {0}
IsText o = ⊥

-- an id is that of an OpDecorationGroup, or of none; the first id among operands is one, and no other [3.49.3
-- OpGroupDecorate]
abbrev pub IsGroup : List PlainInst → ℕ → Type 0
IsGroup is x = IsSomeAnd (definition_of is x) (λ d. d.opcode ≡ opcode.DECORATION_GROUP)

abbrev pub IsNoGroup : List PlainInst → ℕ → Type 0
IsNoGroup is x = MatchOption (definition_of is x) (Unit {0}) (λ d. d.opcode ≢ opcode.DECORATION_GROUP)

abbrev pub BeginsWithGroup : List PlainInst → PlainInst → Type 0
BeginsWithGroup is i = IsSomeAnd (slice_get (all_ids_in i.operands) 0) (IsGroup is)

abbrev pub HasNoMoreGroups : List PlainInst → PlainInst → Type 0
HasNoMoreGroups is i = AllByRecursion (IsNoGroup is) (all_ids_in (drop 1 i.operands))

-- each id among operands is that of a struct type and stands before the number of a member of it; one may wait for its
-- number [3.49.3 OpGroupMemberDecorate]
abbrev pub IsMember : List PlainInst → ℕ → ℕ → Type 0
IsMember is t k = (form_of is t ≡ Some form.Struct) × IsSomeAnd (count_of is t) (λ n. k < n)

abbrev pub AreMembers : List PlainInst → Option ℕ → List Plain → Type 0
AreMembers is None [] = Unit {0}
AreMembers is None (Id t ∷ os) = AreMembers is (Some t) os
AreMembers is (Some t) (Word k ∷ os) = IsMember is t k × AreMembers is None os
AreMembers is waiting os = ⊥

-- An extended instruction may stand outside blocks: it gives void, and its set is one of debug information, or of no
-- meaning. [2.4; SPV_KHR_non_semantic_info; own]
abbrev pub is_silent : List ℕ → Bool
is_silent name = bytes_eq name (codes "OpenCL.DebugInfo.100") || (bytes_eq name (codes "DebugInfo")
    || (bytes_eq name (codes "SPIRV.debug") || starts_with nat_eq name (codes "NonSemantic.")))

abbrev pub set_name_in : List Plain → Option (List ℕ)
set_name_in (Result s ∷ Text name ∷ _) = Some name
set_name_in _ = None

abbrev pub set_name_of : List PlainInst → ℕ → Option (List ℕ)
set_name_of is x =
    option_and_then (λ i. if nat_eq i.opcode opcode.EXT_INST_IMPORT then set_name_in i.operands else None)
    (definition_of is x)

abbrev pub IsSilent : List PlainInst → PlainInst → Type 0
IsSilent is i = IsSomeAnd (slice_get (all_ids_in i.operands) 0)
    (λ s. IsSomeAnd (set_name_of is s) (λ name. IsTrue (is_silent name)))

abbrev pub IsVoid : List PlainInst → Option ℕ → Type 0
IsVoid is r = IsSomeAnd r (λ t. form_of is t ≡ Some form.Void)

abbrev pub MayStand : List PlainInst → ℕ → PlainInst → Option ℕ → Type 0
MayStand is n i r = ((b : ℕ) × IsOfBlock is n b) ⊎ (IsVoid is r × IsSilent is i)
