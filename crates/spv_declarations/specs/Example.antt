-- Small modules, of which the operands that no rule here looks at do not matter. The kinds of values have the numbers
-- 0 and 7 to 9.
use Rattle.std.specs.Prelude.{ℕ, List, [], ◌∷◌, codes}
use Rattle.spv_module.specs.declared.opcode.TheConstants as opcode
use Rattle.spv_module.specs.Operand.{OfType, Result, Id, Word, Text, Value, PlainInst}
use Rattle.spv_type_forms.specs.Example.{inst}

-- OpEntryPoint Kernel %f "k" %x; two of them with one name
abbrev pub entry : ℕ → ℕ → PlainInst
entry f x = inst opcode.ENTRY_POINT (Value 8 6 ∷ Id f ∷ Text (codes "k") ∷ Id x ∷ [])

abbrev pub entries : List PlainInst
entries = entry 5 1 ∷ entry 6 1 ∷ []

-- OpExecutionMode %5 mode 8; with an id behind the mode
abbrev pub modes : List PlainInst
modes =
    inst opcode.EXECUTION_MODE (Id 5 ∷ Value 9 30 ∷ Word 8 ∷ []) ∷
    inst opcode.EXECUTION_MODE (Id 5 ∷ Value 9 37 ∷ Id 8 ∷ []) ∷
    []

-- OpDecorate %x decoration
abbrev pub decorate : ℕ → ℕ → PlainInst
decorate x d = inst opcode.DECORATE (Id x ∷ Value 7 d ∷ [])

-- %1 = OpTypeVoid, an OpDecorationGroup %2, a variable %3 and a struct %4 with two members
abbrev pub decorated : List PlainInst
decorated =
    decorate 3 19 ∷  -- OpDecorate %3 Restrict
    decorate 2 20 ∷  -- OpDecorate %2 Aliased
    inst opcode.DECORATION_GROUP (Result 2 ∷ []) ∷  -- %2 = OpDecorationGroup
    inst opcode.GROUP_DECORATE (Id 2 ∷ Id 3 ∷ Id 1 ∷ []) ∷  -- OpGroupDecorate %2 %3 %1
    inst opcode.MEMBER_DECORATE (Id 4 ∷ Word 1 ∷ Value 7 11 ∷ []) ∷  -- OpMemberDecorate %4 1 BuiltIn
    inst opcode.MEMBER_DECORATE (Id 4 ∷ Word 2 ∷ Value 7 20 ∷ []) ∷  -- OpMemberDecorate %4 2 Aliased
    inst opcode.TYPE_VOID (Result 1 ∷ []) ∷  -- %1 = OpTypeVoid
    inst opcode.TYPE_STRUCT (Result 4 ∷ Id 6 ∷ Id 6 ∷ []) ∷  -- %4 = OpTypeStruct %6 %6
    inst opcode.VARIABLE (OfType 5 ∷ Result 3 ∷ Value 0 5 ∷ []) ∷  -- %3 = OpVariable %5 CrossWorkgroup
    []

-- a forward pointer to a struct, and one to an int
abbrev pub pointers : List PlainInst
pointers =
    inst opcode.TYPE_FORWARD_POINTER (Id 2 ∷ Value 0 5 ∷ []) ∷  -- OpTypeForwardPointer %2 CrossWorkgroup
    inst opcode.TYPE_FORWARD_POINTER (Id 4 ∷ Value 0 5 ∷ []) ∷  -- OpTypeForwardPointer %4 CrossWorkgroup
    inst opcode.TYPE_INT (Result 1 ∷ Word 32 ∷ Word 0 ∷ []) ∷  -- %1 = OpTypeInt 32 0
    inst opcode.TYPE_STRUCT (Result 3 ∷ Id 2 ∷ []) ∷  -- %3 = OpTypeStruct %2
    inst opcode.TYPE_POINTER (Result 2 ∷ Value 0 5 ∷ Id 3 ∷ []) ∷  -- %2 = OpTypePointer CrossWorkgroup %3
    inst opcode.TYPE_POINTER (Result 4 ∷ Value 0 5 ∷ Id 1 ∷ []) ∷  -- %4 = OpTypePointer CrossWorkgroup %1
    []
