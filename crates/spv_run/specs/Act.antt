-- What an instruction is to a run. [2.2.5, 3.49.9, 3.49.17]
use Rattle.std.specs.Prelude.{ℕ, List, [], ◌∷◌, nat_eq, if◌then◌else◌}
use Rattle.spv_type_kinds.specs.Operands.{ids_in}
use Rattle.spv_module.specs.Operand.{Plain, OfType, Result, Id, PlainInst}
use Rattle.spv_module.specs.declared.opcode.TheConstants as opcode

-- a value of an OpPhi, and the label of the block that it is for [own]
pub record Pair : Type 0 where
  pub value : ℕ
  pub parent : ℕ

-- what an instruction does in a run [own]
pub data Act : Type 0 where
  -- OpFunction, OpFunctionParameter, OpFunctionEnd, OpLabel
  Function : Act
  Parameter : Act
  FunctionEnd : Act
  Label : Act
  -- OpPhi
  Phi : List Pair → Act
  -- OpBranch, to a label
  Branch : ℕ → Act
  -- OpBranchConditional or OpSwitch: the value that decides, and the labels in order
  Choose : ℕ → List ℕ → Act
  -- OpFunctionCall, of a function with arguments
  Call : ℕ → List ℕ → Act
  -- OpReturn, OpReturnValue, OpUnreachable
  Return : Act
  ReturnValue : ℕ → Act
  Unreachable : Act
  -- one of these opcodes with other operands
  Misfit : Act
  -- any other instruction
  Other : Act

-- the labels of the cases of an OpSwitch, each after its literal [own]
abbrev pub labels_in : List Plain → List ℕ
labels_in [] = []
labels_in (Id x ∷ os) = x ∷ labels_in os
labels_in (_ ∷ os) = labels_in os

-- operands two by two [own]
abbrev pub pairs : List Plain → List Pair
pairs (Id v ∷ Id l ∷ os) = record { value = v; parent = l } ∷ pairs os
pairs _ = []

-- the pairs of an OpPhi [own]
abbrev pub phi_in : List Plain → Act
phi_in (OfType t ∷ Result x ∷ os) = Phi (pairs os)
phi_in _ = Misfit

-- the label of an OpBranch [own]
abbrev pub branch_in : List Plain → Act
branch_in (Id l ∷ []) = Branch l
branch_in _ = Misfit

-- true, false [own]
abbrev pub condition_in : List Plain → Act
condition_in (Id c ∷ Id l ∷ Id m ∷ _) = Choose c (l ∷ m ∷ [])
condition_in _ = Misfit

-- default, then the cases in order [own]
abbrev pub switch_in : List Plain → Act
switch_in (Id c ∷ Id l ∷ os) = Choose c (l ∷ labels_in os)
switch_in _ = Misfit

-- the function and the arguments of a call [own]
abbrev pub call_in : List Plain → Act
call_in (OfType t ∷ Result x ∷ Id f ∷ os) = Call f (ids_in os)
call_in _ = Misfit

-- the value of an OpReturnValue [own]
abbrev pub value_in : List Plain → Act
value_in (Id v ∷ []) = ReturnValue v
value_in _ = Misfit

-- what an instruction does [own]
unfoldable pub act_of : PlainInst → Act
act_of i =
    if nat_eq i.opcode opcode.FUNCTION then Function
    else (if nat_eq i.opcode opcode.FUNCTION_PARAMETER then Parameter
    else (if nat_eq i.opcode opcode.FUNCTION_END then FunctionEnd
    else (if nat_eq i.opcode opcode.FUNCTION_CALL then call_in i.operands
    else (if nat_eq i.opcode opcode.PHI then phi_in i.operands
    else (if nat_eq i.opcode opcode.LABEL then Label
    else (if nat_eq i.opcode opcode.BRANCH then branch_in i.operands
    else (if nat_eq i.opcode opcode.BRANCH_CONDITIONAL then condition_in i.operands
    else (if nat_eq i.opcode opcode.SWITCH then switch_in i.operands
    else (if nat_eq i.opcode opcode.RETURN then Return
    else (if nat_eq i.opcode opcode.RETURN_VALUE then value_in i.operands
    else (if nat_eq i.opcode opcode.UNREACHABLE then Unreachable
    else Other)))))))))))
