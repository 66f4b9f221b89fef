-- A small module, and states of its run.
use Rattle.std.specs.Prelude.{ℕ, List, [], ◌∷◌}
use Rattle.spv_module.specs.Operand.{OfType, Result, Id, Number, Mask, PlainInst}
use Rattle.spv_module.specs.declared.opcode.TheConstants as opcode
use Rattle.spv_type_forms.specs.Example.{inst}
use Rattle.spv_flow.specs.calls.Example.{entry}
use Rattle.spv_run.specs.State.{State, enter}
use Rattle.spv_run.specs.declared.parts.Step.{Step}

-- OpSwitch %7 %8 0 %9 1 %8
abbrev pub switch : PlainInst
switch = inst opcode.SWITCH (Id 7 ∷ Id 8 ∷ Number 0 0 1 ∷ Id 9 ∷ Number 1 0 1 ∷ Id 8 ∷ [])

-- OpReturnValue %9
abbrev pub return_value : PlainInst
return_value = inst opcode.RETURN_VALUE (Id 9 ∷ [])

-- a function that only returns, and what comes after it
abbrev pub lone_before : List PlainInst → List PlainInst
lone_before rest =
    inst opcode.TYPE_VOID (Result 1 ∷ []) ∷  -- %1 = OpTypeVoid
    inst opcode.TYPE_FUNCTION (Result 2 ∷ Id 1 ∷ []) ∷  -- %2 = OpTypeFunction %1
    inst opcode.FUNCTION (OfType 1 ∷ Result 3 ∷ Mask 9 0 ∷ Id 2 ∷ []) ∷  -- %3 = OpFunction %1 None %2
    inst opcode.LABEL (Result 4 ∷ []) ∷  -- %4 = OpLabel
    inst opcode.RETURN [] ∷  -- OpReturn
    inst opcode.FUNCTION_END [] ∷  -- OpFunctionEnd
    rest

-- the function alone
abbrev pub lone : List PlainInst
lone = lone_before []

-- the function, and an OpEntryPoint that names it (where that stands does not matter to a run)
abbrev pub entered : List PlainInst
entered = lone_before (entry 3 ∷ [])

-- the same, whose block has no terminator
abbrev pub unended : List PlainInst
unended =
    inst opcode.TYPE_VOID (Result 1 ∷ []) ∷  -- %1 = OpTypeVoid
    inst opcode.TYPE_FUNCTION (Result 2 ∷ Id 1 ∷ []) ∷  -- %2 = OpTypeFunction %1
    inst opcode.FUNCTION (OfType 1 ∷ Result 3 ∷ Mask 9 0 ∷ Id 2 ∷ []) ∷  -- %3 = OpFunction %1 None %2
    inst opcode.LABEL (Result 4 ∷ []) ∷  -- %4 = OpLabel
    inst opcode.FUNCTION_END [] ∷  -- OpFunctionEnd
    []

-- the state in which a run of them stands at an instruction
abbrev pub standing : ℕ → State
standing n = record { top = enter 2 n []; below = []; choices = [] }

abbrev pub step_at : ℕ → ℕ → Step
step_at d n = record { depth = d; inst = n }
