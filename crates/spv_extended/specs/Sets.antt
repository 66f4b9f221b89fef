-- The sets of extended instructions that a module imports. [3.49.4]
use Rattle.std.specs.Prelude.{ℕ, List, [], ◌∷◌, Option, Some, None, codes, bytes_eq, nat_eq, if◌then◌else◌}
use Rattle.spv_module.specs.Operand.{Plain, Result, Text, PlainInst}
use Rattle.spv_module.specs.declared.opcode.TheConstants.{EXT_INST_IMPORT}
use Rattle.spv_extended.specs.declared.set.Set.{Set}
use Rattle.spv_extended.specs.declared.set.Set.TheVariants.{OpenClStd, OpenClDebugInfo, DebugInfo, Other}

-- the set of a name [Khronos' specifications of the sets; SPIRV.debug, the name that llvm-spirv gives to
-- OpenCL.DebugInfo.100, own]
abbrev pub set_named : List ℕ → Set
set_named name = if bytes_eq name (codes "OpenCL.std") then OpenClStd
    else (if bytes_eq name (codes "OpenCL.DebugInfo.100") then OpenClDebugInfo
    else (if bytes_eq name (codes "SPIRV.debug") then OpenClDebugInfo
    else (if bytes_eq name (codes "DebugInfo") then DebugInfo else Other)))

-- the id and the set of an import, %x = OpExtInstImport "name" [3.49.4]
abbrev pub import_in : List Plain → Option (ℕ × Set)
import_in (Result x ∷ Text name ∷ _) = Some (x, set_named name)
import_in _ = None

abbrev pub imported_by : PlainInst → Option (ℕ × Set)
imported_by i = if nat_eq i.opcode EXT_INST_IMPORT then import_in i.operands else None

-- the set of an id: that of the first import of it; `Other` where there is none [own]
abbrev pub or_later : ℕ → Option (ℕ × Set) → Set → Set
or_later x None later = later
or_later x (Some p) later = if nat_eq p.0 x then p.1 else later

abbrev pub set_in : List PlainInst → ℕ → Set
set_in [] x = Other
set_in (i ∷ is) x = or_later x (imported_by i) (set_in is x)
