-- Table V, and table X behind it: in which version what came first, and which extensions have it. [3, 'missing before']
use Rattle.std.specs.Prelude.{◌≡◌, ◌<◌, ◌≤◌, ℕ, List, Option, Some, None, codes}
use Rattle.spv_versions.specs.declared.table.Kind.{Kind}
use Rattle.spv_versions.specs.declared.table.Kind.TheVariants as kind
use Rattle.spv_versions.specs.declared.table.TheConstants.{TABLE}

-- a line: a kind, its numbers from one to another, the minor number of the first version, if one has them, and the
-- names of extensions [own]
abbrev pub Text : Type 0
Text = record { now : List ℕ }

abbrev pub Texts : Type 0
Texts = record { now : List Text }

abbrev pub Line : Type 0
Line = Kind × ℕ × ℕ × Option ℕ × Texts

-- the table of src/table.rt [3; Khronos' grammar file of SPIR-V 1.6]
unfoldable pub lines : List Line
lines = TABLE

-- Version 1.minor is before what a line says: before its version, or where no version has it. [3]
abbrev pub IsBefore : ℕ → Option ℕ → Type 0
IsBefore minor (Some first) = minor < first
IsBefore minor None = Unit {0}

-- A line is of that number of the kind. [own]
abbrev pub IsOf : Line → Kind → ℕ → Type 0
IsOf l k n = (l.0 ≡ k) × (l.1 ≤ n) × (n ≤ l.2)

-- the name that a kind of operands has in a grammar; opcodes are no operands [3]
abbrev pub name_of : Kind → Option (List ℕ)
name_of kind.Opcode = None
name_of kind.Capability = Some (codes "Capability")
name_of kind.ExecutionMode = Some (codes "ExecutionMode")
name_of kind.Decoration = Some (codes "Decoration")
name_of kind.BuiltIn = Some (codes "BuiltIn")
name_of kind.LoopControl = Some (codes "LoopControl")
name_of kind.ImageOperands = Some (codes "ImageOperands")
name_of kind.GroupOperation = Some (codes "GroupOperation")
name_of kind.PackedVectorFormat = Some (codes "PackedVectorFormat")
name_of kind.LinkageType = Some (codes "LinkageType")
