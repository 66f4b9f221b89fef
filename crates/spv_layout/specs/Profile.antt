-- Which instructions a module may have under a profile. (Own.)
use Rattle.std.specs.Prelude.{Bool, true, false, IsTrue, Option, Some, None}
use Rattle.spv_table.specs.Table.{Table}
use Rattle.spv_module.specs.Operand.{PlainInst}
use Rattle.spv_module.specs.declared.profile.Profile.{Profile}
use Rattle.spv_module.specs.declared.profile.Profile.TheVariants.{Own, OpenCl}
use Rattle.spv_layout.specs.Row.{PlainRow}
use Rattle.spv_layout.specs.Rows.{row_of}
use Rattle.spv_layout.specs.Shape.{FitsShape}

-- whether a profile has the rows that belong to another: OpenCL's has all [own]
abbrev pub includes : Profile → Profile → Bool
includes OpenCl p = true
includes Own Own = true
includes Own OpenCl = false

-- whether there is a row, and the profile has it [own]
abbrev pub has_row : Profile → Option PlainRow → Bool
has_row p None = false
has_row p (Some r) = includes p r.profile

-- The profile has the row of the instruction's opcode, and the instruction fits it. [own]
pub record FitsProfile (p : Profile) (G : Table) (i : PlainInst) : Type 0 where
  pub known : IsTrue (has_row p (row_of i.opcode))
  pub shape : FitsShape G i
