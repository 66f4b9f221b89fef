-- Which operands an instruction of the profile has, and what their ids are used as. (The table of shapes, own; roles as
-- in [2.16].) (For the code alone.)
use Rattle.std.specs.Prelude.{List}
use Rattle.spv_table.specs.Table.{Table}
use Rattle.spv_module.specs.Operand.{Plain}
use Rattle.spv_layout.specs.declared.form.Form.{Form}
use Rattle.spv_layout.specs.Row.{RowEnding}
use Rattle.spv_layout.specs.Shape.{AreOf, Ends}

-- The operands are of forms that an ending allows.
pub record FitsEnding (G : Table) (e : RowEnding) (os : List Plain) : Type 0 where
  pub forms : List Form
  pub allowed : Ends e forms
  pub each : AreOf G forms os
