-- What a text comes to, as the code keeps it. (For the code alone.)
use Rattle.std.specs.Prelude.{ℕ, List, Bool}
use Rattle.spv_table.specs.Table.{Table}
use Rattle.spv_commands.specs.Assemble.{IsFaultOf, IsImageOf, text_fault_line}
use Rattle.spv_commands.specs.declared.assembling.Assembly.{Assembly}
use Rattle.spv_commands.specs.declared.assembling.Assembly.TheVariants.{Made, Fault, Told}

-- an image of the text, or what is told of its fault
abbrev pub ComesTo : Table → Bool → List ℕ → Assembly → Type 0
ComesTo G explain text (Made image) = IsImageOf G text image
ComesTo G explain text (Fault e) = IsFaultOf G explain text (text_fault_line e.code e.line)
ComesTo G explain text (Told lines) = IsFaultOf G explain text lines.items
