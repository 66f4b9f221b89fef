-- What a refusal by A1 and A2 says.
use Rattle.std.specs.Prelude.{◌≡◌, List}
use Rattle.spv_table.specs.Table.{Table}
use Rattle.spv_module.specs.Operand.{PlainInst}
use Rattle.spv_module.specs.declared.fault.Stop.{Stop}
use Rattle.spv_module.specs.declared.fault.Stop.TheVariants.{Fault, Memory}
use Rattle.spv_layout.specs.Stage.{of_values}
use Rattle.spv_layout.specs.First.{IsFirst}
use Rattle.spv_layout.specs.Place.{first_word_of}
use Rattle.spv_flow.specs.declared.branches.fork.Fork.{Fork}
use Rattle.spv_flow.specs.branches.Broken.{Broken}

-- What a refusal by A1 and A2 says: out of memory, or the first broken of these rules and the first word of its
-- instruction.
abbrev pub IsRefusal : Fork → Table → List PlainInst → Stop → Type 0
IsRefusal fork G is Memory = Unit {0}
IsRefusal fork G is (Fault f) =
    IsFirst (Broken fork G is) of_values f.rule f.inst × (f.word ≡ first_word_of is f.inst)
