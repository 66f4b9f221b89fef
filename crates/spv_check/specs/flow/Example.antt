-- Small examples.
use Rattle.std.specs.Prelude.{List, [], ◌∷◌}
use Rattle.spv_module.specs.Operand.{PlainInst}
use Rattle.spv_flow.specs.calls.Example.{function, label, return_op, end}

-- the definition of %1, of one block
abbrev pub alone : List PlainInst
alone = function 1 ∷ label 2 ∷ return_op ∷ end ∷ []
