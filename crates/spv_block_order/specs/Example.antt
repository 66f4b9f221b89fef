-- Small functions.
use Rattle.std.specs.Prelude.{List, [], ◌∷◌}
use Rattle.spv_module.specs.Operand.{PlainInst}
use Rattle.spv_flow.specs.branches.Example.{function, label, branch, return_void, negation}

-- %1 = OpLabel, OpBranch %3, %2 = OpLabel, OpReturn, %3 = OpLabel, OpBranch %2
abbrev pub turned : List PlainInst
turned = function ∷ label 1 ∷ branch 3 ∷ label 2 ∷ return_void ∷ label 3 ∷ branch 2 ∷ []

-- the same without its turn: the blocks are those of %1, %3 and %2
abbrev pub in_order : List PlainInst
in_order = function ∷ label 1 ∷ branch 3 ∷ label 3 ∷ branch 2 ∷ label 2 ∷ return_void ∷ []

-- %1 = OpLabel, OpReturn, %2 = OpLabel, %6 = OpNot %20 %7, %7 = OpNot %20 %6, OpReturn
abbrev pub unreached : List PlainInst
unreached =
    function ∷ label 1 ∷ return_void ∷ label 2 ∷ negation 6 7 ∷ negation 7 6 ∷ return_void ∷ []
