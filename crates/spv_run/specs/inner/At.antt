-- What instructions are at their places. (For the code alone.)
use Rattle.std.specs.Prelude.{ℕ, List, [], ◌∷◌, Bool, true, false}
use Rattle.spv_run.specs.Act.{Act, Function, Parameter, FunctionEnd, Label, Branch, Choose, Return, ReturnValue}
use Rattle.spv_run.specs.Act.{Unreachable, Misfit}

-- the labels that may come next
abbrev pub targets : Act → List ℕ
targets (Branch l) = l ∷ []
targets (Choose c ls) = ls
targets _ = []

-- Whether the instruction after it comes next: not after a terminator, and not after the end of a function.
abbrev pub goes_on : Act → Bool
goes_on FunctionEnd = false
goes_on (Branch l) = false
goes_on (Choose c ls) = false
goes_on Return = false
goes_on (ReturnValue v) = false
goes_on Unreachable = false
goes_on _ = true

-- whether it may stand in a block after the label
abbrev pub in_block : Act → Bool
in_block Function = false
in_block Parameter = false
in_block FunctionEnd = false
in_block Label = false
in_block Misfit = false
in_block _ = true
