-- Small examples.
use Rattle.std.specs.Prelude.{ℕ, List, [], ◌∷◌, ◌++◌}
use Rattle.spv_module.specs.Operand.{Plain, Argument, PlainInst}
use Rattle.spv_extended.specs.Example.{call, imports}

-- %9 = OpExtInst %3 %set number .., where %1 is OpenCL.std and %2 is OpenCL.DebugInfo.100
abbrev pub calling : ℕ → ℕ → List Plain → List PlainInst
calling set number os = imports ++ call set number os ∷ []

-- %7, and %7 and %8, as values
abbrev pub one : List Plain
one = Argument 7 ∷ []

abbrev pub two : List Plain
two = Argument 7 ∷ Argument 8 ∷ []
