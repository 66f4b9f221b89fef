use Rattle.std.proofs.Common.{◌≡◌, drop}
use Rattle.spv_grammar.specs.Made.{all_of, parameter_of}
use Rattle.spv_grammar.proofs.Fronts.{with_front}
use Rattle.spv_grammar.proofs.make.parameters.Given as goal

abbrev pub invariant-loop-operand : goal.invariant-loop-operand
invariant-loop-operand l = all_of (parameter_of l.numbers) l.operands ≡ with_front l.found.items (all_of (parameter_of l.numbers) (drop l.operand-index l.operands))
