use Rattle.std.proofs.Common.{◌≡◌, drop}
use Rattle.spv_module.specs.Module.{plain_operands}
use Rattle.spv_type_kinds.specs.Operands.{words_in}
use Rattle.spv_type_forms.specs.inner.Walk.{walk}
use Rattle.spv_type_forms.proofs.parts.reached.Given as goal

abbrev pub invariant-loop-operand : goal.invariant-loop-operand
invariant-loop-operand l =
    walk l.definitions (words_in (plain_operands l.literals)) l.t ≡ walk l.definitions
    (words_in (plain_operands (drop l.operand-index l.literals))) l.at
