use Rattle.spv_module.specs.Module.{plain_inst}
use Rattle.spv_operation_evidence.specs.inner.Values.{AreSoFar}
use Rattle.spv_operation_evidence.proofs.operation.typed_values.Given as goal

abbrev pub invariant-loop-k : goal.invariant-loop-k
invariant-loop-k l = AreSoFar l.definitions (plain_inst l.inst) l.k l.values.items
