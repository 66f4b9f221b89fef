use Rattle.spv_module.specs.Module.{plain_operands}
use Rattle.spv_type_forms.specs.Types.{IsData}
use Rattle.spv_type_evidence.proofs.lemmas.types.Firsts.{AreBefore}
use Rattle.spv_type_evidence.proofs.types.declaration.first_no_data.Given as goal

abbrev pub invariant-loop-k : goal.invariant-loop-k
invariant-loop-k l = AreBefore (λ j t. IsData l.definitions t) (plain_operands l.operands) l.k
