use Rattle.spv_module.specs.Module.{plain_operands}
use Rattle.spv_type_evidence.specs.types.Constant.{IsPartOf}
use Rattle.spv_type_evidence.proofs.lemmas.types.Firsts.{AreBefore}
use Rattle.spv_type_evidence.proofs.types.constant.first_no_part.Given as goal

abbrev pub invariant-loop-k : goal.invariant-loop-k
invariant-loop-k l = AreBefore (λ j x. IsPartOf l.definitions l.spec l.r j x) (plain_operands l.operands) l.k
