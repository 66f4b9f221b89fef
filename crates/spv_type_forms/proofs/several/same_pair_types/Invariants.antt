use Rattle.std.proofs.Common.{◌≡◌, length}
use Rattle.std.specs.List.{list_all}
use Rattle.spv_module.specs.Module.{plain_operands}
use Rattle.spv_type_forms.specs.inner.Tests.{has_type}
use Rattle.spv_type_forms.proofs.several.same_pair_types.Given as goal
use Rattle.spv_type_forms.specs.Values.{paired_ids_in}

abbrev pub invariant-loop-rest : goal.invariant-loop-rest
invariant-loop-rest l =
    list_all (has_type l.definitions l.t) (paired_ids_in (plain_operands l.operands)) ≡ list_all
    (has_type l.definitions l.t) (paired_ids_in (plain_operands l.rest))

abbrev pub decreases-loop-rest : goal.decreases-loop-rest
decreases-loop-rest l = length l.rest
