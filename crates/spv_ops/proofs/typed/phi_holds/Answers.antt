use Rattle.std.proofs.Common.{◌≡◌}
use Rattle.std.specs.List.{AllByRecursion}
use Rattle.spv_module.specs.Module.{plain_operands}
use Rattle.spv_type_forms.specs.Types.{IsData}
use Rattle.spv_ops.proofs.TagTests.{apart}
use Rattle.spv_ops.proofs.typed.phi_holds.Goals as goal
use Rattle.spv_type_forms.specs.Values.{types_of, paired_ids_in}

pub returns : goal.returns
returns c =
    let d = apart (IsData c.args.definitions.now c.args.r) (AllByRecursion (λ t. t ≡ c.args.r))
    (types_of c.args.definitions.now (paired_ids_in (plain_operands c.args.operands.now))) in
    (λ y. d.0 (c.are_of_data_type.ensures.0 y), λ r. c.are_of_data_type.ensures.1 (d.1 r))
