use Rattle.std.proofs.Common.{◌∙◌, sym}
use Rattle.spv_module.specs.Module.{plain_operands}
use Rattle.spv_type_forms.proofs.TagTests.{all_same}
use Rattle.spv_type_forms.proofs.several.all_pairs_of_type.Goals as goal
use Rattle.spv_type_forms.specs.Values.{paired_ids_in}

pub returns : goal.returns
returns c =
    let d = all_same c.args.definitions.now c.args.t (paired_ids_in (plain_operands c.args.operands.now)) in
    (λ y. d.0 (sym c.same_pair_types.ensures ∙ y), λ r. c.same_pair_types.ensures ∙ d.1 r)
