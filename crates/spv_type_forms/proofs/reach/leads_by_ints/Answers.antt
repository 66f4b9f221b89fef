use Rattle.spv_module.specs.Module.{plain_operands}
use Rattle.spv_type_kinds.specs.Operands.{ids_in}
use Rattle.spv_type_forms.proofs.Choices.{choices_decide, ints_choose}
use Rattle.spv_type_forms.proofs.reach.leads_by_ints.Goals as goal

pub returns : goal.returns
returns c =
    let is = c.args.definitions.now in
    let xs = ids_in (plain_operands c.args.indexes.now) in
    let i = ints_choose is xs c.args.from c.args.to in
    let d = choices_decide is xs c.args.from c.args.to in (
      λ y. let p = i.0 (c.goes_by_ints.ensures.0 y) in
          (p.0, d.0 p.1),
      λ r. c.goes_by_ints.ensures.1 (i.1 (r.0, d.1 r.1)),
    )
