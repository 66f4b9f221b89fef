use Rattle.std.specs.Prelude.{map}
use Rattle.spv_module.specs.Module.{plain_inst}
use Rattle.spv_ids.specs.Outcome.{definition_in}
use Rattle.spv_type_forms.proofs.Lookups.{finds}
use Rattle.spv_type_forms.proofs.Meanings.{none_meant}
use Rattle.spv_type_forms.proofs.definitions.Definitions.new.Goals as goal

pub invariant_of-result : goal.invariant_of-result
invariant_of-result c =
    let is = map plain_inst c.args.insts.now in
    record {
      found = λ x. finds is x (definition_in c.args.ids.now x) (c.requires.ids x);
      each = c.requires.ids;
      count = c.requires.plan.1.count;
      place = c.requires.plan.1.place;
      meant = none_meant is;
      model = c.addressing.ensures;
    }
