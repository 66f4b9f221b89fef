use Rattle.spv_module.specs.Module.{plain_inst}
use Rattle.spv_type_forms.proofs.Lookups.{global_told}
use Rattle.spv_type_forms.proofs.definitions.Definitions.is_global_at.Goals as goal

pub returns : goal.returns
returns c = λ x one.
    let d = global_told c.args.self.now x c.args.number
    (plain_inst c.inst.result.now) c.place.result one c.inst.ensures c.place.ensures in
    (λ y. d.0 (c.is_global_variable.ensures.0 y), λ r. c.is_global_variable.ensures.1 (d.1 r))
