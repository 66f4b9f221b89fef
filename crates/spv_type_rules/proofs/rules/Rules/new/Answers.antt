use Rattle.std.proofs.Common.{◌≡◌, sym, subst}
use Rattle.spv_module.specs.Module.{plain_insts}
use Rattle.spv_layout.specs.Plan.{IsPlan}
use Rattle.spv_ids.specs.Outcome.{IsDefinitionOf, definition_in}
use Rattle.spv_type_rules.proofs.rules.Rules.new.Goals as goal

pub returns-clause-rules : goal.returns-clause-rules
returns-clause-rules c =
    let back : plain_insts c.args.module.now ≡ c.args.definitions = sym c.requires.definitions in
    record {
      same = back;
      plan = (c.requires.plan.0, subst (λ is. IsPlan c.requires.plan.0 is c.args.plan.now) back c.requires.plan.1);
      ids = λ x. subst (λ is. IsDefinitionOf is x (definition_in c.args.ids.now x)) back (c.requires.ids x);
    }
