use Rattle.std.proofs.Common.{rules}
use Rattle.spv_module.specs.Module.{plain_insts}
use Rattle.spv_facts.proofs.Parts.{parts}
use Rattle.spv_facts.proofs.about.About.push_evidence.Goals as goal

pub returns-in_default : goal.returns-in_default
returns-in_default c =
    rw (← parts (plain_insts c.args.self.now.«module».now) c.args.inst c.args.evidence) (search rules)
