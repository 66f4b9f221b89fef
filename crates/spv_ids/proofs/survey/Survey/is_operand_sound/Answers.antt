use Rattle.std.proofs.Common.{◌∙◌, sym}
use Rattle.spv_ids.specs.inner.Survey.{insts_of}
use Rattle.spv_ids.proofs.Behind.{none_in_range}
use Rattle.spv_ids.proofs.survey.Survey.is_operand_sound.Goals as goal

pub returns : goal.returns
returns c = λ t q b. none_in_range c.args.self.now.bound (insts_of c.args.self.now) c.args.inst _ q
    (sym c.id_behind.ensures ∙ c.in_default.is) b
