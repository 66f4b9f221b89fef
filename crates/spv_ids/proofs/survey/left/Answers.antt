use Rattle.std.proofs.Common.{arith}
use Rattle.spv_module.specs.Module.{plain_inst}
use Rattle.spv_ids.proofs.Opens.{stays_open}
use Rattle.spv_ids.proofs.survey.left.Goals as goal

pub returns-then-inst-eq-FUNCTION_END : goal.returns-then-inst-eq-FUNCTION_END
returns-then-inst-eq-FUNCTION_END c = λ is n h o l. absurd (omega (arith, l))

pub returns-else-inst-eq-FUNCTION_END : goal.returns-else-inst-eq-FUNCTION_END
returns-else-inst-eq-FUNCTION_END c =
    λ is n h o l. stays_open is n c.args.floor (plain_inst c.args.inst.now) h c.if-inst-eq-FUNCTION_END.false (o l)
