use Rattle.spv_inst.proofs.Kept.{more_kept, summary_is, on_ok}
use Rattle.spv_inst.proofs.definitions.Definitions.add_result.Goals as goal

pub returns-clause-knows : goal.returns-clause-knows
returns-clause-knows c =
    on_ok c.put.result _ _
    (λ p before i e f o g k. more_kept c.args.self.now c.put.new.self before i c.args.id _ e
    (summary_is i c.args.opcode c.args.type_id c.args.bits o f g) p k)
    c.put.ensures.latest
