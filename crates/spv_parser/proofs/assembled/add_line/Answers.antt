use Rattle.std.proofs.Common.{sym, ◌∙◌}
use Rattle.spv_inst.proofs.Kept.{on_ok, same_kept}
use Rattle.spv_parser.proofs.Gathered.{none_kept}
use Rattle.spv_parser.proofs.assembled.add_line.Goals as goal

pub returns-in-None : goal.returns-in-None
returns-in-None c = λ before i h k. same_kept c.args.definitions.now before i (none_kept c.args.line i c.in-None.is h) k

pub returns-in-Some : goal.returns-in-Some
returns-in-Some c =
    on_ok c.add_result.result _ _ (λ p before i h k. p before i (sym h.result ∙ c.in-Some.is) (sym h.type_id)
    (sym h.opcode) (sym h.width) k) c.add_result.ensures.knows
