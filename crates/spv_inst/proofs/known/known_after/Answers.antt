use Rattle.std.proofs.Common.{sym, ◌∙◌}
use Rattle.spv_module.specs.Module.{plain_operand, plain_operands}
use Rattle.spv_inst.proofs.Contexts.{type_kept, type_found}
use Rattle.spv_inst.proofs.known.known_after.Goals as goal
use Rattle.spv_inst.proofs.known.known_after.Goals.{in-Some, in-None}

pub returns-in-Some-first-clause-type_id : goal.returns-in-Some-first-clause-type_id
returns-in-Some-first-clause-type_id c = λ h.
    let os = plain_operands c.args.operands.now in
    let o = plain_operand c.args.operand.now in
    elim c.match-known.branch [
      | in-Some w ↦ w.type_id-is ∙ sym (type_kept os o _ (sym h ∙ w.in-Some.is))
      | in-None w ↦ w.type_id-is ∙ (w.type_in_operand-type_id.ensures ∙ sym (type_found os o (sym h ∙ w.in-None.is)))
    ]
