use Rattle.std.proofs.lemmas.Bool.{iff_false}
use Rattle.spv_module.specs.Module.{plain_operands}
use Rattle.spv_form_evidence.proofs.lemmas.capabilities.Models.{other_addressing, other_memory, other_third}
use Rattle.spv_form_evidence.proofs.capabilities.model.operand.Goals as goal

pub returns-then-not-has_addressing : goal.returns-then-not-has_addressing
returns-then-not-has_addressing c =
    let not = iff_false c.has_addressing.ensures c.if-not-has_addressing.true in
    other_addressing (plain_operands c.args.operands.now) not

pub returns-then-not-has_memory : goal.returns-then-not-has_memory
returns-then-not-has_memory c =
    let not = iff_false c.has_memory.ensures c.if-not-has_memory.true in
    other_memory (plain_operands c.args.operands.now) not

pub returns : goal.returns
returns c =
    let addressing = c.has_addressing.ensures.0 c.if-not-has_addressing.false in
    let memory = c.has_memory.ensures.0 c.if-not-has_memory.false in
    other_third (plain_operands c.args.operands.now) c.requires addressing memory
