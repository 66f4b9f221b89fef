use Rattle.std.proofs.lemmas.Grind.{common_steps}
use Rattle.std.proofs.Common.{rules, ◌≡◌, true, get_or, arith}
use Rattle.spv_module.specs.declared.operand.Operand.TheVariants as code
use Rattle.spv_module.specs.Operand.{OfType, Id}
use Rattle.spv_module.specs.Module.{plain_operand}
use Rattle.spv_type_rules.proofs.lemmas.roles.Accessed.{is_result, is_mask, is_word, accessed_played}
use Rattle.spv_type_rules.proofs.roles.check.are_few_played.Goals as goal

pub returns-in-OfType-2 : goal.returns-in-OfType-2
returns-in-OfType-2 c =
    let a = c.args.asked in
    let os = c.args.operands.now in
    let d = code.OfType 0 in
    let p0 : plain_operand (get_or c.args.operands.now 0 (code.OfType 0)) ≡ OfType c.in-OfType-2.t = search rules in
    let p1 : is_result (plain_operand (get_or c.args.operands.now 1 (code.OfType 0))) ≡ true = search rules in
    let p2 : plain_operand (get_or c.args.operands.now 2 (code.OfType 0)) ≡ Id c.in-OfType-2.a = search rules in
    let p3 : is_mask (plain_operand (get_or c.args.operands.now 3 (code.OfType 0))) ≡ true = search rules in
    let p4 : is_word (plain_operand (get_or c.args.operands.now 4 (code.OfType 0))) ≡ true = search rules in
    accessed_played c.args.definitions.now a.first a.others a.masked c.are_type_and-in-OfType-2.result os d
    c.in-OfType-2.t c.in-OfType-2.a c.in-OfType-2.len_at_least c.in-OfType-2.len_below
    p0 p1 p2 p3 p4 c.are_type_and-in-OfType-2.ensures

pub returns-in-OfType : goal.returns-in-OfType
returns-in-OfType c = grind (arith, common_steps)

pub returns-in-OfType-4 : goal.returns-in-OfType-4
returns-in-OfType-4 c = grind (arith, common_steps)

pub returns-in-OfType-3 : goal.returns-in-OfType-3
returns-in-OfType-3 c = grind (arith, common_steps)
