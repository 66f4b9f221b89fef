use Rattle.std.proofs.Common.{◌∙◌, ◌↔◌, sym, subst, List, IsTrue}
use Rattle.spv_module.specs.Module.{plain_inst}
use Rattle.spv_module.specs.Operand.{Plain}
use Rattle.spv_declarations.specs.Given.{behind_first}
use Rattle.spv_declarations.specs.inner.Sets.{AnyId, IsIn}
use Rattle.spv_declarations.proofs.Half.{half_in_part, half_within, no_struct, struct_opcode, struct_operands}
use Rattle.spv_declarations.proofs.built_in.BuiltIns.is_half.Goals as goal

pub returns-in_default : goal.returns-in_default
returns-in_default c = λ n at. no_struct c.args.definitions.now n (plain_inst c.args.inst.now) at
    (sym c.struct_of.ensures ∙ c.in_default.is)

pub returns-then-is_in_part : goal.returns-then-is_in_part
returns-then-is_in_part c = λ n at.
    let i = plain_inst c.args.inst.now in
    let e = sym c.struct_of.ensures ∙ c.in-Some.is in
    half_in_part c.args.definitions.now c.args.self.now n i c.in-Some.t (behind_first i.operands) c.is_in_part.result
    c.requires at (struct_opcode i c.in-Some.t e) (struct_operands i c.in-Some.t e) c.is_in_part.ensures
    c.if-is_in_part.true

pub returns-else-is_in_part : goal.returns-else-is_in_part
returns-else-is_in_part c = λ n at.
    let i = plain_inst c.args.inst.now in
    let e = sym c.struct_of.ensures ∙ c.in-Some.is in
    half_within c.args.definitions.now c.args.self.now n i c.in-Some.t (behind_first i.operands) c.is_in_part.result
    c.has_within.result c.requires at (struct_opcode i c.in-Some.t e) (struct_operands i c.in-Some.t e)
    c.is_in_part.ensures
    (subst (λ (z : List Plain). IsTrue c.has_within.result ↔ AnyId (IsIn c.args.self.now.structs) z)
    c.behind_first.ensures c.has_within.ensures) c.if-is_in_part.false
