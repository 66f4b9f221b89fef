use Rattle.std.proofs.Common.{◌≡◌, ◌<◌, ℕ, List, Some, length, get_or, sym, ap, ◌∙◌}
use Rattle.std.specs.Prelude.{slice_get}
use Rattle.std.proofs.lemmas.Option.{slice_get-get_or}
use Rattle.spv_module.specs.declared.operand.Operand.{Operand}
use Rattle.spv_module.specs.Module.{plain_inst, plain_operand}
use Rattle.spv_type_rules.proofs.lemmas.roles.Casting.{operand_at, no_operand, no_use, one_role}
use Rattle.spv_type_rules.proofs.roles.check.is_in_role.Goals as goal

got : (os : List Operand) (k : ℕ) (o : Operand) → (k < length os) × ((d : Operand) → o ≡ get_or os k d)
    → slice_get os k ≡ Some o
got os k o h = slice_get-get_or os k o h.0 ∙ ap Some (sym (h.1 o))

pub returns-in_default-asked_id : goal.returns-in_default-asked_id
returns-in_default-asked_id c = λ G f.
    let is = c.args.definitions.now in
    let i = plain_inst c.args.inst.now in
    let k = c.args.k in
    let o = c.in-Some.operand.now in
    let e : slice_get c.args.inst.now.operands k ≡ Some o = ap (λ os. slice_get os k) (sym c.as_slice.ensures.value)
    ∙ got c.as_slice.result.now k o c.in-Some.ensures.lookup.3 in
    no_operand G is i k (plain_operand o) (operand_at c.args.inst.now.operands k o e)
    (sym c.asked_id.ensures ∙ c.in_default-asked_id.is)

pub returns-in-Some-role : goal.returns-in-Some-role
returns-in-Some-role c = λ G f.
    let is = c.args.definitions.now in
    let i = plain_inst c.args.inst.now in
    let k = c.args.k in
    let o = c.in-Some.operand.now in
    let e : slice_get c.args.inst.now.operands k ≡ Some o = ap (λ os. slice_get os k) (sym c.as_slice.ensures.value)
    ∙ got c.as_slice.result.now k o c.in-Some.ensures.lookup.3 in
    one_role G is i k c.in-Some-asked_id.id c.in-Some-role.role (plain_operand o) c.plays.result
    (operand_at c.args.inst.now.operands k o e)
    (sym c.asked_id.ensures ∙ c.in-Some-asked_id.is) (c.in-Some-role.ensures G f) c.plays.ensures

pub returns-in-None : goal.returns-in-None
returns-in-None c = λ G f. no_use G c.args.definitions.now (plain_inst c.args.inst.now) c.args.k (c.in-None.ensures G f)
