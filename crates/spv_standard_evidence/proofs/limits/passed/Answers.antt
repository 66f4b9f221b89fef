use Rattle.std.proofs.Common.{List, sym, ap, subst}
use Rattle.std.proofs.lemmas.Bool.{iff_false}
use Rattle.spv_module.specs.Module.{plain_inst, plain_operands}
use Rattle.spv_module.specs.Operand.{Plain}
use Rattle.spv_limits.specs.declared.table.Limit.{Limit}
use Rattle.spv_limits.specs.inner.Alone.{AreLong}
use Rattle.spv_standard_evidence.proofs.Limited.{PassesBy, long_passes, passed_by}
use Rattle.spv_standard_evidence.proofs.limits.passed.Goals as goal

pub returns-then-has_long_text : goal.returns-then-has_long_text
returns-then-has_long_text c =
    let i = plain_inst c.args.inst.now in
    let same = ap plain_operands c.as_slice.ensures.value in
    long_passes c.args.definitions.now c.args.number i
    (subst AreLong same (c.has_long_text.ensures.0 c.if-has_long_text.true))

pub returns : goal.returns
returns c =
    let is = c.args.definitions.now in
    let i = plain_inst c.args.inst.now in
    let same = ap plain_operands c.as_slice.ensures.value in
    let none = subst (λ (os : List Plain). ¬ (AreLong os)) same
    (iff_false c.has_long_text.ensures c.if-has_long_text.false) in
    subst (λ (l : Limit). PassesBy is c.args.number i l) (sym c.limit_of.ensures)
    (passed_by is c.args.number i c.has_many.result c.is_in_functions-is_local.result c.requires.there
    c.has_many.ensures c.is_in_functions-is_local.ensures none c.requires.passes)
