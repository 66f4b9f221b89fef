use Rattle.std.proofs.Common.{arith, sym, subst}
use Rattle.spv_module.specs.Module.{plain_inst}
use Rattle.spv_kernel_operands.specs.inner.First.{IsFirstAt}
use Rattle.spv_kernel_operands.proofs.Quiet.{control_at, image_at, memory_at, return_at, store_at, switch_at}
use Rattle.spv_kernel_operands.proofs.check.broken_at.Goals as goal

pub returns-in-62 : goal.returns-in-62
returns-in-62 c =
    let G = c.args.capabilities.now.table in
    let is = c.args.definitions.now in
    subst (λ o. IsFirstAt G is c.args.number o) (sym c.rule_if-rule.ensures)
    (store_at G is c.args.number (plain_inst c.inst-inst.result.now) c.is_miswritten.result c.inst-inst.ensures c.in-62.is
    c.is_miswritten.ensures)

pub returns-in-246 : goal.returns-in-246
returns-in-246 c =
    let G = c.args.capabilities.now.table in
    let is = c.args.definitions.now in
    subst (λ o. IsFirstAt G is c.args.number o) (sym c.rule_if-rule-in-246.ensures)
    (control_at G is c.args.number (plain_inst c.inst-inst.result.now) c.is_miscontrolled.result c.inst-inst.ensures
    c.in-246.is c.is_miscontrolled.ensures)

pub returns-in_ok-is_misswitched-in-251 : goal.returns-in_ok-is_misswitched-in-251
returns-in_ok-is_misswitched-in-251 c =
    let G = c.args.capabilities.now.table in
    let is = c.args.definitions.now in
    subst (λ o. IsFirstAt G is c.args.number o) (sym c.rule_if-rule-in-251.ensures)
    (switch_at G is c.args.number (plain_inst c.inst-inst.result.now) c.in_ok-is_misswitched-in-251.field-0
    c.inst-inst.ensures c.in-251.is c.in_ok-is_misswitched-in-251.ensures)

pub returns-in-254 : goal.returns-in-254
returns-in-254 c =
    let G = c.args.capabilities.now.table in
    let is = c.args.definitions.now in
    subst (λ o. IsFirstAt G is c.args.number o) (sym c.rule_if-rule-in-254.ensures)
    (return_at G is c.args.number (plain_inst c.inst-inst.result.now) c.is_void_return.result c.inst-inst.ensures
    c.in-254.is c.is_void_return.ensures)

pub returns-in-88 : goal.returns-in-88
returns-in-88 c =
    let G = c.args.capabilities.now.table in
    let is = c.args.definitions.now in
    subst (λ o. IsFirstAt G is c.args.number o) (sym c.rule_if-rule-in-88.ensures)
    (image_at G is c.args.number (plain_inst c.inst-inst.result.now) c.is_made_elsewhere.result c.inst-inst.ensures
    c.in-88.is c.is_made_elsewhere.ensures)

pub returns-in_default : goal.returns-in_default
returns-in_default c = memory_at c.args.capabilities.now.table c.args.definitions.now c.args.number
    (plain_inst c.inst-inst.result.now) c.broken_in_memory-rule.result c.inst-inst.ensures
    record {
      loop = λ e. grind (arith, e);
      branch = λ e. grind (arith, e);
      switch = λ e. omega (arith, e);
      value = λ e. omega (arith, e);
      sample = λ e. grind (arith, e);
      image = λ e. grind (arith, e);
    } c.broken_in_memory-rule.ensures
