use Rattle.std.proofs.Common.{arith, ap, inl, inr, refl, subst}
use Rattle.spv_module.specs.Module.{plain_inst, plain_operands}
use Rattle.spv_limits.specs.inner.Alone.{AreLong}
use Rattle.spv_limits.proofs.Passing.{alone_passes}
use Rattle.spv_limits.proofs.Steps.{call_step, many_alone, mode_step, struct_step, uncounted_step}
use Rattle.spv_limits.proofs.Steps.{short_texts, too_many_arguments, no_arguments, variable_step}
use Rattle.spv_limits.proofs.past.Counts.is_past.Goals as goal

pub returns-then-has_long_text : goal.returns-then-has_long_text
returns-then-has_long_text c =
    let i = plain_inst c.inst-inst.result.now in
    let long = subst AreLong (ap plain_operands c.as_slice-operands.ensures.value)
    (c.has_long_text.ensures.0 c.if-has_long_text.true) in
    (i, c.inst-inst.ensures, alone_passes c.args.definitions.now c.args.number i (inr (inl long)))

pub returns-in_ok-is_struct_past-in-30 : goal.returns-in_ok-is_struct_past-in-30
returns-in_ok-is_struct_past-in-30 c =
    let i = plain_inst c.inst-inst.result.now in
    let short = short_texts i (plain_operands c.as_slice-operands.result.now) c.has_long_text.result
    (ap plain_operands c.as_slice-operands.ensures.value) c.has_long_text.ensures c.if-has_long_text.false in
    struct_step c.args.definitions.now c.args.number i c.in_ok-is_struct_past-in-30.field-0 c.args.self.now _
    c.inst-inst.ensures c.in-30.is short c.in_ok-is_struct_past-in-30.ensures refl refl c.requires.counted

pub returns-then-has_too_many_arguments : goal.returns-then-has_too_many_arguments
returns-then-has_too_many_arguments c =
    let is = c.args.definitions.now in
    let i = plain_inst c.inst-inst.result.now in
    let os = plain_operands c.as_slice-operands.result.now in
    let same = ap plain_operands c.as_slice-operands.ensures.value in
    let short = short_texts i os c.has_long_text.result same c.has_long_text.ensures c.if-has_long_text.false in
    call_step is c.args.number i c.is_std_call.result c.args.self.now c.inst-inst.ensures c.in-12.is short
    (too_many_arguments is i os c.is_std_call.result c.in-12.is same
    (c.has_too_many_arguments.ensures.0 c.if-has_too_many_arguments.true) c.is_std_call.ensures) c.requires.counted

pub returns-else-has_too_many_arguments : goal.returns-else-has_too_many_arguments
returns-else-has_too_many_arguments c =
    let is = c.args.definitions.now in
    let i = plain_inst c.inst-inst.result.now in
    let os = plain_operands c.as_slice-operands.result.now in
    let same = ap plain_operands c.as_slice-operands.ensures.value in
    let short = short_texts i os c.has_long_text.result same c.has_long_text.ensures c.if-has_long_text.false in
    call_step is c.args.number i c.has_too_many_arguments.result c.args.self.now c.inst-inst.ensures c.in-12.is short
    (no_arguments is i os c.has_too_many_arguments.result same c.if-has_too_many_arguments.false
    c.has_too_many_arguments.ensures) c.requires.counted

pub returns-in_ok-has_mode_too_many-in-16 : goal.returns-in_ok-has_mode_too_many-in-16
returns-in_ok-has_mode_too_many-in-16 c =
    let is = c.args.definitions.now in
    let i = plain_inst c.inst-inst.result.now in
    let short = short_texts i (plain_operands c.as_slice-operands.result.now) c.has_long_text.result
    (ap plain_operands c.as_slice-operands.ensures.value) c.has_long_text.ensures c.if-has_long_text.false in
    mode_step is c.args.number i c.in_ok-has_mode_too_many-in-16.field-0 c.args.self.now _ c.inst-inst.ensures
    c.in-16.is short
    (c.in_ok-has_mode_too_many-in-16.ensures is c.args.number c.inst-inst.ensures c.requires.counted.modes) refl refl
    c.requires.counted

pub returns-in-54 : goal.returns-in-54
returns-in-54 c =
    let is = c.args.definitions.now in
    let i = plain_inst c.inst-inst.result.now in
    let short = short_texts i (plain_operands c.as_slice-operands.result.now) c.has_long_text.result
    (ap plain_operands c.as_slice-operands.ensures.value) c.has_long_text.ensures c.if-has_long_text.false in
    variable_step is c.args.number i c.is_too_many.result c.args.self.now c.is_too_many.new.self c.inst-inst.ensures
    c.in-54.is short (c.is_too_many.ensures is c.args.number c.inst-inst.ensures c.requires.counted.variables)
    c.requires.counted

pub returns-in_default : goal.returns-in_default
returns-in_default c =
    let is = c.args.definitions.now in
    let i = plain_inst c.inst-inst.result.now in
    let short = short_texts i (plain_operands c.as_slice-operands.result.now) c.has_long_text.result
    (ap plain_operands c.as_slice-operands.ensures.value) c.has_long_text.ensures c.if-has_long_text.false in
    uncounted_step is c.args.number i c.has_too_many.result c.args.self.now c.inst-inst.ensures
    record {
      struct = λ e. grind (arith, e);
      mode = λ e. grind (arith, e);
      mode_id = λ e. grind (arith, e);
      variable = λ e. grind (arith, e);
      function = λ e. grind (arith, e);
    } (many_alone is i c.has_too_many.result short (λ e. grind (arith, e)) c.has_too_many.ensures) c.requires.counted
