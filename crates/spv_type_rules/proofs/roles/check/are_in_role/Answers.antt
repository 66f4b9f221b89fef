use Rattle.std.proofs.Common.{◌∙◌, length, refl, sym, ap, subst, MatchBool}
use Rattle.spv_module.specs.Module.{plain_inst, plain_operands}
use Rattle.spv_layout.specs.declared.form.Role.TheVariants as role
use Rattle.spv_type_rules.specs.declared.roles.asked.Asked.{Asked}
use Rattle.spv_type_rules.specs.roles.inner.Asked.{ArePlayed, IsOneMiscast}
use Rattle.spv_type_rules.specs.roles.inner.Known.{uses_nothing}
use Rattle.spv_type_rules.proofs.lemmas.roles.Asking.{asked_values, judged}
use Rattle.spv_type_rules.proofs.lemmas.roles.Casting.{nothing_used}
use Rattle.spv_type_rules.proofs.roles.check.are_in_role.Goals as goal

pub returns-then-asks_values : goal.returns-then-asks_values
returns-then-asks_values c = λ G f.
    let is = c.args.definitions.now in
    let a : Asked = record { first = role.Value; others = role.Value; masked = role.Any } in
    let played =
    subst (λ os. MatchBool c.are_values_played.result (ArePlayed is a.first a.others a.masked (plain_operands os))
    (IsOneMiscast is a.first a.others a.masked (plain_operands os))) c.as_slice-operands.ensures.value
    c.are_values_played.ensures
    in
    judged G is (plain_inst c.args.inst.now) a (length c.args.inst.now.operands) c.are_values_played.result
    (asked_values c.args.inst.now.opcode (sym c.asks_values.ensures ∙ c.if-asks_values.true)) f played

pub returns-in-Some : goal.returns-in-Some
returns-in-Some c = λ G f.
    let is = c.args.definitions.now in
    let a = c.in-Some.asked in
    let played =
    subst (λ os. MatchBool c.are_few_played.result (ArePlayed is a.first a.others a.masked (plain_operands os))
    (IsOneMiscast is a.first a.others a.masked (plain_operands os))) c.as_slice-operands.ensures.value
    c.are_few_played.ensures
    in
    judged G is (plain_inst c.args.inst.now) a (length c.args.inst.now.operands) c.are_few_played.result
    c.in-Some.ensures f played

pub returns-then-uses_nothing : goal.returns-then-uses_nothing
returns-then-uses_nothing c = λ G f.
    let v = c.as_slice-operands.ensures.value in
    nothing_used G c.args.definitions.now (plain_inst c.args.inst.now) c.args.inst.now.operands refl
    (ap (λ os. uses_nothing (plain_operands os)) (sym v) ∙ sym c.uses_nothing.ensures ∙ c.if-uses_nothing.true)
