use Rattle.std.proofs.Common.{◌∙◌, sym, subst, arith}
use Rattle.spv_module.specs.Module.{plain_insts}
use Rattle.spv_layout.proofs.Misfits.{short_list}
use Rattle.spv_check.specs.types.Broken as types
use Rattle.spv_explain.proofs.Stages.{broken_in, capabilities_of, later, operations_of, others_of, roles_of}
use Rattle.spv_explain.proofs.Stages.{the_operation, the_role}
use Rattle.spv_explain.proofs.Shown.{capability_shown, operation_shown, role_shown, type_shown}
use Rattle.spv_explain.proofs.evidence.typing_evidence.Goals as goal

pub role_evidence-requires-clause-broken : goal.role_evidence-requires-clause-broken
role_evidence-requires-clause-broken c =
    let G = c.args.table.now in
    let is = plain_insts c.args.module.now in
    let one = the_role c.args.fault.rule (sym c.is_of_roles.ensures ∙ c.if-is_of_roles.true) in (
      G,
      c.requires.plan,
      c.requires.ids.unbroken,
      roles_of G is c.args.fault.inst (subst (λ r. types.Broken G is r c.args.fault.inst) one
          (broken_in G is c.args.fault.rule c.args.fault.inst c.requires.refused.0)),
    )

pub returns-then-is_of_roles : goal.returns-then-is_of_roles
returns-then-is_of_roles c = λ reach.
    role_shown _ reach _ _ c.args.fault _ (the_role c.args.fault.rule
    (sym c.is_of_roles.ensures ∙ c.if-is_of_roles.true)) (c.role_evidence.ensures c.args.table.now c.requires.plan)

pub capability_evidence-requires-clause-most : goal.capability_evidence-requires-clause-most
capability_evidence-requires-clause-most c = let few = short_list (plain_insts c.args.module.now) in
    omega (arith, few, c.requires.words)

pub capability_evidence-requires-clause-broken : goal.capability_evidence-requires-clause-broken
capability_evidence-requires-clause-broken c =
    let G = c.args.table.now in
    let is = plain_insts c.args.module.now in
    capabilities_of G is c.args.fault.rule c.args.fault.inst
    (sym c.is_of_capabilities.ensures ∙ c.if-is_of_capabilities.true)
    (broken_in G is c.args.fault.rule c.args.fault.inst c.requires.refused.0)

pub returns-then-is_of_capabilities : goal.returns-then-is_of_capabilities
returns-then-is_of_capabilities c =
    λ reach. capability_shown _ reach _ _ c.args.fault c.capability_evidence.result c.capability_evidence.ensures

pub operation_evidence-requires-clause-broken : goal.operation_evidence-requires-clause-broken
operation_evidence-requires-clause-broken c =
    let G = c.args.table.now in
    let is = plain_insts c.args.module.now in
    let d = sym c.is_of_roles.ensures ∙ c.if-is_of_roles.false in
    let t = operations_of G is c.args.fault.rule c.args.fault.inst
    (sym c.is_of_operations.ensures ∙ c.if-is_of_operations.true)
    (broken_in G is c.args.fault.rule c.args.fault.inst c.requires.refused.0) in (
      G,
      record {
        plan = c.requires.plan;
        roles = later G is c.args.fault.rule c.args.fault.inst d c.requires.refused.0;
        inst = t.0;
        there = t.1;
        broken = t.2;
      },
    )

pub returns-then-is_of_operations : goal.returns-then-is_of_operations
returns-then-is_of_operations c = λ reach.
    let G = c.args.table.now in
    let is = plain_insts c.args.module.now in
    let d = sym c.is_of_roles.ensures ∙ c.if-is_of_roles.false in
    let o = sym c.is_of_operations.ensures ∙ c.if-is_of_operations.true in
    let t = operations_of G is c.args.fault.rule c.args.fault.inst o
    (broken_in G is c.args.fault.rule c.args.fault.inst c.requires.refused.0) in
    operation_shown G reach _ is c.args.fault _ (the_operation c.args.fault.rule o)
    (c.in_ok-operation_evidence.ensures G (record {
      plan = c.requires.plan;
      roles = later G is c.args.fault.rule c.args.fault.inst d c.requires.refused.0;
      inst = t.0;
      there = t.1;
      broken = t.2;
    }))

pub type_evidence-requires-clause-broken : goal.type_evidence-requires-clause-broken
type_evidence-requires-clause-broken c =
    let G = c.args.table.now in
    let is = plain_insts c.args.module.now in
    let d = sym c.is_of_roles.ensures ∙ c.if-is_of_roles.false in
    let t = others_of G is c.args.fault.rule c.args.fault.inst d
    (sym c.is_of_capabilities.ensures ∙ c.if-is_of_capabilities.false)
    (sym c.is_of_operations.ensures ∙ c.if-is_of_operations.false)
    (broken_in G is c.args.fault.rule c.args.fault.inst c.requires.refused.0) in (
      G,
      record {
        plan = c.requires.plan;
        roles = later G is c.args.fault.rule c.args.fault.inst d c.requires.refused.0;
        inst = t.0;
        there = t.1;
        broken = t.2;
      },
    )

pub returns : goal.returns
returns c = λ reach.
    let G = c.args.table.now in
    let is = plain_insts c.args.module.now in
    let d = sym c.is_of_roles.ensures ∙ c.if-is_of_roles.false in
    let t = others_of G is c.args.fault.rule c.args.fault.inst d
    (sym c.is_of_capabilities.ensures ∙ c.if-is_of_capabilities.false)
    (sym c.is_of_operations.ensures ∙ c.if-is_of_operations.false)
    (broken_in G is c.args.fault.rule c.args.fault.inst c.requires.refused.0) in
    type_shown G reach _ is c.args.fault _
    (c.in_ok-type_evidence.ensures G (record {
      plan = c.requires.plan;
      roles = later G is c.args.fault.rule c.args.fault.inst d c.requires.refused.0;
      inst = t.0;
      there = t.1;
      broken = t.2;
    }))
