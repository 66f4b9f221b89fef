use Rattle.std.proofs.Common.{ℕ, ap, subst, sym}
use Rattle.spv_table.specs.Table.{Table}
use Rattle.spv_module.specs.Module.{plain_insts}
use Rattle.spv_module.specs.declared.fault.Rule.{Rule}
use Rattle.spv_layout.specs.First.{IsUnbroken}
use Rattle.spv_layout.specs.Stage.{of_branches, of_values}
use Rattle.spv_ids.specs.Outcome.{AreIds}
use Rattle.spv_flow.specs.branches.Broken as branches
use Rattle.spv_flow.specs.declared.branches.fork.Fork.{Fork}
use Rattle.spv_standard.specs.Broken as standard
use Rattle.spv_capabilities.specs.inner.Subject.{Subject}
use Rattle.spv_extended.specs.Reach.{profile_of}
use Rattle.spv_standard.proofs.Lower.{are_lower}
use Rattle.spv_check.specs.Checked.{program_of}
use Rattle.spv_check.proofs.Checks.{kept_of, parts_of, up_to_calls}
use Rattle.spv_check.proofs.Firsts.{IsBefore, planned, sound, told_extended, told_flow, told_ids, told_layout}
use Rattle.spv_check.proofs.Firsts.{told_standard, told_std_types, told_types}
use Rattle.spv_check.proofs.Forwards.{are_forwards}
use Rattle.spv_check.proofs.Judgments.{refused_so}
use Rattle.spv_check.proofs.judged.judge.Goals as goal

pub returns-in-Err : goal.returns-in-Err
returns-in-Err c =
    let G = c.args.table.now in
    let h = rw c.profile_of.ensures at c.in-Err.ensures.refused in
    refused_so G c.args.reach c.args.module _ c.in-Err.stop _ c.refused.ensures
    (told_layout G c.args.reach _ _ c.in-Err.stop h) h

pub returns-in-Err-number : goal.returns-in-Err-number
returns-in-Err-number c =
    let G = c.args.table.now in
    let plan = c.in-Ok.ensures.plan in
    let h = c.in-Err-number.ensures.refused G plan in
    let laid = rw c.profile_of.ensures at c.in-Ok.ensures.laid_out in
    let none = planned c.args.reach G _ (c.member_or_dead.ensures.not_both (profile_of c.args.reach)) laid in
    refused_so G c.args.reach c.args.module _ c.in-Err-number.stop _ c.refused-in-Err-number.ensures
    (told_ids G c.args.reach _ _ c.in-Err-number.stop none h) (plan, h)

pub type_check-requires-clause-ids : goal.type_check-requires-clause-ids
type_check-requires-clause-ids c = (c.in-Ok-number.ensures.ids c.args.table.now c.in-Ok.ensures.plan).each

pub returns-in-Err-type_check : goal.returns-in-Err-type_check
returns-in-Err-type_check c =
    let G = c.args.table.now in
    let plan = c.in-Ok.ensures.plan in
    let ids = c.in-Ok-number.ensures.ids G plan in
    let h = c.in-Err-type_check.ensures.refused in
    let laid = rw c.profile_of.ensures at c.in-Ok.ensures.laid_out in
    let none = planned c.args.reach G _ (c.member_or_dead.ensures.not_both (profile_of c.args.reach)) laid in
    refused_so G c.args.reach c.args.module _ c.in-Err-type_check.stop _ c.refused-in-Err-type_check.ensures
    (told_types G c.args.reach _ _ c.in-Err-type_check.stop none ids.unbroken h) (plan, ids, h)

pub flow_check-requires-clause-known : goal.flow_check-requires-clause-known
flow_check-requires-clause-known c =
    let G = c.args.table.now in
    let plan = c.in-Ok.ensures.plan in
    (G, plan, c.in-Ok-number.ensures.ids G plan)

pub extended_check-requires-clause-plan : goal.extended_check-requires-clause-plan
extended_check-requires-clause-plan c = (c.args.table.now, c.in-Ok.ensures.plan)

pub extended_check-requires-clause-types : goal.extended_check-requires-clause-types
extended_check-requires-clause-types c = ap (λ (s : Subject). s.insts) c.in-Ok-type_check.ensures.types.same

pub std_types_check-requires-clause-plan : goal.std_types_check-requires-clause-plan
std_types_check-requires-clause-plan c = (c.args.table.now, c.in-Ok.ensures.plan)

pub standard_of-standard-requires-clause-ids : goal.standard_of-standard-requires-clause-ids
standard_of-standard-requires-clause-ids c =
    let G = c.args.table.now in
    subst (λ (T : Table). AreIds T c.args.module.header.bound (plain_insts c.args.module) c.in-Ok-number.ids)
    (sym (ap (λ (s : Subject). s.table) c.in-Ok-type_check.ensures.types.same))
    (c.in-Ok-number.ensures.ids G c.in-Ok.ensures.plan)

pub standard_of-standard-requires-clause-flow : goal.standard_of-standard-requires-clause-flow
standard_of-standard-requires-clause-flow c =
    let G = c.args.table.now in
    let is = plain_insts c.args.module in
    let fork = c.fork_of.result in
    let plan = c.in-Ok.ensures.plan in
    let flow = c.in-Ok-flow_check.ensures.flow G plan (c.in-Ok-number.ensures.ids G plan) in
    subst (λ (T : Table). (fork : Fork) × IsUnbroken (branches.Broken fork T is) of_branches
    × IsUnbroken (branches.Broken fork T is) of_values)
    (sym (ap (λ (s : Subject). s.table) c.in-Ok-type_check.ensures.types.same)) (fork, flow.branches, flow.values)

pub standard_of-standard-requires-clause-structs : goal.standard_of-standard-requires-clause-structs
standard_of-standard-requires-clause-structs c =
    let G = c.args.table.now in
    let plan = c.in-Ok.ensures.plan in
    let ids = c.in-Ok-number.ensures.ids G plan in
    are_lower G (plain_insts c.args.module) _ plan
    (λ n k x r u. c.sound_uses.ensures G c.args.module.header.bound (plain_insts c.args.module) _ n k x r plan
    ids.unbroken u)
    (are_forwards G (plain_insts c.args.module) c.in-Ok-type_check.ensures.types.rules)

pub new-requires : goal.new-requires
new-requires c =
    let G = c.args.table.now in
    let reach = c.args.reach in
    let plan = c.in-Ok.ensures.plan in
    let ids = c.in-Ok-number.ensures.ids G plan in
    let types = c.in-Ok-type_check.ensures.types in
    let u = c.in-Ok-type_check.ensures.unbroken in
    let flow = rw c.fork_of.ensures at (c.in-Ok-flow_check.ensures.flow G plan ids) in
    let laid = rw c.profile_of.ensures at c.in-Ok.ensures.laid_out in
    let p = program_of c.args.module in
    let y9 = c.in-Ok-extended_check.ensures.unbroken in
    let y10 = c.in-Ok-std_types_check.ensures.unbroken in
    let o = subst (λ (T : Table). (r : Rule) (n : ℕ) → ¬ (standard.Broken T reach p.insts r n))
    (ap (λ (s : Subject). s.table) types.same) c.in-Ok-standard.ensures.unbroken in
    let kept = kept_of G reach p _ _ c.requires.short laid ids types.roles types.capabilities types.rules u flow y9 y10
    o in
    let w = c.requires.words in
    let none = planned reach G _ (c.member_or_dead.ensures.not_both (profile_of reach)) laid in
    let most = up_to_calls G reach p.bound p.insts _ _ none ids u flow in (
      G,
      record {
        reach = reach;
        words = w.0;
        checked = record {
          reading = w.1.reading;
          bound = w.1.bound;
          sound = sound G reach p.bound p.insts most y9 y10 o;
        };
        parts = parts_of G reach c.args.module _ _ _ kept plan ids flow;
      },
    )

pub returns-in-Ok-standard : goal.returns-in-Ok-standard
returns-in-Ok-standard c =
    let G = c.args.table.now in
    let reach = c.args.reach in
    let plan = c.in-Ok.ensures.plan in
    let ids = c.in-Ok-number.ensures.ids G plan in
    let types = c.in-Ok-type_check.ensures.types in
    let u = c.in-Ok-type_check.ensures.unbroken in
    let flow = rw c.fork_of.ensures at (c.in-Ok-flow_check.ensures.flow G plan ids) in
    let laid = rw c.profile_of.ensures at c.in-Ok.ensures.laid_out in
    let p = program_of c.args.module in
    let y9 = c.in-Ok-extended_check.ensures.unbroken in
    let y10 = c.in-Ok-std_types_check.ensures.unbroken in
    let o = subst (λ (T : Table). (r : Rule) (n : ℕ) → ¬ (standard.Broken T reach p.insts r n))
    (ap (λ (s : Subject). s.table) types.same) c.in-Ok-standard.ensures.unbroken in
    let kept = kept_of G reach p _ _ c.requires.short laid ids types.roles types.capabilities types.rules u flow y9 y10
    o in
    let none = planned reach G _ (c.member_or_dead.ensures.not_both (profile_of reach)) laid in
    record {
      whole = c.new.ensures;
      kept = rw c.new.ensures kept;
      sound = sound G reach p.bound p.insts (up_to_calls G reach p.bound p.insts _ _ none ids u flow) y9 y10 o;
    }

pub returns-in-Err-std_types_check : goal.returns-in-Err-std_types_check
returns-in-Err-std_types_check c =
    let G = c.args.table.now in
    let reach = c.args.reach in
    let plan = c.in-Ok.ensures.plan in
    let ids = c.in-Ok-number.ensures.ids G plan in
    let u = c.in-Ok-type_check.ensures.unbroken in
    let flow = rw c.fork_of.ensures at (c.in-Ok-flow_check.ensures.flow G plan ids) in
    let laid = rw c.profile_of.ensures at c.in-Ok.ensures.laid_out in
    let p = program_of c.args.module in
    let none = planned reach G _ (c.member_or_dead.ensures.not_both (profile_of reach)) laid in
    let most = up_to_calls G reach p.bound p.insts _ _ none ids u flow in
    let y9 = c.in-Ok-extended_check.ensures.unbroken in
    let h = c.in-Err-std_types_check.ensures.refused in
    refused_so G reach c.args.module _ c.in-Err-std_types_check.stop _ c.refused-in-Err-std_types_check.ensures
    (told_std_types G reach p.bound p.insts c.in-Err-std_types_check.stop most y9 h) (plan, ids, h)

pub returns-in-Err-standard : goal.returns-in-Err-standard
returns-in-Err-standard c =
    let G = c.args.table.now in
    let reach = c.args.reach in
    let plan = c.in-Ok.ensures.plan in
    let ids = c.in-Ok-number.ensures.ids G plan in
    let u = c.in-Ok-type_check.ensures.unbroken in
    let flow = rw c.fork_of.ensures at (c.in-Ok-flow_check.ensures.flow G plan ids) in
    let laid = rw c.profile_of.ensures at c.in-Ok.ensures.laid_out in
    let p = program_of c.args.module in
    let none = planned reach G _ (c.member_or_dead.ensures.not_both (profile_of reach)) laid in
    let most = up_to_calls G reach p.bound p.insts _ _ none ids u flow in
    let y9 = c.in-Ok-extended_check.ensures.unbroken in
    let y10 = c.in-Ok-std_types_check.ensures.unbroken in
    let h = subst (λ (T : Table). standard.IsRefusal T reach p.insts c.in-Err-standard.stop)
    (ap (λ (s : Subject). s.table) c.in-Ok-type_check.ensures.types.same) c.in-Err-standard.ensures.refused in
    refused_so G reach c.args.module _ c.in-Err-standard.stop _ c.refused-in-Err-standard.ensures
    (told_standard G reach p.bound p.insts c.in-Err-standard.stop most y9 y10 h) (plan, ids, h)

pub returns-in-Err-extended_check : goal.returns-in-Err-extended_check
returns-in-Err-extended_check c =
    let G = c.args.table.now in
    let reach = c.args.reach in
    let plan = c.in-Ok.ensures.plan in
    let ids = c.in-Ok-number.ensures.ids G plan in
    let u = c.in-Ok-type_check.ensures.unbroken in
    let flow = rw c.fork_of.ensures at (c.in-Ok-flow_check.ensures.flow G plan ids) in
    let laid = rw c.profile_of.ensures at c.in-Ok.ensures.laid_out in
    let p = program_of c.args.module in
    let none = planned reach G _ (c.member_or_dead.ensures.not_both (profile_of reach)) laid in
    let most = up_to_calls G reach p.bound p.insts _ _ none ids u flow in
    let h = c.in-Err-extended_check.ensures.refused in
    refused_so G reach c.args.module _ c.in-Err-extended_check.stop _ c.refused-in-Err-extended_check.ensures
    (told_extended G reach p.bound p.insts c.in-Err-extended_check.stop most h) h

pub returns-in-Err-flow_check : goal.returns-in-Err-flow_check
returns-in-Err-flow_check c =
    let G = c.args.table.now in
    let reach = c.args.reach in
    let plan = c.in-Ok.ensures.plan in
    let ids = c.in-Ok-number.ensures.ids G plan in
    let u = c.in-Ok-type_check.ensures.unbroken in
    let h = rw c.fork_of.ensures at (c.in-Err-flow_check.ensures.refused G plan ids) in
    let laid = rw c.profile_of.ensures at c.in-Ok.ensures.laid_out in
    let b : IsBefore G reach c.args.module.header.bound (plain_insts c.args.module) = record {
      of_layout = planned reach G _ (c.member_or_dead.ensures.not_both (profile_of reach)) laid;
      of_ids = ids.unbroken;
      of_roles = u.0;
      of_types = u.1;
    } in
    refused_so G reach c.args.module _ c.in-Err-flow_check.stop _ c.refused-in-Err-flow_check.ensures
    (told_flow G reach _ _ c.in-Err-flow_check.stop b h) (plan, ids, h)
