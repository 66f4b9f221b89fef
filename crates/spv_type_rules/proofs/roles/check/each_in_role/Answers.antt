use Rattle.std.proofs.Common.{◌≡◌, length, ap, subst, arith}
use Rattle.spv_module.specs.Module.{plain_inst}
use Rattle.spv_type_rules.specs.roles.inner.Known.{AreInRoleBefore}
use Rattle.spv_type_rules.proofs.lemmas.roles.Casting.{one_before}
use Rattle.spv_type_rules.proofs.roles.check.each_in_role.Goals as goal

pub loop-k-preserved : goal.loop-k-preserved
loop-k-preserved c = λ G f.
    one_before G c.args.definitions.now (plain_inst c.args.inst.now) c.loop-k.k (c.if-not-is_in_role.ensures G f)
    (c.loop-k.invariant G f)

pub returns : goal.returns
returns c = λ G f.
    let v = ap length c.as_slice-k-end.ensures.value in
    let a = c.loop-k.auto.k-end in
    let t = c.loop-k-test.false in
    let e : c.loop-k.k ≡ length c.args.inst.now.operands = omega arith in
    subst (λ m. AreInRoleBefore G c.args.definitions.now (plain_inst c.args.inst.now) m) e (c.loop-k.invariant G f)
