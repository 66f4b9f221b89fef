use Rattle.std.proofs.Common.{subst, arith}
use Rattle.spv_module.specs.Module.{plain_insts}
use Rattle.spv_standard.specs.Broken.{KernelBroken}
use Rattle.spv_standard.specs.inner.First.{IsFirstIn}
use Rattle.spv_standard.proofs.Joined.{told}
use Rattle.spv_standard.proofs.Stages.{kernel_stage}
use Rattle.spv_standard.proofs.Within.{kernel_within}
use Rattle.spv_standard.proofs.check.standard_check.Goals as goal

pub stop_at-requires : goal.stop_at-requires
stop_at-requires c =
    let G = c.args.capabilities.now.table in
    let is = plain_insts c.args.module.now in
    let m = c.in-OpenCl.minor in
    let first = subst (λ o. IsFirstIn (KernelBroken G m is) o) c.in-Ok-Some.field-0-is c.in-Ok-Some.ensures in
    let within = kernel_within G m is c.in-Ok-Some.found.rule c.in-Ok-Some.found.inst first.broken in
    omega (arith, within, c.requires.plan.count)

pub returns-in-Ok-None-clause-unbroken : goal.returns-in-Ok-None-clause-unbroken
returns-in-Ok-None-clause-unbroken c = λ r n b.
    let G = c.args.capabilities.now.table in
    let is = plain_insts c.args.module.now in
    let m = c.in-OpenCl.minor in
    let none = subst (λ o. IsFirstIn (KernelBroken G m is) o) c.in-Ok-None.field-0-is c.in-Ok-None.ensures in
    let k : KernelBroken G m is r n = rw c.in-OpenCl.is at b in
    none r n (kernel_stage G m is r n k) k

pub returns-in-Ok-Some-clause-refused : goal.returns-in-Ok-Some-clause-refused
returns-in-Ok-Some-clause-refused c =
    let G = c.args.capabilities.now.table in
    let is = plain_insts c.args.module.now in
    let m = c.in-OpenCl.minor in
    let first = subst (λ o. IsFirstIn (KernelBroken G m is) o) c.in-Ok-Some.field-0-is c.in-Ok-Some.ensures in
    rw c.in-OpenCl.is
    (told G m is c.in-Ok-Some.found.rule c.in-Ok-Some.found.inst c.stop_at.result first
    (c.stop_at.ensures is c.requires.plan.place))
