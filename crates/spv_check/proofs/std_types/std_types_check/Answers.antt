use Rattle.std.proofs.Common.{◌∙◌, None, Some, sym, arith}
use Rattle.spv_module.specs.Module.{plain_insts}
use Rattle.spv_std_types.specs.Mistyped.{IsFirstMistyped}
use Rattle.spv_check.proofs.Mistypings.{call_within, none_broken, refused_at, types_not_asked}
use Rattle.spv_check.proofs.std_types.std_types_check.Goals as goal

pub returns-then-not-asks_types-clause-unbroken : goal.returns-then-not-asks_types-clause-unbroken
returns-then-not-asks_types-clause-unbroken c =
    types_not_asked c.args.reach (plain_insts c.args.module.now)
    (sym c.asks_types.ensures ∙ c.if-not-asks_types.true)

pub stop_at-requires : goal.stop_at-requires
stop_at-requires c =
    let is = plain_insts c.args.module.now in
    let asked = sym c.asks_types.ensures ∙ c.if-not-asks_types.false in
    let found : IsFirstMistyped is (Some c.in-Some.inst) = rw c.in-Some.is at (c.requires.mistyped asked) in
    let within = call_within is c.in-Some.inst found in
    omega (arith, within, c.requires.plan.1.count)

pub returns-in-None-clause-unbroken : goal.returns-in-None-clause-unbroken
returns-in-None-clause-unbroken c =
    let is = plain_insts c.args.module.now in
    let asked = sym c.asks_types.ensures ∙ c.if-not-asks_types.false in
    let none : IsFirstMistyped is None = rw c.in-None.is at (c.requires.mistyped asked) in
    none_broken c.args.reach is none

pub returns-in-Some-clause-refused : goal.returns-in-Some-clause-refused
returns-in-Some-clause-refused c =
    let is = plain_insts c.args.module.now in
    let asked = sym c.asks_types.ensures ∙ c.if-not-asks_types.false in
    let found : IsFirstMistyped is (Some c.in-Some.inst) = rw c.in-Some.is at (c.requires.mistyped asked) in
    refused_at c.args.reach is c.in-Some.inst c.stop_at.result asked found
    (c.stop_at.ensures is c.requires.plan.1.place)
