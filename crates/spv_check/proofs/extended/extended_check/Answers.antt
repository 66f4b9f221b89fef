use Rattle.std.proofs.Common.{◌∙◌, None, sym}
use Rattle.spv_module.specs.Module.{plain_insts}
use Rattle.spv_extended.specs.Miscalled.{IsFirstMiscalled}
use Rattle.spv_check.proofs.Miscalls.{asked_opens, mistyped_by, none_broken, not_asked, refused_at, refused_by, unbroken_by}
use Rattle.spv_check.proofs.extended.extended_check.Goals as goal

pub returns-then-asks_types : goal.returns-then-asks_types
returns-then-asks_types c =
    let reach = c.args.reach in
    let is = plain_insts c.args.module.now in
    let r = c.calls_check.result in record {
      unbroken = unbroken_by reach is r c.calls_check.ensures.none;
      refused = refused_by reach is r (asked_opens reach (sym c.asks_types.ensures ∙ c.if-asks_types.true))
          c.calls_check.ensures.refused;
      mistyped = mistyped_by reach is r c.calls_check.ensures.mistyped;
    }

pub returns-then-not-opens-clause-unbroken : goal.returns-then-not-opens-clause-unbroken
returns-then-not-opens-clause-unbroken c =
    not_asked c.args.reach (plain_insts c.args.module.now) (sym c.opens.ensures ∙ c.if-not-opens.true)

pub returns-in-Ok-None-clause-unbroken : goal.returns-in-Ok-None-clause-unbroken
returns-in-Ok-None-clause-unbroken c = λ r n b.
    let is = plain_insts c.args.module.now in
    let none : IsFirstMiscalled is None = rw c.in-Ok-None.field-0-is at c.in-Ok-None.ensures in
    none_broken c.args.reach is none r n b

pub returns-in-Ok-Some-clause-refused : goal.returns-in-Ok-Some-clause-refused
returns-in-Ok-Some-clause-refused c =
    let is = plain_insts c.args.module.now in
    let found = rw c.in-Ok-Some.field-0-is at c.in-Ok-Some.ensures in
    refused_at c.args.reach is c.in-Ok-Some.inst c.stop_at.result (sym c.opens.ensures ∙ c.if-not-opens.false) found
    (c.stop_at.ensures is c.requires.plan.1.place)
