use Rattle.std.proofs.Common.{sym, subst, ◌∙◌, ◌↔◌, false}
use Rattle.std.specs.Prelude.{IsTrue}
use Rattle.spv_module.specs.Module.{plain_inst}
use Rattle.spv_type_rules.specs.Repeat.{Repeats}
use Rattle.spv_type_rules.specs.inner.Rules.{IsFirstHere}
use Rattle.spv_type_rules.proofs.Counting.{counted_at}
use Rattle.spv_type_rules.proofs.Concerns.{told_y3, told_y4, told_y6, told_y7, told_y8, told_nothing}
use Rattle.spv_type_rules.proofs.rules.Rules.first_at.Goals as goal

pub keeps_functions-requires-clause-parameters : goal.keeps_functions-requires-clause-parameters
keeps_functions-requires-clause-parameters c = λ e f o.
    counted_at c.args.self.now.definitions c.args.number c.args.known.parameters f
    (plain_inst c.args.inst.now) c.requires.inst e c.requires.parameters o

pub returns-in_ok-keeps-in-Constant-clause-first : goal.returns-in_ok-keeps-in-Constant-clause-first
returns-in_ok-keeps-in-Constant-clause-first c =
    let is = c.args.self.now.definitions in
    let n = c.args.number in
    let i = plain_inst c.args.inst.now in
    subst (λ o. IsFirstHere is n i o) (sym c.unless.ensures)
    (told_y4 is n i c.in_ok-keeps-in-Constant.keeps
    (sym c.concern_of.ensures ∙ c.in-Constant.is) c.in_ok-keeps-in-Constant.ensures.answer)

pub returns-in-Nothing-clause-first : goal.returns-in-Nothing-clause-first
returns-in-Nothing-clause-first c =
    told_nothing c.args.self.now.definitions c.args.number (plain_inst c.args.inst.now)
    (sym c.concern_of.ensures ∙ c.in-Nothing.is)

pub returns-in-Function-clause-first : goal.returns-in-Function-clause-first
returns-in-Function-clause-first c =
    let is = c.args.self.now.definitions in
    let n = c.args.number in
    let i = plain_inst c.args.inst.now in
    subst (λ o. IsFirstHere is n i o) (sym c.unless-in-Function.ensures)
    (told_y6 is n i c.keeps_functions.result
    (sym c.concern_of.ensures ∙ c.in-Function.is) c.keeps_functions.ensures)

pub returns-in-Return-clause-first : goal.returns-in-Return-clause-first
returns-in-Return-clause-first c =
    let is = c.args.self.now.definitions in
    let n = c.args.number in
    let i = plain_inst c.args.inst.now in
    subst (λ o. IsFirstHere is n i o) (sym c.unless-in-Return.ensures)
    (told_y7 is n i c.keeps_returns.result (sym c.concern_of.ensures ∙ c.in-Return.is) c.keeps_returns.ensures)

pub returns-in-Call-clause-first : goal.returns-in-Call-clause-first
returns-in-Call-clause-first c =
    let is = c.args.self.now.definitions in
    let n = c.args.number in
    let i = plain_inst c.args.inst.now in
    subst (λ o. IsFirstHere is n i o) (sym c.unless-in-Call.ensures)
    (told_y8 is n i c.keeps_calls.result (sym c.concern_of.ensures ∙ c.in-Call.is) c.keeps_calls.ensures)

pub returns-else-known-clause-first : goal.returns-else-known-clause-first
returns-else-known-clause-first c =
    let is = c.args.self.now.definitions in
    let n = c.args.number in
    let i = plain_inst c.args.inst.now in
    let never = subst (λ b. IsTrue b ↔ Repeats is n i) c.if-known.false c.requires.repeats in
    told_y3 is n i false (sym c.concern_of.ensures ∙ c.in-Declaration.is)
    (c.is_sound_declaration.ensures.0 c.if-not-is_sound_declaration.false) never
