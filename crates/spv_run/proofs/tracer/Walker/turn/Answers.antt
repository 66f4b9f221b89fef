use Rattle.std.proofs.Common.{drop, reverse, arith, refl}
use Rattle.spv_module.specs.Module.{plain_inst}
use Rattle.spv_run.specs.Act.{act_of}
use Rattle.spv_run.specs.inner.Trace.{kept}
use Rattle.spv_run.proofs.Turns.{found, lost, turning, on_comes, branch_comes, choose_comes, call_comes, return_comes}
use Rattle.spv_run.proofs.Turns.{unreachable_comes, on_turn, call_turn, return_turn, end_turn, none_left}
use Rattle.spv_run.proofs.tracer.Walker.turn.Goals as goal

pub returns-in_default-clause-turn : goal.returns-in_default-clause-turn
returns-in_default-clause-turn c =
    lost c.args.code.insts.now c.args.code.ids.now c.args.entries.now
    (kept c.args.self.now c.args.choices.now) _ c.in_default.ensures.lookup.3

pub returns-in-Choose-clause-turn : goal.returns-in-Choose-clause-turn
returns-in-Choose-clause-turn c =
    let k = kept c.args.self.now c.args.choices.now in
    let i = plain_inst c.in-Some.inst.now in
    turning c.args.code.insts.now c.args.code.ids.now c.args.entries.now k _ c.in-Some.inst.now
    (found c.args.code.insts.now c.args.self.now.position c.in-Some.inst.now c.in-Some.ensures.lookup.3.0
    c.in-Some.ensures.lookup.1)
    (λ is G bound sound num have there. choose_comes is (act_of i) c.move_of.result k _ c.in-Choose.is
    (λ v xs kind. c.choose.ensures.turn is G bound c.args.self.now.position v xs sound num there kind)
    (c.move_of.ensures is G bound c.args.self.now.position sound num have there))

pub returns-in-On-clause-turn : goal.returns-in-On-clause-turn
returns-in-On-clause-turn c =
    let k = kept c.args.self.now c.args.choices.now in
    let i = plain_inst c.in-Some.inst.now in
    turning c.args.code.insts.now c.args.code.ids.now c.args.entries.now k _ c.in-Some.inst.now
    (found c.args.code.insts.now c.args.self.now.position c.in-Some.inst.now c.in-Some.ensures.lookup.3.0
    c.in-Some.ensures.lookup.1)
    (λ is G bound sound num have there. on_comes is (act_of i) c.move_of.result k _ c.in-On.is
    (on_turn c.args.self.now.position (reverse c.args.self.now.callers.items)
    (drop c.args.self.now.taken c.args.choices.now))
    (c.move_of.ensures is G bound c.args.self.now.position sound num have there))

pub returns-in-Branch-clause-turn : goal.returns-in-Branch-clause-turn
returns-in-Branch-clause-turn c =
    let k = kept c.args.self.now c.args.choices.now in
    let i = plain_inst c.in-Some.inst.now in
    turning c.args.code.insts.now c.args.code.ids.now c.args.entries.now k _ c.in-Some.inst.now
    (found c.args.code.insts.now c.args.self.now.position c.in-Some.inst.now c.in-Some.ensures.lookup.3.0
    c.in-Some.ensures.lookup.1)
    (λ is G bound sound num have there. branch_comes is
    (act_of i) c.move_of.result c.in-Branch.label k _ c.in-Branch.is refl
    (c.move_of.ensures is G bound c.args.self.now.position sound num have there))

pub returns-in-Unreachable-clause-turn : goal.returns-in-Unreachable-clause-turn
returns-in-Unreachable-clause-turn c =
    let k = kept c.args.self.now c.args.choices.now in
    let i = plain_inst c.in-Some.inst.now in
    turning c.args.code.insts.now c.args.code.ids.now c.args.entries.now k _ c.in-Some.inst.now
    (found c.args.code.insts.now c.args.self.now.position c.in-Some.inst.now c.in-Some.ensures.lookup.3.0
    c.in-Some.ensures.lookup.1)
    (λ is G bound sound num have there. unreachable_comes is (act_of i) c.move_of.result k _ c.in-Unreachable.is refl
    (c.move_of.ensures is G bound c.args.self.now.position sound num have there))

pub returns-in_ok-push-in-Call-clause-turn : goal.returns-in_ok-push-in-Call-clause-turn
returns-in_ok-push-in-Call-clause-turn c =
    let k = kept c.args.self.now c.args.choices.now in
    let i = plain_inst c.in-Some.inst.now in
    turning c.args.code.insts.now c.args.code.ids.now c.args.entries.now k _ c.in-Some.inst.now
    (found c.args.code.insts.now c.args.self.now.position c.in-Some.inst.now c.in-Some.ensures.lookup.3.0
    c.in-Some.ensures.lookup.1)
    (λ is G bound sound num have there. call_comes is (act_of i) c.move_of.result c.in-Call.label k _ c.in-Call.is
    (call_turn c.args.self.now.position c.in-Call.label c.args.self.now.callers.items c.push.new.self.items
    (drop c.args.self.now.taken c.args.choices.now) c.in_ok-push-in-Call.ensures.items)
    (c.move_of.ensures is G bound c.args.self.now.position sound num have there))

pub returns-in-Some-pop-clause-turn : goal.returns-in-Some-pop-clause-turn
returns-in-Some-pop-clause-turn c =
    let k = kept c.args.self.now c.args.choices.now in
    let i = plain_inst c.in-Some.inst.now in
    turning c.args.code.insts.now c.args.code.ids.now c.args.entries.now k _ c.in-Some.inst.now
    (found c.args.code.insts.now c.args.self.now.position c.in-Some.inst.now c.in-Some.ensures.lookup.3.0
    c.in-Some.ensures.lookup.1)
    (λ is G bound sound num have there. return_comes is (act_of i) c.move_of.result k _ c.in-Return.is
    (return_turn c.args.self.now.position c.in-Some-pop.caller c.args.self.now.callers.items c.pop.new.self.items
    (drop c.args.self.now.taken c.args.choices.now) c.in-Some-pop.ensures.items)
    (c.move_of.ensures is G bound c.args.self.now.position sound num have there))

pub returns-in_default-pop-clause-turn : goal.returns-in_default-pop-clause-turn
returns-in_default-pop-clause-turn c =
    let k = kept c.args.self.now c.args.choices.now in
    let i = plain_inst c.in-Some.inst.now in
    turning c.args.code.insts.now c.args.code.ids.now c.args.entries.now k _ c.in-Some.inst.now
    (found c.args.code.insts.now c.args.self.now.position c.in-Some.inst.now c.in-Some.ensures.lookup.3.0
    c.in-Some.ensures.lookup.1)
    (λ is G bound sound num have there. return_comes is (act_of i) c.move_of.result k _ c.in-Return.is
    (end_turn c.args.self.now.position c.args.self.now.callers.items (drop c.args.self.now.taken c.args.choices.now)
    (none_left c.args.self.now.callers.items
    (omega (arith, c.args.self.now.callers.ok, c.in_default-pop.ensures.cases.0))))
    (c.move_of.ensures is G bound c.args.self.now.position sound num have there))
