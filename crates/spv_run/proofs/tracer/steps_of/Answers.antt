use Rattle.std.proofs.Common.{refl, arith, ap, subst, length, map}
use Rattle.spv_module.specs.Module.{plain_inst}
use Rattle.spv_run.specs.declared.tracer.Turn.{Turn}
use Rattle.spv_run.specs.inner.Trace.{kept, turned, IsTurn}
use Rattle.spv_run.proofs.Traces.{Found, going_init, going_on, going_last, going_before, going_end}
use Rattle.spv_run.proofs.tracer.steps_of.Goals as goal

pub loop-done-init : goal.loop-done-init
loop-done-init c =
    let m : Found = record {
      insts = map plain_inst c.args.code.insts.now;
      ids = c.args.code.ids.now;
      entries = c.args.start.entries.now;
      entry = c.args.start.entry;
      choices = c.args.choices.now;
    } in (
      omega (arith, ap length c.in_ok-callers.ensures.items),
      going_init m (record { position = c.args.start.entry; callers = c.in_ok-callers.callers; taken = 0 })
          c.new-steps.result.items
          c.new-steps.ensures.items c.in_ok-callers.ensures.items refl refl,
    )

pub returns-in-Last : goal.returns-in-Last
returns-in-Last c =
    let m : Found = record {
      insts = map plain_inst c.args.code.insts.now;
      ids = c.args.code.ids.now;
      entries = c.args.start.entries.now;
      entry = c.args.start.entry;
      choices = c.args.choices.now;
    } in
    going_last m c.loop-done._done c.args.limit c.loop-done.steps.items c.push-in-Last.new.self.items c.loop-done.walker
    c.len.result c.in-Last.ending c.loop-done.invariant.1
    (subst (λ (t : Turn). IsTurn m.insts m.ids m.entries (kept c.loop-done.walker m.choices)
    (turned t (kept c.turn.new.self m.choices))) c.in-Last.is c.in_ok-turn.ensures.turn)
    (omega (arith, c.len.ensures, c.loop-done.walker.callers.ok)) c.in_ok-push-in-Last.ensures.items
    (omega (arith, c.loop-done-test.true))

pub returns-in-Before : goal.returns-in-Before
returns-in-Before c =
    let m : Found = record {
      insts = map plain_inst c.args.code.insts.now;
      ids = c.args.code.ids.now;
      entries = c.args.start.entries.now;
      entry = c.args.start.entry;
      choices = c.args.choices.now;
    } in
    going_before m c.loop-done._done c.args.limit c.loop-done.steps.items c.loop-done.walker c.in-Before.ending
    c.loop-done.invariant.1
    (subst (λ (t : Turn). IsTurn m.insts m.ids m.entries (kept c.loop-done.walker m.choices)
    (turned t (kept c.turn.new.self m.choices))) c.in-Before.is c.in_ok-turn.ensures.turn)
    (omega (arith, c.loop-done-test.true))

pub loop-done-preserved : goal.loop-done-preserved
loop-done-preserved c =
    let m : Found = record {
      insts = map plain_inst c.args.code.insts.now;
      ids = c.args.code.ids.now;
      entries = c.args.start.entries.now;
      entry = c.args.start.entry;
      choices = c.args.choices.now;
    } in (
      omega (arith, c.in_ok-turn.ensures.depth, c.loop-done.invariant.0),
      going_on m c.loop-done._done c.loop-done.steps.items c.push.new.self.items c.loop-done.walker c.turn.new.self
          c.len.result c.loop-done.invariant.1
          (subst (λ (t : Turn). IsTurn m.insts m.ids m.entries (kept c.loop-done.walker m.choices)
          (turned t (kept c.turn.new.self m.choices))) c.in-Goes.is c.in_ok-turn.ensures.turn)
          (omega (arith, c.len.ensures, c.loop-done.walker.callers.ok)) c.in_ok-push-in-Goes.ensures.items,
    )

pub returns : goal.returns
returns c =
    let m : Found = record {
      insts = map plain_inst c.args.code.insts.now;
      ids = c.args.code.ids.now;
      entries = c.args.start.entries.now;
      entry = c.args.start.entry;
      choices = c.args.choices.now;
    } in
    going_end m c.loop-done._done c.args.limit c.loop-done.steps.items c.loop-done.walker c.loop-done.invariant.1
    (omega (arith, c.loop-done-test.false, c.loop-done.auto._done-end))
