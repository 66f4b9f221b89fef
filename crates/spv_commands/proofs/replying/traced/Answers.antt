use Rattle.std.proofs.Common.{Err, ap, false, inl, inr, refl}
use Rattle.spv_check.specs.Text.{line_of}
use Rattle.spv_check.specs.Verdict.{refused_line}
use Rattle.spv_commands.specs.Trace.{Traces}
use Rattle.spv_commands.proofs.Answerings.{gives, traces_it, traces_refused}
use Rattle.spv_commands.proofs.replying.traced.Goals as goal

pub returns-in-Err-clause-gives : goal.returns-in-Err-clause-gives
returns-in-Err-clause-gives c =
    gives (Traces c.args.table.now c.args.reach c.args.function c.args.choices.now c.args.limit) c.args.bytes.items
    (refused_line c.in-Err.code) false c.fault.result
    c.fault.ensures.out c.fault.ensures.done c.fault.ensures.made
    (traces_refused c.args.table.now c.args.reach c.args.function c.args.choices.now c.args.limit c.args.bytes.items
    c.in-Err.code c.in-Err.ensures.refused)

pub returns-in-Ok-Run-clause-gives : goal.returns-in-Ok-Run-clause-gives
returns-in-Ok-Run-clause-gives c =
    let tracing = rw c.in-Ok-Run.field-0-is at
    (c.in-Ok-Run.ensures.traced c.args.bytes.items c.in-Ok.field-0-1 c.in-Ok.ensures.gives) in (
      traces_it c.args.table.now c.args.reach c.args.function c.args.choices.now c.args.limit c.args.bytes.items _ _
          tracing,
      refl,
    )

pub returns-in-Ok-Line-clause-gives : goal.returns-in-Ok-Line-clause-gives
returns-in-Ok-Line-clause-gives c =
    let tracing = rw c.in-Ok-Line.field-0-is at
    (c.in-Ok-Line.ensures.traced c.args.bytes.items c.in-Ok.field-0-1 c.in-Ok.ensures.gives) in
    gives (Traces c.args.table.now c.args.reach c.args.function c.args.choices.now c.args.limit) c.args.bytes.items
    (line_of c.in-Ok-Line.judgment) false _
    c.fault-in-Ok-Line.ensures.out c.fault-in-Ok-Line.ensures.done c.fault-in-Ok-Line.ensures.made
    (traces_it c.args.table.now c.args.reach c.args.function c.args.choices.now c.args.limit c.args.bytes.items _ _
    tracing)

pub returns-clause-only : goal.returns-clause-only
returns-clause-only c =
    let stranger = c.in-Err-traced_of.ensures.stranger c.args.bytes.items c.in-Ok.field-0-1 c.in-Ok.ensures.gives in
    let several = c.in-Err-traced_of.ensures.several c.args.bytes.items c.in-Ok.field-0-1 c.in-Ok.ensures.gives in
    elim c.in-Err-traced_of.ensures.only [
      | inl e ↦ inl (e, stranger (ap Err e))
      | inr o ↦ elim o [ inl e ↦ inr (inl (e, several (ap Err e))) | inr e ↦ inr (inr e) ]
    ]
