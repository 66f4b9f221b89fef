use Rattle.std.proofs.Common.{Err, ap, false, inl, inr, refl}
use Rattle.spv_check.specs.Text.{line_of}
use Rattle.spv_check.specs.Verdict.{refused_line}
use Rattle.spv_views.specs.View.{Views}
use Rattle.spv_commands.proofs.Answerings.{gives, views_it, views_refused}
use Rattle.spv_commands.proofs.replying.viewed.Goals as goal

pub returns-in-Err-clause-gives : goal.returns-in-Err-clause-gives
returns-in-Err-clause-gives c =
    gives (Views c.args.how c.args.table.now c.args.reach c.args.function) c.args.bytes.items
    (refused_line c.in-Err.code) false c.fault.result c.fault.ensures.out c.fault.ensures.done c.fault.ensures.made
    (views_refused c.args.how c.args.table.now c.args.reach c.args.function c.args.bytes.items c.in-Err.code
    c.one_refusal.ensures.never c.in-Err.ensures.refused)

pub returns-in-Ok-Text-clause-gives : goal.returns-in-Ok-Text-clause-gives
returns-in-Ok-Text-clause-gives c =
    let viewing = rw c.in-Ok-Text.field-0-is at
    (c.in-Ok-Text.ensures.viewed c.args.bytes.items c.in-Ok.field-0-1 c.in-Ok.ensures.gives) in (
      rw c.into_bytes.ensures.value (views_it c.args.how c.args.table.now c.args.reach c.args.function c.args.bytes.items _ _
          viewing),
      refl,
    )

pub returns-in-Ok-Beginning-clause-gives : goal.returns-in-Ok-Beginning-clause-gives
returns-in-Ok-Beginning-clause-gives c =
    let viewing = rw c.in-Ok-Beginning.field-0-is at
    (c.in-Ok-Beginning.ensures.viewed c.args.bytes.items c.in-Ok.field-0-1 c.in-Ok.ensures.gives) in (
      rw c.into_bytes-in-Ok-Beginning.ensures.value
          (views_it c.args.how c.args.table.now c.args.reach c.args.function c.args.bytes.items _ _ viewing),
      refl,
    )

pub returns-in-Ok-Line-clause-gives : goal.returns-in-Ok-Line-clause-gives
returns-in-Ok-Line-clause-gives c =
    let viewing = rw c.in-Ok-Line.field-0-is at
    (c.in-Ok-Line.ensures.viewed c.args.bytes.items c.in-Ok.field-0-1 c.in-Ok.ensures.gives) in
    gives (Views c.args.how c.args.table.now c.args.reach c.args.function) c.args.bytes.items (line_of c.in-Ok-Line.judgment) false _
    c.fault-in-Ok-Line.ensures.out c.fault-in-Ok-Line.ensures.done c.fault-in-Ok-Line.ensures.made
    (views_it c.args.how c.args.table.now c.args.reach c.args.function c.args.bytes.items _ _ viewing)

pub returns-in-Err-NoFunction-clause-only : goal.returns-in-Err-NoFunction-clause-only
returns-in-Err-NoFunction-clause-only c =
    inl (
      refl,
      c.in-Err-NoFunction.ensures.stranger c.args.bytes.items c.in-Ok.field-0-1 c.in-Ok.ensures.gives
          (ap Err c.in-Err-NoFunction.field-0-is),
    )

pub returns-in-Err-SeveralFunctions-clause-only : goal.returns-in-Err-SeveralFunctions-clause-only
returns-in-Err-SeveralFunctions-clause-only c =
    inr (inl (
      refl,
      c.in-Err-SeveralFunctions.ensures.several c.args.bytes.items c.in-Ok.field-0-1 c.in-Ok.ensures.gives
          (ap Err c.in-Err-SeveralFunctions.field-0-is),
    ))
