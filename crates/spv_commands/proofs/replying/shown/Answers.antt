use Rattle.std.proofs.Common.{false, refl}
use Rattle.spv_check.specs.Text.{line_of}
use Rattle.spv_check.specs.Verdict.{refused_line}
use Rattle.spv_commands.specs.Show.{IsShowing, Shows}
use Rattle.spv_commands.proofs.Answerings.{gives, shows_it}
use Rattle.spv_commands.proofs.replying.shown.Goals as goal

pub returns-in-Err-clause-gives : goal.returns-in-Err-clause-gives
returns-in-Err-clause-gives c =
    gives (Shows c.args.table.now c.args.reach) c.args.bytes.items
    (refused_line c.in-Err.code) false c.fault.result c.fault.ensures.out c.fault.ensures.done c.fault.ensures.made
    (shows_it c.args.table.now c.args.reach c.args.bytes.items (refused_line c.in-Err.code) false
    (IsShowing.refused c.in-Err.code c.in-Err.ensures.refused))

pub returns-in-Ok-Text-clause-gives : goal.returns-in-Ok-Text-clause-gives
returns-in-Ok-Text-clause-gives c =
    let showing = rw c.in-Ok-Text.field-0-is at
    (c.in-Ok-Text.ensures.shown c.args.bytes.items c.in-Ok.field-0-1 c.in-Ok.ensures.gives) in
    (shows_it c.args.table.now c.args.reach c.args.bytes.items _ _ showing, refl)

pub returns-in-Ok-Line-clause-gives : goal.returns-in-Ok-Line-clause-gives
returns-in-Ok-Line-clause-gives c =
    let showing = rw c.in-Ok-Line.field-0-is at
    (c.in-Ok-Line.ensures.shown c.args.bytes.items c.in-Ok.field-0-1 c.in-Ok.ensures.gives) in
    gives (Shows c.args.table.now c.args.reach) c.args.bytes.items
    (line_of c.in-Ok-Line.judgment) false _ c.fault-in-Ok-Line.ensures.out c.fault-in-Ok-Line.ensures.done
    c.fault-in-Ok-Line.ensures.made
    (shows_it c.args.table.now c.args.reach c.args.bytes.items _ _ showing)
