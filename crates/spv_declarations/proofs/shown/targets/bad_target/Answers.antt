use Rattle.std.proofs.Common.{◌<◌, None}
use Rattle.spv_module.specs.Module.{plain_inst}
use Rattle.spv_declarations.specs.inner.Shown.{IsBadAt}
use Rattle.spv_declarations.proofs.Badly.{given_some, some_bad}
use Rattle.spv_declarations.proofs.Early.{early_all}
use Rattle.spv_declarations.proofs.shown.targets.bad_target.Goals as goal

pub gather-requires-clause-early : goal.gather-requires-clause-early
gather-requires-clause-early c = early_all c.args.definitions.now c.args.total c.requires.total

pub first_misplaced_at-operand-requires : goal.first_misplaced_at-operand-requires
first_misplaced_at-operand-requires c =
    let is = c.args.definitions.now in
    let i = plain_inst c.args.inst.now in
    rw c.as_slice.ensures.value
    (some_bad None is c.in_ok-said.said i c.args.group c.requires.inst.0 c.in_ok-decorations.decorations.items
    c.in_ok-said.ensures c.requires.inst.1 c.requires.group c.in_ok-decorations.ensures c.requires.broken)

pub giving_inst-requires-clause-given : goal.giving_inst-requires-clause-given
giving_inst-requires-clause-given c =
    let is = c.args.definitions.now in
    let i = plain_inst c.args.inst.now in
    let ds = c.in_ok-decorations.decorations.items in
    let r = c.first_misplaced_at-operand.result in
    let b : (0 < r.0) × IsBadAt is i.operands ds r.1 r.0 =
    rw (← c.as_slice.ensures.value) c.first_misplaced_at-operand.ensures in
    given_some None is c.in_ok-said.said i.operands c.args.group r.1 r.0 ds c.in_ok-said.ensures
    c.in_ok-decorations.ensures b
