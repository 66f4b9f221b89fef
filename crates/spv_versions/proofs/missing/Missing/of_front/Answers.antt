use Rattle.std.proofs.Common.{◌≤◌, List, sym, subst, arith}
use Rattle.spv_versions.specs.Table.{Line}
use Rattle.spv_versions.specs.inner.Lines.{IsListed}
use Rattle.spv_versions.proofs.Lateness.{none_taken, one_taken, told_same}
use Rattle.spv_versions.proofs.Fronts.{told_front}
use Rattle.spv_versions.proofs.missing.Missing.of_front.Goals as goal

pub loop-number-init : goal.loop-number-init
loop-number-init c = told_same c.args.minor _ _ _ _ (sym (none_taken c.args.definitions.now))
    c.in_version-missing.ensures

pub loop-number-preserved : goal.loop-number-preserved
loop-number-preserved c = told_same c.args.minor _ _ _ _
    (sym (one_taken c.args.definitions.now c.loop-number.number _ c.inst.ensures))
    (c.note.ensures c.args.minor _ c.loop-number.invariant)

pub returns-clause-told : goal.returns-clause-told
returns-clause-told c =
    let past : c.args.front ≤ c.loop-number.number = omega arith in
    told_front c.args.minor c.args.definitions.now c.args.front c.loop-number.number _ _ past c.requires.front
    c.loop-number.invariant

pub returns-clause-least : goal.returns-clause-least
returns-clause-least c = λ k n h. c.least_numbers-missing.ensures k n
    (subst (λ (ls : List Line). IsListed ls c.loop-number.missing.lines k n) (sym c.table.ensures) h)
