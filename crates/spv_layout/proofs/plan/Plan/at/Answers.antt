use Rattle.std.proofs.Common.{◌≡◌, ◌∙◌, ◌+◌, ◌-◌, ◌<◌, ◌≤◌, sym, ap, refl, Some, length, arith, option_map}
use Rattle.std.specs.Prelude.{slice_get}
use Rattle.std.proofs.lemmas.Option.{slice_get_read, slice_get_past}
use Rattle.spv_layout.specs.inner.Kept.{late_place, late_places}
use Rattle.spv_layout.proofs.Keeping.{back_get, late_get}
use Rattle.spv_layout.proofs.plan.Plan.at.Goals as goal

pub returns-then-at-early-2 : goal.returns-then-at-early-2
returns-then-at-early-2 c =
    let early = c.self.inside.early.items in
    let late = c.self.inside.late.items in
    let n = c.args.inst in
    let k = n - c.len-early.result in
    let a : n ≡ length early + k = omega arith in
    let l : k < length late = omega arith in
    let g : slice_get late k ≡ Some c.index-then-at-early-2.result.now = slice_get_read late (length late) k c.index-then-at-early-2.result.now refl l c.index-then-at-early-2.ensures in
    let rest = late_places c.self.inside.functions c.self.inside.definitions (length early) late in
    rw (← c.self.view_is, c.place-then-at-early-2.ensures)
    (sym (back_get early rest n k a ∙ late_get c.self.inside.functions c.self.inside.definitions (length early) late n k a ∙ ap (option_map (late_place c.self.inside.functions c.self.inside.definitions n)) g))

pub returns-else-at-early-2 : goal.returns-else-at-early-2
returns-else-at-early-2 c =
    let early = c.self.inside.early.items in
    let late = c.self.inside.late.items in
    let n = c.args.inst in
    let k = n - c.len-early.result in
    let a : n ≡ length early + k = omega arith in
    let l : length late ≤ k = omega arith in
    let rest = late_places c.self.inside.functions c.self.inside.definitions (length early) late in
    rw (← c.self.view_is)
    (sym (back_get early rest n k a ∙ late_get c.self.inside.functions c.self.inside.definitions (length early) late n k a ∙ ap (option_map (late_place c.self.inside.functions c.self.inside.definitions n)) (slice_get_past late k l)))
