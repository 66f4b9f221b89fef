use Rattle.std.proofs.Common.{◌<◌, sym, ◌∙◌, length, arith}
use Rattle.std.proofs.lemmas.Option.{get_or_from_slice_get}
use Rattle.spv_table.specs.Table.{kind_of}
use Rattle.spv_table.specs.Lookups.{value_named}
use Rattle.spv_table.specs.Implied.{enumerants_of}
use Rattle.spv_table.specs.inner.Reached.{AddsAll}
use Rattle.spv_table.proofs.Search.{some_at, none_at, named_in}
use Rattle.spv_table.proofs.implied.Reached.add_named.Goals as goal
use Rattle.spv_table.proofs.implied.Reached.add_named.Goals.{in-Some+in_ok-add, in_default}

pub loop-place-init : goal.loop-place-init
loop-place-init c = AddsAll.none c.args.self.now

pub loop-place-preserved : goal.loop-place-preserved
loop-place-preserved c =
    let es = enumerants_of (kind_of c.args.table.now c.args.kind) in
    let means = named_in (kind_of c.args.table.now c.args.kind) c.name.result.now in
    let within : c.loop-place.place < length c.args.names.now = omega arith in
    let name = sym (get_or_from_slice_get c.args.names.now c.loop-place.place c.name.result.now c.name.result.now c.name.ensures) in
    elim c.match-enumerant_named.branch [
      | in-Some+in_ok-add w ↦ some_at (value_named es) c.args.names.now c.loop-place.place c.name.result.now c.args.self.now c.loop-place.self c.match-enumerant_named.self within name c.loop-place.invariant
          w.in-Some.capability (w.in-Some.ensures ∙ means) (rw w.self-is w.in_ok-add.ensures)
      | in_default w ↦ none_at (value_named es) c.args.names.now c.loop-place.place c.name.result.now c.args.self.now c.loop-place.self c.match-enumerant_named.self within name c.loop-place.invariant
          (w.in_default.ensures ∙ means) w.self-is
    ]
