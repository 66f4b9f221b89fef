use Rattle.std.proofs.Common.{◌∙◌, sym, map}
use Rattle.spv_module.specs.Module.{plain_inst}
use Rattle.spv_layout.proofs.Misfits.{inst_there}
use Rattle.spv_flow.proofs.lemmas.calls.Gathering.{entries_more, entries_past, entries_undefined}
use Rattle.spv_flow.proofs.calls.gather.entries_of.Goals.{in-Some+in-Some-definition+in_ok-push}
use Rattle.spv_flow.proofs.calls.gather.entries_of.Goals.{in-Some+in_default-definition, in_default}
use Rattle.spv_flow.proofs.calls.gather.entries_of.Goals as goal

pub loop-inst-preserved : goal.loop-inst-preserved
loop-inst-preserved c =
    let is = map plain_inst c.args.insts.now in
    let i = plain_inst c.inst-item.result in
    let n = c.loop-inst.inst-index in
    let h = inst_there c.args.insts.now n c.inst-item.result c.loop-inst-test.true c.inst-item.is in
    let old = c.loop-inst.entries.items in
    elim c.match-entry_of.branch [
      | in-Some+in-Some-definition+in_ok-push w ↦
          rw (w.entries-is, w.in_ok-push.ensures.items)
          (entries_more is c.args.ids.now n w.in-Some.id w.in-Some-definition.function old i c.requires
          c.loop-inst.invariant h (sym w.in-Some.is ∙ c.entry_of.ensures)
          (sym w.definition.ensures ∙ w.in-Some-definition.is))
      | in-Some+in_default-definition w ↦
          rw w.entries-is (entries_undefined is c.args.ids.now n w.in-Some.id old i c.requires c.loop-inst.invariant h
          (sym w.in-Some.is ∙ c.entry_of.ensures) (sym w.definition.ensures ∙ w.in_default-definition.is))
      | in_default w ↦ rw w.entries-is (entries_past is n old i c.loop-inst.invariant h
          (sym c.entry_of.ensures ∙ w.in_default.is))
    ]
