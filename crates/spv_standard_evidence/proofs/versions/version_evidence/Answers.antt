use Rattle.spv_module.specs.Module.{plain_inst}
use Rattle.spv_standard_evidence.specs.Versions.{IsEvidence}
use Rattle.spv_standard_evidence.proofs.Versioned.{form_by, lack_shown, late_by}
use Rattle.spv_standard_evidence.proofs.versions.version_evidence.Goals as goal

pub odd_evidence-requires : goal.odd_evidence-requires
odd_evidence-requires c =
    let G = c.args.table.now in
    let is = c.args.definitions.now in
    let i = plain_inst c.inst-inst.result.now in
    let m = c.of-missing.result in (
      c.args.minor,
      is,
      form_by G c.args.minor is m.lines m.is_without_meaning c.of-kinds.result.numbers i c.of-missing.ensures.told
          c.of-kinds.ensures c.in-None.ensures
          (late_by G c.args.minor is c.args.inst i c.inst-inst.ensures c.requires.broken),
    )

pub returns-in-Some : goal.returns-in-Some
returns-in-Some c =
    let G = c.args.table.now in
    let is = c.args.definitions.now in
    let i = plain_inst c.inst-inst.result.now in
    let m = c.of-missing.result in
    IsEvidence.late c.args.inst i _ c.inst-inst.ensures
    (lack_shown G c.args.minor is m.lines m.is_without_meaning c.of-kinds.result.numbers i c.in-Some.lister
    c.in-Some.line c.of-missing.ensures.told c.of-kinds.ensures c.in-Some.ensures)

pub returns-in-None : goal.returns-in-None
returns-in-None c =
    let G = c.args.table.now in
    let is = c.args.definitions.now in
    let i = plain_inst c.inst-inst.result.now in
    let m = c.of-missing.result in
    IsEvidence.late c.args.inst i _ c.inst-inst.ensures
    (c.odd_evidence.ensures G c.args.minor is
    (form_by G c.args.minor is m.lines m.is_without_meaning c.of-kinds.result.numbers i c.of-missing.ensures.told
    c.of-kinds.ensures c.in-None.ensures
    (late_by G c.args.minor is c.args.inst i c.inst-inst.ensures c.requires.broken)))
