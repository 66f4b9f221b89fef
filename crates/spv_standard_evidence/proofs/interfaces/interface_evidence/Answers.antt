use Rattle.std.proofs.Common.{length, sym, ap, arith}
use Rattle.std.proofs.lemmas.List.{length-map}
use Rattle.std.proofs.lemmas.Option.{slice_get_within}
use Rattle.spv_module.specs.Module.{plain_inst, plain_operand, plain_operands}
use Rattle.spv_standard_evidence.specs.Interfaces.{IsEvidence}
use Rattle.spv_standard_evidence.proofs.Faced.{faced_count, lacking_of, not_faced}
use Rattle.spv_standard_evidence.proofs.interfaces.interface_evidence.Goals as goal

pub inst-entry_point-requires : goal.inst-entry_point-requires
inst-entry_point-requires c =
    let m = c.requires.broken.2 in
    slice_get_within c.args.definitions.now c.args.inst m.inst m.there

pub unreachable-requires : goal.unreachable-requires
unreachable-requires c =
    let r = c.requires.broken in
    not_faced r.0 c.args.minor c.args.definitions.now c.args.inst (plain_inst c.inst-entry_point.result.now)
    c.inst-entry_point.ensures (sym c.in_default.ensures) r.2

pub missing_evidence-requires-clause-missing : goal.missing_evidence-requires-clause-missing
missing_evidence-requires-clause-missing c =
    let r = c.requires.broken in
    let l = lacking_of r.0 c.args.minor c.args.definitions.now c.args.inst c.in-Some.function
    (plain_operands c.in-Some.interface.now) (plain_inst c.inst-entry_point.result.now) c.inst-entry_point.ensures
    (sym c.in-Some.ensures) (rw c.in-None.is at c.in_ok-evidence.ensures) r.2 in
    (r.0, r.1, l.id, l.wanted, l.used, l.unnamed)

pub unsound_evidence-requires-clause-first : goal.unsound_evidence-requires-clause-first
unsound_evidence-requires-clause-first c =
    let os = c.inst-entry_point.result.now.operands in
    let qs = c.in-Some.interface.now in
    let l = ap length c.as_slice.ensures.value in
    let m = length-map os plain_operand in
    let k = length-map qs plain_operand in
    let n = faced_count (plain_inst c.inst-entry_point.result.now) c.in-Some.function (plain_operands qs)
    (sym c.in-Some.ensures) in
    omega (arith, l, m, k, n)

pub returns-in-Some-2 : goal.returns-in-Some-2
returns-in-Some-2 c = λ G plan.
    IsEvidence.misfaced c.args.inst c.in-Some.function (plain_inst c.inst-entry_point.result.now)
    (plain_operands c.in-Some.interface.now) c.in-Some-2.evidence c.inst-entry_point.ensures (sym c.in-Some.ensures)
    ((rw c.in-Some-2.is at c.in_ok-evidence.ensures) G c.in-Some.function)

pub returns-in_ok-missing_evidence-in-None : goal.returns-in_ok-missing_evidence-in-None
returns-in_ok-missing_evidence-in-None c = λ G plan.
    IsEvidence.misfaced c.args.inst c.in-Some.function (plain_inst c.inst-entry_point.result.now)
    (plain_operands c.in-Some.interface.now) c.in_ok-missing_evidence-in-None.field-0 c.inst-entry_point.ensures
    (sym c.in-Some.ensures) (c.in_ok-missing_evidence-in-None.ensures G plan)
