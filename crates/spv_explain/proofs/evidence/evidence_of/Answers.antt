use Rattle.std.proofs.Common.{refl}
use Rattle.spv_module.specs.Module.{plain_insts}
use Rattle.spv_module.specs.declared.fault.Stop.TheVariants as stop
use Rattle.spv_check.specs.Fork.{fork_of}
use Rattle.spv_explain.proofs.Shown.{extended_shown, id_shown, layout_shown, mistyping_shown, refused_broken, the_miscall}
use Rattle.spv_explain.proofs.Shown.{standard_shown, the_mistyping}
use Rattle.spv_explain.proofs.Parted.{unbroken_branches}
use Rattle.spv_explain.proofs.evidence.evidence_of.Goals as goal

pub layout_evidence-requires : goal.layout_evidence-requires
layout_evidence-requires c =
    let G = c.args.table.now in
    let is = plain_insts c.args.module.now in
    let f = c.args.fault in
    let r = rw c.in-Decoded.is at c.requires.refused in
    record { broken = (G, rw c.profile_of.ensures (refused_broken c.args.reach G is (stop.Fault f) f refl r)) }

pub returns-in_ok-layout_evidence-in-Decoded : goal.returns-in_ok-layout_evidence-in-Decoded
returns-in_ok-layout_evidence-in-Decoded c =
    let G = c.args.table.now in
    let reach = c.args.reach in
    let is = plain_insts c.args.module.now in
    let f = c.args.fault in
    let r = rw c.in-Decoded.is at c.requires.refused in
    let shown = rw c.profile_of.ensures at c.in_ok-layout_evidence-in-Decoded.ensures in
    layout_shown G reach _ is f _ (shown G (refused_broken reach G is (stop.Fault f) f refl r))

pub id_evidence-requires-clause-first : goal.id_evidence-requires-clause-first
id_evidence-requires-clause-first c =
    let r = rw c.in-Placed.is at c.requires.refused in
    (c.args.table.now, r.0, r.1.0)

pub returns-in_ok-id_evidence-in-Placed : goal.returns-in_ok-id_evidence-in-Placed
returns-in_ok-id_evidence-in-Placed c =
    let r = rw c.in-Placed.is at c.requires.refused in
    id_shown c.args.table.now c.args.reach _ _ c.args.fault _
    (c.in_ok-id_evidence-in-Placed.ensures c.args.table.now r.0)

pub typing_evidence-requires-clause-plan : goal.typing_evidence-requires-clause-plan
typing_evidence-requires-clause-plan c = let r = rw c.in-Numbered.is at c.requires.refused in r.0

pub typing_evidence-requires-clause-ids : goal.typing_evidence-requires-clause-ids
typing_evidence-requires-clause-ids c = let r = rw c.in-Numbered.is at c.requires.refused in r.1

pub typing_evidence-requires-clause-refused : goal.typing_evidence-requires-clause-refused
typing_evidence-requires-clause-refused c = let r = rw c.in-Numbered.is at c.requires.refused in r.2

pub flow_evidence-requires-clause-known : goal.flow_evidence-requires-clause-known
flow_evidence-requires-clause-known c =
    let r = rw c.in-Typed.is at c.requires.refused in
    (fork_of c.args.reach, c.args.table.now, r.0, r.1, r.2.0)

pub returns-in-Typed : goal.returns-in-Typed
returns-in-Typed c =
    let r = rw c.in-Typed.is at c.requires.refused in
    c.flow_evidence.ensures c.args.table.now c.args.reach r.0 r.1 r.2.0

pub extended_evidence-requires : goal.extended_evidence-requires
extended_evidence-requires c =
    let is = plain_insts c.args.module.now in
    let r = rw c.in-Sound.is at c.requires.refused in
    record { broken = (the_miscall c.args.reach is c.args.fault.rule c.args.fault.inst r.0.broken).2 }

pub returns-in_ok-extended_evidence-in-Sound : goal.returns-in_ok-extended_evidence-in-Sound
returns-in_ok-extended_evidence-in-Sound c =
    let is = plain_insts c.args.module.now in
    let r = rw c.in-Sound.is at c.requires.refused in
    extended_shown c.args.table.now c.args.reach _ is c.args.fault _ r.0.broken
    c.in_ok-extended_evidence-in-Sound.ensures

pub std_evidence-requires-clause-plan : goal.std_evidence-requires-clause-plan
std_evidence-requires-clause-plan c = let r = rw c.in-Called.is at c.requires.refused in (c.args.table.now, r.0)

pub std_evidence-requires-clause-ids : goal.std_evidence-requires-clause-ids
std_evidence-requires-clause-ids c = let r = rw c.in-Called.is at c.requires.refused in r.1.each

pub std_evidence-requires-clause-broken : goal.std_evidence-requires-clause-broken
std_evidence-requires-clause-broken c =
    let is = plain_insts c.args.module.now in
    let r = rw c.in-Called.is at c.requires.refused in
    (the_mistyping c.args.reach is c.args.fault.rule c.args.fault.inst r.2.0.broken).2

pub returns-in-Called : goal.returns-in-Called
returns-in-Called c =
    let is = plain_insts c.args.module.now in
    let r = rw c.in-Called.is at c.requires.refused in
    mistyping_shown c.args.table.now c.args.reach _ is c.args.fault _ r.2.0.broken c.std_evidence.ensures

pub standard_evidence-requires-clause-plan : goal.standard_evidence-requires-clause-plan
standard_evidence-requires-clause-plan c = let r = rw c.in-Settled.is at c.requires.refused in r.0

pub standard_evidence-requires-clause-ids : goal.standard_evidence-requires-clause-ids
standard_evidence-requires-clause-ids c = let r = rw c.in-Settled.is at c.requires.refused in r.1

pub standard_evidence-requires-clause-branches : goal.standard_evidence-requires-clause-branches
standard_evidence-requires-clause-branches c =
    let r = rw c.in-Settled.is at c.requires.refused in
    unbroken_branches c.args.table.now c.args.reach _ (plain_insts c.args.module.now) c.args.fault c.requires.told
    r.2.0.broken

pub standard_evidence-requires-clause-broken : goal.standard_evidence-requires-clause-broken
standard_evidence-requires-clause-broken c =
    let r = rw c.in-Settled.is at c.requires.refused in
    r.2.0.broken

pub returns-in_ok-standard_evidence-in-Settled : goal.returns-in_ok-standard_evidence-in-Settled
returns-in_ok-standard_evidence-in-Settled c =
    standard_shown c.args.table.now c.args.reach _ _ c.args.fault _ c.in_ok-standard_evidence-in-Settled.ensures
