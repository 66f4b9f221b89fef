use Rattle.std.proofs.Common.{map}
use Rattle.spv_module.specs.Module.{plain_inst}
use Rattle.spv_form_evidence.proofs.lemmas.layout.Opcodes.{to_come}
use Rattle.spv_form_evidence.proofs.lemmas.layout.States.{as_leads}
use Rattle.spv_form_evidence.proofs.layout.may_come.Goals as goal

pub returns : goal.returns
returns c =
    let t = to_come c.args.profile (map plain_inst c.args.before.now) c.in-Some.state (as_leads _ c.in-Some.state c.in-Some.ensures) in
    rw (c.from_vec.ensures, c.in_ok-opcodes.ensures, c.stops.ensures) t
