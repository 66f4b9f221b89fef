use Rattle.std.proofs.Common.{◌≡◌, ◌∷◌, sym, ap, ◌∙◌}
use Rattle.spv_module.specs.Operand.{OfType, Result, Id}
use Rattle.spv_module.specs.Module.{plain_inst, plain_operands}
use Rattle.spv_type_evidence.proofs.lemmas.types.Calling.{found_call, callable_sound, call_shows}
use Rattle.spv_type_evidence.proofs.types.call.call_evidence.Goals as goal

pub unreachable-requires-in_default-call_difference : goal.unreachable-requires-in_default-call_difference
unreachable-requires-in_default-call_difference c =
    let is = c.args.definitions.now in
    let i = plain_inst c.args.inst.now in
    let o = c.call_of-call.result in
    let e : i.operands ≡ OfType o.result_type ∷ Result o.result ∷ Id o.callee
    ∷ plain_operands o.arguments.now = ap plain_operands (sym c.as_slice.ensures.value) ∙ c.call_of-call.ensures in
    let one = found_call is i c.requires.shape o.result_type o.result o.callee (plain_operands o.arguments.now)
    (plain_inst c.in-Some.callee.now) e c.in-Some.ensures in
    c.requires.broken (callable_sound is i one c.in_default-call_difference.ensures)

pub returns : goal.returns
returns c = λ G n.
    let is = c.args.definitions.now in
    let i = plain_inst c.args.inst.now in
    let o = c.call_of-call.result in
    let e : i.operands ≡ OfType o.result_type ∷ Result o.result ∷ Id o.callee
    ∷ plain_operands o.arguments.now = ap plain_operands (sym c.as_slice.ensures.value) ∙ c.call_of-call.ensures in
    let one = found_call is i c.requires.shape o.result_type o.result o.callee (plain_operands o.arguments.now)
    (plain_inst c.in-Some.callee.now) e c.in-Some.ensures in
    let d = c.in-Some-call_difference.difference in
    rw (c.evidence.ensures, c.function_type.ensures)
    (call_shows G is n i one d.side d.wanted d.found c.requires.call c.in-Some-call_difference.ensures)
