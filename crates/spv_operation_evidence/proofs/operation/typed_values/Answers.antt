use Rattle.std.proofs.Common.{◌<◌, ◌≤◌, sym, ap, length, arith}
use Rattle.std.proofs.lemmas.List.{length-map}
use Rattle.spv_module.specs.Module.{plain_inst, plain_operand}
use Rattle.spv_operation_evidence.proofs.lemmas.Valued.{one_more, none_more, all_typed, value_typed}
use Rattle.spv_operation_evidence.proofs.operation.typed_values.Goals.{in-Some+in-Some-type_of+in_ok-push, in_default}
use Rattle.spv_operation_evidence.proofs.operation.typed_values.Goals as goal

pub unreachable-requires : goal.unreachable-requires
unreachable-requires c =
    let i = plain_inst c.args.inst.now in
    let l = length-map c.args.inst.now.operands plain_operand in
    let e = ap (λ xs. length xs) c.as_slice-k-end.ensures.value in
    let within : c.loop-k.k < length i.operands = let t = c.loop-k-test.true in omega arith in
    value_typed c.requires.0 c.args.definitions.now i c.loop-k.k c.in-Some.id c.requires.1 within c.in-Some.ensures
    (sym c.in_default-type_of.ensures)

pub loop-k-preserved : goal.loop-k-preserved
loop-k-preserved c =
    let i = plain_inst c.args.inst.now in
    let l = length-map c.args.inst.now.operands plain_operand in
    let e = ap (λ xs. length xs) c.as_slice-k-end.ensures.value in
    let within : c.loop-k.k < length i.operands = let t = c.loop-k-test.true in omega arith in
    elim c.match-value_at.branch [
      | in-Some+in-Some-type_of+in_ok-push w ↦
          rw (w.values-is, w.in_ok-push.ensures.items)
          (one_more c.requires.0 c.args.definitions.now i c.loop-k.k w.in-Some.id
          w.in-Some-type_of.of c.loop-k.values.items c.requires.1 within w.in-Some.ensures
          (sym w.in-Some-type_of.ensures) c.loop-k.invariant)
      | in_default w ↦ rw w.values-is (none_more c.args.definitions.now i c.loop-k.k c.loop-k.values.items within
          w.in_default.ensures c.loop-k.invariant)
    ]

pub returns-clause-typed : goal.returns-clause-typed
returns-clause-typed c =
    let i = plain_inst c.args.inst.now in
    let l = length-map c.args.inst.now.operands plain_operand in
    let e = ap (λ xs. length xs) c.as_slice-k-end.ensures.value in
    let past : length i.operands ≤ c.loop-k.k = let t = c.loop-k-test.false in omega arith in
    all_typed c.args.definitions.now i c.loop-k.k c.loop-k.values.items past c.loop-k.invariant

pub returns-clause-few : goal.returns-clause-few
returns-clause-few c =
    let m = c.loop-k.invariant.few in
    let e = ap (λ xs. length xs) c.as_slice-k-end.ensures.value in
    let f = c.as_slice-k-end.ensures.few in
    let a = c.loop-k.auto in
    omega arith
