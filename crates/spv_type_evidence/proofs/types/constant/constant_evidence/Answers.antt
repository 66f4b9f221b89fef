use Rattle.std.proofs.Common.{ℕ, Some, ap, subst}
use Rattle.spv_module.specs.Module.{plain_inst, plain_operands}
use Rattle.spv_type_evidence.specs.types.Constant.{Asks}
use Rattle.spv_type_evidence.specs.types.inner.First.{IsFirstOf}
use Rattle.spv_type_evidence.proofs.lemmas.types.Parts.{constant_shows, constant_sound}
use Rattle.spv_type_evidence.proofs.types.constant.constant_evidence.Goals as goal

pub unreachable-requires-in_default-2 : goal.unreachable-requires-in_default-2
unreachable-requires-in_default-2 c =
    let i = plain_inst c.args.inst.now in
    let asks : (k : ℕ) → Asks c.args.definitions.now c.in-Some.constant i.operands k =
    subst (λ os. (k : ℕ) → Asks c.args.definitions.now c.in-Some.constant os k)
    (ap plain_operands c.as_slice-operands.ensures.value) (rw c.in_default-2.is at c.in_ok-operand.ensures)
    in
    c.requires.broken (constant_sound c.args.definitions.now i c.in-Some.constant c.in-Some.ensures asks)

pub returns : goal.returns
returns c = λ G n.
    let i = plain_inst c.args.inst.now in
    let first : IsFirstOf (Asks c.args.definitions.now c.in-Some.constant i.operands) (Some c.in-Some-2.operand) =
    subst (λ os. IsFirstOf (Asks c.args.definitions.now c.in-Some.constant os) (Some c.in-Some-2.operand))
    (ap plain_operands c.as_slice-operands.ensures.value) (rw c.in-Some-2.is at c.in_ok-operand.ensures)
    in
    rw (
      c.condition_in.ensures,
      c.from_vec.ensures,
      c.in_ok-types.ensures,
      c.wanted_at-wanted.ensures,
      c.found_at-found.ensures,
      c.composite_at-composite.ensures,
    ) (
    constant_shows G c.args.definitions.now n c.in-Some-2.operand i c.in-Some.constant c.in-Some.ensures first
    c.defined_by.result (c.defined_by.ensures c.args.definitions.now c.requires.ids))
