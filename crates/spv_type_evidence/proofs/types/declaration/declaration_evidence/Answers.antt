use Rattle.std.proofs.Common.{ℕ, Some, ap, subst}
use Rattle.spv_module.specs.Module.{plain_inst, plain_operands}
use Rattle.spv_type_evidence.specs.types.Declaration.{Asks}
use Rattle.spv_type_evidence.specs.types.inner.First.{IsFirstOf}
use Rattle.spv_type_evidence.proofs.lemmas.types.Firsts.{declaration_shows, declaration_sound}
use Rattle.spv_type_evidence.proofs.types.declaration.declaration_evidence.Goals as goal

pub unreachable-requires-in_default-first_failing : goal.unreachable-requires-in_default-first_failing
unreachable-requires-in_default-first_failing c =
    let i = plain_inst c.args.inst.now in
    let asks : (k : ℕ) → Asks c.args.definitions.now c.args.number c.in-Some.declaration i.operands k =
    subst (λ os. (k : ℕ) → Asks c.args.definitions.now c.args.number c.in-Some.declaration os k)
    (ap plain_operands c.as_slice-operands.ensures.value) c.in_default-first_failing.ensures
    in
    c.requires.broken (declaration_sound c.args.definitions.now c.args.number i c.in-Some.declaration c.in-Some.ensures
    asks)

pub returns : goal.returns
returns c = λ G.
    let i = plain_inst c.args.inst.now in
    let first : IsFirstOf (Asks c.args.definitions.now c.args.number c.in-Some.declaration i.operands)
    (Some c.in-Some-first_failing.operand) =
    subst (λ os. IsFirstOf (Asks c.args.definitions.now c.args.number c.in-Some.declaration os)
    (Some c.in-Some-first_failing.operand))
    (ap plain_operands c.as_slice-operands.ensures.value) c.in-Some-first_failing.ensures
    in
    rw (c.condition_at.ensures, c.from_vec.ensures, c.new.ensures.items) (
    declaration_shows G c.args.definitions.now c.args.number c.in-Some-first_failing.operand i c.in-Some.declaration
    c.in-Some.ensures first c.defined_by.result
    (c.defined_by.ensures c.args.definitions.now c.requires.ids))
