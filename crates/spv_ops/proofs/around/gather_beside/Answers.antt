use Rattle.std.proofs.Common.{arith, ◌≡◌, ◌++◌, ◌∙◌, ap, Some, [], drop, take, append-nil}
use Rattle.std.specs.Prelude.{option_map}
use Rattle.std.proofs.lemmas.Grind.{common_steps}
use Rattle.spv_module.specs.Module.{plain_operands}
use Rattle.spv_type_kinds.specs.Operands.{ids_in}
use Rattle.spv_type_forms.specs.Values.{types_of}
use Rattle.spv_ops.specs.Values.{others_from}
use Rattle.spv_ops.proofs.around.gather_beside.Goals as goal

pub returns-in_default : goal.returns-in_default
returns-in_default c =
    let i = c.loop-operand.invariant in
    let front = take c.loop-operand.count c.loop-operand.types in
    let e : ids_in (plain_operands (drop c.loop-operand.operand-index c.args.operands.now)) ≡ [] = grind
    (arith, common_steps) in
    record {
      some = (
        i.1,
        i.3 ∙ ap (λ xs. option_map (λ us. front ++ us)
            (types_of c.args.definitions.now (others_from c.args.skip c.loop-operand.at xs))) e
            ∙ ap Some (append-nil front),
      );
      none = tt;
    }
