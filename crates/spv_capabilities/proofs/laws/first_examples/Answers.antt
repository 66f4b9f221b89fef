use Rattle.std.proofs.Common.{[], ◌∷◌, refl, inl, inr, arith, lit<}
use Rattle.spv_module.specs.Operand.{Result}
use Rattle.spv_module.specs.declared.fault.Rule.TheVariants as rule
use Rattle.spv_module.specs.declared.opcode.TheConstants as opcode
use Rattle.spv_capabilities.specs.Example.{small, inst, linked}
use Rattle.spv_capabilities.proofs.Firsts.{all_kept, kept_before_c1}
use Rattle.spv_capabilities.proofs.Worked.{has_no_kernel}
use Rattle.spv_capabilities.proofs.laws.first_examples.Goals as goal

pub returns : goal.returns
returns c = record {
  first = (λ k. has_no_kernel (k refl).0, kept_before_c1 small linked 0 (inst opcode.MEMORY_MODEL []));
  later = λ f. has_no_kernel (f.1 rule.C1 (lit< tt) refl).0;
  some = λ k. has_no_kernel (k rule.C1 refl).0;
  none = all_kept small linked 0 (inst opcode.TYPE_VOID (Result 1 ∷ []))
      (λ e. absurd (omega (arith, e)))
      (record { entry = tt; operands = (tt, tt); needs = tt })
      (λ e. absurd (omega (arith, e)))
      (λ e. absurd (omega (arith, e)))
      (record {
        entry = λ e. absurd (omega (arith, e));
        mode = λ e. absurd (elim e [ inl q ↦ omega (arith, q) | inr q ↦ omega (arith, q) ]);
        linkage = λ e. absurd (omega (arith, e));
      });
}
