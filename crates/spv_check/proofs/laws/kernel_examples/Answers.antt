use Rattle.std.proofs.Common.{◌≡◌, arith, refl}
use Rattle.spv_module.specs.declared.fault.Rule.TheVariants.{G1}
use Rattle.spv_flow.proofs.lemmas.calls.Worked.{inside}
use Rattle.spv_check.specs.Verdict as verdict
use Rattle.spv_check.proofs.Kernel.{sound, kept, checked, valid}
use Rattle.spv_check.proofs.KernelParts.{parts}
use Rattle.spv_check.proofs.laws.kernel_examples.Goals as goal

pub returns : goal.returns
returns c = record {
  sound = sound;
  kept = kept;
  not_kept = λ G reach bound k. k.calls G1 8 refl inside;
  parts = parts;
  other_parts = λ G reach m places ids flow e a. let b : m.header.bound ≡ 6 = a.bound in omega (arith, e, b);
  checked = checked;
  other_bound = λ k. let e : 6 ≡ 5 = k.bound in omega (arith, e);
  valid = valid;
  line = verdict.valid valid;
  not_valid = λ G reach v. c.examples.ensures.not_valid G reach (verdict.valid v);
}
