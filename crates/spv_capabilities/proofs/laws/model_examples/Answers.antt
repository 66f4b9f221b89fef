use Rattle.std.proofs.Common.{refl, inl, inr, arith}
use Rattle.spv_capabilities.proofs.laws.model_examples.Goals as goal

pub returns : goal.returns
returns c = record {
  physical = (inr refl, refl);
  logical = λ m. elim m.0 [ inl e ↦ absurd (omega (arith, e)) | inr e ↦ absurd (omega (arith, e)) ];
}
