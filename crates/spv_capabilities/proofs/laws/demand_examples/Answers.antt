use Rattle.std.proofs.Common.{refl, inl, inr, arith}
use Rattle.spv_capabilities.proofs.Worked.{function, defined, not_entered}
use Rattle.spv_capabilities.proofs.laws.demand_examples.Goals as goal

pub returns : goal.returns
returns c = record {
  model = λ e. (inr refl, refl);
  no_model = λ k. elim ((k refl).0) [ inl e ↦ absurd (omega (arith, e)) | inr e ↦ absurd (omega (arith, e)) ];
  other = λ e. absurd (omega (arith, e));
  entry = record {
    entry = λ e. (refl, function);
    mode = λ e. absurd (elim e [ inl q ↦ omega (arith, q) | inr q ↦ omega (arith, q) ]);
    linkage = λ e. absurd (omega (arith, e));
  };
  no_entry = λ k. let e = (k.entry refl).0 in absurd (omega (arith, e));
  mode = record {
    entry = λ e. absurd (omega (arith, e));
    mode = λ e. (2, defined, record { place = 0; inst = _; there = refl; id = 3; named = refl; defined = defined });
    linkage = λ e. absurd (omega (arith, e));
  };
  no_mode = λ k. let m = k.mode (inr refl) in not_entered m.0 m.2;
}
