use Rattle.std.proofs.Common.{refl, inl, inr, arith}
use Rattle.spv_capabilities.proofs.Worked.{has_linkage, has_no_other, no_entry, not_entered, not_imported, defined}
use Rattle.spv_capabilities.proofs.Worked.{function, no_definition}
use Rattle.spv_capabilities.proofs.laws.entry_examples.Goals as goal

pub returns : goal.returns
returns c = record {
  entry_point = inl (0, record { inst = _; there = refl; same = refl });
  linkage = inr has_linkage;
  no_entry = λ h. elim h [
    | inl n ↦ no_entry n.0 n.1
    | inr k ↦
        has_no_other 5 (λ e. absurd (omega (arith, e))) (λ e. absurd (omega (arith, e))) k
  ];
  function = function;
  called = λ k. k.uncalled (record { place = 0; inst = _; there = refl; id = 3; named = refl; defined = k.defined });
  entry = (refl, function);
  other_model = λ s. let e = s.0 in absurd (omega (arith, e));
  mode = (2, defined, record { place = 0; inst = _; there = refl; id = 3; named = refl; defined = defined });
  no_mode = λ m. not_entered m.0 m.2;
  imported = (
    λ i d. no_definition 1 d,
    λ n. record {
      place = 0;
      inst = _;
      there = refl;
      id = 3;
      named = refl;
      defined = record { inst = _; there = refl; result = refl };
    },
  );
  exported = λ l. not_imported 1 (l.1 (no_definition 0));
}
