use Rattle.std.proofs.Common.{refl, inl, inr, lit<, lit≤, arith}
use Rattle.spv_type_rules.proofs.Objects.{no_queue_before}
use Rattle.spv_type_rules.proofs.laws.object_examples.Goals as goal

pub returns-clause-image : goal.returns-clause-image
returns-clause-image c = (inr (inr (32, refl)), lit≤ tt, lit≤ tt, lit≤ tt, lit≤ tt)

pub returns-clause-no_arrayed : goal.returns-clause-no_arrayed
returns-clause-no_arrayed c = λ d. let l = d.2 in absurd (omega (arith, l))

pub returns-clause-no_sampled : goal.returns-clause-no_sampled
returns-clause-no_sampled c = λ d. let l = d.4 in absurd (omega (arith, l))

pub returns-clause-sampled : goal.returns-clause-sampled
returns-clause-sampled c = (λ e. absurd (omega (arith, e)), λ e. absurd (omega (arith, e)))

pub returns-clause-pointee : goal.returns-clause-pointee
returns-clause-pointee c = inl tt

pub returns-clause-returned : goal.returns-clause-returned
returns-clause-returned c = inl tt

pub returns-clause-again : goal.returns-clause-again
returns-clause-again c = record {
  once = refl;
  place = 7;
  earlier = lit< tt;
  other = _;
  there = refl;
  alike = (refl, refl);
}

pub returns-clause-another : goal.returns-clause-another
returns-clause-another c = no_queue_before
