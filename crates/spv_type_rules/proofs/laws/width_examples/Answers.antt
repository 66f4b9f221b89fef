use Rattle.std.proofs.Common.{refl, inl, inr, lit<, lit≤}
use Rattle.spv_type_rules.proofs.Worked.{no_other_class}
use Rattle.spv_type_rules.proofs.laws.width_examples.Goals as goal

pub returns-clause-int_width : goal.returns-clause-int_width
returns-clause-int_width c = inr (inl refl)

pub returns-clause-float_width : goal.returns-clause-float_width
returns-clause-float_width c = inr (inr refl)

pub returns-clause-count : goal.returns-clause-count
returns-clause-count c = inr (inl refl)

pub returns-clause-length : goal.returns-clause-length
returns-clause-length c = ((8, refl), lit≤ tt)

pub returns-clause-pointee : goal.returns-clause-pointee
returns-clause-pointee c = inl tt

pub returns-clause-returned : goal.returns-clause-returned
returns-clause-returned c = inr refl

pub returns-clause-pointer_after : goal.returns-clause-pointer_after
returns-clause-pointer_after c =
    record { place = 1; after = lit< tt; defined = record { inst = _; there = refl; result = refl }; pointer = refl }

pub returns-clause-other_class : goal.returns-clause-other_class
returns-clause-other_class c = no_other_class
