use Rattle.std.proofs.Common.{refl, inl, inr, lit<}
use Rattle.spv_type_rules.proofs.Worked.{no_other_class}
use Rattle.spv_type_rules.proofs.laws.operand_examples.Goals as goal

pub returns-clause-int : goal.returns-clause-int
returns-clause-int c = (inr (inl refl), refl)

pub returns-clause-float : goal.returns-clause-float
returns-clause-float c = inr (inl refl)

pub returns-clause-pointer : goal.returns-clause-pointer
returns-clause-pointer c = inl tt

pub returns-clause-function : goal.returns-clause-function
returns-clause-function c = (inr refl, (tt, tt))

pub returns-clause-forward : goal.returns-clause-forward
returns-clause-forward c =
    record { place = 1; after = lit< tt; defined = record { inst = _; there = refl; result = refl }; pointer = refl }

pub returns-clause-other_forward : goal.returns-clause-other_forward
returns-clause-other_forward c = no_other_class
