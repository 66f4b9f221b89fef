-- Reach by the indexes of an access chain. (For the code alone.)
use Rattle.std.specs.Prelude.{ℕ, List}
use Rattle.spv_module.specs.Operand.{PlainInst}
use Rattle.spv_type_forms.specs.Reach.{ReachesType, ChoosesParts}

-- The indexes of an access chain lead from a type to another. [3.49.8]
abbrev pub LeadsToType : List PlainInst → ℕ → List ℕ → ℕ → Type 0
LeadsToType is t xs u = (ks : List ℕ) × ChoosesParts is t xs ks × ReachesType is t ks u
