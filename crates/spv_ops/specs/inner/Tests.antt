-- The components of a vector that are still to be given. (For the code alone.)
use Rattle.std.specs.Prelude.{ℕ, List, [], ◌∷◌, Option, Some, None, nat_le}
use Rattle.std.specs.Prelude.{◌-◌, if◌then◌else◌, option_and_then}
use Rattle.spv_module.specs.Operand.{PlainInst}
use Rattle.spv_module.specs.Width.{type_of}
use Rattle.spv_ops.specs.inner.Composite.{share_of}

-- how many of n components are left after those that the value of an id gives, and after those of several
abbrev pub left_of : List PlainInst → ℕ → ℕ → ℕ → Option ℕ
left_of is c n x =
    option_and_then (λ m. if nat_le m n then Some (n - m) else None) (option_and_then (share_of is c) (type_of is x))

abbrev pub left_of_all : List PlainInst → ℕ → ℕ → List ℕ → Option ℕ
left_of_all is c n [] = Some n
left_of_all is c n (x ∷ xs) = option_and_then (λ m. left_of_all is c m xs) (left_of is c n x)
