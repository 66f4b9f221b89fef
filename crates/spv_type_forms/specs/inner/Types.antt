-- I, F and B types of a number of components. (For the code alone.)
use Rattle.std.specs.Prelude.{◌≡◌, ℕ, List, Some, IsSomeAnd}
use Rattle.spv_module.specs.Operand.{PlainInst}
use Rattle.spv_type_forms.specs.declared.form.Scalar.TheVariants as scalar
use Rattle.spv_type_forms.specs.declared.form.Sort.{Sort}
use Rattle.spv_type_forms.specs.Types.{components_of, sort_of}

-- An I type of n components of width w: an int, which is one component, or a vector of n ints. [own: Y5]
abbrev pub IsI : List PlainInst → ℕ → ℕ → ℕ → Type 0
IsI is t n w = components_of is t ≡ Some (record { scalar = scalar.Int w; count = n })

-- so F with floats [own: Y5]
abbrev pub IsF : List PlainInst → ℕ → ℕ → ℕ → Type 0
IsF is t n w = components_of is t ≡ Some (record { scalar = scalar.Float w; count = n })

-- so B with bools [own: Y5]
abbrev pub IsB : List PlainInst → ℕ → ℕ → Type 0
IsB is t n = components_of is t ≡ Some (record { scalar = scalar.Bool; count = n })

-- an I, F or B type of n components, whatever its width [own: Y5]
abbrev pub IsOf : Sort → List PlainInst → ℕ → ℕ → Type 0
IsOf s is t n = IsSomeAnd (components_of is t) (λ c. (sort_of c.scalar ≡ s) × (c.count ≡ n))
