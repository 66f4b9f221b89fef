-- The types of value operands. [own]
use Rattle.std.specs.Prelude.{ℕ, List, map}
use Rattle.spv_readings.specs.declared.values.Value.{Value}

-- the types of value operands
abbrev pub types_in : List Value → List ℕ
types_in vs = map (λ v. v.of) vs
