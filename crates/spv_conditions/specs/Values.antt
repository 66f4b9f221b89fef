-- The types that are looked at. [own]
use Rattle.std.specs.Prelude.{ℕ, List, Option, slice_get}
use Rattle.spv_conditions.specs.declared.seat.Seat.{Seat}
use Rattle.spv_conditions.specs.declared.seat.Seat.TheVariants as seat

-- the type that is looked at, where r is the result type and the types of the values are given in order [own]
abbrev pub type_at : Option ℕ → List ℕ → Seat → Option ℕ
type_at r types seat.Result = r
type_at r types (seat.Value k) = slice_get types k
