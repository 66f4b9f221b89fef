-- Lines of the table as the code reads them. (For the code alone.)
use Rattle.spv_kernel_operands.specs.declared.seats.Seats.{Seats}
use Rattle.spv_kernel_operands.specs.Seats.{Line}

abbrev pub line : Seats → Line
line s = (s.from, s.to, record { now = s.scopes.now }, record { now = s.semantics.now })
