use Rattle.std.proofs.Common.{◌≡◌, ◌++◌, take}
use Rattle.std.specs.Prelude.{option_to_list}
use Rattle.spv_operation_evidence.proofs.beside.all_types.Given as goal

abbrev pub invariant-loop-t : goal.invariant-loop-t
invariant-loop-t l = l.read.items ≡ option_to_list l.fn.r ++ take l.t-index l.types
