-- The instructions of a list.
use Rattle.std.proofs.Common.{◌≡◌, ◌<◌, ℕ, List, Some, length}
use Rattle.std.specs.Prelude.{slice_get}
use Rattle.std.proofs.lemmas.Option.{slice_get_within}
use Rattle.spv_module.specs.Operand.{PlainInst}
use Rattle.spv_ids.specs.Definition.{IsDefinedAt}

pub same_inst : (is : List PlainInst) (n : ℕ) (i j : PlainInst) → slice_get is n ≡ Some i → slice_get is n ≡ Some j
    → i ≡ j
same_inst is n i j h g = cc

pub defined_within : (is : List PlainInst) (x n : ℕ) → IsDefinedAt is x n → n < length is
defined_within is x n d = slice_get_within is n d.inst d.there
