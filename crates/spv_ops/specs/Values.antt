-- Where the value operands of an instruction stand, line by line. [own: Y5]
use Rattle.std.specs.Prelude.{◌+◌, ℕ, List, [], ◌∷◌, nat_eq, if◌then◌else◌, take}
use Rattle.spv_module.specs.Operand.{Plain, PlainInst}
use Rattle.spv_conditions.specs.Variable.{initializers_in}
use Rattle.spv_conditions.specs.Group.{all_ids_in}
use Rattle.spv_ops.specs.declared.table.Places.{Places}
use Rattle.spv_ops.specs.declared.table.Places.TheVariants.{Free, Nothing, Ids, Many, One, Pairs, Initializers, Around}
use Rattle.spv_ops.specs.declared.table.Places.TheVariants.{Beside, Enqueued, Copied}
use Rattle.spv_ops.specs.Table.{places_of}
use Rattle.spv_type_kinds.specs.Operands.{ids_in, after_head}
use Rattle.spv_type_forms.specs.Values.{paired_ids_in}

-- ids, numbered from n on, but for the one of number k [own]
abbrev pub others_from : ℕ → ℕ → List ℕ → List ℕ
others_from k n [] = []
others_from k n (x ∷ xs) = if nat_eq n k then others_from k (n + 1) xs else x ∷ others_from k (n + 1) xs

-- in what follows the result type and the result [own: Y5]
abbrev pub value_ids : Places → List Plain → List ℕ
value_ids Free os = []
value_ids Nothing os = []
value_ids Ids os = ids_in os
value_ids Many os = ids_in os
value_ids One os = take 1 (ids_in os)
value_ids Pairs os = paired_ids_in os
value_ids Initializers os = initializers_in os
value_ids Around os = all_ids_in os
value_ids (Beside k) os = others_from k 0 (ids_in os)
value_ids Enqueued os = others_from 6 0 (ids_in os)
value_ids Copied os = ids_in os

-- in an instruction, by its opcode [own: Y5]
abbrev pub values_of : PlainInst → List ℕ
values_of i = value_ids (places_of i.opcode) (after_head i.operands)
