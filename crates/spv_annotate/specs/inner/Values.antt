-- The decimal values of float constants in a map. (For the code alone.)
use Rattle.std.specs.Prelude.{ℕ, List, [], Option, Some, None, string_bytes, String}
use Rattle.std.specs.declared.alloc.Global.{Global}
use Rattle.std.specs.Ordering.{nat_cmp}
use Rattle.std.specs.BTreeMap.{get}
use Rattle.spv_annotate.specs.declared.values.Values.{Values}

-- a text, if there is one
abbrev pub text_or_none : Option (String Global) → List ℕ
text_or_none None = []
text_or_none (Some s) = string_bytes s

-- the value of the constant that an instruction is; nothing where it is none
abbrev pub value_in : Values → ℕ → List ℕ
value_in v n = text_or_none (get nat_cmp v.texts n)
