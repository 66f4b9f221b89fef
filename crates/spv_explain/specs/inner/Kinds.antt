-- Which part of a stage a rule is of. (For the code alone.)
use Rattle.std.specs.Prelude.{Bool, true, false}
use Rattle.spv_module.specs.declared.fault.Rule.{Rule}
use Rattle.spv_module.specs.declared.fault.Rule.TheVariants as rule
use Rattle.spv_explain.specs.declared.kinds.Part.{Part}
use Rattle.spv_explain.specs.declared.kinds.Part.TheVariants as part

-- the rule on roles
abbrev pub is_of_roles : Rule → Bool
is_of_roles rule.Y1 = true
is_of_roles _ = false

-- those on capabilities and entry points
abbrev pub is_of_capabilities : Rule → Bool
is_of_capabilities rule.C1 = true
is_of_capabilities rule.C2 = true
is_of_capabilities rule.M1 = true
is_of_capabilities rule.E1 = true
is_of_capabilities rule.E2 = true
is_of_capabilities _ = false

-- the one on operations
abbrev pub is_of_operations : Rule → Bool
is_of_operations rule.Y5 = true
is_of_operations _ = false

-- those on values
abbrev pub is_of_values : Rule → Bool
is_of_values rule.A1 = true
is_of_values rule.A2 = true
is_of_values _ = false

-- the one on calls
abbrev pub is_of_calls : Rule → Bool
is_of_calls rule.G1 = true
is_of_calls _ = false

-- the part that a rule O is of
abbrev pub part_of : Rule → Part
part_of rule.O1 = part.Order
part_of rule.O2 = part.Order
part_of rule.O4 = part.Interfaces
part_of rule.O7 = part.Placements
part_of rule.O8 = part.Decorations
part_of rule.O9 = part.Decorations
part_of rule.O10 = part.Decorations
part_of rule.O11 = part.Decorations
part_of rule.O14 = part.Operands
part_of rule.O15 = part.Operands
part_of rule.O16 = part.Operands
part_of rule.O17 = part.Operands
part_of rule.O18 = part.Operands
part_of rule.O19 = part.Operands
part_of rule.O20 = part.Operands
part_of rule.O21 = part.Version
part_of rule.O22 = part.Limits
part_of rule.O23 = part.Operands
part_of _ = part.Declarations
