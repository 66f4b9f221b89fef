-- The names that a module gives to ids.
use Rattle.std.specs.Prelude.{ℕ, List, [], ◌∷◌, Option, Some, None, nat_eq, if◌then◌else◌}
use Rattle.spv_module.specs.Operand.{Plain, Id, Text, Value, PlainInst}
use Rattle.spv_module.specs.declared.opcode.TheConstants.{ENTRY_POINT, NAME}
use Rattle.spv_names.specs.declared.naming.Naming.{Naming}
use Rattle.spv_names.specs.declared.naming.Naming.TheVariants.{Name, EntryPoint}

-- the id that an OpName names, and its name [3.49.3]; the function of an OpEntryPoint, and the name of that [3.49.5]
abbrev pub name_in : List Plain → Option (ℕ × List ℕ)
name_in (Id x ∷ Text t ∷ _) = Some (x, t)
name_in _ = None

abbrev pub entry_in : List Plain → Option (ℕ × List ℕ)
entry_in (Value _ _ ∷ Id x ∷ Text t ∷ _) = Some (x, t)
entry_in _ = None

abbrev pub named_by : Naming → PlainInst → Option (ℕ × List ℕ)
named_by Name i = if nat_eq i.opcode NAME then name_in i.operands else None
named_by EntryPoint i = if nat_eq i.opcode ENTRY_POINT then entry_in i.operands else None

-- the first name that a list gives to an id, if it gives one
abbrev pub or_later : ℕ → Option (ℕ × List ℕ) → Option (List ℕ) → Option (List ℕ)
or_later x None later = later
or_later x (Some p) later = if nat_eq p.0 x then Some p.1 else later

abbrev pub name_of : Naming → List PlainInst → ℕ → Option (List ℕ)
name_of naming [] x = None
name_of naming (i ∷ is) x = or_later x (named_by naming i) (name_of naming is x)

-- the name of a function: that of its first OpName, else that of the first OpEntryPoint that names it [own]
abbrev pub or_else : Option (List ℕ) → Option (List ℕ) → Option (List ℕ)
or_else None other = other
or_else (Some t) other = Some t

abbrev pub function_name : List PlainInst → ℕ → Option (List ℕ)
function_name is x = or_else (name_of Name is x) (name_of EntryPoint is x)
