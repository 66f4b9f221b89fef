-- Which ids instructions give a name, and which functions of a name were found. (For the code alone.)
use Rattle.std.specs.Prelude.{◌≡◌, ◌≢◌, ℕ, List, Option, Some, None, Result, Ok, Err, IfSome, if◌then◌else◌}
use Rattle.std.specs.Str.{bytes_eq}
use Rattle.spv_module.specs.Operand.{PlainInst}
use Rattle.spv_names.specs.Names.{named_by}
use Rattle.spv_names.specs.Chosen.{IsNamedFunction}
use Rattle.spv_names.specs.declared.naming.Naming.{Naming}
use Rattle.spv_names.specs.declared.naming.Naming.TheVariants.{Name, EntryPoint}
use Rattle.spv_names.specs.declared.chosen.NameError.{NameError}
use Rattle.spv_names.specs.declared.chosen.NameError.TheVariants.{Absent, Several}

-- the id that is given the name, if it is this one
abbrev pub id_by : List ℕ → Option (ℕ × List ℕ) → Option ℕ
id_by t None = None
id_by t (Some p) = if bytes_eq p.1 t then Some p.0 else None

abbrev pub given_by : Naming → List ℕ → PlainInst → Option ℕ
given_by naming t i = id_by t (named_by naming i)

-- the same by an OpName or an OpEntryPoint
abbrev pub id_or : Option ℕ → Option ℕ → Option ℕ
id_or None other = other
id_or (Some x) other = Some x

abbrev pub given : List ℕ → PlainInst → Option ℕ
given t i = id_or (given_by Name t i) (given_by EntryPoint t i)

-- what was found is a function of the name, if anything was
abbrev pub IsOnly : List PlainInst → List ℕ → Option ℕ → Type 0
IsOnly is t found = IfSome found (IsNamedFunction is t)

-- What was found before an id, and what is found with it: the same functions, and the id, if it is of one of the name;
-- or two.
abbrev pub IsMore : List PlainInst → List ℕ → Option ℕ → ℕ → Result (Option ℕ) NameError → Type 0
IsMore is t found x (Ok more) = IsOnly is t more × ((y : ℕ) → found ≡ Some y → more ≡ Some y)
    × (IsNamedFunction is t x → more ≡ Some x)
IsMore is t found x (Err Several) =
    (y : ℕ) × (z : ℕ) × IsNamedFunction is t y × IsNamedFunction is t z × (y ≢ z)
IsMore is t found x (Err Absent) = ⊥
