-- The table that a file makes. (Own.)
use Rattle.std.specs.Prelude.{◌≡◌, ℕ, Bool, true, false, ◌&&◌, ◌||◌, List, [], ◌∷◌, Option, Some}
use Rattle.std.specs.Prelude.{None, option_map, option_and_then, nat_eq}
use Rattle.std.specs.List.{list_all, filter}
use Rattle.std.specs.Int.{is_power_of_two}
use Rattle.spv_table.specs.declared.table.Category.{Category}
use Rattle.spv_table.specs.declared.table.Category.TheVariants as category
use Rattle.spv_table.specs.declared.table.Item.{Item}
use Rattle.spv_table.specs.declared.table.Entry.{Entry}
use Rattle.spv_table.specs.declared.table.Enumerant.{Enumerant}
use Rattle.spv_grammar.specs.declared.file.FileOperand.{FileOperand}
use Rattle.spv_grammar.specs.declared.file.FileInstruction.{FileInstruction}
use Rattle.spv_grammar.specs.declared.file.FileEnumerant.{FileEnumerant}
use Rattle.spv_grammar.specs.declared.file.FileKind.{FileKind}
use Rattle.spv_grammar.specs.declared.file.File.{File}
use Rattle.spv_table.specs.Table.{Table, Sort}
use Rattle.spv_grammar.specs.Kinds.{first_kinds, number_in}
use Rattle.spv_grammar.specs.Rules.{is_one}

-- what each element of a list makes, in order; nothing if one makes nothing
abbrev pub all_of : {A B : Type 0} → (A → Option B) → List A → Option (List B)
all_of make [] = Some []
all_of make (a ∷ later) = option_and_then (λ b. option_map (λ bs. b ∷ bs) (all_of make later)) (make a)

-- an operand: its kind by number, and how often it comes
abbrev pub item_of : List FileKind → FileOperand → Option Item
item_of firsts o =
    option_and_then (λ k. option_map (λ q. record { kind = k; quantifier = q }) o.quantifier)
    (number_in firsts o.kind)

-- an instruction: its opcode, and its entry
abbrev pub entry_from : List FileKind → FileInstruction → Option (ℕ × Entry)
entry_from firsts i =
    option_and_then
    (λ opcode. option_map (λ items. (
      opcode,
      record {
        name = i.name;
        operands = items;
        capabilities =
            i.capabilities;
      },
    )) (all_of (item_of firsts) i.operands)) i.opcode

-- a parameter: its kind by number
abbrev pub parameter_of : List FileKind → FileOperand → Option ℕ
parameter_of firsts o = number_in firsts o.kind

-- an enumerant: its value, and its parameters' kinds by number
abbrev pub enumerant_from : List FileKind → FileEnumerant → Option Enumerant
enumerant_from firsts e =
    option_and_then
    (λ value. option_map (λ kinds. record {
      name = e.name;
      value = value;
      parameters = kinds;
      capabilities =
          e.capabilities;
    }) (all_of (parameter_of firsts) e.parameters)) e.value

-- the values 0 and those of one bit
abbrev pub is_mask : Option ℕ → Bool
is_mask None = false
is_mask (Some v) = nat_eq v 0 || is_power_of_two v

-- a BitEnum keeps 0 and single bits, another category any value
abbrev pub fits_category : Option Category → FileEnumerant → Bool
fits_category (Some category.BitEnum) e = is_mask e.value
fits_category _ e = true

-- an enumerant is dropped for a quantified parameter, and a mask's for a value of several bits
abbrev pub is_kept : Option Category → FileEnumerant → Bool
is_kept c e = list_all (λ o. is_one o.quantifier) e.parameters && fits_category c e

-- a kind: its bases by number, and its enumerants that are not dropped
abbrev pub sort_from : List FileKind → FileKind → Option Sort
sort_from firsts k =
    option_and_then
    (λ c. option_and_then (λ bases. option_map
    (λ es. record { kind = record { name = k.name; category = c; bases = bases }; enumerants = es })
    (all_of (enumerant_from firsts) (filter (is_kept k.category) k.enumerants))) (all_of (number_in firsts) k.bases))
    k.category

-- the table: each instruction in order, and each name's first kind, at the place that is its number
pub record IsTable (file : File) (G : Table) : Type 0 where
  pub entries : all_of (entry_from (first_kinds file.kinds)) file.instructions ≡ Some G.entries
  pub kinds : all_of (sort_from (first_kinds file.kinds)) (first_kinds file.kinds) ≡ Some G.kinds
