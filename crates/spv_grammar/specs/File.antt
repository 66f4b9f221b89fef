-- How the tree of a grammar file is read. A file that has not this form is refused with J2. (The grammar file's form:
-- own.)
use Rattle.std.specs.Prelude.{ℕ, ◌+◌, ◌*◌, ◌-◌, ◌^◌, ◌&&◌, List, [], ◌∷◌, length, codes}
use Rattle.std.specs.Prelude.{Option, Some, None, option_map, option_and_then, nat_lt, nat_le, nat_eq}
use Rattle.std.specs.Prelude.{if◌then◌else◌}
use Rattle.std.specs.Str.{bytes_eq}
use Rattle.serde_json.specs.Data.{Num, Data, Items, no_items, item}
use Rattle.serde_json.specs.Find.{get, as_array, as_number, as_str, as_u64}
use Rattle.spv_table.specs.declared.table.Quantifier.{Quantifier}
use Rattle.spv_table.specs.declared.table.Quantifier.TheVariants as quantifier
use Rattle.spv_table.specs.declared.table.Category.{Category}
use Rattle.spv_table.specs.declared.table.Category.TheVariants as category
use Rattle.spv_grammar.specs.declared.file.FileOperand.{FileOperand}
use Rattle.spv_grammar.specs.declared.file.FileInstruction.{FileInstruction}
use Rattle.spv_grammar.specs.declared.file.FileEnumerant.{FileEnumerant}
use Rattle.spv_grammar.specs.declared.file.FileKind.{FileKind}
use Rattle.spv_grammar.specs.declared.file.File.{File}

-- the text at a key
abbrev pub text_at : List ℕ → Data → Option (List ℕ)
text_at key d = option_and_then as_str (get key d)

-- the array at a key
abbrev pub items_at : List ℕ → Data → Option Items
items_at key d = option_and_then as_array (get key d)

abbrev pub items_or_none : Option Data → Option Items
items_or_none None = Some no_items
items_or_none (Some d) = as_array d

-- the array at a key that may be missing; `null` is no array
abbrev pub optional_items_at : List ℕ → Data → Option Items
optional_items_at key d = items_or_none (get key d)

-- what is read of each element of an array, in order; nothing if one can't be read
abbrev pub each : {A : Type 0} → (Data → Option A) → Items → Option (List A)
each read no_items = Some []
each read (item d ds) = option_and_then (λ a. option_map (λ rest. a ∷ rest) (each read ds)) (read d)

-- `?` is at most once, `*` any number of times; another text is unknown
abbrev pub quantifier_of : List ℕ → Option Quantifier
quantifier_of text = if bytes_eq text (codes "?") then Some quantifier.Maybe
    else (if bytes_eq text (codes "*") then Some quantifier.Many else None)

abbrev pub quantifier_or_one : Option Data → Option (Option Quantifier)
quantifier_or_one None = Some (Some quantifier.One)
quantifier_or_one (Some d) = option_map quantifier_of (as_str d)

-- without the key an operand comes once
abbrev pub quantifier_at : Data → Option (Option Quantifier)
quantifier_at d = quantifier_or_one (get (codes "quantifier") d)

-- an operand of an instruction or a parameter of an enumerant
abbrev pub operand_of : Data → Option FileOperand
operand_of d = option_and_then (λ kind. option_map (λ q. record { kind = kind; quantifier = q }) (quantifier_at d))
    (text_at (codes "kind") d)

-- the operands at a key that may be missing
abbrev pub operands_at : List ℕ → Data → Option (List FileOperand)
operands_at key d = option_and_then (each operand_of) (optional_items_at key d)

-- the names of the capabilities of an instruction or an enumerant
abbrev pub capabilities_at : Data → Option (List (List ℕ))
capabilities_at d = option_and_then (each as_str) (optional_items_at (codes "capabilities") d)

-- a number held as a whole one from 0, and below the limit
abbrev pub whole_below : ℕ → Num → Option ℕ
whole_below limit number = option_and_then (λ n. if nat_lt n limit then Some n else None) (as_u64 number)

-- the opcode must be a number; it is none where it is out of range
abbrev pub opcode_at : Data → Option (Option ℕ)
opcode_at d = option_map (whole_below (2 ^ 16)) (option_and_then as_number (get (codes "opcode") d))

-- an element of `instructions`
abbrev pub instruction_of : Data → Option FileInstruction
instruction_of d =
    option_and_then
    (λ name. option_and_then (λ opcode. option_and_then
    (λ operands. option_map (λ capabilities. record {
      name = name;
      opcode = opcode;
      operands =
          operands;
      capabilities = capabilities;
    }) (capabilities_at d)) (operands_at (codes "operands") d)) (opcode_at d))
    (text_at (codes "opname") d)

-- what a hexadecimal digit of either case stands for
abbrev pub hex_digit_of : ℕ → Option ℕ
hex_digit_of c = if nat_le 48 c && nat_le c 57 then Some (c - 48)
    else (if nat_le 97 c && nat_le c 102 then Some (c - 97 + 10)
    else (if nat_le 65 c && nat_le c 70 then Some (c - 65 + 10) else None))

-- the number that hexadecimal digits are, the greatest first, after a number that stands before them
abbrev pub hex_from : ℕ → List ℕ → Option ℕ
hex_from n [] = Some n
hex_from n (c ∷ cs) = option_and_then (λ digit. hex_from (16 * n + digit) cs) (hex_digit_of c)

-- one to eight digits
abbrev pub hex_number_of : List ℕ → Option ℕ
hex_number_of digits = if nat_lt 0 (length digits) && nat_le (length digits) 8 then hex_from 0 digits else None

-- `0x` (48 and 120), and the digits
abbrev pub bit_value_of : List ℕ → Option ℕ
bit_value_of (zero_octet ∷ x_octet ∷ digits) = if nat_eq zero_octet 48 && nat_eq x_octet 120
    then hex_number_of digits else None
bit_value_of _ = None

-- the value of a BitEnum's enumerant must be a text, and that of another's a number; it is none where it is out of
-- range or form
abbrev pub value_in : Category → Data → Option (Option ℕ)
value_in category.BitEnum d = option_map bit_value_of (as_str d)
value_in _ d = option_map (whole_below (2 ^ 32)) (as_number d)

abbrev pub value_at : Category → Data → Option (Option ℕ)
value_at c d = option_and_then (value_in c) (get (codes "value") d)

-- an element of the `enumerants` of a kind of a category
abbrev pub enumerant_in : Category → Data → Option FileEnumerant
enumerant_in c d =
    option_and_then
    (λ name. option_and_then (λ value. option_and_then
    (λ parameters. option_map (λ capabilities. record {
      name = name;
      value = value;
      parameters =
          parameters;
      capabilities = capabilities;
    }) (capabilities_at d)) (operands_at (codes "parameters") d))
    (value_at c d)) (text_at (codes "enumerant") d)

-- `enumerants` is looked at in the two enum categories alone
abbrev pub enumerants_at : Option Category → Data → Option (List FileEnumerant)
enumerants_at (Some category.BitEnum) d =
    option_and_then (each (enumerant_in category.BitEnum)) (items_at (codes "enumerants") d)
enumerants_at (Some category.ValueEnum) d =
    option_and_then (each (enumerant_in category.ValueEnum)) (items_at (codes "enumerants") d)
enumerants_at _ d = Some []

-- `bases` is looked at in the category Composite alone
abbrev pub bases_at : Option Category → Data → Option (List (List ℕ))
bases_at (Some category.Composite) d = option_and_then (each as_str) (items_at (codes "bases") d)
bases_at _ d = Some []

-- the category that a text names; another text is unknown
abbrev pub category_of : List ℕ → Option Category
category_of text = if bytes_eq text (codes "BitEnum") then Some category.BitEnum
    else (if bytes_eq text (codes "ValueEnum") then Some category.ValueEnum
    else (if bytes_eq text (codes "Id") then Some category.Id
    else (if bytes_eq text (codes "Literal") then Some category.Literal
    else (if bytes_eq text (codes "Composite") then Some category.Composite else None))))

-- an element of `operand_kinds`, of the category that its text names
abbrev pub kind_with : Option Category → Data → Option FileKind
kind_with c d =
    option_and_then
    (λ name. option_and_then (λ enumerants. option_map
    (λ bases. record { name = name; category = c; enumerants = enumerants; bases = bases }) (bases_at c d))
    (enumerants_at c d)) (text_at (codes "kind") d)

abbrev pub kind_in : Data → Option FileKind
kind_in d = option_and_then (λ text. kind_with (category_of text) d) (text_at (codes "category") d)

-- what a tree says, read as a grammar file
abbrev pub file_of : Data → Option File
file_of d =
    option_and_then
    (λ instructions. option_map (λ kinds. record { instructions = instructions; kinds = kinds })
    (option_and_then (each kind_in) (items_at (codes "operand_kinds") d)))
    (option_and_then (each instruction_of) (items_at (codes "instructions") d))
