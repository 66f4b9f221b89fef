-- The tree of a table's grammar file: of the keys that are read, those that say something. (The grammar file's form:
-- own.)
use Rattle.std.specs.Prelude.{ℕ, List, [], ◌∷◌, ◌++◌, Option, Some, None, map, codes, false}
use Rattle.std.specs.Fmt.{digits}
use Rattle.serde_json.specs.Data.{Data, number, unsigned, string, array, object, Members, no_members, put}
use Rattle.serde_json.specs.View.{items_of}
use Rattle.spv_table.specs.declared.table.Category.{Category}
use Rattle.spv_table.specs.declared.table.Category.TheVariants as category
use Rattle.spv_table.specs.declared.table.Quantifier.{Quantifier}
use Rattle.spv_table.specs.declared.table.Quantifier.TheVariants as quantifier
use Rattle.spv_table.specs.declared.table.Entry.{Entry}
use Rattle.spv_table.specs.declared.table.Enumerant.{Enumerant}
use Rattle.spv_table.specs.declared.table.Item as declared
use Rattle.spv_table.specs.Table.{Table, Sort, kind_of}

-- the members, with a list at a key; without it where the list is empty
abbrev pub with_list : List ℕ → List Data → Members → Members
with_list key [] ms = ms
with_list key (d ∷ ds) ms = put key (array (items_of (d ∷ ds))) ms

-- the name of the kind of a number; no octet where the table has none
abbrev pub name_of : Option Sort → List ℕ
name_of None = []
name_of (Some s) = s.kind.name

abbrev pub kind_name : Table → ℕ → List ℕ
kind_name G kind = name_of (kind_of G kind)

-- the members of an operand, with `quantifier` where it does not come once
abbrev pub with_quantifier : Quantifier → Members → Members
with_quantifier quantifier.One ms = ms
with_quantifier quantifier.Maybe ms = put (codes "quantifier") (string (codes "?")) ms
with_quantifier quantifier.Many ms = put (codes "quantifier") (string (codes "*")) ms

-- an operand of an instruction, and a parameter of an enumerant
abbrev pub operand_tree : Table → declared.Item → Data
operand_tree G i =
    object (with_quantifier i.quantifier (put (codes "kind") (string (kind_name G i.kind)) no_members))

abbrev pub parameter_tree : Table → ℕ → Data
parameter_tree G kind = operand_tree G (record { kind = kind; quantifier = quantifier.One })

-- an element of `instructions`
abbrev pub instruction_tree : Table → ℕ × Entry → Data
instruction_tree G e =
    object
    (with_list (codes "capabilities") (map string e.1.capabilities)
    (with_list (codes "operands") (map (operand_tree G) e.1.operands)
    (put (codes "opcode") (number (unsigned e.0)) (put (codes "opname") (string e.1.name) no_members))))

-- the value of a BitEnum's enumerant is a text of hexadecimal digits, and that of another's a number
abbrev pub value_tree : Category → ℕ → Data
value_tree category.BitEnum value = string (codes "0x" ++ digits 16 false value)
value_tree category.ValueEnum value = number (unsigned value)
value_tree category.Id value = number (unsigned value)
value_tree category.Literal value = number (unsigned value)
value_tree category.Composite value = number (unsigned value)

-- an element of the `enumerants` of a kind of a category
abbrev pub enumerant_tree : Table → Category → Enumerant → Data
enumerant_tree G c e =
    object
    (with_list (codes "capabilities") (map string e.capabilities)
    (with_list (codes "parameters") (map (parameter_tree G) e.parameters)
    (put (codes "value") (value_tree c e.value) (put (codes "enumerant") (string e.name) no_members))))

-- the members of a kind, with the list of enumerants in an enum category, and that of bases in the category Composite
abbrev pub with_enumerants : Table → Category → List Enumerant → Members → Members
with_enumerants G c es ms = put (codes "enumerants") (array (items_of (map (enumerant_tree G c) es))) ms

abbrev pub with_bases : Table → List ℕ → Members → Members
with_bases G bases ms =
    put (codes "bases") (array (items_of (map (λ kind. string (kind_name G kind)) bases))) ms

abbrev pub with_parts : Table → Sort → Category → Members → Members
with_parts G s category.BitEnum ms = with_enumerants G category.BitEnum s.enumerants ms
with_parts G s category.ValueEnum ms = with_enumerants G category.ValueEnum s.enumerants ms
with_parts G s category.Composite ms = with_bases G s.kind.bases ms
with_parts G s category.Id ms = ms
with_parts G s category.Literal ms = ms

abbrev pub category_text : Category → List ℕ
category_text category.BitEnum = codes "BitEnum"
category_text category.ValueEnum = codes "ValueEnum"
category_text category.Id = codes "Id"
category_text category.Literal = codes "Literal"
category_text category.Composite = codes "Composite"

-- an element of `operand_kinds`
abbrev pub kind_tree : Table → Sort → Data
kind_tree G s =
    object
    (with_parts G s s.kind.category
    (put (codes "category") (string (category_text s.kind.category))
    (put (codes "kind") (string s.kind.name) no_members)))

-- the tree of the table's grammar file: of the keys that are read, those that say something
abbrev pub grammar_tree : Table → Data
grammar_tree G =
    object
    (put (codes "instructions") (array (items_of (map (instruction_tree G) G.entries)))
    (put (codes "operand_kinds") (array (items_of (map (kind_tree G) G.kinds))) no_members))
