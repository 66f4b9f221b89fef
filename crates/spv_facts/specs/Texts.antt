-- The texts that the lines and the members of JSON that explain a fault share. (Own.)
use Rattle.std.specs.Prelude.{◌++◌, ℕ, List, [], ◌∷◌, Option, Some, None, codes}
use Rattle.std.specs.Prelude.{decimal, nat_eq, option_and_then, option_map}
use Rattle.std.specs.Prelude.{slice_get, unwrap_or, if◌then◌else◌}
use Rattle.spv_table.specs.Table.{Table, entry_of, enumerant_of, kind_of}
use Rattle.spv_table.specs.Lookups.{number_named}
use Rattle.spv_module.specs.Operand.{Plain, Id, Word, Value, Mask, Argument}
use Rattle.spv_module.specs.Operand.{PlainInst, result_in}
use Rattle.spv_module.specs.declared.opcode.TheConstants.{TYPE_INT, TYPE_FLOAT, TYPE_VECTOR}
use Rattle.spv_lines.specs.Operand.{id_text}
use Rattle.spv_evidence.specs.declared.evidence.EntryPart.{EntryPart}
use Rattle.spv_evidence.specs.declared.evidence.EntryPart.TheVariants as part
use Rattle.spv_evidence.specs.declared.evidence.Lister.{Lister}
use Rattle.spv_evidence.specs.declared.evidence.Lister.TheVariants as lister
use Rattle.spv_evidence.specs.declared.evidence.Side.{Side}
use Rattle.spv_evidence.specs.declared.evidence.Side.TheVariants as side
use Rattle.spv_facts.specs.declared.fact.Place.{Place}
use Rattle.spv_facts.specs.declared.fact.Thing.{Thing}
use Rattle.spv_facts.specs.declared.fact.Thing.TheVariants as thing
use Rattle.spv_names.specs.Names.{function_name}

-- after a space: an id, as ` %17`
abbrev pub id_part : ℕ → List ℕ
id_part x = codes " " ++ id_text x

-- a value of a kind: by the name of its first enumerant, or in decimal where it has none
abbrev pub value_text : Table → ℕ → ℕ → List ℕ
value_text G kind x = unwrap_or (option_map (λ e. e.name)
    (option_and_then (λ s. enumerant_of s.enumerants x) (kind_of G kind))) (decimal x)

-- operand k of instruction n
abbrev pub operand_at : List PlainInst → ℕ → ℕ → Option Plain
operand_at is n k = option_and_then (λ i. slice_get i.operands k) (slice_get is n)

abbrev pub part_of : Option ℕ → List ℕ
part_of None = []
part_of (Some x) = id_part x

-- the result of instruction n, if it has one
abbrev pub result_of : List PlainInst → ℕ → Option ℕ
result_of is n = option_and_then (λ i. result_in i.operands) (slice_get is n)

-- the same after a space
abbrev pub result_part : List PlainInst → ℕ → List ℕ
result_part is n = part_of (result_of is n)

abbrev pub function_part : List PlainInst → Option ℕ → List ℕ
function_part is None = []
function_part is (Some n) = result_part is n

-- the name of the function that an OpFunction of that number begins
abbrev pub name_at : List PlainInst → Option ℕ → Option (List ℕ)
name_at is n = option_and_then (function_name is) (option_and_then (result_of is) n)

-- `the end of block %11`, or of the function where no block is open
abbrev pub unended_by : List PlainInst → Option ℕ → Option ℕ → List ℕ
unended_by is function (Some block) = codes "the end of block" ++ result_part is block
unended_by is function None = codes "the end of function" ++ function_part is function

abbrev pub unended_text : List PlainInst → Place → List ℕ
unended_text is p = unended_by is p.function p.block

-- the name of a kind, its number, or `nothing`
abbrev pub due_text : Table → Option ℕ → List ℕ
due_text G None = codes "nothing"
due_text G (Some k) = unwrap_or (option_map (λ s. s.kind.name) (kind_of G k)) (decimal k)

-- a capability: by the name of the grammar, or in decimal
abbrev pub value_or_number : Table → Option ℕ → ℕ → List ℕ
value_or_number G None x = decimal x
value_or_number G (Some kind) x = value_text G kind x

abbrev pub capability_name : Table → ℕ → List ℕ
capability_name G c = value_or_number G (number_named G (codes "Capability")) c

-- a bit of a mask by the name of its kind
abbrev pub bit_name : Table → Option Plain → ℕ → List ℕ
bit_name G (Some (Mask k x)) bit = value_text G k bit
bit_name G o bit = decimal bit

-- the capabilities of which one is needed for the width of an integer or float type, or the count of a vector: Int16
-- and Int64; Float16Buffer or Float16, and Float64; Vector16 [3.31]
abbrev pub int_needs : List Plain → List ℕ
int_needs (r ∷ Word w ∷ os) = if nat_eq w 16 then 22 ∷ [] else (if nat_eq w 64 then 11 ∷ [] else [])
int_needs os = []

abbrev pub float_needs : List Plain → List ℕ
float_needs (r ∷ Word w ∷ os) = if nat_eq w 16 then 8 ∷ 9 ∷ [] else (if nat_eq w 64 then 10 ∷ [] else [])
float_needs os = []

abbrev pub vector_needs : List Plain → List ℕ
vector_needs (r ∷ t ∷ Word n ∷ os) = if nat_eq n 8 then 7 ∷ [] else (if nat_eq n 16 then 7 ∷ [] else [])
vector_needs os = []

abbrev pub width_needs : ℕ → List Plain → List ℕ
width_needs opcode os = if nat_eq opcode TYPE_INT then int_needs os
    else (if nat_eq opcode TYPE_FLOAT then float_needs os
    else (if nat_eq opcode TYPE_VECTOR then vector_needs os else []))

-- the capabilities of which one is needed, by what of a type lacks it: of an image or sampler type ImageBasic (13), of
-- an access qualifier ImageReadWrite (14), else those of a width or a count [3.31]
abbrev pub type_needs : Lister → ℕ → List Plain → List ℕ
type_needs lister.Type opcode os = 13 ∷ []
type_needs lister.Access opcode os = 14 ∷ []
type_needs l opcode os = width_needs opcode os

-- the names of the capabilities that a value's enumerant lists, or a bit's
abbrev pub listed_by : Table → ℕ → ℕ → Option (List (List ℕ))
listed_by G kind x = option_map (λ e. e.capabilities)
    (option_and_then (λ s. enumerant_of s.enumerants x) (kind_of G kind))

abbrev pub value_lists : Table → Option Plain → Option (List (List ℕ))
value_lists G (Some (Value k x)) = listed_by G k x
value_lists G o = None

abbrev pub bit_lists : Table → Option Plain → ℕ → Option (List (List ℕ))
bit_lists G (Some (Mask k x)) bit = listed_by G k bit
bit_lists G o bit = None

-- the names that an opcode's entry lists, an operand's value or a bit of it; what a type needs has none
abbrev pub listed_names : Table → PlainInst → Lister → Option (List (List ℕ))
listed_names G i lister.Entry = option_map (λ e. e.capabilities) (entry_of G i.opcode)
listed_names G i (lister.Value k) = value_lists G (slice_get i.operands k)
listed_names G i (lister.Bit k bit) = bit_lists G (slice_get i.operands k) bit
listed_names G i l = None

-- a part of E2 that is broken, in words
abbrev pub entry_part_text : EntryPart → List ℕ
entry_part_text part.Model = codes "the execution model is not Kernel"
entry_part_text part.Declared = codes "the function is a declaration"
entry_part_text part.Returns = codes "the function does not return void"
entry_part_text (part.Called n) = codes "the function is called"
entry_part_text part.Unnamed = codes "the function is that of no OpEntryPoint"
entry_part_text (part.Imported n) = codes "a definition is imported"
entry_part_text part.Missing = codes "a declaration is not imported"

-- where two things are to be the same, in words
abbrev pub side_text : Side → List ℕ
side_text side.Function = codes "function type"
side_text side.Return = codes "return type"
side_text side.Number = codes "number of parameters or arguments"
side_text (side.Parameter k) = codes "parameter"
side_text (side.Argument k) = codes "argument"

-- the id of a type that is told, if it is one
abbrev pub thing_id : List PlainInst → Thing → Option ℕ
thing_id is thing.Nothing = None
thing_id is (thing.Count n) = None
thing_id is (thing.Inst n) = result_of is n
thing_id is (thing.Id x) = Some x
