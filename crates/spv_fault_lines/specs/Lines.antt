-- The text of the lines that explain a fault, each `KEY: TEXT`: a key, a colon, and the rest. (Own.)
use Rattle.std.specs.Prelude.{◌++◌, ◌-◌, ℕ, List, [], ◌∷◌, Option, Some, None, Bool, true, false, codes}
use Rattle.std.specs.Prelude.{decimal, drop, flat_map, length, nat_le, nat_lt, option_and_then, option_map}
use Rattle.std.specs.Prelude.{slice_get, take, unwrap_or, if◌then◌else◌}
use Rattle.spv_table.specs.Table.{Table, entry_of}
use Rattle.spv_module.specs.Operand.{Plain, OfType, Result, Id, Word, Value, Mask, Argument, Mention}
use Rattle.spv_module.specs.Operand.{PlainInst}
use Rattle.spv_lines.specs.Digits.{hex_digits}
use Rattle.spv_lines.specs.Operand.{id_text, quoted}
use Rattle.spv_lines.specs.Text.{inst_line}
use Rattle.spv_evidence.specs.declared.evidence.EntryPart.{EntryPart}
use Rattle.spv_evidence.specs.declared.evidence.EntryPart.TheVariants as part
use Rattle.spv_evidence.specs.declared.evidence.Lister.{Lister}
use Rattle.spv_evidence.specs.declared.evidence.Side.{Side}
use Rattle.spv_evidence.specs.declared.evidence.Side.TheVariants as side
use Rattle.spv_facts.specs.declared.fact.Detail.{Detail}
use Rattle.spv_facts.specs.declared.fact.Detail.TheVariants as detail
use Rattle.spv_facts.specs.declared.fact.Fact.{Fact}
use Rattle.spv_facts.specs.declared.fact.Fact.TheVariants as fact
use Rattle.spv_facts.specs.declared.fact.Place.{Place}
use Rattle.spv_facts.specs.declared.fact.Thing.{Thing}
use Rattle.spv_facts.specs.declared.fact.Thing.TheVariants as thing
use Rattle.spv_facts.specs.declared.key.Key.{Key}
use Rattle.spv_facts.specs.declared.key.Key.TheVariants as key
use Rattle.spv_fault_lines.specs.Classes.{classes_text}
use Rattle.spv_facts.specs.Conditions.{condition_text}
use Rattle.spv_facts.specs.Keys.{line_name}
use Rattle.spv_facts.specs.Owners.{places_in}
use Rattle.spv_lines.specs.Plain.{plain_of}
use Rattle.spv_facts.specs.Shapes.{role_text, row_text}
use Rattle.spv_facts.specs.Texts.{id_part, value_text, operand_at, result_of, result_part, function_part}
use Rattle.spv_facts.specs.Texts.{name_at, unended_text, due_text}
use Rattle.spv_facts.specs.Texts.{capability_name, bit_name}
use Rattle.spv_facts.specs.Texts.{type_needs, listed_names, entry_part_text}
use Rattle.spv_facts.specs.Texts.{side_text, thing_id}
use Rattle.spv_facts.specs.Versions.{extensions_of, since_text}
use Rattle.spv_facts.specs.Keys.{key_of}

-- after a space: a number, or a name
abbrev pub number_part : ℕ → List ℕ
number_part n = codes " " ++ decimal n

abbrev pub name_part : List ℕ → List ℕ
name_part name = codes " " ++ name

-- after a space: an operand that is an id, a number, or a value of an enum
abbrev pub operand_part : Table → Option Plain → List ℕ
operand_part G (Some (OfType x)) = id_part x
operand_part G (Some (Result x)) = id_part x
operand_part G (Some (Id x)) = id_part x
operand_part G (Some (Argument x)) = id_part x
operand_part G (Some (Mention x)) = id_part x
operand_part G (Some (Word n)) = number_part n
operand_part G (Some (Value k n)) = name_part (value_text G k n)
operand_part G (Some (Mask k n)) = number_part n
operand_part G o = []

-- the results of instructions, as ` %13 %15 %16`
abbrev pub results_part : List PlainInst → List ℕ → List ℕ
results_part is ns = flat_map (result_part is) ns

-- ` inst 6, %5 = OpTypeInt 32 0`
abbrev pub inst_part : List (List ℕ) → ℕ → List ℕ
inst_part lines n = codes " inst " ++ decimal n ++ codes ", " ++ inst_line lines n

-- ` %20 %30 %20`: the functions of a cycle, and before them the last of them, the caller
abbrev pub cycle_part : List PlainInst → List ℕ → List ℕ
cycle_part is fs = results_part is (drop (length fs - 1) fs) ++ results_part is fs

-- ` 2 %17`
abbrev pub numbered_part : Table → List PlainInst → ℕ → ℕ → List ℕ
numbered_part G is n k = number_part k ++ operand_part G (operand_at is n k)

-- `, block %16`, of a block whose OpLabel has a result
abbrev pub block_id_part : Option ℕ → List ℕ
block_id_part None = []
block_id_part (Some x) = codes ", block" ++ id_part x

abbrev pub block_part : List PlainInst → Option ℕ → List ℕ
block_part is block = block_id_part (option_and_then (result_of is) block)

-- the name of a function in quotes, after a space
abbrev pub named_part : Option (List ℕ) → List ℕ
named_part None = []
named_part (Some name) = name_part (quoted name)

-- ` function %10 "main", block %16`
abbrev pub place_part : List PlainInst → Place → List ℕ
place_part is p =
    codes " function" ++ function_part is p.function ++ named_part (name_at is p.function) ++ block_part is p.block

-- ` 128 OpIAdd`, by the name of the grammar if it has one
abbrev pub opcode_part : Table → ℕ → List ℕ
opcode_part G opcode = unwrap_or (option_map (λ e. name_part e.name) (entry_of G opcode)) []

abbrev pub named_opcode_part : Table → ℕ → List ℕ
named_opcode_part G opcode = number_part opcode ++ opcode_part G opcode

-- ` OpLabel`; nothing where the grammar has no name for it
abbrev pub may_come_part : Table → ℕ → List ℕ
may_come_part G opcode = if nat_lt opcode 65536 then opcode_part G opcode else []

abbrev pub end_part : Bool → List ℕ
end_part true = codes " end of module"
end_part false = []

-- the names of opcodes, and that the module may end
abbrev pub names_text : Table → List ℕ → Bool → List ℕ
names_text G opcodes end = flat_map (may_come_part G) opcodes ++ end_part end

-- are opcodes that may come told by their names: in short, if there are eight at most
abbrev pub tells_names : Detail → List ℕ → Bool
tells_names detail.Short opcodes = nat_le (length opcodes) 8
tells_names detail.Full opcodes = true

-- ` OpLabel OpFunctionEnd`, or ` a type or constant; OpFunction`
abbrev pub coming_part : Detail → Table → List ℕ → Bool → List ℕ
coming_part d G opcodes end = if tells_names d opcodes then names_text G opcodes end else classes_text opcodes end

-- the names of the capabilities of which one is needed, each after a space
abbrev pub names_part : Table → PlainInst → Lister → Option (List (List ℕ)) → List ℕ
names_part G i l (Some names) = flat_map name_part names
names_part G i l None = flat_map (λ c. name_part (capability_name G c)) (type_needs l i.opcode i.operands)

abbrev pub needed_part : Table → Option PlainInst → Lister → List ℕ
needed_part G None l = []
needed_part G (Some i) l = names_part G i l (listed_names G i l)

-- the same, or the instruction by which it is
abbrev pub entry_rest : List (List ℕ) → EntryPart → List ℕ
entry_rest lines (part.Called n) = inst_part lines n
entry_rest lines (part.Imported n) = inst_part lines n
entry_rest lines p = name_part (entry_part_text p)

-- the same, or the number of a parameter or an argument
abbrev pub side_rest : Side → List ℕ
side_rest (side.Parameter k) = number_part k
side_rest (side.Argument k) = number_part k
side_rest s = name_part (side_text s)

abbrev pub thing_text : List (List ℕ) → Thing → List ℕ
thing_text lines thing.Nothing = codes "nothing"
thing_text lines (thing.Count n) = decimal n
thing_text lines (thing.Inst n) = inst_line lines n
thing_text lines (thing.Id x) = id_text x

-- words, in eight hexadecimal digits each; `..` for others before or after them
abbrev pub word_part : ℕ → List ℕ
word_part w = codes " " ++ hex_digits 8 w

abbrev pub dots : Bool → List ℕ
dots true = codes " .."
dots false = []

abbrev pub words_rest : Bool → List ℕ → Bool → List ℕ
words_rest before words after = dots before ++ flat_map word_part words ++ dots after

-- `, 0x00000011`; nothing of a word that the module has not
abbrev pub word_value : Option ℕ → List ℕ
word_value None = []
word_value (Some w) = codes ", 0x" ++ hex_digits 8 w

-- ` 3`; ` none` where there is no such count
abbrev pub count_part : Option ℕ → List ℕ
count_part None = codes " none"
count_part (Some n) = number_part n

-- `, of operand 1 %17`: operands of instruction n
abbrev pub owner_part : Table → List PlainInst → ℕ → ℕ → List ℕ
owner_part G is n k = codes ", of operand" ++ numbered_part G is n k

-- `, and 3 more`, where there are more than eight operands
abbrev pub more_part : ℕ → List ℕ
more_part count = if nat_le count 8 then [] else codes ", and " ++ (decimal (count - 8) ++ codes " more")

abbrev pub owners_part : Table → List PlainInst → ℕ → List ℕ → List ℕ
owners_part G is n ks = flat_map (owner_part G is n) (take 8 ks) ++ more_part (length ks)

-- `%5 = OpTypeInt 32 0, of operand 1 %17`
abbrev pub owned_text : Table → List PlainInst → List (List ℕ) → ℕ → Thing → List ℕ → List ℕ
owned_text G is lines n t ks = thing_text lines t ++ owners_part G is n ks

-- the operands of instruction n that are of a type that is told, where these are their types; of one that none is of
-- that it is a part of another that is told
abbrev pub whose_part : Table → List PlainInst → ℕ → List ℕ → List ℕ
whose_part G is n [] = codes ", part of a type above"
whose_part G is n (k ∷ ks) = owners_part G is n (k ∷ ks)

abbrev pub read_text : Table → List PlainInst → List (List ℕ) → ℕ → List (Option ℕ) → Thing → List ℕ
read_text G is lines n us t = thing_text lines t ++ whose_part G is n (places_in (thing_id is t) us)

-- What is told behind the key and its colon, in short or in full: under the table, of these instructions and their
-- shown lines. Nothing of types, each of which has a line of its own.
abbrev pub rest_of : Detail → Table → List PlainInst → List (List ℕ) → Fact → List ℕ
rest_of d G is lines (fact.At n) = name_part (inst_line lines n)
rest_of d G is lines (fact.In p) = place_part is p
rest_of d G is lines (fact.Open p) = place_part is p
rest_of d G is lines (fact.Words before words after) = words_rest before words after
rest_of d G is lines (fact.Word k w) = number_part k ++ word_value w
rest_of d G is lines (fact.Opcode opcode) = named_opcode_part G opcode
rest_of d G is lines (fact.Row opcode known) = name_part (row_text opcode known)
rest_of d G is lines (fact.MayCome opcodes end) = coming_part d G opcodes end
rest_of d G is lines (fact.Unended p) = name_part (unended_text is p)
rest_of d G is lines (fact.Operand n k) = numbered_part G is n k
rest_of d G is lines (fact.Failing k) = number_part k
rest_of d G is lines (fact.Due kind) = name_part (due_text G kind)
rest_of d G is lines (fact.Bound bound) = number_part bound
rest_of d G is lines (fact.Defined n) = inst_part lines n
rest_of d G is lines (fact.LocalTo f) = results_part is (f ∷ [])
rest_of d G is lines (fact.Role r) = name_part (role_text r)
rest_of d G is lines (fact.Earlier n) = inst_part lines n
rest_of d G is lines (fact.Capability c implied) = name_part (capability_name G c)
rest_of d G is lines (fact.Bit n k bit) = name_part (bit_name G (operand_at is n k) bit)
rest_of d G is lines (fact.NeedsOneOf n l) = needed_part G (slice_get is n) l
rest_of d G is lines fact.NoEntry = name_part (codes "OpEntryPoint")
rest_of d G is lines (fact.Part part) = entry_rest lines part
rest_of d G is lines (fact.Condition c) = name_part (condition_text c)
rest_of d G is lines (fact.Types ts) = []
rest_of d G is lines (fact.Differs s) = side_rest s
rest_of d G is lines (fact.Wanted t) = name_part (thing_text lines t)
rest_of d G is lines (fact.Found t) = name_part (thing_text lines t)
rest_of d G is lines (fact.ReadTypes n us ts) = []
rest_of d G is lines (fact.WantedOf n t ks) = name_part (owned_text G is lines n t ks)
rest_of d G is lines (fact.FoundOf n t ks) = name_part (owned_text G is lines n t ks)
rest_of d G is lines (fact.Size n) = number_part n
rest_of d G is lines (fact.MissingParent b) = results_part is (b ∷ [])
rest_of d G is lines (fact.NoPredecessor n k) = operand_part G (operand_at is n k)
rest_of d G is lines (fact.Twice n k) = operand_part G (operand_at is n k)
rest_of d G is lines (fact.Predecessors blocks) = results_part is blocks
rest_of d G is lines (fact.Walk blocks) = results_part is blocks
rest_of d G is lines (fact.Calls functions) = results_part is functions
rest_of d G is lines (fact.Cycle functions) = cycle_part is functions
rest_of d G is lines (fact.Number n) = number_part n
rest_of d G is lines (fact.Operands n) = number_part n
rest_of d G is lines (fact.Least n) = count_part n
rest_of d G is lines (fact.Most n) = count_part n
rest_of d G is lines (fact.OtherOperand n k) = numbered_part G is n k
rest_of d G is lines (fact.OnTheWay b) = results_part is (b ∷ [])
rest_of d G is lines (fact.Given n) = inst_part lines n
rest_of d G is lines (fact.UsedBy n) = inst_part lines n
rest_of d G is lines (fact.Since minor) = name_part (since_text minor)
rest_of d G is lines (fact.Extensions line) = flat_map name_part (extensions_of line)

-- `KEY:` and what is told behind it
abbrev pub keyed : Key → List ℕ → List ℕ
keyed k rest = line_name k ++ codes ":" ++ rest

-- what is told, before control characters are escaped and without a line feed
abbrev pub raw_of : Detail → Table → List PlainInst → List (List ℕ) → Fact → List ℕ
raw_of d G is lines f = keyed (key_of f) (rest_of d G is lines f)

-- the line of a raw text
abbrev pub plain_line : List ℕ → List ℕ
plain_line raw = plain_of raw ++ (10 ∷ [])

-- `type: %5 = OpTypeInt 32 0`
abbrev pub type_line : List (List ℕ) → Thing → List ℕ
type_line lines t = plain_line (keyed key.Type (name_part (thing_text lines t)))

-- `type: %5 = OpTypeInt 32 0, of operand 1 %17`
abbrev pub read_line : Table → List PlainInst → List (List ℕ) → ℕ → List (Option ℕ) → Thing → List ℕ
read_line G is lines n us t = plain_line (keyed key.Type (name_part (read_text G is lines n us t)))

-- the line of a fact, or the lines of its types
abbrev pub line_of : Detail → Table → List PlainInst → List (List ℕ) → Fact → List ℕ
line_of d G is lines (fact.Types ts) = flat_map (type_line lines) ts
line_of d G is lines (fact.ReadTypes n us ts) = flat_map (read_line G is lines n us) ts
line_of d G is lines f = plain_line (raw_of d G is lines f)

-- the lines of facts, in order
abbrev pub text_of : Detail → Table → List PlainInst → List (List ℕ) → List Fact → List ℕ
text_of d G is lines facts = flat_map (line_of d G is lines) facts
