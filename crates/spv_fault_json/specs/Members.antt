-- The members of a JSON object that tell what shows a fault. (Own.) Each fact is one: its name is that of the fact's
-- key.
use Rattle.std.specs.Prelude.{◌++◌, ◌-◌, ℕ, List, [], ◌∷◌, Option, Some, None, Bool, true, false, codes, drop, flat_map}
use Rattle.std.specs.Prelude.{length, nat_lt, option_map, slice_get, unwrap_or, if◌then◌else◌}
use Rattle.json.specs.Token.{Token, begin_object, boolean, end_object, key as name, null, string}
use Rattle.spv_table.specs.Table.{Table, entry_of}
use Rattle.spv_module.specs.Operand.{Plain, OfType, Result, Id, Word, Value, Mask, Argument, Mention, PlainInst}
use Rattle.spv_lines.specs.Text.{inst_line}
use Rattle.spv_evidence.specs.declared.evidence.EntryPart.{EntryPart}
use Rattle.spv_evidence.specs.declared.evidence.EntryPart.TheVariants as part
use Rattle.spv_evidence.specs.declared.evidence.Lister.{Lister}
use Rattle.spv_evidence.specs.declared.evidence.Side.{Side}
use Rattle.spv_evidence.specs.declared.evidence.Side.TheVariants as side
use Rattle.spv_facts.specs.Conditions.{condition_text}
use Rattle.spv_facts.specs.Texts.{bit_name, capability_name, due_text, entry_part_text, listed_names}
use Rattle.spv_facts.specs.Keys.{key_of}
use Rattle.spv_facts.specs.Texts.{name_at}
use Rattle.spv_facts.specs.Texts.{operand_at, result_of, side_text, thing_id, unended_text, value_text}
use Rattle.spv_facts.specs.Texts.{type_needs}
use Rattle.spv_facts.specs.Owners.{places_in}
use Rattle.spv_facts.specs.Refused.{found_text, help_text}
use Rattle.spv_facts.specs.Shapes.{role_text, row_text}
use Rattle.spv_facts.specs.Versions.{extensions_of, since_text}
use Rattle.spv_facts.specs.declared.fact.Fact.{Fact}
use Rattle.spv_facts.specs.declared.fact.Fact.TheVariants as fact
use Rattle.spv_facts.specs.declared.fact.Place.{Place}
use Rattle.spv_facts.specs.declared.fact.Thing.{Thing}
use Rattle.spv_facts.specs.declared.fact.Thing.TheVariants as thing
use Rattle.spv_facts.specs.declared.key.Key.{Key}
use Rattle.spv_facts.specs.declared.key.Key.TheVariants as keys
use Rattle.spv_facts.specs.declared.refused.Front.{Front}
use Rattle.spv_words.specs.declared.words.WordError.{WordError}
use Rattle.spv_fault_json.specs.Tokens.{array, key_token, maybe_number, number_member, number_token}
use Rattle.spv_fault_json.specs.Tokens.{text_member}

-- {"inst":6,"text":"%5 = OpTypeInt 32 0"}: an instruction, by its number and its line
abbrev pub inst_tokens : List (List ℕ) → ℕ → List Token
inst_tokens lines n =
    begin_object ∷ number_member (codes "inst") n ++ text_member (codes "text") (inst_line lines n) ++ end_object ∷ []

-- [13,15,16]: the results of instructions
abbrev pub result_token : List PlainInst → ℕ → List Token
result_token is n = unwrap_or (option_map (λ x. number_token x ∷ []) (result_of is n)) []

abbrev pub results_tokens : List PlainInst → List ℕ → List Token
results_tokens is ns = array (flat_map (result_token is) ns)

-- those of a cycle, and before them that of the last, the caller
abbrev pub cycle_tokens : List PlainInst → List ℕ → List Token
cycle_tokens is fs =
    array (flat_map (result_token is) (drop (length fs - 1) fs) ++ flat_map (result_token is) fs)

-- the result of an instruction, if there is one
abbrev pub result_in : List PlainInst → Option ℕ → Option ℕ
result_in is None = None
result_in is (Some n) = result_of is n

-- a member that is a text, where there is something to tell
abbrev pub piece_member : Key → Option (List ℕ) → List Token
piece_member k None = []
piece_member k (Some text) = key_token k ∷ string text ∷ []

-- the function of a place, and after it members for its name and for the block, if there are such
abbrev pub block_member : List PlainInst → Option ℕ → List Token
block_member is None = []
block_member is (Some b) = key_token keys.Block ∷ maybe_number (result_of is b)

abbrev pub place_tokens : List PlainInst → Place → List Token
place_tokens is p = maybe_number (result_in is p.function) ++ piece_member keys.Name (name_at is p.function)
    ++ block_member is p.block

-- {"index":2,"id":17}: an operand, by its number, with its id, or the number that it is and the name of that
abbrev pub operand_members : Table → Option Plain → List Token
operand_members G (Some (OfType x)) = number_member (codes "id") x
operand_members G (Some (Result x)) = number_member (codes "id") x
operand_members G (Some (Id x)) = number_member (codes "id") x
operand_members G (Some (Argument x)) = number_member (codes "id") x
operand_members G (Some (Mention x)) = number_member (codes "id") x
operand_members G (Some (Word n)) = number_member (codes "number") n
operand_members G (Some (Value kind n)) =
    number_member (codes "number") n ++ text_member (codes "name") (value_text G kind n)
operand_members G (Some (Mask kind n)) = number_member (codes "number") n
operand_members G o = []

abbrev pub operand_tokens : Table → ℕ → Option Plain → List Token
operand_tokens G k o = begin_object ∷ number_member (codes "index") k ++ operand_members G o ++ end_object ∷ []

-- {"id":5}
abbrev pub id_tokens : ℕ → List Token
id_tokens x = begin_object ∷ number_member (codes "id") x ++ end_object ∷ []

-- null, a number, an instruction, or an id alone
abbrev pub thing_tokens : List (List ℕ) → Thing → List Token
thing_tokens lines thing.Nothing = null ∷ []
thing_tokens lines (thing.Count n) = number_token n ∷ []
thing_tokens lines (thing.Inst n) = inst_tokens lines n
thing_tokens lines (thing.Id x) = id_tokens x

-- {"value":128,"name":"OpIAdd"}: an opcode, with its name if the grammar has one
abbrev pub opcode_name : Table → ℕ → List Token
opcode_name G opcode = unwrap_or (option_map (λ e. text_member (codes "name") e.name) (entry_of G opcode)) []

abbrev pub opcode_tokens : Table → ℕ → List Token
opcode_tokens G opcode = begin_object ∷ number_member (codes "value") opcode ++ opcode_name G opcode ++ end_object ∷ []

-- the names of opcodes that may come, but for those of which the grammar has none; after them a member that tells that
-- the module may end, if it may
abbrev pub opcode_token : Table → ℕ → List Token
opcode_token G opcode = unwrap_or (option_map (λ e. string e.name ∷ []) (entry_of G opcode)) []

abbrev pub coming_token : Table → ℕ → List Token
coming_token G opcode = if nat_lt opcode 65536 then opcode_token G opcode else []

abbrev pub end_member : Bool → List Token
end_member true = key_token keys.MayEnd ∷ boolean true ∷ []
end_member false = []

abbrev pub coming_tokens : Table → List ℕ → Bool → List Token
coming_tokens G opcodes end = array (flat_map (coming_token G) opcodes) ++ end_member end

-- the name of the kind that is due, or null
abbrev pub due_tokens : Table → Option ℕ → List Token
due_tokens G None = null ∷ []
due_tokens G (Some kind) = string (due_text G (Some kind)) ∷ []

-- the names of the capabilities that are listed
abbrev pub name_token : List ℕ → List Token
name_token text = string text ∷ []

abbrev pub capability_token : Table → ℕ → List Token
capability_token G c = string (capability_name G c) ∷ []

abbrev pub names_tokens : Table → PlainInst → Lister → Option (List (List ℕ)) → List Token
names_tokens G i l (Some names) = flat_map name_token names
names_tokens G i l None = flat_map (capability_token G) (type_needs l i.opcode i.operands)

abbrev pub needed_tokens : Table → Option PlainInst → Lister → List Token
needed_tokens G None l = []
needed_tokens G (Some i) l = names_tokens G i l (listed_names G i l)

-- {"value":4,"name":"Volatile"}: a bit
abbrev pub bit_tokens : Table → Option Plain → ℕ → List Token
bit_tokens G o bit =
    begin_object ∷ number_member (codes "value") bit ++ text_member (codes "name") (bit_name G o bit) ++ end_object ∷ []

-- a part of E2 that is broken: an instruction, or words
abbrev pub part_tokens : List (List ℕ) → EntryPart → List Token
part_tokens lines (part.Called n) = inst_tokens lines n
part_tokens lines (part.Imported n) = inst_tokens lines n
part_tokens lines p = string (entry_part_text p) ∷ []

-- where two things are to be the same: the number of a parameter or an argument, or words
abbrev pub side_tokens : Side → List Token
side_tokens (side.Parameter k) = number_token k ∷ []
side_tokens (side.Argument k) = number_token k ∷ []
side_tokens s = string (side_text s) ∷ []

-- {"before":false,"values":[262203,7,8],"after":true}: words, and whether there are others before or after them
abbrev pub number_tokens : ℕ → List Token
number_tokens n = number_token n ∷ []

abbrev pub truth_member : List ℕ → Bool → List Token
truth_member n truth = name n ∷ boolean truth ∷ []

abbrev pub values_member : List ℕ → List Token
values_member words = name (codes "values") ∷ array (flat_map number_tokens words)

abbrev pub words_tokens : Bool → List ℕ → Bool → List Token
words_tokens before words after =
    begin_object ∷ truth_member (codes "before") before ++ values_member words ++ truth_member (codes "after") after
    ++ end_object ∷ []

-- {"index":2,"value":17}: a word, by its place in the instruction; null where the module has it not
abbrev pub word_tokens : ℕ → Option ℕ → List Token
word_tokens k w =
    begin_object ∷ number_member (codes "index") k ++ name (codes "value") ∷ maybe_number w ++ end_object ∷ []

-- {"inst":6,"text":"%5 = OpTypeInt 32 0","operands":[1]}: a type, with the numbers of the operands that are of it
abbrev pub owners_member : List ℕ → List Token
owners_member ks = name (codes "operands") ∷ array (flat_map number_tokens ks)

abbrev pub owned_tokens : List (List ℕ) → Thing → List ℕ → List Token
owned_tokens lines thing.Nothing ks = null ∷ []
owned_tokens lines (thing.Count n) ks = number_token n ∷ []
owned_tokens lines (thing.Inst n) ks = begin_object ∷ number_member (codes "inst") n
    ++ text_member (codes "text") (inst_line lines n) ++ owners_member ks ++ end_object ∷ []
owned_tokens lines (thing.Id x) ks =
    begin_object ∷ number_member (codes "id") x ++ owners_member ks ++ end_object ∷ []

-- the same, where these are the types of the operands
abbrev pub read_tokens : List PlainInst → List (List ℕ) → List (Option ℕ) → Thing → List Token
read_tokens is lines us t = owned_tokens lines t (places_in (thing_id is t) us)

-- The value of a fact's member, and of a place and of opcodes that may come further members, as told above: under the
-- table, of these instructions and their shown lines.
abbrev pub value_of : Table → List PlainInst → List (List ℕ) → Fact → List Token
value_of G is lines (fact.At n) = inst_tokens lines n
value_of G is lines (fact.In p) = place_tokens is p
value_of G is lines (fact.Open p) = place_tokens is p
value_of G is lines (fact.Words before words after) = words_tokens before words after
value_of G is lines (fact.Word k w) = word_tokens k w
value_of G is lines (fact.Opcode opcode) = opcode_tokens G opcode
value_of G is lines (fact.Row opcode known) = string (row_text opcode known) ∷ []
value_of G is lines (fact.MayCome opcodes end) = coming_tokens G opcodes end
value_of G is lines (fact.Unended p) = string (unended_text is p) ∷ []
value_of G is lines (fact.Operand n k) = operand_tokens G k (operand_at is n k)
value_of G is lines (fact.Failing k) = operand_tokens G k None
value_of G is lines (fact.Due kind) = due_tokens G kind
value_of G is lines (fact.Bound bound) = number_token bound ∷ []
value_of G is lines (fact.Defined n) = inst_tokens lines n
value_of G is lines (fact.LocalTo f) = maybe_number (result_of is f)
value_of G is lines (fact.Role r) = string (role_text r) ∷ []
value_of G is lines (fact.Earlier n) = inst_tokens lines n
value_of G is lines (fact.Capability c implied) = string (capability_name G c) ∷ []
value_of G is lines (fact.Bit n k bit) = bit_tokens G (operand_at is n k) bit
value_of G is lines (fact.NeedsOneOf n l) = array (needed_tokens G (slice_get is n) l)
value_of G is lines fact.NoEntry = string (codes "OpEntryPoint") ∷ []
value_of G is lines (fact.Part part) = part_tokens lines part
value_of G is lines (fact.Condition c) = string (condition_text c) ∷ []
value_of G is lines (fact.Types ts) = array (flat_map (thing_tokens lines) ts)
value_of G is lines (fact.Differs s) = side_tokens s
value_of G is lines (fact.Wanted t) = thing_tokens lines t
value_of G is lines (fact.Found t) = thing_tokens lines t
value_of G is lines (fact.ReadTypes n us ts) = array (flat_map (read_tokens is lines us) ts)
value_of G is lines (fact.WantedOf n t ks) = owned_tokens lines t ks
value_of G is lines (fact.FoundOf n t ks) = owned_tokens lines t ks
value_of G is lines (fact.Size n) = number_token n ∷ []
value_of G is lines (fact.MissingParent b) = maybe_number (result_of is b)
value_of G is lines (fact.NoPredecessor n k) = operand_tokens G k (operand_at is n k)
value_of G is lines (fact.Twice n k) = operand_tokens G k (operand_at is n k)
value_of G is lines (fact.Predecessors blocks) = results_tokens is blocks
value_of G is lines (fact.Walk blocks) = results_tokens is blocks
value_of G is lines (fact.Calls functions) = results_tokens is functions
value_of G is lines (fact.Cycle functions) = cycle_tokens is functions
value_of G is lines (fact.Number n) = number_token n ∷ []
value_of G is lines (fact.Operands n) = number_token n ∷ []
value_of G is lines (fact.Least n) = maybe_number n
value_of G is lines (fact.Most n) = maybe_number n
value_of G is lines (fact.OtherOperand n k) = operand_tokens G k (operand_at is n k)
value_of G is lines (fact.OnTheWay b) = maybe_number (result_of is b)
value_of G is lines (fact.Given n) = inst_tokens lines n
value_of G is lines (fact.UsedBy n) = inst_tokens lines n
value_of G is lines (fact.Since minor) = string (since_text minor) ∷ []
value_of G is lines (fact.Extensions line) = array (flat_map name_token (extensions_of line))

-- the member of a fact
abbrev pub member_of : Table → List PlainInst → List (List ℕ) → Fact → List Token
member_of G is lines f = key_token (key_of f) ∷ value_of G is lines f

-- the members of facts, in order
abbrev pub members_of : Table → List PlainInst → List (List ℕ) → List Fact → List Token
members_of G is lines facts = flat_map (member_of G is lines) facts

-- of bytes that are no words of a module: what is found, and how to go on, where there is something to tell
abbrev pub refused_members : WordError → Front → List Token
refused_members e f = piece_member keys.Found (found_text e f) ++ piece_member keys.Help (help_text e f)
