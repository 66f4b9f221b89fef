-- What the lines that explain a fault tell, in order: facts of its evidence, in numbers. (Own.)
use Rattle.std.specs.Prelude.{◌++◌, ℕ, List, [], ◌∷◌, Option, Some, None, Bool, true, false, nat_eq}
use Rattle.std.specs.Prelude.{if◌then◌else◌, slice_get}
use Rattle.std.specs.List.{list_any}
use Rattle.spv_module.specs.Operand.{PlainInst}
use Rattle.spv_module.specs.declared.opcode.TheConstants.{TYPE_VECTOR}
use Rattle.spv_module.specs.declared.fault.Rule.{Rule}
use Rattle.spv_module.specs.declared.fault.Rule.TheVariants.{D1, L1, L2}
use Rattle.spv_evidence.specs.declared.condition.Condition.{Condition}
use Rattle.spv_evidence.specs.declared.evidence.Evidence.{Evidence}
use Rattle.spv_evidence.specs.declared.evidence.Evidence.TheVariants as evidence
use Rattle.spv_evidence.specs.declared.evidence.Lister.{Lister}
use Rattle.spv_evidence.specs.declared.evidence.Lister.TheVariants as lister
use Rattle.spv_evidence.specs.declared.evidence.Side.{Side}
use Rattle.spv_evidence.specs.declared.evidence.Side.TheVariants as side
use Rattle.spv_facts.specs.declared.fact.Fact.{Fact}
use Rattle.spv_facts.specs.declared.fact.Fact.TheVariants as fact
use Rattle.spv_facts.specs.declared.fact.Place.{Place}
use Rattle.spv_facts.specs.declared.fact.Thing.{Thing}
use Rattle.spv_facts.specs.declared.fact.Thing.TheVariants as thing
use Rattle.spv_facts.specs.Definition.{definition_from}
use Rattle.spv_facts.specs.Owners.{own_place, places_in, size_of, tells_size, types_at, without}
use Rattle.spv_facts.specs.Place.{comes_early, open_before, place_of}
use Rattle.spv_facts.specs.Versions.{extensions_of, first_version}

-- an instruction in full, or an id that none defines
abbrev pub thing_at : Option ℕ → ℕ → Thing
thing_at None x = thing.Id x
thing_at (Some n) x = thing.Inst n

-- the first instruction that defines an id
abbrev pub thing_of : List PlainInst → ℕ → Thing
thing_of is x = thing_at (definition_from x 0 is) x

-- is an id among those that were told
abbrev pub is_told : List ℕ → ℕ → Bool
is_told told x = list_any (nat_eq x) told

-- types, after those that were told: each in full the first time, and then its id alone
abbrev pub type_things : List PlainInst → List ℕ → List ℕ → List Thing
type_things is told [] = []
type_things is told (x ∷ xs) =
    (if is_told told x then thing.Id x else thing_of is x) ∷ type_things is (x ∷ told) xs

-- the fact of types, where there are some
abbrev pub types_facts : List Thing → List Fact
types_facts [] = []
types_facts (t ∷ ts) = fact.Types (t ∷ ts) ∷ []

-- operand k of instruction n, and the instruction that defines its id, where there are such
abbrev pub operand_facts : ℕ → Option ℕ → List Fact
operand_facts n None = []
operand_facts n (Some k) = fact.Operand n k ∷ []

abbrev pub defined_facts : Option ℕ → List Fact
defined_facts None = []
defined_facts (Some m) = fact.Defined m ∷ []

-- a condition that fails at instruction n, and where it does
abbrev pub failing_facts : ℕ → Condition → Option ℕ → Option ℕ → List Fact
failing_facts n c k m = fact.Condition c ∷ operand_facts n k ++ defined_facts m

-- the types that it reads, where there are some, with those of the operands of instruction n
abbrev pub read_facts_by : ℕ → List (Option ℕ) → List Thing → List Fact
read_facts_by n us [] = []
read_facts_by n us (t ∷ ts) = fact.ReadTypes n us (t ∷ ts) ∷ []

abbrev pub read_facts : List PlainInst → ℕ → List ℕ → List Fact
read_facts is n xs = read_facts_by n (types_at is n) (type_things is [] xs)

-- the type that is wanted, and the other operands that are of it: others than the one at which the condition fails
abbrev pub wanted_facts : List PlainInst → ℕ → Option ℕ → Option ℕ → List Fact
wanted_facts is n k None = []
wanted_facts is n k (Some t) = fact.WantedOf n (thing_of is t) (places_in (Some t) (without k (types_at is n))) ∷ []

-- the type that is found, and that operand, if it is of it
abbrev pub found_facts : List PlainInst → ℕ → Option ℕ → Option ℕ → List Fact
found_facts is n k None = []
found_facts is n k (Some t) = fact.FoundOf n (thing_of is t) (own_place t k (types_at is n)) ∷ []

abbrev pub compared_facts : List PlainInst → ℕ → Option ℕ → Option ℕ → Option ℕ → List Fact
compared_facts is n k wanted found = wanted_facts is n k wanted ++ found_facts is n k found

-- how many parts the type has that is found, where a condition asks for that
abbrev pub size_by : Option ℕ → List Fact
size_by None = []
size_by (Some n) = fact.Size n ∷ []

abbrev pub size_facts : List PlainInst → Condition → Option ℕ → List Fact
size_facts is c None = []
size_facts is c (Some t) = if tells_size c then size_by (size_of is t) else []

-- the types of a condition: those that it reads, and those that it compares
abbrev pub condition_facts : List PlainInst → ℕ → Condition → Option ℕ → Option ℕ → Option ℕ → List ℕ → List Fact
condition_facts is n c k wanted found xs =
    read_facts is n xs ++ (compared_facts is n k wanted found ++ size_facts is c found)

-- the function type that is asked, if one is
abbrev pub asked_facts : List PlainInst → Option ℕ → List Fact
asked_facts is None = []
asked_facts is (Some t) = fact.Types (thing_of is t ∷ []) ∷ []

-- one of two things that are to be the same: a count, or a type
abbrev pub side_thing : List PlainInst → Side → Option ℕ → Thing
side_thing is s None = thing.Nothing
side_thing is side.Number (Some n) = thing.Count n
side_thing is s (Some x) = thing_of is x

-- the operand that is the width or the count of a type: of an OpTypeVector operand 2, and of others operand 1
abbrev pub width_operand : Option PlainInst → ℕ
width_operand None = 1
width_operand (Some i) = if nat_eq i.opcode TYPE_VECTOR then 2 else 1

-- what lists capabilities, before these: at instruction n an operand, a bit of one, the width or count, or the access
-- qualifier; nothing of an opcode or a type
abbrev pub lister_facts : List PlainInst → ℕ → Lister → List Fact
lister_facts is n lister.Entry = []
lister_facts is n (lister.Value k) = fact.Operand n k ∷ []
lister_facts is n (lister.Bit k bit) = fact.Operand n k ∷ fact.Bit n k bit ∷ []
lister_facts is n lister.Width = fact.Operand n (width_operand (slice_get is n)) ∷ []
lister_facts is n lister.Type = []
lister_facts is n lister.Access = fact.Operand n 8 ∷ []

-- what instruction n has that a version lacks: its opcode, a value, or a bit of a mask
abbrev pub opcode_facts : Option PlainInst → List Fact
opcode_facts None = []
opcode_facts (Some i) = fact.Opcode i.opcode ∷ []

abbrev pub lack_facts : List PlainInst → ℕ → Lister → List Fact
lack_facts is n lister.Entry = opcode_facts (slice_get is n)
lack_facts is n l = lister_facts is n l

-- the first version that has it, if one has, and the extensions that have it, if some have
abbrev pub since_facts : Option ℕ → List Fact
since_facts None = []
since_facts (Some minor) = fact.Since minor ∷ []

abbrev pub extension_facts : ℕ → List (List ℕ) → List Fact
extension_facts line [] = []
extension_facts line (name ∷ names) = fact.Extensions line ∷ []

-- all of these, by the line of the table of versions that tells what has it
abbrev pub late_facts : List PlainInst → ℕ → Lister → ℕ → List Fact
late_facts is n l line =
    lack_facts is n l ++ (since_facts (first_version line) ++ extension_facts line (extensions_of line))

-- what the evidence at instruction n tells
abbrev pub evidence_facts : List PlainInst → ℕ → Evidence → List Fact
evidence_facts is n (evidence.Opcode opcode) = fact.Opcode opcode ∷ []
evidence_facts is n (evidence.Due opcode k kind) = fact.Opcode opcode ∷ fact.Failing k ∷ fact.Due kind ∷ []
evidence_facts is n (evidence.Shape opcode known) = fact.Opcode opcode ∷ fact.Row opcode known ∷ []
evidence_facts is n (evidence.MayCome opcodes end) = fact.MayCome opcodes end ∷ []
evidence_facts is n (evidence.Operand k) = fact.Operand n k ∷ []
evidence_facts is n (evidence.Earlier m) = fact.Earlier m ∷ []
evidence_facts is n (evidence.Defined k m) = fact.Operand n k ∷ fact.Defined m ∷ []
evidence_facts is n (evidence.Local k m f) = fact.Operand n k ∷ fact.Defined m ∷ fact.LocalTo f ∷ []
evidence_facts is n (evidence.Miscast k role m) = fact.Operand n k ∷ fact.Role role ∷ fact.Defined m ∷ []
evidence_facts is n (evidence.Capability c implied) = fact.Capability c implied ∷ []
evidence_facts is n (evidence.Needs l) = lister_facts is n l ++ (fact.NeedsOneOf n l ∷ [])
evidence_facts is n evidence.NoEntry = fact.NoEntry ∷ []
evidence_facts is n (evidence.NotInInterface v calls m) = fact.Defined v ∷ fact.Calls calls ∷ fact.UsedBy m ∷ []
evidence_facts is n (evidence.Entry part) = fact.Part part ∷ []
evidence_facts is n (evidence.Condition c k m wanted found types) =
    failing_facts n c k m ++ condition_facts is n c k wanted found types
evidence_facts is n (evidence.Mismatch s wanted found of) = fact.Differs s ∷ asked_facts is of
    ++ (fact.Wanted (side_thing is s wanted) ∷ fact.Found (side_thing is s found) ∷ [])
evidence_facts is n (evidence.MissingParent b ps) = fact.MissingParent b ∷ fact.Predecessors ps ∷ []
evidence_facts is n (evidence.NoPredecessor k ps) = fact.NoPredecessor n k ∷ fact.Predecessors ps ∷ []
evidence_facts is n (evidence.Twice k l ps) = fact.Twice n l ∷ fact.Predecessors ps ∷ []
evidence_facts is n (evidence.Walk k m blocks) = fact.Operand n k ∷ fact.Defined m ∷ fact.Walk blocks ∷ []
evidence_facts is n (evidence.Cycle calls cycle) = fact.Calls calls ∷ fact.Cycle cycle ∷ []
evidence_facts is n (evidence.Miscalled number operands least most) =
    fact.Number number ∷ fact.Operands operands ∷ fact.Least least ∷ fact.Most most ∷ []
evidence_facts is n (evidence.OnTheWay b) = fact.OnTheWay b ∷ []
evidence_facts is n (evidence.Pair j k) = fact.Operand n j ∷ fact.OtherOperand n k ∷ []
evidence_facts is n (evidence.ByGroup k m) = fact.Operand n k ∷ fact.Given m ∷ []
evidence_facts is n (evidence.Late l line) = late_facts is n l line
evidence_facts is n (evidence.Past most) = fact.Most (Some most) ∷ []

-- the function that a place is of, told in a fact of the place; nothing where it is of none
abbrev pub place_fact : Option ℕ → Fact → List Fact
place_fact None f = []
place_fact (Some function) f = f ∷ []

abbrev pub in_facts : Place → List Fact
in_facts p = place_fact p.function (fact.In p)

abbrev pub open_facts : Place → List Fact
open_facts p = place_fact p.function (fact.Open p)

-- of an instruction that comes too early, that what is open before it has no end
abbrev pub early_facts : Option PlainInst → Place → List Fact
early_facts None p = []
early_facts (Some i) p = if comes_early i.opcode p then fact.Unended p ∷ [] else []

-- L1 is told of an instruction that may not come at its place, L2 at the end of a module, and D1 of an id that is 0 or
-- not below the bound
abbrev pub tells_order : Rule → Bool
tells_order L1 = true
tells_order r = false

abbrev pub tells_end : Rule → Bool
tells_end L2 = true
tells_end r = false

abbrev pub tells_bound : Rule → Bool
tells_bound D1 = true
tells_bound r = false

-- the instruction at which a rule is told, and where it stands; at the end of a module nothing
abbrev pub first_facts : List PlainInst → Rule → ℕ → List Fact
first_facts is r n = if tells_end r then [] else fact.At n ∷ in_facts (place_of is n)

-- what comes last: where a module ends too early, what is open; where an id is not below the bound, the bound; where an
-- instruction comes too early, what has no end
abbrev pub last_facts : ℕ → List PlainInst → Rule → ℕ → List Fact
last_facts bound is r n = if tells_end r then open_facts (place_of is n)
    else (if tells_bound r then fact.Bound bound ∷ []
    else (if tells_order r then early_facts (slice_get is n) (open_before is n) else []))

-- Of a rule that is broken at instruction n, under the bound of ids, with its evidence.
abbrev pub facts_of : ℕ → List PlainInst → Rule → ℕ → Evidence → List Fact
facts_of bound is r n e = first_facts is r n ++ (evidence_facts is n e ++ last_facts bound is r n)
