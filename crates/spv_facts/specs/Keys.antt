-- The keys of what is told. (Own.) One table of how each is written: before the colon of a line, and as the name of a
-- member of a JSON object. No object has two members of one name: a fault has one of `in` and `open`.
use Rattle.std.specs.Prelude.{ℕ, List, Bool, true, false, codes}
use Rattle.spv_facts.specs.declared.key.Key.{Key}
use Rattle.spv_facts.specs.declared.key.Key.TheVariants as key
use Rattle.spv_evidence.specs.declared.evidence.EntryPart.{EntryPart}
use Rattle.spv_evidence.specs.declared.evidence.EntryPart.TheVariants as part
use Rattle.spv_evidence.specs.declared.evidence.Side.{Side}
use Rattle.spv_evidence.specs.declared.evidence.Side.TheVariants as side
use Rattle.spv_facts.specs.declared.fact.Fact.{Fact}
use Rattle.spv_facts.specs.declared.fact.Fact.TheVariants as fact
use Rattle.spv_facts.specs.declared.fact.Place.{Place}

abbrev pub spelling_of : Key → List ℕ × List ℕ
spelling_of key.At = (codes "at", codes "at")
spelling_of key.In = (codes "in", codes "function")
spelling_of key.Open = (codes "open", codes "function")
spelling_of key.Name = (codes "name", codes "functionName")
spelling_of key.Block = (codes "block", codes "block")
spelling_of key.Words = (codes "words", codes "words")
spelling_of key.Word = (codes "word", codes "failingWord")
spelling_of key.Opcode = (codes "opcode", codes "opcode")
spelling_of key.Row = (codes "row", codes "row")
spelling_of key.MayCome = (codes "may come", codes "mayComeNext")
spelling_of key.MayEnd = (codes "end of module", codes "mayEnd")
spelling_of key.Missing = (codes "missing", codes "missing")
spelling_of key.Operand = (codes "operand", codes "operand")
spelling_of key.Due = (codes "due", codes "due")
spelling_of key.Bound = (codes "bound", codes "bound")
spelling_of key.Defined = (codes "defined", codes "defined")
spelling_of key.LocalTo = (codes "local to", codes "localTo")
spelling_of key.Role = (codes "role", codes "role")
spelling_of key.Earlier = (codes "earlier", codes "earlier")
spelling_of key.Implied = (codes "implied", codes "implied")
spelling_of key.NotImplied = (codes "not implied", codes "notImplied")
spelling_of key.Bit = (codes "bit", codes "bit")
spelling_of key.NeedsOneOf = (codes "needs one of", codes "needsOneOf")
spelling_of key.Part = (codes "part", codes "part")
spelling_of key.Called = (codes "called", codes "called")
spelling_of key.Imported = (codes "imported", codes "imported")
spelling_of key.Condition = (codes "condition", codes "condition")
spelling_of key.Type = (codes "type", codes "types")
spelling_of key.Place = (codes "place", codes "place")
spelling_of key.Parameter = (codes "parameter", codes "parameter")
spelling_of key.Argument = (codes "argument", codes "argument")
spelling_of key.Wanted = (codes "wanted", codes "wanted")
spelling_of key.Found = (codes "found", codes "found")
spelling_of key.Size = (codes "size", codes "size")
spelling_of key.Help = (codes "help", codes "help")
spelling_of key.MissingParent = (codes "missing parent", codes "missingParent")
spelling_of key.NoPredecessor = (codes "no predecessor", codes "noPredecessor")
spelling_of key.Twice = (codes "twice", codes "twice")
spelling_of key.Predecessors = (codes "predecessors", codes "predecessors")
spelling_of key.Walk = (codes "walk", codes "walk")
spelling_of key.Calls = (codes "calls", codes "calls")
spelling_of key.Cycle = (codes "cycle", codes "cycle")
spelling_of key.Number = (codes "number", codes "number")
spelling_of key.Operands = (codes "operands", codes "operands")
spelling_of key.Least = (codes "least", codes "least")
spelling_of key.Most = (codes "most", codes "most")
spelling_of key.OtherOperand = (codes "other operand", codes "otherOperand")
spelling_of key.OnTheWay = (codes "on the way", codes "onTheWay")
spelling_of key.Given = (codes "given", codes "given")
spelling_of key.UsedBy = (codes "used by", codes "usedBy")
spelling_of key.Since = (codes "since", codes "since")

-- in a line, and in JSON
abbrev pub line_name : Key → List ℕ
line_name k = (spelling_of k).0

abbrev pub member_name : Key → List ℕ
member_name k = (spelling_of k).1

-- the key of what is told
abbrev pub capability_key : Bool → Key
capability_key true = key.Implied
capability_key false = key.NotImplied

abbrev pub part_key : EntryPart → Key
part_key (part.Called n) = key.Called
part_key (part.Imported n) = key.Imported
part_key p = key.Part

abbrev pub side_key : Side → Key
side_key (side.Parameter k) = key.Parameter
side_key (side.Argument k) = key.Argument
side_key s = key.Place

abbrev pub key_of : Fact → Key
key_of (fact.At n) = key.At
key_of (fact.In p) = key.In
key_of (fact.Open p) = key.Open
key_of (fact.Words before words after) = key.Words
key_of (fact.Word k w) = key.Word
key_of (fact.Opcode opcode) = key.Opcode
key_of (fact.Row opcode known) = key.Row
key_of (fact.MayCome opcodes end) = key.MayCome
key_of (fact.Unended p) = key.Missing
key_of (fact.Operand n k) = key.Operand
key_of (fact.Failing k) = key.Operand
key_of (fact.Due kind) = key.Due
key_of (fact.Bound bound) = key.Bound
key_of (fact.Defined n) = key.Defined
key_of (fact.LocalTo f) = key.LocalTo
key_of (fact.Role r) = key.Role
key_of (fact.Earlier n) = key.Earlier
key_of (fact.Capability c implied) = capability_key implied
key_of (fact.Bit n k bit) = key.Bit
key_of (fact.NeedsOneOf n l) = key.NeedsOneOf
key_of fact.NoEntry = key.Missing
key_of (fact.Part part) = part_key part
key_of (fact.Condition c) = key.Condition
key_of (fact.Types ts) = key.Type
key_of (fact.Differs s) = side_key s
key_of (fact.Wanted t) = key.Wanted
key_of (fact.Found t) = key.Found
key_of (fact.ReadTypes n us ts) = key.Type
key_of (fact.WantedOf n t ks) = key.Wanted
key_of (fact.FoundOf n t ks) = key.Found
key_of (fact.Size n) = key.Size
key_of (fact.MissingParent b) = key.MissingParent
key_of (fact.NoPredecessor n k) = key.NoPredecessor
key_of (fact.Twice n k) = key.Twice
key_of (fact.Predecessors blocks) = key.Predecessors
key_of (fact.Walk blocks) = key.Walk
key_of (fact.Calls functions) = key.Calls
key_of (fact.Cycle functions) = key.Cycle
key_of (fact.Number n) = key.Number
key_of (fact.Operands n) = key.Operands
key_of (fact.Least n) = key.Least
key_of (fact.Most n) = key.Most
key_of (fact.OtherOperand n k) = key.OtherOperand
key_of (fact.OnTheWay b) = key.OnTheWay
key_of (fact.Given n) = key.Given
key_of (fact.UsedBy n) = key.UsedBy
key_of (fact.Since minor) = key.Since
key_of (fact.Extensions line) = key.NeedsOneOf
