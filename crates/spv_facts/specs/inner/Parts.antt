-- Parts of what is told. (For the code alone.) First the facts of evidence: each part hands on what it has not.
use Rattle.std.specs.Prelude.{◌++◌, ◌-◌, ℕ, List, [], ◌∷◌, Option, Some, None, length, nat_lt, if◌then◌else◌, set}
use Rattle.std.specs.Prelude.{codes, slice_get, unwrap_or}
use Rattle.spv_module.specs.Operand.{PlainInst}
use Rattle.spv_evidence.specs.declared.evidence.Evidence.{Evidence}
use Rattle.spv_evidence.specs.declared.evidence.Evidence.TheVariants as evidence
use Rattle.spv_facts.specs.declared.fact.Fact.{Fact}
use Rattle.spv_facts.specs.declared.fact.Fact.TheVariants as fact
use Rattle.spv_facts.specs.declared.key.Key.{Key}
use Rattle.spv_facts.specs.declared.key.Key.TheVariants as key
use Rattle.spv_facts.specs.Facts.{asked_facts, condition_facts, failing_facts, late_facts, lister_facts, side_thing}
use Rattle.spv_facts.specs.Words.{begin_of, words_fact}
use Rattle.spv_words.specs.declared.words.WordError.{WordError}
use Rattle.spv_facts.specs.declared.refused.Front.{Front}
use Rattle.spv_facts.specs.Refused.{found_text}

-- on ids
abbrev pub id_facts : ℕ → Evidence → List Fact
id_facts n (evidence.Operand k) = fact.Operand n k ∷ []
id_facts n (evidence.Earlier m) = fact.Earlier m ∷ []
id_facts n (evidence.Defined k m) = fact.Operand n k ∷ fact.Defined m ∷ []
id_facts n (evidence.Local k m f) = fact.Operand n k ∷ fact.Defined m ∷ fact.LocalTo f ∷ []
id_facts n (evidence.Miscast k role m) = fact.Operand n k ∷ fact.Role role ∷ fact.Defined m ∷ []
id_facts n e = []

-- on forms, implied capabilities and extended instructions, or on ids
abbrev pub form_facts : ℕ → Evidence → List Fact
form_facts n (evidence.Opcode opcode) = fact.Opcode opcode ∷ []
form_facts n (evidence.Due opcode k kind) = fact.Opcode opcode ∷ fact.Failing k ∷ fact.Due kind ∷ []
form_facts n (evidence.Shape opcode known) = fact.Opcode opcode ∷ fact.Row opcode known ∷ []
form_facts n (evidence.Capability c implied) = fact.Capability c implied ∷ []
form_facts n evidence.NoEntry = fact.NoEntry ∷ []
form_facts n (evidence.Entry part) = fact.Part part ∷ []
form_facts n (evidence.Miscalled number operands least most) =
    fact.Number number ∷ fact.Operands operands ∷ fact.Least least ∷ fact.Most most ∷ []
form_facts n e = id_facts n e

-- on what the standard asks besides, or on forms and ids
abbrev pub standard_facts : List PlainInst → ℕ → Evidence → List Fact
standard_facts is n (evidence.OnTheWay b) = fact.OnTheWay b ∷ []
standard_facts is n (evidence.Pair j k) = fact.Operand n j ∷ fact.OtherOperand n k ∷ []
standard_facts is n (evidence.ByGroup k m) = fact.Operand n k ∷ fact.Given m ∷ []
standard_facts is n (evidence.Late l line) = late_facts is n l line
standard_facts is n (evidence.Past most) = fact.Most (Some most) ∷ []
standard_facts is n e = form_facts n e

-- on types and what lists capabilities, or on all that stands above
abbrev pub typed_facts : List PlainInst → ℕ → Evidence → List Fact
typed_facts is n (evidence.Needs l) = lister_facts is n l ++ (fact.NeedsOneOf n l ∷ [])
typed_facts is n (evidence.Condition c k m wanted found types) =
    failing_facts n c k m ++ condition_facts is n c k wanted found types
typed_facts is n (evidence.Mismatch s wanted found of) = fact.Differs s ∷ asked_facts is of
    ++ (fact.Wanted (side_thing is s wanted) ∷ fact.Found (side_thing is s found) ∷ [])
typed_facts is n e = standard_facts is n e

-- on layout, flow and interfaces, or on all else
abbrev pub list_facts : List PlainInst → ℕ → Evidence → List Fact
list_facts is n (evidence.MayCome opcodes end) = fact.MayCome opcodes end ∷ []
list_facts is n (evidence.MissingParent b ps) = fact.MissingParent b ∷ fact.Predecessors ps ∷ []
list_facts is n (evidence.NoPredecessor k ps) = fact.NoPredecessor n k ∷ fact.Predecessors ps ∷ []
list_facts is n (evidence.Twice k l ps) = fact.Twice n l ∷ fact.Predecessors ps ∷ []
list_facts is n (evidence.Walk k m blocks) = fact.Operand n k ∷ fact.Defined m ∷ fact.Walk blocks ∷ []
list_facts is n (evidence.Cycle calls cycle) = fact.Calls calls ∷ fact.Cycle cycle ∷ []
list_facts is n (evidence.NotInInterface v calls m) = fact.Defined v ∷ fact.Calls calls ∷ fact.UsedBy m ∷ []
list_facts is n e = typed_facts is n e

-- a list with the number of an instruction at the place of its result, if it has that place
abbrev pub kept : List (Option ℕ) → Option ℕ → ℕ → List (Option ℕ)
kept found None n = found
kept found (Some x) n = if nat_lt x (length found) then set found x (Some n) else found

-- of instruction n, which breaks a rule at the word of that number: its words, and the failing one
abbrev pub word_facts : List ℕ → ℕ → ℕ → List Fact
word_facts ws n word =
    (let at = begin_of ws n in words_fact ws at (word - at) ∷ fact.Word (word - at) (slice_get ws word) ∷ [])

-- what is found in bytes that break a code; nothing of W1 and W9
abbrev pub found_words : WordError → Front → List ℕ
found_words e f = unwrap_or (found_text e f) []

-- how a key is written before the colon of a line, if its fact is about control flow, about calls, or of the rules O
-- alone
abbrev pub further_name : Key → List ℕ
further_name key.MissingParent = codes "missing parent"
further_name key.NoPredecessor = codes "no predecessor"
further_name key.Twice = codes "twice"
further_name key.Predecessors = codes "predecessors"
further_name key.Walk = codes "walk"
further_name key.Calls = codes "calls"
further_name key.Cycle = codes "cycle"
further_name key.OtherOperand = codes "other operand"
further_name key.OnTheWay = codes "on the way"
further_name key.Given = codes "given"
further_name key.UsedBy = codes "used by"
further_name key.Since = codes "since"
further_name k = []
