-- The JSON object of a verdict, and of what shows a fault. (Own.)
use Rattle.std.specs.Prelude.{◌≡◌, ◌≤◌, ◌++◌, ◌-◌, ℕ, List, [], ◌∷◌, Bool, true, false, Option, Some, None, codes, drop}
use Rattle.std.specs.Prelude.{flat_map, slice_index}
use Rattle.json.specs.Print.{print}
use Rattle.json.specs.Token.{Token, begin_object, end_object}
use Rattle.spv_words.specs.Header.{IsFirstBroken, IsModule}
use Rattle.spv_words.specs.declared.words.Order.{Order}
use Rattle.spv_words.specs.declared.words.WordError.{WordError}
use Rattle.spv_table.specs.Table.{Table}
use Rattle.spv_module.specs.Operand.{PlainInst}
use Rattle.spv_module.specs.Instruction.{IsListing}
use Rattle.spv_module.specs.declared.fault.Fault.{Fault}
use Rattle.spv_lines.specs.Text.{ShownLines}
use Rattle.spv_extended.specs.declared.reach.Reach.{Reach}
use Rattle.spv_extended.specs.declared.reach.Reach.TheVariants as reaches
use Rattle.spv_extended.specs.Reach.{looked_at}
use Rattle.spv_layout.specs.First.{stage_of}
use Rattle.spv_layout.specs.Stage as stages
use Rattle.spv_rules.specs.Codes.{all_codes}
use Rattle.spv_rules.specs.Errors.{any_meaning, any_name, any_section, any_sentence}
use Rattle.spv_rules.specs.Rules.{name_of, section_of, sentence_of}
use Rattle.spv_rules.specs.declared.errors.AnyCode.{AnyCode}
use Rattle.spv_rules.specs.declared.rules.Code.{Code}
use Rattle.spv_rules.specs.declared.rules.Code.TheVariants.{Word, Rule}
use Rattle.spv_check.specs.Text.{line_of}
use Rattle.spv_check.specs.Verdict.{IsVerdict}
use Rattle.spv_check.specs.declared.verdict_line.Judgment.{Judgment}
use Rattle.spv_check.specs.declared.verdict_line.Judgment.TheVariants.{Valid, Refused, Broken}
use Rattle.spv_evidence.specs.declared.evidence.Evidence.{Evidence}
use Rattle.spv_form_evidence.specs.words.Evidence as instructions
use Rattle.spv_facts.specs.Facts.{facts_of}
use Rattle.spv_facts.specs.Refused.{front_of}
use Rattle.spv_facts.specs.Words.{malformed_facts}
use Rattle.spv_fault_json.specs.Members.{members_of, refused_members}
use Rattle.spv_fault_json.specs.Quiet.{quiet_of}
use Rattle.spv_fault_json.specs.Tokens.{number_member, text_member}
use Rattle.spv_explain.specs.Evidence.{IsEvidence}
use Rattle.spv_explain.specs.declared.answers.Answer.{Answer}
use Rattle.spv_explain.specs.declared.answers.Unread.{Unread}
use Rattle.spv_explain.specs.declared.answers.Unread.TheVariants as unread

-- what a code says, and its sources
abbrev pub rule_members : List ℕ → List ℕ → List Token
rule_members sentence section = text_member (codes "rule") sentence ++ text_member (codes "section") section

-- of a code of a verdict
abbrev pub said_members : Code → List Token
said_members code = rule_members (sentence_of code) (section_of code)

-- a fault's code; for a fault of instructions, the instruction and the word by which it is told
abbrev pub fault_members : Code → List Token
fault_members code = text_member (codes "verdict") (codes "fault") ++ text_member (codes "code") (name_of code)

abbrev pub place_members : Fault → List Token
place_members f = number_member (codes "inst") f.inst ++ number_member (codes "word") f.word

abbrev pub verdict_members : Judgment → List Token
verdict_members Valid = text_member (codes "verdict") (codes "valid")
verdict_members (Refused code) = fault_members (Word code) ++ said_members (Word code)
verdict_members (Broken f) = fault_members (Rule f.rule) ++ place_members f ++ said_members (Rule f.rule)

-- the name of the file, if one is given
abbrev pub file_members : Option (List ℕ) → List Token
file_members None = []
file_members (Some name) = text_member (codes "file") name

-- how far the module is looked at
abbrev pub profile_text : Reach → List ℕ
profile_text reaches.Profile = codes "own"
profile_text reaches.Extended = codes "extended"
profile_text (reaches.OpenCl minor) = codes "opencl"

abbrev pub profile_members : Reach → List Token
profile_members reach = text_member (codes "profile") (profile_text reach)

-- the object of a verdict, with further members; and one object on a line, without control characters
abbrev pub object_of : Reach → Option (List ℕ) → Judgment → List Token → List Token
object_of reach name j members =
    begin_object ∷ file_members name ++ verdict_members j ++ profile_members reach ++ members ++ end_object ∷ []

abbrev pub json_line : List Token → List ℕ
json_line tokens = quiet_of (print tokens) ++ 10 ∷ []

-- The answer has the verdict of the bytes, and its object.
pub record IsCheckAnswer (G : Table) (reach : Reach) (name : Option (List ℕ)) (bytes : List ℕ)
    (a : Answer) : Type 0 where
  pub verdict : IsVerdict G reach bytes (line_of a.judgment)
  pub told : a.text.items ≡ json_line (object_of reach name a.judgment [])

-- The members tell why the bytes have the verdict, under the table, where a module is looked at so far.
pub data AreMembers (G : Table) (reach : Reach) (bytes : List ℕ) : Judgment → List Token → Type 0 where
  -- of a valid module there is nothing to tell
  valid : AreMembers G reach bytes Valid []
  -- they are no words of a module: what is found
  refused : (code : WordError) → IsFirstBroken code bytes
      → AreMembers G reach bytes (Refused code) (refused_members code (front_of bytes))
  -- they are words of a list of instructions, and evidence shows the fault; members tell the list as it is spelled
  broken : (words : List ℕ) (order : Order) (is : List PlainInst) (f : Fault) (e : Evidence) (shown : List (List ℕ))
      → IsModule order bytes words → IsListing G is (drop 5 words)
      → (stages.of_profile ≤ stage_of f.rule
      → IsEvidence G reach (slice_index words 3) (looked_at reach is) f.rule f.inst e)
      → ShownLines G [] is shown
      → AreMembers G reach bytes (Broken f) (members_of G is shown (facts_of (slice_index words 3) is f.rule f.inst e))
  -- they are words that spell no list of instructions, and evidence shows which instruction is malformed
  dead : (words : List ℕ) (order : Order) (f : Fault) (e : Evidence) → IsModule order bytes words
      → instructions.IsEvidence G (drop 5 words) f.rule f.inst (f.word - 5) e
      → AreMembers G reach bytes (Broken f) (members_of G [] [] (malformed_facts (drop 5 words) f.inst (f.word - 5) e))

-- The answer has the verdict of the bytes, and its object with members that tell why.
pub record IsExplainAnswer (G : Table) (reach : Reach) (name : Option (List ℕ)) (bytes : List ℕ)
    (a : Answer) : Type 0 where
  pub verdict : IsVerdict G reach bytes (line_of a.judgment)
  pub members : List Token
  pub explain : AreMembers G reach bytes a.judgment members
  pub told : a.text.items ≡ json_line (object_of reach name a.judgment members)

-- the object of a file that was not read
abbrev pub unread_text : Unread → List ℕ
unread_text unread.File = codes "file"
unread_text unread.Memory = codes "memory"

abbrev pub error_object : Option (List ℕ) → Unread → List Token
error_object name e = begin_object ∷ file_members name ++ text_member (codes "verdict") (codes "error")
    ++ text_member (codes "error") (unread_text e) ++ end_object ∷ []

-- where a code is broken, if that is asked for
abbrev pub meaning_members : Bool → AnyCode → List Token
meaning_members false code = []
meaning_members true code = text_member (codes "meaning") (any_meaning code)

-- the object of a code: its name and what it says, and where it is broken if that is asked for
abbrev pub rule_object : Bool → AnyCode → List Token
rule_object full code = begin_object ∷ text_member (codes "code") (any_name code)
    ++ rule_members (any_sentence code) (any_section code) ++ meaning_members full code ++ end_object ∷ []

-- as a line
abbrev pub code_line : Bool → AnyCode → List ℕ
code_line full code = json_line (rule_object full code)

-- what is told of all codes, or of one: the object of each, a line each; of one, with where it is broken
abbrev pub told_json : Option AnyCode → List ℕ
told_json None = flat_map (code_line false) all_codes
told_json (Some code) = code_line true code
