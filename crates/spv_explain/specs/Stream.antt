-- What explains the verdict on bytes, and what `explain_stream` leaves in the writer. (Own.)
use Rattle.std.specs.Prelude.{◌≡◌, ◌↔◌, ◌≤◌, ◌++◌, ℕ, List, [], Option, Some, None, IsTrue, Bool}
use Rattle.std.specs.Prelude.{drop, length, slice_index, string_bytes, take}
use Rattle.std.specs.List.{flat_map}
use Rattle.std.specs.Option.{option_to_list}
use Rattle.spv_words.specs.Header.{IsFirstBroken, IsModule}
use Rattle.spv_words.specs.declared.words.Order.{Order}
use Rattle.spv_words.specs.declared.words.WordError.{WordError}
use Rattle.spv_table.specs.Table.{Table}
use Rattle.spv_module.specs.Operand.{PlainInst}
use Rattle.spv_module.specs.Instruction.{IsListing}
use Rattle.spv_module.specs.Module.{plain_insts}
use Rattle.spv_module.specs.declared.module.Module.{Module}
use Rattle.spv_inst.specs.Outcome.{IsHeaderOf}
use Rattle.spv_module.specs.Malformed.{IsMalformedAt}
use Rattle.spv_module.specs.declared.fault.Fault.{Fault}
use Rattle.spv_module.specs.declared.fault.Rule.{Rule}
use Rattle.spv_lines.specs.Text.{ShownLines}
use Rattle.spv_extended.specs.declared.reach.Reach.{Reach}
use Rattle.spv_extended.specs.Reach.{looked_at}
use Rattle.spv_layout.specs.First.{stage_of}
use Rattle.spv_layout.specs.Stage as stages
use Rattle.spv_check.specs.Broken.{IsFirstOfAll}
use Rattle.spv_check.specs.Verdict.{IsVerdict, valid_line}
use Rattle.spv_check.specs.Text.{line_of}
use Rattle.spv_check.specs.declared.verdict_line.Judgment.TheVariants.{Broken, Valid}
use Rattle.spv_evidence.specs.declared.evidence.Evidence.{Evidence}
use Rattle.spv_evidence.specs.declared.evidence.Evidence.TheVariants.{Walk}
use Rattle.spv_facts.specs.Texts.{result_of}
use Rattle.spv_facts.specs.declared.fact.Detail.{Detail}
use Rattle.spv_explain.specs.Evidence.{IsEvidence}
use Rattle.spv_form_evidence.specs.words.Evidence as instructions
use Rattle.spv_explain.specs.Lines.{fault_text, malformed_text, refused_text}
use Rattle.spv_explain.specs.declared.stream.Explanation.{Explanation}

-- Under the table, the lines are those, in short or in full, of evidence which shows that the rule is broken at an
-- instruction of the list, as far as that is looked at. They tell the list as it is spelled.
pub record AreLinesOf (d : Detail) (G : Table) (reach : Reach) (bound : ℕ) (is : List PlainInst) (r : Rule) (n : ℕ)
    (lines : List ℕ) : Type 0 where
  pub evidence : Evidence
  pub shows : IsEvidence G reach bound (looked_at reach is) r n evidence
  pub shown : List (List ℕ)
  pub are_shown : ShownLines G [] is shown
  pub told : lines ≡ fault_text d G bound is shown r n evidence

-- Of bytes that are words of a list of instructions which, as far as it is looked at, first breaks a rule of the stages
-- from P on, the lines are those of evidence that shows it.
abbrev pub Explain : Detail → Table → Reach → List ℕ → List ℕ → Type 0
Explain d G reach bytes lines = (words : List ℕ) (order : Order) (is : List PlainInst) (r : Rule) (n : ℕ)
    → IsModule order bytes words → IsListing G is (drop 5 words)
    → IsFirstOfAll G reach (slice_index words 3) (looked_at reach is) r n
    → stages.of_profile ≤ stage_of r → AreLinesOf d G reach (slice_index words 3) is r n lines

-- Under the table, the lines are those of evidence which shows that an instruction among the words is malformed by the
-- rule, at that word.
pub record AreDeadLinesOf (d : Detail) (G : Table) (words : List ℕ) (r : Rule) (n word : ℕ)
    (lines : List ℕ) : Type 0 where
  pub evidence : Evidence
  pub shows : instructions.IsEvidence G words r n word evidence
  pub told : lines ≡ malformed_text d G words r n word evidence

-- Of bytes whose words spell no list of instructions, since one is malformed, the lines are those of evidence that
-- shows it.
abbrev pub ExplainDead : Detail → Table → List ℕ → List ℕ → Type 0
ExplainDead d G bytes lines = (words : List ℕ) (order : Order) (r : Rule) (n word : ℕ)
    → IsModule order bytes words → IsMalformedAt G (drop 5 words) r n word
    → AreDeadLinesOf d G (drop 5 words) r n word lines

-- There is no line after that of a valid module, and of bytes that are no words those that tell the code and what is
-- found.
pub record AreOthers (bytes line lines : List ℕ) : Type 0 where
  pub valid : line ≡ valid_line → lines ≡ []
  pub refused : (code : WordError) → IsFirstBroken code bytes → lines ≡ refused_text code bytes

-- The verdict is that of the bytes, and the lines explain it, in short or in full.
pub record IsExplanation (d : Detail) (G : Table) (reach : Reach) (bytes : List ℕ) (e : Explanation) : Type 0 where
  pub verdict : IsVerdict G reach bytes (line_of e.judgment)
  pub explain : Explain d G reach bytes (string_bytes e.lines)
  pub dead : ExplainDead d G bytes (string_bytes e.lines)
  pub others : AreOthers bytes (line_of e.judgment) (string_bytes e.lines)

-- The module has the instructions that the words spell, and their header; there is none where they spell none.
pub record IsModuleOf (G : Table) (words : List ℕ) (m : Module) : Type 0 where
  pub listing : IsListing G (plain_insts m) (drop 5 words)
  pub header : IsHeaderOf words m.header

abbrev pub IsModuleIn : Table → List ℕ → Option Module → Type 0
IsModuleIn G words None = (is : List PlainInst) → ¬ (IsListing G is (drop 5 words))
IsModuleIn G words (Some m) = IsModuleOf G words m

-- the ids of the blocks of the walk that evidence of a list has, in order; none where it has none
abbrev pub walk_in : List PlainInst → Evidence → List ℕ
walk_in is (Walk operand defined blocks) = flat_map (λ n. option_to_list (result_of is n)) blocks
walk_in is e = []

-- These are the ids of the blocks of the walk that shows the fault, of the same evidence as the lines; where no list of
-- instructions breaks a rule there are none.
pub data IsWalk (d : Detail) (G : Table) (reach : Reach) (bytes : List ℕ) (e : Explanation) : List ℕ → Type 0 where
  valid : e.judgment ≡ Valid → IsWalk d G reach bytes e []
  broken : (words : List ℕ) (order : Order) (is : List PlainInst) (f : Fault) (evidence : Evidence)
      (shown : List (List ℕ)) → e.judgment ≡ Broken f → IsModule order bytes words → IsListing G is (drop 5 words)
      → (stages.of_profile ≤ stage_of f.rule
      → IsEvidence G reach (slice_index words 3) (looked_at reach is) f.rule f.inst evidence)
      → ShownLines G [] is shown
      → string_bytes e.lines ≡ fault_text d G (slice_index words 3) is shown f.rule f.inst evidence
      → IsWalk d G reach bytes e (walk_in is evidence)
  dead : (words : List ℕ) (order : Order) → IsModule order bytes words
      → ((is : List PlainInst) → ¬ (IsListing G is (drop 5 words))) → IsWalk d G reach bytes e []

-- A writer that held the bytes `old` now also holds the verdict line of the bytes, after it lines that explain it, and
-- nothing else; the answer tells whether the line is `valid`.
pub record Explains (d : Detail) (G : Table) (reach : Reach) (bytes : List ℕ) (old : List ℕ) (new : Option (List ℕ))
    (answer : Bool) : Type 0 where
  pub line : List ℕ
  pub lines : List ℕ
  pub verdict : IsVerdict G reach bytes line
  pub explain : Explain d G reach bytes lines
  pub dead : ExplainDead d G bytes lines
  pub others : AreOthers bytes line lines
  pub written : new ≡ Some (old ++ (line ++ lines))
  pub answered : IsTrue answer ↔ (line ≡ valid_line)

-- A writer that held the bytes `old` now also holds a beginning of such lines, and nothing else.
pub record BeginsExplaining (d : Detail) (G : Table) (reach : Reach) (bytes : List ℕ) (old : List ℕ)
    (new : Option (List ℕ)) : Type 0 where
  pub line : List ℕ
  pub lines : List ℕ
  pub verdict : IsVerdict G reach bytes line
  pub explain : Explain d G reach bytes lines
  pub dead : ExplainDead d G bytes lines
  pub others : AreOthers bytes line lines
  pub count : ℕ
  pub fits : count ≤ length (line ++ lines)
  pub written : new ≡ Some (old ++ take count (line ++ lines))
