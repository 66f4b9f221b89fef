-- The lines after that of a fault. (Own.)
use Rattle.std.specs.Prelude.{◌++◌, ℕ, List, [], codes}
use Rattle.spv_words.specs.declared.words.WordError.{WordError}
use Rattle.spv_table.specs.Table.{Table}
use Rattle.spv_module.specs.Operand.{PlainInst}
use Rattle.spv_module.specs.declared.fault.Rule.{Rule as AnyRule}
use Rattle.spv_rules.specs.Rules.{sentence_of}
use Rattle.spv_rules.specs.declared.rules.Code.{Code}
use Rattle.spv_rules.specs.declared.rules.Code.TheVariants.{Word, Rule}
use Rattle.spv_evidence.specs.declared.evidence.Evidence.{Evidence}
use Rattle.spv_facts.specs.declared.fact.Detail.{Detail}
use Rattle.spv_facts.specs.Facts.{facts_of}
use Rattle.spv_fault_lines.specs.Lines.{text_of}
use Rattle.spv_fault_lines.specs.Refused.{found_lines}
use Rattle.spv_facts.specs.Refused.{front_of}
use Rattle.spv_facts.specs.Words.{malformed_facts}
use Rattle.spv_facts.specs.declared.refused.Front.{Front}

-- what the code says
abbrev pub rule_line : Code → List ℕ
rule_line code = codes "rule: " ++ sentence_of code ++ codes "\n"

-- of bytes that are no words of a module: what the code says, and what is found
abbrev pub refused_by : WordError → Front → List ℕ
refused_by code front = rule_line (Word code) ++ found_lines code front

abbrev pub refused_text : WordError → List ℕ → List ℕ
refused_text code bytes = refused_by code (front_of bytes)

-- in short or in full: of words, from word 5 on, of which instruction n breaks the rule at the word of that number
abbrev pub malformed_text : Detail → Table → List ℕ → AnyRule → ℕ → ℕ → Evidence → List ℕ
malformed_text d G ws r n word e = rule_line (Rule r) ++ text_of d G [] [] (malformed_facts ws n word e)

-- of instructions, with their shown lines, which break the rule at instruction n
abbrev pub fault_text : Detail → Table → ℕ → List PlainInst → List (List ℕ) → AnyRule → ℕ → Evidence → List ℕ
fault_text d G bound is shown r n e = rule_line (Rule r) ++ text_of d G is shown (facts_of bound is r n e)
