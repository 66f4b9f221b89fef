-- A verdict in numbers, as the C header lists them. (Own.)
use Rattle.std.specs.Prelude.{ℕ}
use Rattle.spv_words.specs.declared.words.WordError.{WordError}
use Rattle.spv_module.specs.declared.fault.Rule.{Rule as AnyRule}
use Rattle.spv_rules.specs.declared.rules.Code.TheVariants.{Word, Rule}
use Rattle.spv_rules.specs.Rules.{number_of}
use Rattle.spv_check.specs.declared.verdict_line.Judgment.{Judgment}
use Rattle.spv_check.specs.declared.verdict_line.Judgment.TheVariants.{Valid, Refused, Broken}
use Rattle.spvk.specs.declared.numbers.Verdict.{Verdict}

-- W1 to W9: 1 to 9
abbrev pub code_number : WordError → ℕ
code_number code = number_of (Word code)

-- the letter's hundred, and then the rule's own number: I7 is 107, D1 is 401
abbrev pub rule_number : AnyRule → ℕ
rule_number r = number_of (Rule r)

-- no instruction, and no word
abbrev pub nowhere : ℕ
nowhere = 4294967295

-- a verdict in numbers
abbrev pub numbers_of : Judgment → Verdict
numbers_of Valid = record { code = 0; inst = nowhere; word = nowhere }
numbers_of (Refused code) = record { code = code_number code; inst = nowhere; word = nowhere }
numbers_of (Broken f) = record { code = rule_number f.rule; inst = f.inst; word = f.word }
