-- Parts of what lines tell. (For the code alone.)
use Rattle.std.specs.Prelude.{ℕ, List, [], codes, decimal}
use Rattle.std.specs.Borrow.{Bor}
use Rattle.spv_table.specs.Table.{Table}
use Rattle.spv_module.specs.Operand.{PlainInst}
use Rattle.spv_facts.specs.declared.fact.Fact.{Fact}
use Rattle.spv_facts.specs.declared.fact.Fact.TheVariants as fact
use Rattle.spv_lines.specs.Text.{inst_line}
use Rattle.spv_facts.specs.Conditions.{condition_text}
use Rattle.spv_facts.specs.Texts.{bit_name, capability_name, due_text, operand_at, unended_text}
use Rattle.spv_fault_lines.specs.Lines.{name_part, thing_text}
use Rattle.spv_facts.specs.Shapes.{role_text, row_text}
use Rattle.spv_facts.specs.Versions.{since_text}

-- a text as it is lent, after a space
abbrev pub spaced : Bor (List ℕ) → List ℕ
spaced text = name_part text.now

-- what is told behind the key and a space; nothing where more than a space stands before it, or none
abbrev pub named_text : Table → List PlainInst → List (List ℕ) → Fact → List ℕ
named_text G is lines (fact.At n) = inst_line lines n
named_text G is lines (fact.Row opcode known) = row_text opcode known
named_text G is lines (fact.Unended p) = unended_text is p
named_text G is lines (fact.Failing k) = decimal k
named_text G is lines (fact.Due kind) = due_text G kind
named_text G is lines (fact.Bound bound) = decimal bound
named_text G is lines (fact.Role r) = role_text r
named_text G is lines (fact.Capability c implied) = capability_name G c
named_text G is lines (fact.Bit n k bit) = bit_name G (operand_at is n k) bit
named_text G is lines fact.NoEntry = codes "OpEntryPoint"
named_text G is lines (fact.Condition c) = condition_text c
named_text G is lines (fact.Wanted t) = thing_text lines t
named_text G is lines (fact.Found t) = thing_text lines t
named_text G is lines (fact.Number n) = decimal n
named_text G is lines (fact.Size n) = decimal n
named_text G is lines (fact.Operands n) = decimal n
named_text G is lines (fact.Since minor) = since_text minor
named_text G is lines f = []
