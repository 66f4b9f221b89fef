-- The codes of texts in numbers, as the C header lists them. (Own.)
use Rattle.std.specs.Prelude.{ℕ}
use Rattle.spv_lines.specs.declared.asm_error.AsmCode.{AsmCode}
use Rattle.spv_lines.specs.declared.asm_error.AsmCode.TheVariants.{S1, S2, S3, S4, S5, S6}

-- S1 to S5: 1201 to 1205; S6, out of memory, is no fault of a text
abbrev pub text_code_number : AsmCode → ℕ
text_code_number S1 = 1201
text_code_number S2 = 1202
text_code_number S3 = 1203
text_code_number S4 = 1204
text_code_number S5 = 1205
text_code_number S6 = 1206
