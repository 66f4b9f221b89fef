-- The line of a verdict is a text.
use Rattle.std.proofs.Common.{◌≡◌, ◌++◌, ◌<◌, ◌^◌, ℕ, List, codes, refl, IsUtf8}
use Rattle.std.specs.Prelude.{decimal}
use Rattle.std.proofs.lemmas.Fmt.{IsAscii-decimal}
use Rattle.std.proofs.lemmas.Str.{IsUtf8-append, IsUtf8-from_ascii}
use Rattle.spv_module.specs.declared.fault.Rule.{Rule}
use Rattle.spv_module.specs.declared.fault.Rule.TheVariants as rule
use Rattle.spv_rules.specs.Rules.{rule_text}
use Rattle.spv_check.specs.Verdict.{fault_line, line_end}

rule_utf8 : (r : Rule) → IsUtf8 (rule_text r)
unfolding lib.Utf8.encode
rule_utf8 rule.I1 = (codes "I1", (refl, refl))
rule_utf8 r = (rule_text r, (refl, refl))

fault_word_utf8 : IsUtf8 (codes "fault ")
unfolding lib.Utf8.encode
fault_word_utf8 = (codes "fault ", (refl, refl))

inst_utf8 : IsUtf8 (codes " inst ")
unfolding lib.Utf8.encode
inst_utf8 = (codes " inst ", (refl, refl))

at_utf8 : IsUtf8 (codes " word ")
unfolding lib.Utf8.encode
at_utf8 = (codes " word ", (refl, refl))

end_utf8 : IsUtf8 line_end
unfolding lib.Utf8.encode
end_utf8 = (line_end, (refl, refl))

number_utf8 : (n : ℕ) → n < 2 ^ 64 → IsUtf8 (decimal n)
number_utf8 n l = IsUtf8-from_ascii (decimal n) (IsAscii-decimal n l)

-- seven texts behind one another
joined : (a b c d e f g : List ℕ) → IsUtf8 a → IsUtf8 b → IsUtf8 c → IsUtf8 d → IsUtf8 e → IsUtf8 f → IsUtf8 g
    → IsUtf8 (a ++ b ++ c ++ d ++ e ++ f ++ g)
joined a b c d e f g h i j k l m n =
    IsUtf8-append _ g (IsUtf8-append _ f (IsUtf8-append _ e (IsUtf8-append _ d (IsUtf8-append _ c
    (IsUtf8-append a b h i) j) k) l) m) n

pub fault_utf8 : (r : Rule) (inst word : ℕ) → inst < 2 ^ 64 → word < 2 ^ 64 → IsUtf8 (fault_line r inst word)
fault_utf8 r inst word i w =
    joined (codes "fault ") (rule_text r) (codes " inst ") (decimal inst) (codes " word ") (decimal word) line_end
    fault_word_utf8 (rule_utf8 r) inst_utf8 (number_utf8 inst i) at_utf8 (number_utf8 word w) end_utf8
