use Rattle.std.proofs.Common.{◌≡◌, ◌++◌, ℕ, List, codes}
use Rattle.spv_rules.specs.Errors.{any_section, any_sentence}
use Rattle.spv_rules.specs.declared.errors.AnyCode.{AnyCode}
use Rattle.spv_rules.specs.declared.errors.AnyCode.TheVariants.{Error, Verdict}
use Rattle.spv_rules.proofs.ErrorRows.{error_sources}
use Rattle.spv_rules.proofs.Rows.{sources}
use Rattle.spv_rules.proofs.laws.sentences_end_with_sources.Goals as goal

of_any : (code : AnyCode) → (told : List ℕ) × (any_sentence code ≡ told ++ codes " [" ++ any_section code ++ codes "]")
of_any (Verdict code) = sources code
of_any (Error code) = error_sources code

pub returns : goal.returns
returns c = of_any
