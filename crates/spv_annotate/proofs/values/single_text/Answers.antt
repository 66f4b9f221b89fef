use Rattle.std.proofs.Common.{◌≡◌, ◌∙◌, List, ℕ, false, subst, sym}
use Rattle.std.specs.Prelude.{string_bytes}
use Rattle.std.proofs.lemmas.Bool.{le-ltb}
use Rattle.std.proofs.lemmas.Float.{T_from_false}
use Rattle.std.proofs.lemmas.Result.{IfOk-weaker}
use lib.Ieee.Bits.{nan_bits_above}
use Rattle.std.specs.Float.{binary32}
use Rattle.spv_annotate.specs.declared.values.Bits.TheVariants.{Single}
use Rattle.spv_annotate.specs.Values.{IsValueOf}
use Rattle.spv_annotate.proofs.Floats.{float_tame}
use Rattle.spv_annotate.proofs.values.single_text.Goals as goal

pub float_from_bits-bits : goal.float_from_bits-bits
float_from_bits-bits c = T_from_false _ (nan_bits_above binary32 c.args.bits ∙ le-ltb _ _ c.requires)

pub returns : goal.returns
returns c =
    IfOk-weaker c.from_str.result (λ t. string_bytes t ≡ c.format.result.now)
    (λ t. IsValueOf false (Single c.args.bits) (string_bytes t))
    (λ t e. subst (λ (z : List ℕ). IsValueOf false (Single c.args.bits) z) (sym e)
    (c.format.ensures.parses, float_tame _ c.format.result.now c.format.ensures.plain c.format.ensures.word))
    c.from_str.ensures.ok
