use Rattle.std.proofs.Common.{◌≡◌, ◌≤◌, ◌%◌, ◌∙◌, ℕ, false, ap, arith, subst, sym}
use Rattle.std.specs.Prelude.{nat_lt}
use Rattle.std.proofs.lemmas.Bool.Decides.{nat_tests}
use Rattle.spv_annotate.specs.Values.{is_nan}
use Rattle.spv_annotate.proofs.Halves.{half_number}
use Rattle.spv_annotate.proofs.values.value_text.Goals as goal

pub single_text-requires : goal.single_text-requires
single_text-requires c =
    let n = c.in-Half.bits in
    let e : nat_lt 31744 (n % 32768) ≡ false = ap is_nan (sym c.in-Half.is)
    ∙ (sym c.is_nan.ensures ∙ c.if-is_nan.false) in
    let l : n % 32768 ≤ 31744 = grind (arith, nat_tests) in
    subst (λ (z : ℕ). z % 2147483648 ≤ 2139095040) (sym c.widened.ensures) (half_number n l)
