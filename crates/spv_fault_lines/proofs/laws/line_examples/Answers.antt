use Rattle.std.proofs.Common.{◌≡◌, ℕ, List, ap, arith, refl, slice_index}
use Rattle.std.proofs.lemmas.Fmt.{decimal_digit}
use Rattle.spv_fault_lines.proofs.laws.line_examples.Goals as goal

pub returns-clause-used : goal.returns-clause-used
returns-clause-used c = rw (decimal_digit 0 (omega arith)) refl

pub returns-clause-since : goal.returns-clause-since
returns-clause-since c = rw (decimal_digit 2 (omega arith)) refl

pub returns-clause-not_minor : goal.returns-clause-not_minor
returns-clause-not_minor c = λ h.
    let f : 49 ≡ 50 = ap (λ (t : List ℕ). slice_index t 7) h in absurd (omega (arith, f))
