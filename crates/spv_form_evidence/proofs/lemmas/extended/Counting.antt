-- Which counts of operands an instruction does not take.
use Rattle.std.proofs.Common.{◌≡◌, ◌<◌, ◌-◌, ◌+◌, ◌&&◌, ℕ, Bool, true, false, Some, None, ap, inl, inr, arith}
use Rattle.std.specs.Prelude.{nat_le, not}
use Rattle.std.proofs.lemmas.Bool.{cases_lt}
use Rattle.std.proofs.lemmas.Bool.Decides.{nat_tests}
use Rattle.spv_extended.specs.declared.signature.More.{More}
use Rattle.spv_extended.specs.declared.signature.More.TheVariants.{Nothing, One, Any, Unknown}
use Rattle.spv_extended.specs.Facts.{takes_more}
use Rattle.spv_form_evidence.specs.extended.Evidence.{IsOutside, least_with, most_with}

-- so many operands are not what an instruction takes that must have l of them
abbrev pub misfits : More → ℕ → ℕ → Bool
misfits m l c = not (nat_le l c && takes_more m (c - l))

pub outside : (m : More) (l c : ℕ) → misfits m l c ≡ true → IsOutside c (least_with m l) (most_with m l)
outside Nothing l c h = elim (cases_lt c l) [
  | inl a ↦ IsOutside.fewer l (Some l) a
  | inr b ↦ IsOutside.more l l (grind (arith, nat_tests))
]
outside One l c h = elim (cases_lt c l) [
  | inl a ↦ IsOutside.fewer l (Some (l + 1)) a
  | inr b ↦ IsOutside.more l (l + 1) (grind (arith, nat_tests))
]
outside Any l c h = elim (cases_lt c l) [
  | inl a ↦ IsOutside.fewer l None a
  | inr b ↦ absurd (grind (arith, nat_tests))
]
outside Unknown l c h = IsOutside.no_inst

fewer_misfit : (m : More) (l c : ℕ) → c < l → misfits m l c ≡ true
fewer_misfit m l c h =
    (let e : nat_le l c ≡ false = grind (arith, nat_tests) in ap (λ b. not (b && takes_more m (c - l))) e)

pub misfit : (m : More) (l c : ℕ) → IsOutside c (least_with m l) (most_with m l) → misfits m l c ≡ true
misfit Nothing l c (IsOutside.fewer _ _ h) = fewer_misfit Nothing l c h
misfit Nothing l c (IsOutside.more _ _ h) = grind (arith, nat_tests)
misfit One l c (IsOutside.fewer _ _ h) = fewer_misfit One l c h
misfit One l c (IsOutside.more _ _ h) = grind (arith, nat_tests)
misfit Any l c (IsOutside.fewer _ _ h) = fewer_misfit Any l c h
misfit Unknown l c (IsOutside.no_inst) = grind (arith, nat_tests)
