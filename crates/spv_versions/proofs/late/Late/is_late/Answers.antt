use Rattle.std.proofs.Common.{refl, inl, inr}
use Rattle.std.proofs.lemmas.Bool.{iff_false}
use Rattle.spv_versions.proofs.Asking.{late_told, told_late}
use Rattle.spv_versions.proofs.late.Late.is_late.Goals as goal

pub returns-then-has_missing : goal.returns-then-has_missing
returns-then-has_missing c = λ G minor by. (
  λ _. late_told G minor c.args.definitions.now c.args.self.now c.args.number _ by c.inst-inst.ensures
      (inl ((c.has_missing.ensures by.least by.floors).0 c.if-has_missing.true)),
  λ _. refl,
)

pub returns : goal.returns
returns c = λ G minor by. (
  λ t. late_told G minor c.args.definitions.now c.args.self.now c.args.number _ by c.inst-inst.ensures
      (inr (c.has_late_form.ensures.0 t)),
  λ h. elim (told_late G minor c.args.definitions.now c.args.self.now c.args.number _ by c.inst-inst.ensures h) [
    | inl a ↦ absurd (iff_false (c.has_missing.ensures by.least by.floors) c.if-has_missing.false a)
    | inr b ↦ c.has_late_form.ensures.1 b
  ],
)
