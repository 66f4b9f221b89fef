use Rattle.std.proofs.Common.{◌≡◌, ◌∙◌, sym, true, false}
use Rattle.spv_module.specs.Module.{plain_inst}
use Rattle.spv_capabilities.proofs.Firsts.{all_kept, kept_before_c1, kept_before_c2, kept_before_m1, kept_before_e1}
use Rattle.spv_capabilities.proofs.Firsts.{kept_before_e2}
use Rattle.spv_capabilities.proofs.entries.first_of_several.Goals as goal

pub returns-then-not-keeps_kernel-clause-first : goal.returns-then-not-keeps_kernel-clause-first
returns-then-not-keeps_kernel-clause-first c = (
  λ h. let no : false ≡ true = sym c.if-not-keeps_kernel.true ∙ c.keeps_kernel.ensures.1 h in cc,
  kept_before_c1 c.args.survey.now.table c.args.survey.now.insts c.args.number (plain_inst c.args.inst.now),
)

pub returns-then-not-branch-clause-first : goal.returns-then-not-branch-clause-first
returns-then-not-branch-clause-first c = (
  λ h. let no : false ≡ true = sym c.if-not-branch.true ∙ c.in_ok-is_capable.ensures.answer.1 h in cc,
  kept_before_c2 c.args.survey.now.table c.args.survey.now.insts c.args.number (plain_inst c.args.inst.now)
      (c.keeps_kernel.ensures.0 c.if-not-keeps_kernel.false),
)

pub returns-then-not-keeps_model-clause-first : goal.returns-then-not-keeps_model-clause-first
returns-then-not-keeps_model-clause-first c = (
  λ h. let no : false ≡ true = sym c.if-not-keeps_model.true ∙ c.keeps_model.ensures.1 h in cc,
  kept_before_m1 c.args.survey.now.table c.args.survey.now.insts c.args.number (plain_inst c.args.inst.now)
      (c.keeps_kernel.ensures.0 c.if-not-keeps_kernel.false)
      (c.in_ok-is_capable.ensures.answer.0 c.if-not-branch.false),
)

pub returns-then-not-keeps_entry-clause-first : goal.returns-then-not-keeps_entry-clause-first
returns-then-not-keeps_entry-clause-first c = (
  λ h. let no : false ≡ true = sym c.if-not-keeps_entry.true ∙ c.keeps_entry.ensures.1 h in cc,
  kept_before_e1 c.args.survey.now.table c.args.survey.now.insts c.args.number (plain_inst c.args.inst.now)
      (c.keeps_kernel.ensures.0 c.if-not-keeps_kernel.false)
      (c.in_ok-is_capable.ensures.answer.0 c.if-not-branch.false) (c.keeps_model.ensures.0 c.if-not-keeps_model.false),
)

pub returns-then-not-keeps_entries-clause-first : goal.returns-then-not-keeps_entries-clause-first
returns-then-not-keeps_entries-clause-first c = (
  λ h. let no : false ≡ true = sym c.if-not-keeps_entries.true ∙ c.keeps_entries.ensures.1 h in cc,
  kept_before_e2 c.args.survey.now.table c.args.survey.now.insts c.args.number (plain_inst c.args.inst.now)
      (c.keeps_kernel.ensures.0 c.if-not-keeps_kernel.false)
      (c.in_ok-is_capable.ensures.answer.0 c.if-not-branch.false) (c.keeps_model.ensures.0 c.if-not-keeps_model.false)
      (c.keeps_entry.ensures.0 c.if-not-keeps_entry.false),
)

pub returns-clause-first : goal.returns-clause-first
returns-clause-first c =
    all_kept c.args.survey.now.table c.args.survey.now.insts c.args.number (plain_inst c.args.inst.now)
    (c.keeps_kernel.ensures.0 c.if-not-keeps_kernel.false)
    (c.in_ok-is_capable.ensures.answer.0 c.if-not-branch.false) (c.keeps_model.ensures.0 c.if-not-keeps_model.false)
    (c.keeps_entry.ensures.0 c.if-not-keeps_entry.false)
    (c.keeps_entries.ensures.0 c.if-not-keeps_entries.false)
