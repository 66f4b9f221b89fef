use Rattle.std.proofs.Common.{◌≡◌, ◌∙◌, sym, true, false}
use Rattle.spv_module.specs.Module.{plain_inst}
use Rattle.spv_capabilities.specs.inner.Known.{is_asked_more}
use Rattle.spv_capabilities.proofs.Firsts.{all_covered, covered_then, kept_before_covered, kept_before_linkage}
use Rattle.spv_capabilities.proofs.entries.first_asked.Goals as goal

pub returns-then-not-branch-clause-first : goal.returns-then-not-branch-clause-first
returns-then-not-branch-clause-first c =
    let G = c.args.survey.now.table in
    let is = c.args.survey.now.insts in
    let i = plain_inst c.args.inst.now in
    let e : is_asked_more i.opcode ≡ false = sym c.is_asked_more.ensures ∙ c.if-is_asked_more.false in (
      λ k. let no : false ≡ true = sym c.if-not-branch.true
          ∙ c.in_ok-are_covered.ensures.answer.1 (covered_then G is i k) in cc,
      kept_before_covered G is c.args.number i e,
    )

pub returns-then-not-keeps_linkage-clause-first : goal.returns-then-not-keeps_linkage-clause-first
returns-then-not-keeps_linkage-clause-first c =
    let i = plain_inst c.args.inst.now in
    let e : is_asked_more i.opcode ≡ false = sym c.is_asked_more.ensures ∙ c.if-is_asked_more.false in (
      λ k. let no : false ≡ true = sym c.if-not-keeps_linkage.true ∙ c.keeps_linkage.ensures.1 (λ h. k.linkage h) in cc,
      kept_before_linkage c.args.survey.now.table c.args.survey.now.insts c.args.number i e
          (c.in_ok-are_covered.ensures.answer.0 c.if-not-branch.false),
    )

pub returns-clause-first : goal.returns-clause-first
returns-clause-first c =
    let i = plain_inst c.args.inst.now in
    let e : is_asked_more i.opcode ≡ false = sym c.is_asked_more.ensures ∙ c.if-is_asked_more.false in
    all_covered c.args.survey.now.table c.args.survey.now.insts c.args.number i e
    (c.in_ok-are_covered.ensures.answer.0 c.if-not-branch.false)
    (c.keeps_linkage.ensures.0 c.if-not-keeps_linkage.false)
