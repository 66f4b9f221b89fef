use Rattle.std.proofs.Common.{sym, subst}
use Rattle.std.proofs.lemmas.Result.{IfOk-weaker}
use Rattle.spv_module.specs.Module.{plain_inst}
use Rattle.spv_module.specs.declared.fault.Rule.{Rule}
use Rattle.spv_evidence.specs.declared.evidence.Evidence.TheVariants.{Operand}
use Rattle.spv_kernel_operands.specs.Broken.{Broken}
use Rattle.spv_standard_evidence.specs.Operands.{IsEvidence, Shows}
use Rattle.spv_standard_evidence.proofs.Operated.{broken_inst, broken_within, shown_23}
use Rattle.spv_standard_evidence.proofs.operands.operand_evidence.Goals as goal

pub returns-in-O23 : goal.returns-in-O23
returns-in-O23 c = λ G b.
    let is = c.args.definitions.now in
    let n = c.args.inst in
    subst (λ (q : Rule). IsEvidence G is q n (Operand 2)) (sym c.in-O23.is)
    (shown_23 G is n (subst (λ (q : Rule). Broken G is q n) c.in-O23.is b))

pub inst-requires : goal.inst-requires
inst-requires c =
    let r = c.requires in broken_within r.0 c.args.definitions.now c.args.inst c.args.rule r.1

pub broken_by-requires : goal.broken_by-requires
broken_by-requires c =
    let r = c.requires in (
      r.0,
      broken_inst r.0 c.args.definitions.now c.args.inst (plain_inst c.inst.result.now) c.args.rule c.inst.ensures
          c.in_default.not-O23 r.1,
    )

pub returns-in_default : goal.returns-in_default
returns-in_default c = λ G b.
    let is = c.args.definitions.now in
    let n = c.args.inst in
    let i = plain_inst c.inst.result.now in
    IfOk-weaker c.broken_by.result (Shows G is i c.args.rule) (λ e. IsEvidence G is c.args.rule n e)
    (λ e s. IsEvidence.operands c.args.rule n i e c.inst.ensures s)
    (c.broken_by.ensures G (broken_inst G is n i c.args.rule c.inst.ensures c.in_default.not-O23 b))
