use Rattle.std.proofs.Common.{sym, subst}
use Rattle.spv_module.specs.Module.{plain_inst}
use Rattle.spv_module.specs.declared.fault.Rule.{Rule}
use Rattle.spv_evidence.specs.declared.evidence.Evidence.TheVariants.{Operand}
use Rattle.spv_declarations.specs.Broken.{Broken}
use Rattle.spv_standard_evidence.specs.Declarations.{IsEvidence}
use Rattle.spv_standard_evidence.proofs.Declared.{by_13, by_5, shown_12, shown_5, shown_6}
use Rattle.spv_standard_evidence.proofs.declarations.declaration_evidence.Goals as goal

pub capability_evidence-requires : goal.capability_evidence-requires
capability_evidence-requires c =
    let r = c.requires.broken in
    let is = c.args.definitions.now in
    let n = c.args.inst in
    (r.0, by_13 r.0 is n (subst (λ (q : Rule). Broken r.0 is q n) c.in-O13.is r.1))

pub returns-in-O5 : goal.returns-in-O5
returns-in-O5 c = λ G b.
    let is = c.args.definitions.now in
    let n = c.args.inst in
    let k = c.id_behind.result in
    subst (λ (q : Rule). IsEvidence G is q n (Operand k)) (sym c.in-O5.is)
    (shown_5 G is n k (plain_inst c.inst.result.now) c.inst.ensures
    (by_5 G is n (subst (λ (q : Rule). Broken G is q n) c.in-O5.is b)) c.id_behind.ensures)

pub returns-in-O12 : goal.returns-in-O12
returns-in-O12 c = λ G b.
    let is = c.args.definitions.now in
    let n = c.args.inst in
    subst (λ (q : Rule). IsEvidence G is q n (Operand 0)) (sym c.in-O12.is)
    (shown_12 G is n (subst (λ (q : Rule). Broken G is q n) c.in-O12.is b))

pub returns-in-O13 : goal.returns-in-O13
returns-in-O13 c = λ G b.
    let is = c.args.definitions.now in
    let n = c.args.inst in
    subst (λ (q : Rule). IsEvidence G is q n c.capability_evidence.result) (sym c.in-O13.is)
    (c.capability_evidence.ensures G (by_13 G is n (subst (λ (q : Rule). Broken G is q n) c.in-O13.is b)))

pub returns-in_default : goal.returns-in_default
returns-in_default c = λ G b.
    shown_6 G c.args.definitions.now c.args.inst c.args.rule c.requires.rule c.in_default.not-O3 c.in_default.not-O5
    c.in_default.not-O12 c.in_default.not-O13 b
