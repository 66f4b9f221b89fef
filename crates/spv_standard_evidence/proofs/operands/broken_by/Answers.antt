use Rattle.std.proofs.Common.{sym, subst, inl, inr}
use Rattle.std.proofs.lemmas.Result.{IfOk-weaker}
use Rattle.spv_table.specs.Table.{Table}
use Rattle.spv_module.specs.Module.{plain_inst}
use Rattle.spv_module.specs.declared.fault.Rule.{Rule}
use Rattle.spv_module.specs.declared.fault.Rule.TheVariants.{O19}
use Rattle.spv_evidence.specs.declared.evidence.Evidence.TheVariants.{Operand}
use Rattle.spv_kernel_operands.specs.Broken.{IsBrokenBy}
use Rattle.spv_standard_evidence.specs.Operands.{Shows}
use Rattle.spv_standard_evidence.proofs.Operated.{by_14, by_19, shown_15, shown_16, shown_17, shown_20}
use Rattle.spv_standard_evidence.proofs.operands.broken_by.Goals as goal

pub scope_evidence-requires : goal.scope_evidence-requires
scope_evidence-requires c =
    let r = c.requires in
    let is = c.args.definitions.now in
    let i = plain_inst c.args.inst.now in
    by_14 r.0 is i (subst (λ (q : Rule). IsBrokenBy r.0 is i q) c.in-O14.is r.1)

pub returns-in-O14 : goal.returns-in-O14
returns-in-O14 c = λ G b.
    let is = c.args.definitions.now in
    let i = plain_inst c.args.inst.now in
    subst (λ (q : Rule). Shows G is i q c.scope_evidence.result) (sym c.in-O14.is) (c.scope_evidence.ensures G)

pub returns-in-O15 : goal.returns-in-O15
returns-in-O15 c = λ G b.
    let is = c.args.definitions.now in
    let i = plain_inst c.args.inst.now in
    let k = c.pointer_seat.result in
    elim c.in-O15.is [
      | inl e ↦ subst (λ (q : Rule). Shows G is i q (Operand k)) (sym e)
          (shown_15 G is i k c.pointer_seat.ensures (subst (λ (q : Rule). IsBrokenBy G is i q) e b))
      | inr e ↦ subst (λ (q : Rule). Shows G is i q (Operand k)) (sym e)
          (shown_16 G is i k c.pointer_seat.ensures (subst (λ (q : Rule). IsBrokenBy G is i q) e b))
    ]

pub returns-in-O17 : goal.returns-in-O17
returns-in-O17 c = λ G b.
    let is = c.args.definitions.now in
    let i = plain_inst c.args.inst.now in
    subst (λ (q : Rule). Shows G is i q (Operand 2)) (sym c.in-O17.is)
    (shown_17 G is i (subst (λ (q : Rule). IsBrokenBy G is i q) c.in-O17.is b))

pub control_evidence-requires : goal.control_evidence-requires
control_evidence-requires c =
    let r = c.requires in
    let is = c.args.definitions.now in
    let i = plain_inst c.args.inst.now in
    (r.0, is, subst (λ (q : Rule). IsBrokenBy r.0 is i q) c.in-O18.is r.1)

pub returns-in-O18 : goal.returns-in-O18
returns-in-O18 c = λ G b.
    let is = c.args.definitions.now in
    let i = plain_inst c.args.inst.now in
    subst (λ (q : Rule). Shows G is i q c.control_evidence.result) (sym c.in-O18.is) (c.control_evidence.ensures G is)

pub switch_evidence-requires : goal.switch_evidence-requires
switch_evidence-requires c =
    let r = c.requires in
    let is = c.args.definitions.now in
    let i = plain_inst c.args.inst.now in
    by_19 r.0 is i (subst (λ (q : Rule). IsBrokenBy r.0 is i q) c.in-O19.is r.1)

pub returns-in-O19 : goal.returns-in-O19
returns-in-O19 c = λ G b.
    let is = c.args.definitions.now in
    let i = plain_inst c.args.inst.now in
    IfOk-weaker c.switch_evidence.result (λ e. (H : Table) → Shows H is i O19 e) (λ e. Shows G is i c.args.rule e)
    (λ e h. subst (λ (q : Rule). Shows G is i q e) (sym c.in-O19.is) (h G)) c.switch_evidence.ensures

pub returns-in_default : goal.returns-in_default
returns-in_default c = λ G b.
    shown_20 G c.args.definitions.now (plain_inst c.args.inst.now) c.args.rule c.in_default.not-O14 c.in_default.not-O15
    c.in_default.not-O16 c.in_default.not-O17 c.in_default.not-O18 c.in_default.not-O19 b
