use Rattle.std.proofs.Common.{◌∙◌, sym}
use Rattle.spv_module.specs.Module.{plain_insts}
use Rattle.spv_check.specs.Fork.{fork_of}
use Rattle.spv_explain.proofs.Stages.{branches_of, the_call, values_of}
use Rattle.spv_explain.proofs.Shown.{branch_shown, call_shown, walk_shown}
use Rattle.spv_explain.proofs.evidence.flow_evidence.Goals as goal

pub returns-then-is_of_values : goal.returns-then-is_of_values
returns-then-is_of_values c = λ G reach plan ids first.
    let v = values_of (fork_of reach) G (plain_insts c.args.module.now) c.args.fault.rule c.args.fault.inst
    (sym c.is_of_values.ensures ∙ c.if-is_of_values.true) first in
    walk_shown G reach _ _ c.args.fault _ (c.in_ok-walk_evidence.ensures (fork_of reach) G plan ids v.0)

pub branch_evidence-requires-clause-first : goal.branch_evidence-requires-clause-first
branch_evidence-requires-clause-first c =
    let k = c.requires.known in (
      k.0,
      k.1,
      k.2,
      branches_of k.0 k.1 (plain_insts c.args.module.now) c.args.fault.rule c.args.fault.inst
          (sym c.is_of_values.ensures ∙ c.if-is_of_values.false) (sym c.is_of_calls.ensures ∙ c.if-is_of_calls.false) k.4,
    )

pub returns-then-is_of_calls : goal.returns-then-is_of_calls
returns-then-is_of_calls c = λ G reach plan ids first.
    call_shown G reach _ _ c.args.fault _ (the_call c.args.fault.rule
    (sym c.is_of_calls.ensures ∙ c.if-is_of_calls.true)) c.in_ok-call_evidence.ensures

pub returns : goal.returns
returns c = λ G reach plan ids first.
    branch_shown G reach _ _ c.args.fault _
    (c.in_ok-branch_evidence.ensures (fork_of reach) G plan
    (branches_of (fork_of reach) G (plain_insts c.args.module.now) c.args.fault.rule c.args.fault.inst
    (sym c.is_of_values.ensures ∙ c.if-is_of_values.false) (sym c.is_of_calls.ensures ∙ c.if-is_of_calls.false) first))
