use Rattle.std.proofs.Common.{arith}
use Rattle.spv_flow.proofs.lemmas.walks.Starting.{label_block}
use Rattle.spv_flow.proofs.walks.edges.Blocks.at_label.Goals as goal
use Rattle.spv_flow.proofs.walks.edges.Blocks.at_label.Goals.{else-self-label-via-then-self-label+else-label-self}
use Rattle.spv_flow.proofs.walks.edges.Blocks.at_label.Goals.{else-self-label-via-else-self-label}

pub returns-then-label-self : goal.returns-then-label-self
returns-then-label-self c =
    λ is are op. label_block is c.args.self.now c.args.label are op c.if-self-label.true c.if-label-self.true

pub returns-else-self-label : goal.returns-else-self-label
returns-else-self-label c = λ is are op of.
    let r = are.laid.extent.all c.args.label of in
    let from = r.0 in
    let to = r.1 in
    elim c.else-self-label.branch [
      | else-self-label-via-then-self-label+else-label-self w ↦
          (let f = w.if-label-self.false in absurd (omega (arith, f, to)))
      | else-self-label-via-else-self-label w ↦ (let f = w.if-self-label.false in absurd (omega (arith, f, from)))
    ]
