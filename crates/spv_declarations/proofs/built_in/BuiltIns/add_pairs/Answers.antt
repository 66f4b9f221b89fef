use Rattle.std.proofs.Common.{◌∙◌, ◌⊎◌, sym}
use Rattle.spv_module.specs.Module.{plain_operands}
use Rattle.spv_conditions.specs.Further.{IsMember}
use Rattle.spv_declarations.specs.Given.{HasPair}
use Rattle.spv_declarations.specs.inner.Sets.{HasBoth}
use Rattle.spv_declarations.proofs.Built.{pair_shorter, pairs_step, pairs_done}
use Rattle.spv_declarations.proofs.built_in.BuiltIns.add_pairs.Goals as goal

pub loop-t-smaller : goal.loop-t-smaller
loop-t-smaller c = pair_shorter (plain_operands c.loop-t.left.now) (plain_operands c.behind_two-left.result.now)
    c.in-Some.t c.in-Some.member (sym c.member_in.ensures ∙ c.in-Some.is) c.behind_two-left.ensures

pub loop-t-preserved : goal.loop-t-preserved
loop-t-preserved c = record {
  members = pairs_step c.args.definitions.now (plain_operands c.loop-t.left.now)
      (plain_operands c.behind_two-left.result.now) c.loop-t.self.members c.add.new.self.members c.in-Some.t
      c.in-Some.member (λ t k. HasBoth c.args.self.now.members t k
      ⊎ (IsMember c.args.definitions.now t k × HasPair (plain_operands c.args.pairs.now) t k))
      (sym c.member_in.ensures ∙ c.in-Some.is) c.behind_two-left.ensures c.in_ok-add.ensures.members
      c.loop-t.invariant.members;
  structs = λ h. c.in_ok-add.ensures.structs (c.loop-t.invariant.structs h);
}

pub returns-clause-members : goal.returns-clause-members
returns-clause-members c = pairs_done c.args.definitions.now (plain_operands c.loop-t.left.now)
    c.loop-t.self.members (λ t k. HasBoth c.args.self.now.members t k
    ⊎ (IsMember c.args.definitions.now t k × HasPair (plain_operands c.args.pairs.now) t k))
    (sym c.member_in.ensures ∙ c.in_default.is) c.loop-t.invariant.members
