use Rattle.std.proofs.Common.{◌≤◌, length, arith}
use Rattle.std.proofs.lemmas.Bool.Decides.{nat_tests}
use Rattle.spv_inst.proofs.Patterns.{none_due}
use Rattle.spv_inst.proofs.items.DueItems.are_optional.Goals as goal

pub returns : goal.returns
returns c = λ t.
    let m : length c.args.self.left.now ≤ c.args.self.optional = grind (arith, nat_tests) in
    none_due c.args.self.left.now (λ k d h. c.args.self.ends k d (omega (arith, m)) h)
