use Rattle.std.proofs.Common.{ℕ, subst}
use Rattle.spv_declarations.specs.inner.Sets.{IsIn}
use Rattle.spv_standard_evidence.specs.inner.Interfaces.{MissesIn}
use Rattle.spv_standard_evidence.proofs.Missed.{no_user_first, no_user_other, no_user_past, user_there}
use Rattle.spv_standard_evidence.proofs.interfaces.missing.user_in.Goals.{in-Some+else-missing-function, in_default}
use Rattle.spv_standard_evidence.proofs.interfaces.missing.user_in.Goals as goal

pub loop-number-init : goal.loop-number-init
loop-number-init c = λ G fit.
    no_user_first G c.args.minor c.args.definitions.now (IsIn c.args.named.now) c.args.function

pub returns-then-missing-function : goal.returns-then-missing-function
returns-then-missing-function c = λ G fit.
    subst (λ (f : ℕ). MissesIn G c.args.minor c.args.definitions.now (IsIn c.args.named.now) c.loop-number.number f
    c.in-Some.missing.id) c.if-missing-function.true (c.in-Some.ensures G fit)

pub loop-number-preserved : goal.loop-number-preserved
loop-number-preserved c = λ G fit.
    let is = c.args.definitions.now in
    let Named = IsIn c.args.named.now in
    let f = c.args.function in
    let k = c.loop-number.number in
    no_user_past G c.args.minor is Named f k (elim c.match-missing_at.branch [
      | in-Some+else-missing-function w ↦
          no_user_other G c.args.minor is Named f k w.in-Some.missing.function w.in-Some.missing.id
          (w.in-Some.ensures G fit) w.if-missing-function.false
      | in_default w ↦ w.in_default.ensures G fit f
    ]) (c.loop-number.invariant G fit)

pub unreachable-requires : goal.unreachable-requires
unreachable-requires c =
    let r = c.requires.misses in
    user_there r.0 c.args.minor c.args.definitions.now (IsIn c.args.named.now) c.args.function c.args.total
    c.loop-number.number c.loop-number-test.false (c.loop-number.invariant r.0 r.1) r.2
