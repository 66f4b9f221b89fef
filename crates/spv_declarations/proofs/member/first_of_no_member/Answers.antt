use Rattle.std.proofs.Common.{arith}
use Rattle.spv_declarations.specs.Declarations.{NamesNoMember, IsOfNoMember}
use Rattle.spv_declarations.proofs.Passes.{found_at, more_at, none}
use Rattle.spv_declarations.proofs.Without.{no_members}
use Rattle.spv_declarations.proofs.member.first_of_no_member.Goals as goal

pub returns-then-is_of_no_member : goal.returns-then-is_of_no_member
returns-then-is_of_no_member c = found_at c.args.definitions.now (NamesNoMember c.args.definitions.now) c.args.count
    c.loop-number.number _
    c.is_of_no_member.result c.loop-number-test.true c.inst.ensures c.is_of_no_member.ensures c.if-is_of_no_member.true
    c.loop-number.invariant

pub loop-number-preserved : goal.loop-number-preserved
loop-number-preserved c = more_at c.args.definitions.now (NamesNoMember c.args.definitions.now) c.loop-number.number _
    c.is_of_no_member.result
    c.inst.ensures c.is_of_no_member.ensures c.if-is_of_no_member.false c.loop-number.invariant

pub returns : goal.returns
returns c = none c.args.count c.loop-number.number (IsOfNoMember c.args.definitions.now) (omega arith)
    c.loop-number.invariant

pub returns-then-not-kinds : goal.returns-then-not-kinds
returns-then-not-kinds c =
    no_members c.args.definitions.now c.args.count c.args.kinds.now c.requires.kinds c.if-not-kinds.true
