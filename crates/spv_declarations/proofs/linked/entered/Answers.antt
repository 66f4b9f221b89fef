use Rattle.std.proofs.Common.{◌≡◌, ℕ, Some, arith}
use Rattle.spv_module.specs.Operand.{PlainInst}
use Rattle.spv_capabilities.specs.Entry.{entered_by}
use Rattle.spv_declarations.proofs.Gathered.{gathers_none, gathers_more}
use Rattle.spv_declarations.proofs.Saying.{entered_early}
use Rattle.spv_declarations.proofs.Spanned.{entered_enters, entries_all}
use Rattle.spv_declarations.proofs.linked.entered.Goals as goal

pub loop-number-init : goal.loop-number-init
loop-number-init c = gathers_none c.args.definitions.now (λ (i : PlainInst) (x : ℕ). entered_by i ≡ Some x)
    c.new-entered.result c.new-entered.ensures.empty

pub loop-number-preserved : goal.loop-number-preserved
loop-number-preserved c = gathers_more c.args.definitions.now (λ (i : PlainInst) (x : ℕ). entered_by i ≡ Some x)
    c.loop-number.number _ c.loop-number.entered c.add_entered.new.entered c.inst.ensures c.in_ok-add_entered.ensures
    c.loop-number.invariant

pub inst-requires : goal.inst-requires
inst-requires c = let w = c.requires.spans.within.2 in omega (arith, w)

pub returns : goal.returns
returns c = entries_all c.args.definitions.now (λ (i : PlainInst) (x : ℕ). entered_by i ≡ Some x) c.args.count
    c.loop-number.number c.args.spans.now c.loop-number.entered c.requires.early c.requires.spans entered_early
    entered_enters (omega arith) c.loop-number.invariant
