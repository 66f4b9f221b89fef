use Rattle.std.proofs.Common.{ℕ, length}
use Rattle.std.specs.Prelude.{sum_by}
use Rattle.std.proofs.lemmas.List.{length-map}
use Rattle.spv_module.specs.Operand.{PlainInst}
use Rattle.spv_extended.specs.Sets.{set_in}
use Rattle.spv_extended.specs.Opened.{opened_inst}
use Rattle.spv_extended.proofs.Once.{same_all, same_length, same_opcode, same_sum}
use Rattle.spv_extended.proofs.laws.opening_keeps.Goals as goal

pub returns-clause-count : goal.returns-clause-count
returns-clause-count c = λ is. length-map is (opened_inst (set_in is))

pub returns-clause-opcodes : goal.returns-clause-opcodes
returns-clause-opcodes c = λ is. same_all ℕ (λ (i : PlainInst). i.opcode) (opened_inst (set_in is)) (same_opcode (set_in is)) is

pub returns-clause-operands : goal.returns-clause-operands
returns-clause-operands c = λ is. same_all ℕ (λ (i : PlainInst). length i.operands) (opened_inst (set_in is)) (same_length (set_in is)) is

pub returns-clause-sums : goal.returns-clause-sums
returns-clause-sums c = λ measure a m is. same_all ℕ (λ (i : PlainInst). sum_by measure i.operands) (opened_inst (set_in is)) (same_sum measure a m (set_in is)) is
