use Rattle.spv_layout.proofs.Singles.{flag_in, section_in, front_in, sorts_in}
use Rattle.spv_layout.proofs.rows.row_among.Goals as goal

pub returns-then-opcode-row-clause-single : goal.returns-then-opcode-row-clause-single
returns-then-opcode-row-clause-single c = flag_in c.args.rows.now c.loop-row.row-index _ c.requires c.loop-row-test.true

pub returns-then-opcode-row-clause-front : goal.returns-then-opcode-row-clause-front
returns-then-opcode-row-clause-front c = front_in c.args.rows.now c.loop-row.row-index _ c.requires c.loop-row-test.true

pub returns-then-opcode-row-clause-sorts : goal.returns-then-opcode-row-clause-sorts
returns-then-opcode-row-clause-sorts c = sorts_in c.args.rows.now c.loop-row.row-index _ c.requires c.loop-row-test.true

pub returns-then-opcode-row-clause-section : goal.returns-then-opcode-row-clause-section
returns-then-opcode-row-clause-section c = section_in c.args.rows.now c.loop-row.row-index _ c.requires c.loop-row-test.true
