use Rattle.spv_printer.proofs.Encoded.{Put}
use Rattle.spv_printer.proofs.encoder.put_instructions.Given as goal

abbrev pub invariant-loop-number : goal.invariant-loop-number
invariant-loop-number l = Put l.table l.module.insts.items l.definitions l.module.header l.draft l.number
