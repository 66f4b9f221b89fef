use Rattle.std.proofs.Common.{map}
use Rattle.spv_module.specs.Module.{plain_inst}
use Rattle.spv_run.proofs.Entries.{entry_function, of_run}
use Rattle.spv_run.proofs.whole.trace_function.Goals as goal

pub returns-clause-trace : goal.returns-clause-trace
returns-clause-trace c =
    let is = map plain_inst c.args.code.insts.now in
    let entry = c.is_entry.ensures.0 c.if-not-is_entry.false in
    record {
      entry = entry;
      run = λ G bound g s sound num d start.
          let function = entry_function is c.args.function g entry d in
          of_run G bound is g c.args.choices.now c.args.limit s c.in_ok-run_of.field-0 sound function start
          (c.in_ok-run_of.ensures G bound g s sound num function d start);
    }
