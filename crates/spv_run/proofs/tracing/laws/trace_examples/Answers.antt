use Rattle.std.proofs.Common.{[], ◌∷◌, refl}
use Rattle.spv_module.specs.Operand.{OfType, Result, Id, Mask}
use Rattle.spv_module.specs.declared.opcode.TheConstants as opcode
use Rattle.spv_type_forms.specs.Example.{inst}
use Rattle.spv_flow.specs.calls.Example.{entry}
use Rattle.spv_run.specs.Example.{standing}
use Rattle.spv_run.proofs.Worked.{starts, entered_void}
use Rattle.spv_run.proofs.Lone.{traced, entered_id}
use Rattle.spv_run.proofs.KernelRun.{trace_of}
use Rattle.spv_run.proofs.tracing.laws.trace_examples.Goals as goal

pub returns : goal.returns
returns c = record {
  run = λ G p t e steps ending. record {
    entry = rw e entered_id;
    function = 2;
    defined = rw e (record {
      inst = inst opcode.FUNCTION (OfType 1 ∷ Result 3 ∷ Mask 9 0 ∷ Id 2 ∷ []);
      there = refl;
      result = refl;
    });
    state = standing 3;
    start = rw e (starts (entry 3 ∷ []));
    run = rw e (traced G (entry 3 ∷ []) entered_void t steps ending);
  };
  no_entry = λ p choices limit t e told. c.promise_examples.ensures.no_entry (rw e at told.traced.entry);
  kernel = trace_of;
}
