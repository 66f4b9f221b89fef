-- What a page's look is of. (For the code alone.)
use Rattle.std.specs.Prelude.{map, is_some}
use Rattle.spv_module.specs.Module.{plain_inst}
use Rattle.spv_annotate.specs.declared.look.Look.{Look}
use Rattle.spv_annotate.specs.inner.Edges.{leading}
use Rattle.spv_annotate.specs.inner.Numbers.{kept}
use Rattle.spv_annotate.specs.Page.{Scene}

abbrev pub scene : Look → Scene
scene l = record {
  insts = map plain_inst l.insts.now;
  definition = kept l.definitions.now;
  naming = kept l.namings.now;
  users = λ x. leading x l.uses.now.edges.items;
  fault = l.fault;
  faulty = l.faulty;
  walked = λ x. is_some (kept l.walk.now x);
}
