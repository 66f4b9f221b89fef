-- A scene for worked examples. (Own.)
use Rattle.std.specs.Prelude.{ℕ, [], Some, None, false}
use Rattle.spv_annotate.specs.Page.{Scene}

-- of no instruction, id and walk is anything known, but that an instruction is that of the fault, and of its function
abbrev pub nothing_known : ℕ → Scene
nothing_known n = record {
  insts = [];
  definition = λ x. None;
  naming = λ x. None;
  users = λ x. [];
  fault = Some n;
  faulty = Some n;
  walked = λ x. false;
}
