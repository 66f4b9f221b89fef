-- What is to be written. (For the code alone.)
use Rattle.std.specs.Prelude.{ℕ, List}
use Rattle.spv_module.specs.Module.{plain_insts}
use Rattle.spv_annotate.specs.declared.writer.Task.{Task}
use Rattle.spv_annotate.specs.Document.{Subject, told_header}
use Rattle.spv_annotate.specs.inner.Values.{value_in}

-- what a task asks to be written, where these are the lines of the instructions
abbrev pub subject_of : Task → List (List ℕ) → Subject
subject_of t lines = record {
  header = told_header t.reach t.module.now.header;
  insts = plain_insts t.module.now;
  lines = lines;
  values = value_in t.known.now.values;
  finding = t.finding;
  asked = t.function;
}
