use Rattle.std.proofs.Common.{◌∙◌, codes, sym, refl}
use Rattle.clap.specs.Words.{found_of}
use Rattle.clap.proofs.WalkLemmas.{first_value-rows}
use Rattle.spv_command_line.proofs.command_line.grammar_in.Goals as goal

pub returns : goal.returns
returns c = λ environment. (refl, sym (first_value-rows (found_of c.args.found.now) (codes "file")) ∙ sym c.get_str.ensures)
