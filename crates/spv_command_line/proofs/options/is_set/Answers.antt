use Rattle.clap.specs.Words.{found_of}
use Rattle.clap.proofs.WalkLemmas.{first_value-rows}
use Rattle.spv_command_line.proofs.Asking.{flag_none, flag_read}
use Rattle.spv_command_line.proofs.options.is_set.Goals as goal

pub returns-in-Some : goal.returns-in-Some
returns-in-Some c = flag_read c.get_str.result _ _ c.in-Some.text _ c.get_str.ensures (first_value-rows (found_of c.args.found.now) c.args.flag.now) c.in-Some.is c.is_true.ensures

pub returns-in-None : goal.returns-in-None
returns-in-None c = flag_none c.get_str.result _ _ c.get_str.ensures (first_value-rows (found_of c.args.found.now) c.args.flag.now) c.in-None.is
