use Rattle.clap.specs.Words.{found_of}
use Rattle.clap.proofs.WalkLemmas.{first_value-rows}
use Rattle.spv_command_line.proofs.Asking.{choice_if_none, choice_if_read}
use Rattle.spv_command_line.proofs.options.chosen_if_given.Goals as goal

pub returns-in-Some : goal.returns-in-Some
returns-in-Some c =
    choice_if_read c.get_str.result _ _ c.in-Some.text _ c.get_str.ensures (first_value-rows (found_of c.args.found.now) c.args.option.now) c.in-Some.is c.chosen_by.ensures

pub returns-in-None : goal.returns-in-None
returns-in-None c = choice_if_none c.get_str.result _ _ c.get_str.ensures (first_value-rows (found_of c.args.found.now) c.args.option.now) c.in-None.is
