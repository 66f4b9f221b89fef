use Rattle.clap.specs.Words.{found_of}
use Rattle.clap.proofs.WalkLemmas.{first_value-rows}
use Rattle.spv_command_line.proofs.Asking.{number_none, number_read}
use Rattle.spv_command_line.proofs.options.number_of.Goals as goal

pub returns-in-Some : goal.returns-in-Some
returns-in-Some c =
    let m = rw c.as_bytes.ensures.value at c.number_in.ensures in
    number_read c.get_str.result _ _ c.in-Some.text c.number_in.result c.get_str.ensures (first_value-rows (found_of c.args.found.now) c.args.option.now) c.in-Some.is m

pub returns-in-None : goal.returns-in-None
returns-in-None c = λ n. number_none c.get_str.result _ _ n c.get_str.ensures (first_value-rows (found_of c.args.found.now) c.args.option.now) c.in-None.is
