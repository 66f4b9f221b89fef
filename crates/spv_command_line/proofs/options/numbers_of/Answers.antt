use Rattle.clap.specs.Words.{found_of}
use Rattle.clap.proofs.WalkLemmas.{first_value-rows}
use Rattle.spv_command_line.proofs.Asking.{numbers_none, numbers_read}
use Rattle.spv_command_line.proofs.options.numbers_of.Goals as goal

pub returns-in-Some : goal.returns-in-Some
returns-in-Some c =
    let m = rw c.as_bytes.ensures.value at c.numbers_in.ensures in
    numbers_read c.numbers_in.result (λ v. v.items) c.get_str.result _ _ c.in-Some.text c.get_str.ensures (first_value-rows (found_of c.args.found.now) c.args.option.now) c.in-Some.is m

pub returns-in-None : goal.returns-in-None
returns-in-None c = numbers_none c.get_str.result _ _ _ c.get_str.ensures (first_value-rows (found_of c.args.found.now) c.args.option.now) c.in-None.is c.new.ensures.items
