use Rattle.std.proofs.Common.{◌≡◌, ◌∙◌, sym, codes, None, Some}
use Rattle.clap.specs.Words.{first_of, found_of, rows_of}
use Rattle.clap.proofs.WalkLemmas.{first_value-rows}
use Rattle.spv_command_line.proofs.Asking.{color_chosen, color_given, no_color_given}
use Rattle.spv_command_line.proofs.options.color_in.Goals as goal

pub returns-in_default : goal.returns-in_default
returns-in_default c =
    let text : first_of (codes "color") (rows_of (found_of c.args.found.now)) ≡ None =
    sym (first_value-rows (found_of c.args.found.now) (codes "color")) ∙ sym c.in_default.ensures in
    record { read = no_color_given _ text; refused = tt }

pub returns : goal.returns
returns c =
    let text : first_of (codes "color") (rows_of (found_of c.args.found.now)) ≡ Some c.in-Some.word.now =
    sym (first_value-rows (found_of c.args.found.now) (codes "color")) ∙ sym c.in-Some.ensures in
    let both = color_chosen c.color_named.result c.ok_or.result _ c.ok_or.ensures.value (color_given _ _ _ text c.color_named.ensures) in
    record { read = both.0; refused = both.1 }
