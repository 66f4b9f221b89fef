use Rattle.std.proofs.Common.{◌≡◌, ◌∙◌, sym, codes, None, Some}
use Rattle.clap.specs.Words.{first_of, found_of, rows_of}
use Rattle.clap.proofs.WalkLemmas.{first_value-rows}
use Rattle.spv_command_line.proofs.Asking.{not_assembled}
use Rattle.spv_command_line.proofs.command_line.asm_in.Goals as goal

pub returns-in_default : goal.returns-in_default
returns-in_default c = λ environment e.
    let none : first_of (codes "out") (rows_of (found_of c.args.found.now)) ≡ None = sym (first_value-rows (found_of c.args.found.now) (codes "out")) ∙ sym c.in_default.ensures in
    not_assembled environment (rows_of (found_of c.args.found.now)) none

pub returns : goal.returns
returns c = λ environment e.
    let out : first_of (codes "out") (rows_of (found_of c.args.found.now)) ≡ Some c.in-Some.out.now = sym (first_value-rows (found_of c.args.found.now) (codes "out")) ∙ sym c.in-Some.ensures in
    (e, out, c.is_set.ensures, c.is_set-2.ensures, c.is_set-3.ensures)
