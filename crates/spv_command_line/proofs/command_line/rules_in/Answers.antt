use Rattle.std.proofs.Common.{◌≡◌, ◌∙◌, sym, refl, codes, None, Some}
use Rattle.clap.specs.Words.{first_of, found_of, rows_of}
use Rattle.clap.proofs.WalkLemmas.{first_value-rows}
use Rattle.spv_command_line.proofs.Asking.{code_known, code_unknown, no_code, not_ruled}
use Rattle.spv_command_line.proofs.command_line.rules_in.Goals as goal

pub returns-in_default : goal.returns-in_default
returns-in_default c = λ environment.
    let text : first_of (codes "code") (rows_of (found_of c.args.found.now)) ≡ None =
    sym (first_value-rows (found_of c.args.found.now) (codes "code")) ∙ sym c.in_default.ensures in
    record { asked = refl; code_is = no_code _ text; json_is = c.is_set-json.ensures }

pub returns-in-Some-named : goal.returns-in-Some-named
returns-in-Some-named c = λ environment.
    let text : first_of (codes "code") (rows_of (found_of c.args.found.now)) ≡ Some c.in-Some.name.now =
    sym (first_value-rows (found_of c.args.found.now) (codes "code")) ∙ sym c.in-Some.ensures in
    record { asked = refl; code_is = code_known _ _ _ text c.in-Some-named.ensures; json_is = c.is_set-json.ensures }

pub returns-in-None : goal.returns-in-None
returns-in-None c = λ environment.
    let text : first_of (codes "code") (rows_of (found_of c.args.found.now)) ≡ Some c.in-Some.name.now =
    sym (first_value-rows (found_of c.args.found.now) (codes "code")) ∙ sym c.in-Some.ensures in
    not_ruled environment (rows_of (found_of c.args.found.now)) (code_unknown _ _ text c.in-None.ensures)
