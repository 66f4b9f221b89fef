use Rattle.std.proofs.Common.{◌≡◌, ◌∙◌, sym, codes, map, None, Some, option_map}
use Rattle.std.specs.Option.{option_or}
use Rattle.clap.specs.Words.{all_of, first_of, found_of, rows_of}
use Rattle.clap.proofs.WalkLemmas.{first_value-rows, raw_values-rows}
use Rattle.spv_command_line.proofs.Asking.{asked_of, grammar_read, no_command_without_file}
use Rattle.spv_command_line.proofs.command_line.file_command_in.Goals as goal

pub returns-in_default : goal.returns-in_default
returns-in_default c =
    let rows = rows_of (found_of c.args.found.now) in
    let none : all_of (codes "file") rows ≡ None = sym (raw_values-rows (found_of c.args.found.now) (codes "file")) ∙ sym c.in_default.ensures in
    no_command_without_file _ c.args.name.now rows none c.requires

pub returns : goal.returns
returns c =
    let rows = rows_of (found_of c.args.found.now) in
    let grammar : option_or (first_of (codes "grammar") rows) (option_map (λ g. g.now) c.args.environment) ≡ option_map (λ g. g.now) c.or-grammar.result =
    sym (grammar_read c.get_str.result c.args.environment c.or-grammar.result _ (c.get_str.ensures ∙ first_value-rows (found_of c.args.found.now) (codes "grammar")) c.or-grammar.ensures) in
    let files : all_of (codes "file") rows ≡ Some (map (λ f. f.now) c.in-Some.files.now) = sym (raw_values-rows (found_of c.args.found.now) (codes "file")) ∙ sym c.in-Some.ensures in
    c.command_on.ensures (option_map (λ g. g.now) c.args.environment) (asked_of _ _ rows _ _ grammar files)
