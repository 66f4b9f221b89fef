use Rattle.std.proofs.Common.{◌∙◌, map, subst, sym, List}
use Rattle.clap.specs.Words.{HasKind, Kinds, Text, subcommand_rows_of}
use Rattle.spv_command_line.proofs.Asking.{answered, refused}
use Rattle.spv_command_line.proofs.command_line.arguments_in.Goals as goal

pub returns-in-Err : goal.returns-in-Err
returns-in-Err c =
    let words : List Text = map (λ w. w.now) c.args.words.now in
    let reads = c.in_ok-program.ensures in
    rw (c.refusal.ensures, c.kind.ensures)
    (refused _ words _
    (subst (λ (ks : Kinds). HasKind ks c.in-Err.error) reads.faults (c.in-Err.ensures.kinds reads.free)))

pub returns : goal.returns
returns c =
    let words : List Text = map (λ w. w.now) c.args.words.now in
    let reads = c.in_ok-program.ensures in
    answered _ words (subcommand_rows_of c.in-Ok.matches) _ (sym reads.faults ∙ c.in-Ok.ensures.kinds reads.free)
    ((c.in-Ok.ensures.matches reads.simple).1 ∙ reads.found) c.command_in.ensures
