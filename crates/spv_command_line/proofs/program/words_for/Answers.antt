use Rattle.std.proofs.Common.{List, map, subst, sym}
use Rattle.std.proofs.lemmas.Result.{IfOk-weaker}
use Rattle.clap.specs.Words.{App, Text}
use Rattle.spv_command_line.specs.inner.Program.{ReadsAsProgram}
use Rattle.spv_command_line.proofs.OneCommand.{row_reads, whole_reads}
use Rattle.spv_command_line.proofs.program.words_for.Goals as goal

pub returns-in-Some : goal.returns-in-Some
returns-in-Some c =
    let words : List Text = map (λ w. w.now) c.args.words.now in
    IfOk-weaker c.words_of.result _ _
    (λ d h. subst (λ (a : App). ReadsAsProgram a words) (sym h)
    (row_reads c.in-Some.row.now words c.in-Some.ensures)) c.words_of.ensures

pub returns-in-None : goal.returns-in-None
returns-in-None c =
    let words : List Text = map (λ w. w.now) c.args.words.now in
    IfOk-weaker c.all_words.result _ _
    (λ d h. subst (λ (a : App). ReadsAsProgram a words) (sym h) (whole_reads words)) c.all_words.ensures
