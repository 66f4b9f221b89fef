use Rattle.std.proofs.Common.{refl}
use Rattle.spv_module.specs.Operand.{start}
use Rattle.spv_inst.proofs.Turns.{words_end}
use Rattle.spv_inst.proofs.instruction.read_further.Goals as goal

pub returns-then-is_read-clause-read : goal.returns-then-is_read-clause-read
returns-then-is_read-clause-read c = λ b pattern know s.
    let s1 = c.read_words-rest.ensures.sofar b pattern know s in
    let e = c.if-is_read.ensures refl in
    words_end c.args.scene.now.table.now (start b c.args.place.opcode) pattern _ _ _ _ _ _ _ s1 e.0 e.1

pub returns-then-is_read-2-clause-read : goal.returns-then-is_read-2-clause-read
returns-then-is_read-2-clause-read c = λ b pattern know s.
    let s1 = c.read_words-rest.ensures.sofar b pattern know s in
    let s2 = c.read_run-rest.ensures.sofar b pattern know s1 in
    let s3 = c.read_pairs-rest.ensures.sofar b pattern know s2 in
    let e = c.if-is_read-2.ensures refl in
    words_end c.args.scene.now.table.now (start b c.args.place.opcode) pattern _ _ _ _ _ _ _ s3 e.0 e.1

pub returns-clause-read : goal.returns-clause-read
returns-clause-read c = λ b pattern know s.
    let s1 = c.read_words-rest.ensures.sofar b pattern know s in
    let s2 = c.read_run-rest.ensures.sofar b pattern know s1 in
    let s3 = c.read_pairs-rest.ensures.sofar b pattern know s2 in
    c.read_rest.ensures.read b pattern know s3

pub returns-clause-misfit : goal.returns-clause-misfit
returns-clause-misfit c = λ b pattern know s.
    let s1 = c.read_words-rest.ensures.sofar b pattern know s in
    let s2 = c.read_run-rest.ensures.sofar b pattern know s1 in
    let s3 = c.read_pairs-rest.ensures.sofar b pattern know s2 in
    c.read_rest.ensures.misfit b pattern know s3
