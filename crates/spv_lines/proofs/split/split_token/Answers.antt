use Rattle.std.proofs.Common.{◌∙◌, sym}
use Rattle.spv_lines.proofs.Reader.{token_some, token_none}
use Rattle.spv_lines.proofs.split.split_token.Goals as goal

pub returns-in-Some-clause-token : goal.returns-in-Some-clause-token
returns-in-Some-clause-token c =
    let m = rw c.as_bytes.ensures.value at c.in-Some.ensures in
    c.split_before.ensures.front ∙ sym (token_some c.args.text.now c.in-Some.at m).0

pub returns-in-Some-clause-rest : goal.returns-in-Some-clause-rest
returns-in-Some-clause-rest c =
    let m = rw c.as_bytes.ensures.value at c.in-Some.ensures in
    c.split_before.ensures.back ∙ sym (token_some c.args.text.now c.in-Some.at m).1

pub returns-in-None-clause-token : goal.returns-in-None-clause-token
returns-in-None-clause-token c =
    let m = rw c.as_bytes.ensures.value at c.in-None.ensures in
    sym (token_none c.args.text.now m).0

pub returns-in-None-clause-rest : goal.returns-in-None-clause-rest
returns-in-None-clause-rest c =
    let m = rw c.as_bytes.ensures.value at c.in-None.ensures in
    sym (token_none c.args.text.now m).1
