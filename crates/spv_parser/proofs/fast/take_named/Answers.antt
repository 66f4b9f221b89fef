use Rattle.std.proofs.Common.{◌++◌, ◌∙◌, ap, sym}
use Rattle.spv_parser.proofs.Quick.{fast_named}
use Rattle.spv_parser.proofs.fast.take_named.Goals as goal

pub returns-clause-taken : goal.returns-clause-taken
returns-clause-taken c = λ line d h.
    let f = c.in-Some-find_named.ensures.found in
    fast_named c.args.table.now line d c.args.kind c.args.leaf c.args.rest.now c.in-Some.spaced.now
    c.split_token.result.0.now c.split_token.result.1.now f.operand c.in-Some-find_named.kinds.now _ _
    c.requires.form c.requires.named h c.in-Some.ensures c.split_token.ensures.token c.split_token.ensures.rest f.taken
    f.opened f.plain (c.in_ok-push.ensures.items ∙ ap (λ z. c.args.words.now.items ++ z) (sym f.words))
