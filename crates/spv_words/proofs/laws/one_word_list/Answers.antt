use Rattle.std.proofs.Common.{arith}
use Rattle.spv_words.proofs.Standing.{one_telling, module-tells, module-long}
use Rattle.spv_words.proofs.laws.one_word_list.Goals as goal

pub returns-clause-order : goal.returns-clause-order
returns-clause-order c = λ o p bs ws vs m n.
    let l = module-long o bs ws m in
    one_telling o p bs ws vs (omega arith) (module-tells o bs ws m) (module-tells p bs vs n)
