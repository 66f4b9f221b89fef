use Rattle.std.proofs.Common.{inr, refl}
use Rattle.std.specs.Prelude.{slice_index}
use Rattle.spv_flow.proofs.lemmas.walks.Pairs.{pair_ready, pair_missing}
use Rattle.spv_flow.proofs.walks.laws.pairs_query_parents.Goals as goal

pub returns-clause-ready : goal.returns-clause-ready
returns-clause-ready c =
    λ G is f starts graph b h n x d parent before from g i phi here at available same. pair_ready G is f starts graph g
    b h n x d parent before i phi here at (inr available) from same

pub returns-clause-missing : goal.returns-clause-missing
returns-clause-missing c = λ G is f starts graph b h n x d g i phi inside label target one apart m.
    let r = pair_missing G is f starts graph g b h n x d
    (slice_index starts h) i phi inside refl label target one apart m in (r.before, r.comes, r.undefined)
