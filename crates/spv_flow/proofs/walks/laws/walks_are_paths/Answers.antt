use Rattle.std.proofs.Common.{inr}
use Rattle.spv_flow.proofs.lemmas.walks.Walking.{use_ready, use_missing}
use Rattle.spv_flow.proofs.walks.laws.walks_are_paths.Goals as goal

pub returns-clause-ready : goal.returns-clause-ready
returns-clause-ready c =
    λ G is f starts graph b n x d past g i at available walk. use_ready G is f starts graph g b n x d i at
    (inr available) past walk

pub returns-clause-missing : goal.returns-clause-missing
returns-clause-missing c = λ G is f starts graph b n x d g i one apart m.
    let r = use_missing G is f starts graph g b n x d i one apart m in (r.past, r.walk, r.undefined)
