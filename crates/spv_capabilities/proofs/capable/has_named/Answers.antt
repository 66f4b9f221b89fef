use Rattle.std.proofs.Common.{◌≡◌, ◌<◌, ◌+◌, ◌∷◌, length, get_or, drop, ap, ◌∙◌, suc, arith}
use Rattle.std.proofs.lemmas.Grind.{common_steps}
use Rattle.std.proofs.lemmas.Option.{get_or_from_slice_get}
use Rattle.std.proofs.Math.Seq.{drop-cons}
use Rattle.spv_capabilities.proofs.capable.has_named.Goals as goal
use Rattle.spv_capabilities.proofs.capable.has_named.Goals.{After-has_name}

-- the names from one on begin with it
from_here : (c : After-has_name)
    → drop c.loop-place.place c.args.names.now ≡ c.name.result.now ∷ drop (c.loop-place.place + 1) c.args.names.now
from_here c =
    let names = c.args.names.now in
    let place = c.loop-place.place in
    let name = c.name.result.now in
    let within : place < length names = omega arith in
    drop-cons names place name within ∙ ap (λ k. get_or names place name ∷ drop k names) {x = suc place} {y = place + 1}
    (omega arith) ∙ ap (λ n. n ∷ drop (place + 1) names)
    (get_or_from_slice_get names place name name c.name.ensures)

pub returns-then-has_name : goal.returns-then-has_name
returns-then-has_name c =
    let k = rw (from_here (goal.at.returns-then-has_name c).After-has_name) at c.loop-place.invariant in
    grind (arith, common_steps, k)

pub loop-place-preserved : goal.loop-place-preserved
loop-place-preserved c =
    let k = rw (from_here (goal.at.loop-place-preserved c).After-has_name) at c.loop-place.invariant in
    grind (arith, common_steps, k)
