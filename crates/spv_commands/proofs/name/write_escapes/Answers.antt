use Rattle.std.proofs.Common.{◌≡◌, ◌++◌, ◌∷◌, [], rules}
use Rattle.spv_lines.specs.Plain.{escaped}
use Rattle.spv_commands.proofs.name.write_escapes.Goals as goal

pub returns : goal.returns
returns g c =
    let e : escaped c.args.first ++ escaped c.args.second ≡ 92 ∷ 120 ∷ c.digit.result ∷ c.digit-2.result
    ∷ 92 ∷ 120 ∷ c.digit-3.result ∷ c.digit-4.result ∷ [] = search rules in
    rw e c.write_on.ensures
