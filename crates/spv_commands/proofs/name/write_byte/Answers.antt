use Rattle.std.proofs.Common.{◌≡◌, ◌∷◌, [], rules}
use Rattle.spv_commands.specs.Name.{shown_byte}
use Rattle.spv_commands.proofs.name.write_byte.Goals as goal

pub returns-then-byte-lt32 : goal.returns-then-byte-lt32
returns-then-byte-lt32 g c =
    let e : shown_byte c.args.byte ≡ 92 ∷ 120 ∷ c.digit.result ∷ c.digit-then-byte-lt32.result ∷ [] = search rules in
    rw e c.write_on.ensures

pub returns-then-byte-eq92 : goal.returns-then-byte-eq92
returns-then-byte-eq92 g c =
    let e : shown_byte c.args.byte ≡ 92 ∷ 92 ∷ [] = search rules in
    rw e c.write_on-then-byte-eq92.ensures

pub returns : goal.returns
returns g c =
    let e : shown_byte c.args.byte ≡ c.args.byte ∷ [] = search rules in
    rw e c.write_on-2.ensures
