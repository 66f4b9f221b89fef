use Rattle.std.proofs.Common.{◌≡◌, arith, take, drop, length, ◌++◌}
use Rattle.std.proofs.lemmas.Grind.{common_steps}
use Rattle.spv_words.specs.declared.words.Order.TheVariants.{Big}
use Rattle.spv_words.specs.Words.{StandFor, turned}
use Rattle.spv_words.proofs.Standing.{stands-turned}
use Rattle.spv_words.proofs.image.Image.into_octets.Goals as goal

pub returns-in-Big : goal.returns-in-Big
returns-in-Big c =
    let written : take c.self.inside.bytes.len (c.turn.new.bytes ++ drop (length c.turn.new.bytes) c.self.inside.bytes.items)
    ≡ c.turn.new.bytes = grind (arith, common_steps) in
    let s : StandFor Big (turned c.self.inside.bytes.items) c.args.self =
    stands-turned _ _ (rw c.self.view_is at c.self.invariant.stands) in
    rw (written, c.turn.ensures, c.as_mut_slice.ensures.value, c.in-Big.is) s
