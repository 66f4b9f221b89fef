use Rattle.std.proofs.Common.{arith, ◌≡◌, length}
use Rattle.std.proofs.lemmas.Result.{on_ok_weaker}
use Rattle.spv_words.specs.declared.words.Order.TheVariants.{Big}
use Rattle.spv_words.specs.Words.{StandFor, turned}
use Rattle.spv_words.proofs.Standing.{stands-turned, stands-groups, length-turned}
use Rattle.spv_words.proofs.Written.{holds_all, holds_begun}
use Rattle.spv_words.proofs.writing.write_image.Goals as goal

pub returns-in-Big-clause-all : goal.returns-in-Big-clause-all
returns-in-Big-clause-all g c =
    let s : StandFor Big (turned c.octets-octets.result.now) c.args.image.now = stands-turned _ _ c.octets-octets.ensures.stands in
    rw c.in-Big.is (on_ok_weaker c.write_turned.result (λ a. holds_all Big _ _ _ _ s a) c.write_turned.ensures.all)

pub returns-in-Big-clause-begun : goal.returns-in-Big-clause-begun
returns-in-Big-clause-begun g c =
    let s : StandFor Big (turned c.octets-octets.result.now) c.args.image.now = stands-turned _ _ c.octets-octets.ensures.stands in
    let long : length (turned c.octets-octets.result.now) ≡ length c.octets-octets.result.now = length-turned _ (stands-groups _ _ _ c.octets-octets.ensures.stands) in
    rw c.in-Big.is (holds_begun Big _ _ _ _ (length c.octets-octets.result.now) (omega arith) s c.write_turned.ensures.begun)
