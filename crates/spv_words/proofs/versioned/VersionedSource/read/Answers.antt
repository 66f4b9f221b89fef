use Rattle.std.proofs.lemmas.Bool.{iff_false}
use Rattle.spv_words.proofs.Replacing.{given_by, passed_by}
use Rattle.spv_words.proofs.versioned.VersionedSource.read.Goals as goal

pub returns-then-is_empty-clause-bytes : goal.returns-then-is_empty-clause-bytes
returns-then-is_empty-clause-bytes g c =
    passed_by c.begin.new.self.is_due _ _ _ c.begin.new.self.front _ _ c.in_ok-begin.ensures.done (c.is_empty.ensures.0 c.if-is_empty.true) c.in_ok-begin.ensures.kept c.read.ensures.bytes

pub returns-clause-bytes : goal.returns-clause-bytes
returns-clause-bytes g c = (
  given_by c.begin.new.self.is_due _ _ c.begin.new.self.front c.give.new.self _ c.in_ok-begin.ensures.done c.give.ensures.gives c.in_ok-begin.ensures.kept,
  λ z l. absurd (iff_false c.is_empty.ensures c.if-is_empty.false (c.give.ensures.some z l)),
)
