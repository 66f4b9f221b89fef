use Rattle.spv_words.proofs.Replacing.{due_again}
use Rattle.spv_words.proofs.versioned.VersionedVersionSource.read_as_1_6.Goals as goal

pub returns-clause-bytes : goal.returns-clause-bytes
returns-clause-bytes g c = due_again c.args.self.now.is_due _
