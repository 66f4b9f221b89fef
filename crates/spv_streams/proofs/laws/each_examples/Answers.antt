use Rattle.std.proofs.Common.{refl, codes, [], lit≤}
use Rattle.spv_commands.specs.Part.{IsPart}
use Rattle.spv_commands.proofs.Parts.{got_nothing}
use Rattle.spv_streams.specs.Each.{more, none}
use Rattle.spv_streams.specs.Each.{Ends}
use Rattle.spv_streams.proofs.Parts.{never_told, no_files}
use Rattle.spv_streams.proofs.laws.each_examples.Goals as goal

pub returns-clause-parts : goal.returns-clause-parts
returns-clause-parts c = λ G how. more (codes "a") _ _ 2 none (IsPart.unread refl refl refl refl)

pub returns-clause-no_parts : goal.returns-clause-no_parts
returns-clause-no_parts c = λ G how known. no_files G how known [] [] [] 2 refl refl

pub returns-clause-ends : goal.returns-clause-ends
returns-clause-ends c = λ text how known names.
    Ends.starved (got_nothing _ _).writes tt
    (record { whole = λ e. refl; begun = record { count = 13; fits = lit≤ tt; written = refl } }) refl

pub returns-clause-never_ends : goal.returns-clause-never_ends
returns-clause-never_ends c = λ text how known names status. never_told text how known names status
