use Rattle.std.proofs.Common.{◌≡◌, true, false, refl}
use Rattle.spv_declarations.specs.Table.{lines, never_on_members}
use Rattle.spv_declarations.proofs.Worked.{restrict_stands, void_not}
use Rattle.spv_declarations.proofs.laws.table_examples.Goals as goal

pub returns-clause-listed : goal.returns-clause-listed
unfolding lines
returns-clause-listed c = refl

pub returns-clause-not_listed : goal.returns-clause-not_listed
unfolding lines
returns-clause-not_listed c = refl

pub returns-clause-variable : goal.returns-clause-variable
returns-clause-variable c = restrict_stands

pub returns-clause-not_type : goal.returns-clause-not_type
unfolding lines
returns-clause-not_type c = void_not 19 refl refl

pub returns-clause-anything : goal.returns-clause-anything
unfolding lines
returns-clause-anything c = λ t. let no : false ≡ true = t in absurd (cc)

pub returns-clause-never : goal.returns-clause-never
unfolding never_on_members
returns-clause-never c = refl

pub returns-clause-member : goal.returns-clause-member
unfolding never_on_members
returns-clause-member c = λ t. let no : false ≡ true = t in cc
