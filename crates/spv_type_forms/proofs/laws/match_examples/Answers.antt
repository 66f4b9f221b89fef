use Rattle.spv_type_forms.proofs.Twins.{structs_match, arrays_match, one_matches, no_more, no_struct, no_member}
use Rattle.spv_type_forms.proofs.laws.match_examples.Goals as goal

pub returns-clause-structs : goal.returns-clause-structs
returns-clause-structs c = structs_match

pub returns-clause-arrays : goal.returns-clause-arrays
returns-clause-arrays c = arrays_match

pub returns-clause-one : goal.returns-clause-one
returns-clause-one c = one_matches

pub returns-clause-more_members : goal.returns-clause-more_members
returns-clause-more_members c = no_more

pub returns-clause-no_struct : goal.returns-clause-no_struct
returns-clause-no_struct c = no_struct

pub returns-clause-member : goal.returns-clause-member
returns-clause-member c = no_member
