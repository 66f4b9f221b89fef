use Rattle.serde_json.specs.Data.{no_members, put}
use Rattle.serde_json.proofs.Views.{get_member-put}
use Rattle.json_tree.proofs.laws.member_examples.Goals as goal

pub returns-clause-last : goal.returns-clause-last
returns-clause-last c = λ key first second. get_member-put key second (put key first no_members)
