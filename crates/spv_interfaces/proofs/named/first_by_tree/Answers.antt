use Rattle.spv_interfaces.proofs.named.first_by_tree.Goals as goal

pub returns-then-rest-entries : goal.returns-then-rest-entries
returns-then-rest-entries c = λ G minor used all. c.in_ok-found.ensures G minor used all

pub returns : goal.returns
returns c = λ G minor used all. c.first_missing.ensures G minor used
