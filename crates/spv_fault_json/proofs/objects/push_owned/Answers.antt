use Rattle.spv_fault_json.proofs.objects.push_owned.Goals as goal

pub returns-in-Id : goal.returns-in-Id
returns-in-Id c = λ shown are. rw c.in-Id.is (c.push_owned_id.ensures shown)
