-- What is evidence for a rule shows that the rule is broken.
use Rattle.std.proofs.Common.{ℕ, List}
use Rattle.spv_table.specs.Table.{Table}
use Rattle.spv_module.specs.Operand.{PlainInst}
use Rattle.spv_module.specs.declared.fault.Rule.{Rule}
use Rattle.spv_evidence.specs.declared.evidence.Evidence.{Evidence}
use Rattle.spv_ids.specs.Broken as ids
use Rattle.spv_type_rules.specs.roles.Broken as roles
use Rattle.spv_form_evidence.specs.ids.Evidence as by_ids
use Rattle.spv_form_evidence.specs.ids.Roles as by_roles

pub ids_suffice : (G : Table) (bound : ℕ) (is : List PlainInst) (r : Rule) (n : ℕ) (e : Evidence)
    → by_ids.IsEvidence G bound is r n e → ids.Broken G bound is r n
ids_suffice G bound is _ _ _ (by_ids.IsEvidence.result_out_of_range n k x d o) =
    ids.Broken.result_out_of_range n x d.defined o
ids_suffice G bound is _ _ _ (by_ids.IsEvidence.use_out_of_range n k x r u o) = ids.Broken.use_out_of_range n k x r u o
ids_suffice G bound is _ _ _ (by_ids.IsEvidence.mention_out_of_range n k x m o) =
    ids.Broken.mention_out_of_range n k x m o
ids_suffice G bound is _ _ _ (by_ids.IsEvidence.defined_again n m x d l e) = ids.Broken.defined_again n m x d l e
ids_suffice G bound is _ _ _ (by_ids.IsEvidence.undefined n k x r u h) = ids.Broken.undefined n k x r u h
ids_suffice G bound is _ _ _ (by_ids.IsEvidence.mention_undefined n k x m h) = ids.Broken.mention_undefined n k x m h
ids_suffice G bound is _ _ _ (by_ids.IsEvidence.not_in_order n k x m r u o h d) = ids.Broken.not_in_order n k x r u o h
ids_suffice G bound is _ _ _ (by_ids.IsEvidence.not_in_scope n k x m f r u s l h) =
    ids.Broken.not_in_scope n k x r u s (f, l.local) h

pub roles_suffice : (G : Table) (is : List PlainInst) (r : Rule) (n : ℕ) (e : Evidence) → by_roles.IsEvidence G is r n e
    → roles.Broken G is r n
roles_suffice G is _ _ _ (by_roles.IsEvidence.miscast n k x m r u h d) = roles.Broken.miscast n k x r u h
