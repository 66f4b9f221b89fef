use Rattle.spv_standard_evidence.proofs.Shown.{elsewhere, unnamed}
use Rattle.spv_standard_evidence.proofs.Worked.{equal_literals, high_scope, labels_are_none, late_opcode, low_scope}
use Rattle.spv_standard_evidence.proofs.Worked.{other_literals}
use Rattle.spv_standard_evidence.proofs.laws.evidence_examples.Goals as goal

pub returns-clause-scope : goal.returns-clause-scope
returns-clause-scope c = high_scope

pub returns-clause-no_scope : goal.returns-clause-no_scope
returns-clause-no_scope c = low_scope

pub returns-clause-twice : goal.returns-clause-twice
returns-clause-twice c = equal_literals

pub returns-clause-labels : goal.returns-clause-labels
returns-clause-labels c = labels_are_none

pub returns-clause-once : goal.returns-clause-once
returns-clause-once c = other_literals

pub returns-clause-unnamed : goal.returns-clause-unnamed
returns-clause-unnamed c = unnamed

pub returns-clause-elsewhere : goal.returns-clause-elsewhere
returns-clause-elsewhere c = elsewhere

pub returns-clause-opcode : goal.returns-clause-opcode
returns-clause-opcode c = late_opcode
