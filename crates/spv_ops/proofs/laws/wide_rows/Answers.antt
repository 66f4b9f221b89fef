use Rattle.spv_ops.specs.Table.{lines}
use Rattle.spv_ops.proofs.Parts.{phi_told, variable_told, chain_told, element_told, construct_told}
use Rattle.spv_ops.proofs.laws.wide_rows.Goals as goal

pub returns : goal.returns
unfolding lines
returns c = record {
  phi = λ is n i r ts. ((phi_told is n i r ts).1, (phi_told is n i r ts).0);
  variable = λ is n i r ts. ((variable_told is n i r ts).1, (variable_told is n i r ts).0);
  chain = λ is n i r ts. ((chain_told is n i r ts).1, (chain_told is n i r ts).0);
  element = λ is n i r ts. ((element_told is n i r ts).1, (element_told is n i r ts).0);
  construct = λ is n i r ts. ((construct_told is n i r ts).1, (construct_told is n i r ts).0);
}
