use Rattle.spv_form_evidence.proofs.lemmas.capabilities.Worked.{no_kernel, kernel, bit, covered_bit, model, addressing}
use Rattle.spv_form_evidence.proofs.lemmas.capabilities.Worked.{call, no_call}
use Rattle.spv_form_evidence.proofs.capabilities.laws.evidence_examples.Goals as goal

pub returns : goal.returns
returns c = record {
  no_kernel = no_kernel;
  kernel = kernel;
  bit = bit;
  covered_bit = covered_bit;
  model = model;
  addressing = addressing;
  call = call;
  no_call = no_call;
}
