use Rattle.spv_flow.proofs.lemmas.calls.Worked.{called_3, label_no_call, never_calls, entry_0, no_entry, chain_6}
use Rattle.spv_flow.proofs.lemmas.calls.Worked.{no_chain, inside, outside, unreached}
use Rattle.spv_flow.proofs.calls.laws.call_examples.Goals as goal

pub returns : goal.returns
returns c = record {
  called = called_3;
  not_called = label_no_call;
  calls = record { place = 3; call = called_3 };
  never_calls = never_calls;
  entry = entry_0;
  no_entry = no_entry;
  chain = chain_6;
  no_chain = no_chain;
  broken = inside;
  outside = outside;
  not_reached = unreached;
}
