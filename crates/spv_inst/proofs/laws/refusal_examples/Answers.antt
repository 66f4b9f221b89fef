use Rattle.spv_inst.proofs.Worked.{endless_refused, abc_fits, unknown_misfits, load_fits}
use Rattle.spv_inst.proofs.laws.refusal_examples.Goals as goal

pub returns : goal.returns
returns c = record { endless = endless_refused; fits = abc_fits; misfit = unknown_misfits; matched = load_fits }
