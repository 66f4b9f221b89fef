use Rattle.std.proofs.Common.{subst}
use Rattle.spv_extended.specs.declared.reach.Reach.{Reach}
use Rattle.spv_words.specs.Version.{as_1_6}
use Rattle.spvk.specs.Make.{Makes}
use Rattle.spvk.specs.Show.{IsShowing}
use Rattle.spvk.proofs.Showings.{shown_for_opencl}
use Rattle.spvk.proofs.showing.show_opencl_by.Goals as goal

pub returns : goal.returns
returns c =
    shown_for_opencl c.args.table.now c.args.bytes.now _ _ _
    (subst (λ (reach : Reach). Makes (IsShowing c.args.table.now reach (as_1_6 c.args.bytes.now)) c.args.text.now
    c.put_as_1_6.new.text c.put_as_1_6.result) c.reach-reach.ensures c.put_as_1_6.ensures)
