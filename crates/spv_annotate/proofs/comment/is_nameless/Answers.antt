use Rattle.std.proofs.Common.{◌∙◌, sym}
use Rattle.spv_module.specs.Module.{plain_inst}
use Rattle.spv_annotate.proofs.Noteless.{naming_names_none, no_name_notes, not_so}
use Rattle.spv_annotate.proofs.comment.is_nameless.Goals as goal

pub returns-then-inst-eq-NAME : goal.returns-then-inst-eq-NAME
returns-then-inst-eq-NAME c = λ is k h. naming_names_none is (plain_inst c.args.inst.now) c.if-inst-eq-NAME.true

pub returns : goal.returns
returns c = λ is k h.
    no_name_notes is (plain_inst c.args.inst.now) (sym k.named ∙ not_so c.args.known.now.named h)
