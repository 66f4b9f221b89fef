use Rattle.std.proofs.Common.{◌∙◌, ap, map}
use Rattle.std.specs.Prelude.{option_and_then}
use Rattle.spv_module.specs.Module.{plain_inst}
use Rattle.spv_annotate.specs.Module.{definition_of}
use Rattle.spv_annotate.specs.Page.{if_asked, users_of}
use Rattle.spv_annotate.proofs.Asked.{all_asked}
use Rattle.spv_annotate.proofs.Pages.{few}
use Rattle.spv_annotate.proofs.html_page.page.Goals as goal

pub new-requires : goal.new-requires
new-requires c = rw (c.as_slice-insts.ensures.value) c.requires.words

pub find_asked-requires-clause-few : goal.find_asked-requires-clause-few
find_asked-requires-clause-few c =
    rw (c.as_slice-insts.ensures.value) (few c.args.module.now.insts.items c.requires.words)

pub new-requires-2-clause-words : goal.new-requires-2-clause-words
new-requires-2-clause-words c = rw (c.as_slice-insts.ensures.value) c.requires.words
