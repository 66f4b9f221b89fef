use Rattle.std.proofs.Common.{◌∙◌, ap, map}
use Rattle.std.specs.Prelude.{option_and_then}
use Rattle.spv_module.specs.Module.{plain_inst}
use Rattle.spv_annotate.specs.Module.{function_of}
use Rattle.spv_annotate.proofs.html_page.page_over.Goals as goal

pub page_by-requires-clause-known : goal.page_by-requires-clause-known
page_by-requires-clause-known c =
    let v = c.as_slice-insts.ensures.value in
    record {
      insts = ap (map plain_inst) v;
      definition = c.requires.definitions;
      naming = c.requires.firsts.namings;
      users = c.requires.uses;
      fault = c.fault_of.ensures;
      faulty = c.faulty_of.ensures ∙ ap (λ z. option_and_then (λ f. function_of (map plain_inst z) f.inst)
          c.args.finding) v;
      walked = c.in_ok-walk.ensures;
    }
