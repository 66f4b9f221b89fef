use Rattle.std.proofs.Common.{◌∙◌, ◌<◌, sym, ap, arith, length}
use Rattle.std.proofs.lemmas.List.{length-map}
use Rattle.spv_module.specs.Module.{plain_inst}
use Rattle.spv_layout.proofs.Misfits.{inst_there}
use Rattle.spv_ids.proofs.survey.Survey.site.Goals as goal

pub returns-clause-site : goal.returns-clause-site
returns-clause-site c =
    let v = c.requires.survey in
    let w = v.within in
    let b = c.requires.below in
    let m = length-map c.args.self.now.insts.now plain_inst in
    let l : c.args.inst < length c.args.self.now.insts.now = omega arith in
    let p = v.places.place c.args.inst c.in-Some.place (sym c.at.ensures ∙ c.in-Some.is) in
    record {
      below = b;
      opcode = record {
        inst = plain_inst c.index-self-inst.result;
        there = inst_there c.args.self.now.insts.now c.args.inst c.index-self-inst.result l c.index-self-inst.is;
        same = ap (λ i. i.opcode) c.index-self-inst.is;
      };
      section = p.section;
      function = p.function;
    }
