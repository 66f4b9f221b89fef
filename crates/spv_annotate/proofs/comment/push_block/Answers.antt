use Rattle.std.proofs.Common.{◌≡◌, ◌++◌, ◌∙◌, List, ℕ, OnOk, map, string_bytes, subst, sym}
use Rattle.spv_module.specs.Module.{plain_inst}
use Rattle.spv_annotate.proofs.Leads.{block_told, same_number}
use Rattle.spv_annotate.proofs.comment.push_block.Goals as goal

pub returns : goal.returns
returns c =
    let is = map plain_inst c.args.insts.now in
    let x = c.in-Some.label in
    let d = sym (c.requires.firsts.definitions x)
    ∙ (sym c.get.ensures ∙ same_number c.get.result c.args.at (sym c.ne.ensures ∙ c.if-ne.false)) in
    let r = sym c.result_id.ensures ∙ c.in-Some.is in
    let e = block_told is c.args.at (plain_inst c.args.inst.now) x c.args.known.now.edges.edges.items
    c.if-inst-ne-LABEL.false r d c.requires.edges in
    subst (λ (z : List ℕ). OnOk c.push_predecessors.result
    (string_bytes c.push_predecessors.new.out ≡ string_bytes c.args.out.now ++ z)) e c.push_predecessors.ensures
