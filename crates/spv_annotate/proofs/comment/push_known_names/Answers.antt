use Rattle.std.proofs.Common.{◌++◌, ◌∙◌, ap, append-nil, map, string_bytes, sym}
use Rattle.spv_module.specs.Module.{plain_inst}
use Rattle.spv_annotate.proofs.comment.push_known_names.Goals as goal

pub returns-then-is_nameless : goal.returns-then-is_nameless
returns-then-is_nameless c =
    let out = string_bytes c.args.out.now in
    let none = c.is_nameless.ensures (map plain_inst c.args.insts.now) c.requires c.if-is_nameless.true in
    sym (append-nil out) ∙ ap (λ z. out ++ z) (sym none)
