use Rattle.std.proofs.Common.{◌≡◌, ◌++◌, ◌∙◌, ◌∷◌, [], List, ℕ, OnOk, ap, append_assoc, map, string_bytes, subst}
use Rattle.std.specs.Prelude.{decimal}
use Rattle.spv_module.specs.Module.{plain_inst}
use Rattle.spv_annotate.specs.Module.{inst_at, name_by}
use Rattle.spv_annotate.specs.Notes.{short_name}
use Rattle.spv_annotate.proofs.names.push_name.Goals as goal

pub returns : goal.returns
returns c =
    let old = string_bytes c.args.out.now in
    let id = decimal c.args.id in
    let name = short_name c.name_at.result.now in
    let told = short_name (name_by (inst_at (map plain_inst c.args.insts.now) c.args.naming)) in
    let e : string_bytes c.push_between.new.out ++ name ≡ old ++ (44 ∷ 32 ∷ 37 ∷ (id ++ (32 ∷ told))) =
    ap (λ z. z ++ name) c.in_ok-push_between.ensures
    ∙ (append_assoc old (44 ∷ 32 ∷ 37 ∷ (id ++ (32 ∷ []))) name
    ∙ (ap (λ z. old ++ (44 ∷ 32 ∷ 37 ∷ z)) (append_assoc id (32 ∷ []) name)
    ∙ ap (λ z. old ++ (44 ∷ 32 ∷ 37 ∷ (id ++ (32 ∷ short_name z)))) c.name_at.ensures)) in
    subst (λ (z : List ℕ). OnOk c.push_short.result (string_bytes c.push_short.new.out ≡ z)) e c.push_short.ensures
