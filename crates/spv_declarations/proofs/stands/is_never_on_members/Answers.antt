use Rattle.std.proofs.Common.{◌≡◌, ◌∙◌, sym}
use Rattle.spv_declarations.specs.Table.{is_among, never_on_members}
use Rattle.spv_declarations.proofs.stands.is_never_on_members.Goals as goal

pub returns : goal.returns
unfolding never_on_members
returns c =
    let e : c.is_among.result ≡ is_among never_on_members c.args.d = c.is_among.ensures in
    (λ t. sym e ∙ t, λ t. e ∙ t)
