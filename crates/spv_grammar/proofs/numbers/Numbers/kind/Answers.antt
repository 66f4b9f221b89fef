use Rattle.std.proofs.Common.{◌<◌, List, option_map, slice_get, length, ap, sym, refl, ◌∙◌, arith}
use Rattle.std.proofs.lemmas.Grind.{common_steps}
use Rattle.std.proofs.lemmas.Option.{slice_get_read, slice_get-map}
use Rattle.spv_grammar.specs.Kinds.{bears}
use Rattle.spv_grammar.specs.declared.file.FileKind.{FileKind}
use Rattle.spv_grammar.specs.declared.numbers.First.{First}
use Rattle.spv_table.proofs.Found.{found_at}
use Rattle.spv_grammar.proofs.numbers.Numbers.kind.Goals as goal

pub returns-in_err-number : goal.returns-in_err-number
returns-in_err-number c =
    let found = found_at (bears c.args.name.now) c.args.self.now _ c.in_err-number.ensures in
    rw c.from_residual.ensures (sym found)

pub returns : goal.returns
returns c =
    let found = found_at (bears c.args.name.now) c.args.self.now _ c.in_ok-number.ensures in
    let seen = λ (f : First). f.kind.now in
    let within : c.in_ok-number.number < length c.self.inside.kinds.items = grind (arith, common_steps) in
    let here = slice_get-map seen c.self.inside.kinds.items c.in_ok-number.number ∙ ap (option_map seen) (slice_get_read c.self.inside.kinds.items (length c.self.inside.kinds.items) c.in_ok-number.number c.index.result.now refl within c.index.ensures) in
    sym here ∙ ap (λ (ks : List FileKind). slice_get ks c.in_ok-number.number) c.self.view_is ∙ sym found
