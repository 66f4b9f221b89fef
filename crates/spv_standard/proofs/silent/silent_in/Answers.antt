use Rattle.std.proofs.Common.{◌≡◌, ◌∙◌, sym, true}
use Rattle.spv_layout.specs.inner.Row.{plain_row}
use Rattle.spv_standard.specs.inner.Silent.{are_silent, is_silent_ending}
use Rattle.spv_standard.proofs.Silences.{all_silent, silent_operands, silent_taken, silent_fixed}
use Rattle.spv_standard.proofs.silent.silent_in.Goals as goal

pub returns-then-is_ending_silent : goal.returns-then-is_ending_silent
returns-then-is_ending_silent c = λ G i f k.
    let r = plain_row c.args.row.now in
    let a : are_silent r.fixed ≡ true = all_silent r.fixed (sym c.silent_front-front.ensures ∙ c.if-front-row.true) in
    let b : is_silent_ending r.ending ≡ true = sym c.is_ending_silent.ensures ∙ c.if-is_ending_silent.true in
    silent_taken 255 i.operands (silent_operands G i r k a b f)

pub returns-in-Ok : goal.returns-in-Ok
returns-in-Ok c = λ G i f k.
    let r = plain_row c.args.row.now in
    rw c.in-Ok.ensures.1 (rw c.silent_front-front.ensures (silent_fixed G i r k f))
