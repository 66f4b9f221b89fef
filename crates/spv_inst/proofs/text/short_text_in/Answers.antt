use Rattle.std.proofs.Common.{◌<◌, ◌+◌, ◌-◌, length, take, refl}
use Rattle.spv_inst.proofs.TextOctets.{each_all}
use Rattle.spv_inst.proofs.ShortTexts.{short_utf8, short_takes}
use Rattle.spv_inst.proofs.text.short_text_in.Goals as goal

pub from_utf8_unchecked-requires : goal.from_utf8_unchecked-requires
from_utf8_unchecked-requires c =
    short_utf8 (take (length c.args.octets.now - 4 + c.in-Some.count) c.args.octets.now)
    (c.if-not-are_ascii.ensures.0 refl)

pub returns : goal.returns
returns c k =
    let below = each_all (λ b. b < 256) c.args.octets.now (λ i _. (c.type_inv.octets i).fits) in
    rw c.from_utf8_unchecked.ensures (short_takes k c.args.octets.now c.in-Some.count c.requires.whole below
    c.requires.some c.in-Some.ensures.0 c.in-Some.ensures.1 (c.if-not-are_ascii.ensures.0 refl))
