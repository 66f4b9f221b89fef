use Rattle.spv_lines.proofs.number.read_sized.Goals as goal

pub returns-then-width-le32 : goal.returns-then-width-le32
returns-then-width-le32 c =
    λ G k. rw c.if-hexadecimal.true (c.read_narrow_hexadecimal.ensures G k c.args.width c.if-width-le32.true)

pub returns-then-hexadecimal : goal.returns-then-hexadecimal
returns-then-hexadecimal c =
    λ G k. rw c.if-hexadecimal.true (c.read_wide_hexadecimal.ensures G k c.args.width c.if-width-le32.false)

pub returns-then-width-le32-2 : goal.returns-then-width-le32-2
returns-then-width-le32-2 c =
    λ G k. rw c.if-hexadecimal.false (c.read_narrow.ensures G k c.args.width c.if-width-le32-2.true)

pub returns : goal.returns
returns c = λ G k. rw c.if-hexadecimal.false (c.read_wide.ensures G k c.args.width c.if-width-le32-2.false)
