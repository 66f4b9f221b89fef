use Rattle.spv_parser.proofs.token.read_typed.Goals as goal

pub returns : goal.returns
returns c = λ before G k h. rw (← c.width_of.ensures before h, ← c.is_float.ensures before h)
    (c.read_number.ensures G k)
