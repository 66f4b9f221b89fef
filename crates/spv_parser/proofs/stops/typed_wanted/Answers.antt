use Rattle.spv_parser.proofs.stops.typed_wanted.Goals as goal

pub returns : goal.returns
returns c = λ before h. rw (← c.width_of.ensures before h, ← c.is_float.ensures before h) c.number_wanted.ensures
