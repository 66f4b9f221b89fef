use Rattle.spv_printer.proofs.shown.show.Goals as goal

pub show_listed-requires : goal.show_listed-requires
show_listed-requires c = (_, c.in_ok-image.ensures.spelled)
