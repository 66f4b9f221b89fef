use Rattle.spv_type_rules.proofs.constant.fits_width.Goals as goal
