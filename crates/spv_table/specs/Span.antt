-- The part of a list, or of a text, from a place on and before another: what there is of it. (Own.)
use Rattle.std.specs.Prelude.{List, slice_range}
use Rattle.spv_table.specs.declared.span.Span.{Span}

abbrev pub spanned : {T : Type 0} → List T → Span → List T
spanned list s = slice_range list s.0 s.1
