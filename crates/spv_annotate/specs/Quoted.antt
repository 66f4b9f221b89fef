-- Where ids stand in a line: outside quotes. (Own.)
use Rattle.std.specs.Prelude.{◌==◌, ℕ, Bool, false, if◌then◌else◌}
use Rattle.spv_annotate.specs.declared.linked.Quoting.{Quoting}
use Rattle.spv_annotate.specs.declared.linked.Quoting.TheVariants.{Outside, Within, Behind, Commented}

-- where a reader of a line stands after one byte more: outside quotes, in them, or in them behind a `\`; or in a
-- comment, where a quote is like any other byte
abbrev pub after_byte : Quoting → ℕ → Quoting
after_byte Outside b = if b == 34 then Within else Outside
after_byte Within b = if b == 34 then Outside else (if b == 92 then Behind else Within)
after_byte Behind b = Within
after_byte Commented b = Commented

-- does an id begin with a byte: with a `%` outside quotes
abbrev pub begins_id : Quoting → ℕ → Bool
begins_id Outside b = b == 37
begins_id Commented b = b == 37
begins_id _ b = false
