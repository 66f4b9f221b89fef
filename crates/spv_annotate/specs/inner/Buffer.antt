-- Texts that are put together in a buffer. (For the code alone.)
use Rattle.std.specs.Prelude.{ℕ}

-- how many octets may stand on either side of a number
abbrev pub most_beside : ℕ
most_beside = 24
