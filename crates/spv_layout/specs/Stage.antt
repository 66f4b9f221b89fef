-- The stages in which a module is looked at, in order. Each is a number, by which they are compared. (Own.)
use Rattle.std.specs.Prelude.{ℕ}

-- the instructions one by one: I
abbrev pub of_instructions : ℕ
of_instructions = 0

-- the profile: P
abbrev pub of_profile : ℕ
of_profile = 1

-- the layout: L
abbrev pub of_layout : ℕ
of_layout = 2

-- the ids: D
abbrev pub of_ids : ℕ
of_ids = 3

-- their roles: Y1
abbrev pub of_roles : ℕ
of_roles = 4

-- capabilities, entry points and types: C, M, E and the other rules Y
abbrev pub of_types : ℕ
of_types = 5

-- where branches lead: F
abbrev pub of_branches : ℕ
of_branches = 6

-- values on every walk: A
abbrev pub of_values : ℕ
of_values = 7

-- cycles of calls: G
abbrev pub of_calls : ℕ
of_calls = 8

-- what extended instructions take: Y9
abbrev pub of_extended : ℕ
of_extended = 9

-- which types instructions of OpenCL.std take and return: Y10
abbrev pub of_std_types : ℕ
of_std_types = 10

-- what the standard asks of a kernel of OpenCL besides: O
abbrev pub of_standard : ℕ
of_standard = 11
