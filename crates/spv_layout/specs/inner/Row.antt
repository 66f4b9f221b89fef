-- Rows of the table of shapes, by their letters. (Own.) (For the code alone.)
use Rattle.std.specs.Prelude.{ℕ, List, Option, Some, None, drop, if◌then◌else◌, length, nat_lt, slice_get}
use Rattle.spv_module.specs.declared.profile.Profile.TheVariants.{Own}
use Rattle.spv_layout.specs.declared.class.Class.{Class}
use Rattle.spv_layout.specs.declared.form.Role.TheVariants as role
use Rattle.spv_layout.specs.declared.form.Form.{Form}
use Rattle.spv_layout.specs.declared.form.Form.TheVariants as form
use Rattle.spv_layout.specs.declared.form.Named.{Named}
use Rattle.spv_layout.specs.declared.form.Ending as declared
use Rattle.spv_layout.specs.declared.form.Ending.TheVariants as code
use Rattle.spv_layout.specs.declared.form.Row as declared_row
use Rattle.spv_layout.specs.Row.{RowEnding, PlainRow, closed, file_and_text, maybe, maybe_others}
use Rattle.spv_layout.specs.Row.{maybe_repeated, others, repeated, row_in}

-- the row of a number, from 0, if there is a number and a row
abbrev pub numbered : List PlainRow → Option ℕ → Option PlainRow
numbered rows None = None
numbered rows (Some k) = slice_get rows k

-- the row of an opcode in a table: by its number, or, if it has none, the first behind the first k rows that has it
abbrev pub listed : List ℕ → List PlainRow → ℕ → ℕ → Option PlainRow
listed numbers rows k n =
    if nat_lt n (length numbers) then numbered rows (slice_get numbers n) else row_in (drop k rows) n

-- a row of the code
abbrev pub plain_ending : declared.Ending → RowEnding
plain_ending code.Closed = closed
plain_ending (code.Maybe f) = maybe f
plain_ending code.FileAndText = file_and_text
plain_ending (code.Repeated fs) = repeated fs.now
plain_ending code.Others = others
plain_ending (code.MaybeOthers f) = maybe_others f
plain_ending (code.MaybeRepeated f g) = maybe_repeated f g

abbrev pub plain_row : declared_row.Row → PlainRow
plain_row r =
    record {
      from = r.from;
      to = r.to;
      profile = r.profile;
      class = r.class;
      fixed = r.fixed.now;
      ending =
          plain_ending r.ending;
    }

-- a row of these that belongs to the profile that is not OpenCL's
abbrev pub row : ℕ → ℕ → Class → List Form → RowEnding → PlainRow
row from to class fixed ending =
    record { from = from; to = to; profile = Own; class = class; fixed = fixed; ending = ending }

-- the letters of src/rows.rt: a result type
abbrev pub T : Form
T = form.OfType

-- a result
abbrev pub R : Form
R = form.Result

-- a literal of one word
abbrev pub W : Form
W = form.Word

-- a literal whose width its type tells
abbrev pub N : Form
N = form.Number

-- a value or mask of a kind
abbrev pub kind : Named → Form
kind name = form.Kind name

-- the id of a type
abbrev pub t : Form
t = form.Id role.OfType

-- the id of a value
abbrev pub v : Form
v = form.Id role.Value

-- the id of a function
abbrev pub f : Form
f = form.Id role.Function

-- the id of a label
abbrev pub l : Form
l = form.Id role.Label
