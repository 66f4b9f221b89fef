-- How nodes are stored. (For the code alone.)
use Rattle.std.specs.Prelude.{ℕ, ◌+◌, ◌<◌, List, length, slice_range, slice_get, Option, Some, None}
use Rattle.std.specs.Str.{IsCharBoundary}
use Rattle.std.specs.Borrow.{Bor}
use Rattle.serde_json.specs.Data.{unsigned}
use Rattle.serde_json.specs.View.{number_view}
use Rattle.serde_json.specs.declared.number.Number.{Number}
use Rattle.json_tree.specs.View as seen
use Rattle.json_tree.specs.declared.content.Content.{Content}
use Rattle.json_tree.specs.declared.content.Content.TheVariants as is
use Rattle.json_tree.specs.declared.nodes.Stored.{Stored}
use Rattle.json_tree.specs.declared.nodes.Stored.TheVariants as stored

abbrev pub content_view : Content → seen.Content
content_view is.Null = seen.null
content_view (is.Bool b) = seen.boolean b
content_view (is.Number n) = seen.number (number_view n)
content_view (is.String s) = seen.string s.now
content_view (is.Array n) = seen.array n
content_view (is.Object n) = seen.object n

abbrev pub numbered : Option Number → seen.Content
numbered None = seen.null
numbered (Some n) = seen.number (number_view n)

abbrev pub text_of : Option (Bor (List ℕ)) → seen.Content
text_of None = seen.null
text_of (Some s) = seen.string s.now

-- what a stored node is, over the source, the numbers and the texts
abbrev pub content_of : List ℕ → List Number → List (Bor (List ℕ)) → Stored → seen.Content
content_of source numbers texts stored.Null = seen.null
content_of source numbers texts (stored.Bool b) = seen.boolean b
content_of source numbers texts (stored.Whole n) = seen.number (unsigned n)
content_of source numbers texts (stored.Number i) = numbered (slice_get numbers i)
content_of source numbers texts (stored.Near length start) = seen.string (slice_range source start (start + length))
content_of source numbers texts (stored.Far i) = text_of (slice_get texts i)
content_of source numbers texts (stored.Array n) = seen.array n
content_of source numbers texts (stored.Object n) = seen.object n

-- its place is one, and a text in the source stands between characters
abbrev pub IsStored : List ℕ → List Number → List (Bor (List ℕ)) → Stored → Type 0
IsStored source numbers texts stored.Null = Unit {0}
IsStored source numbers texts (stored.Bool b) = Unit {0}
IsStored source numbers texts (stored.Whole n) = Unit {0}
IsStored source numbers texts (stored.Number i) = i < length numbers
IsStored source numbers texts (stored.Near length start) =
    IsCharBoundary source start × IsCharBoundary source (start + length)
IsStored source numbers texts (stored.Far i) = i < length texts
IsStored source numbers texts (stored.Array n) = Unit {0}
IsStored source numbers texts (stored.Object n) = Unit {0}
