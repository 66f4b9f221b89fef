-- Which patterns have the id of a result. (For the code alone.)
use Rattle.std.specs.Prelude.{ℕ, List, Option, Some, None, Bool, true, false, ◌&&◌}
use Rattle.std.specs.List.{list_any}
use Rattle.spv_table.specs.declared.table.Entry.{Entry}
use Rattle.spv_table.specs.declared.table.Quantifier.{Quantifier}
use Rattle.spv_table.specs.declared.table.Quantifier.TheVariants as quantifier
use Rattle.spv_table.specs.declared.form.Leaf.TheVariants as leaf
use Rattle.spv_table.specs.declared.form.Form.{Form}
use Rattle.spv_table.specs.declared.form.Form.TheVariants.{Leaf}
use Rattle.spv_table.specs.declared.results.Results.{Results}
use Rattle.spv_table.specs.Table.{Table, Item, One, Maybe, Many, kind_of, pattern_of}
use Rattle.spv_table.specs.inner.Form.{form_at}

-- is an item of a quantifier always there
abbrev pub is_one : Quantifier → Bool
is_one quantifier.One = true
is_one quantifier.Maybe = false
is_one quantifier.Many = false

-- does a form ask for the id of a result
abbrev pub is_result_form : Form → Bool
is_result_form (Leaf leaf.Result) = true
is_result_form _ = false

-- is a kind that of a result
abbrev pub is_result_kind : Table → ℕ → Bool
is_result_kind G k = is_result_form (form_at (kind_of G k))

-- does an item have a result: one that is always there, or with `may` another
abbrev pub has_result : Bool → Table → Item → Bool
has_result may G (One k) = is_result_kind G k
has_result may G (Maybe k) = may && is_result_kind G k
has_result may G (Many k) = may && is_result_kind G k

-- whether items have a result: among those that are always there, and among all
abbrev pub results_in : Table → List Item → Results
results_in G is = record { always = list_any (has_result false G) is; ever = list_any (has_result true G) is }

abbrev pub results_of : Table → Entry → Results
results_of G e = results_in G (pattern_of e)

-- whether an entry has a result: one that is always there, or with `may` another
abbrev pub entry_has_result : Bool → Table → Option Entry → Bool
entry_has_result may G None = false
entry_has_result may G (Some e) = list_any (has_result may G) (pattern_of e)
