-- Tests of what is kept of patterns: which have a result, and the fronts. (For the code alone.)
use Rattle.std.specs.Prelude.{ℕ, suc, List, [], ◌∷◌, Bool, true, false, not, ◌&&◌, nat_eq, length}
use Rattle.std.specs.List.{list_any}
use Rattle.spv_table.specs.declared.front.Front.{Front}
use Rattle.spv_table.specs.declared.front.Head.{Head}
use Rattle.spv_table.specs.declared.front.Head.TheVariants.{Nothing, Result, TypeAndResult}
use Rattle.spv_table.specs.declared.results.Results.{Results}
use Rattle.spv_table.specs.declared.table.Entry.{Entry}
use Rattle.spv_table.specs.Table.{Table, entry_of, pattern_of}
use Rattle.spv_table.specs.inner.Front.{entry_front}
use Rattle.spv_table.specs.inner.Results.{has_result}

-- are two truths, two heads, two fronts the same
abbrev pub same_truth : Bool → Bool → Bool
same_truth true b = b
same_truth false b = not b

abbrev pub same_head : Head → Head → Bool
same_head Nothing Nothing = true
same_head Nothing Result = false
same_head Nothing TypeAndResult = false
same_head Result Nothing = false
same_head Result Result = true
same_head Result TypeAndResult = false
same_head TypeAndResult Nothing = false
same_head TypeAndResult Result = false
same_head TypeAndResult TypeAndResult = true

abbrev pub same_front : Front → Front → Bool
same_front f g =
    same_head f.head g.head
    && (nat_eq f.singles g.singles && (same_truth f.repeated g.repeated && nat_eq f.least g.least))

-- do these tell of each entry whether its pattern has a result
unfoldable pub are_results : Table → List (ℕ × Entry) → List Results → Bool
are_results G [] [] = true
are_results G [] (r ∷ rs) = false
are_results G (e ∷ es) [] = false
are_results G (e ∷ es) (r ∷ rs) =
    same_truth r.always (list_any (has_result false G) (pattern_of e.1))
    && (same_truth r.ever (list_any (has_result true G) (pattern_of e.1)) && are_results G es rs)

-- are these the fronts of the opcodes from one on; are they those of the profile
unfoldable pub are_fronts_from : Table → ℕ → List Front → Bool
are_fronts_from G n [] = true
are_fronts_from G n (f ∷ fs) = same_front f (entry_front G (entry_of G n)) && are_fronts_from G (suc n) fs

unfoldable pub are_fronts : Table → List Front → Bool
are_fronts G fs = nat_eq (length fs) 331 && are_fronts_from G 0 fs
