-- Where a list stops to be a module, it does so where it is opened, too.
use Rattle.std.proofs.Common.{◌≡◌, ◌++◌, ◌∙◌, ℕ, List, [], ◌∷◌, map, length, sym, ap, subst}
use Rattle.std.proofs.lemmas.List.{length-map, map-append}
use Rattle.spv_table.specs.Table.{Table}
use Rattle.spv_module.specs.Operand.{PlainInst}
use Rattle.spv_module.specs.declared.profile.Profile.{Profile}
use Rattle.spv_layout.specs.declared.class.Class.{Class}
use Rattle.spv_module.specs.declared.fault.Rule.{Rule}
use Rattle.spv_module.specs.declared.fault.Rule.TheVariants.{L1, L2}
use Rattle.spv_extended.specs.declared.set.Set.{Set}
use Rattle.spv_extended.specs.Opened.{opened_inst}
use Rattle.spv_layout.specs.Broken.{Broken}
use Rattle.spv_layout.specs.DeadPlace.{IsDeadPlace}
use Rattle.spv_layout.specs.Layout.{IsLayout, BeginsLayout, class_under, seen_classes}
use Rattle.spv_layout.specs.Profile.{FitsProfile, has_row}
use Rattle.spv_layout.specs.Rows.{row_of}
use Rattle.spv_opening.proofs.Alike.{alike_opened, looks_opened, same_map}
use Rattle.spv_opening.proofs.Uses.{fits, opened_at}

same_classes : (p : Profile) (sets : ℕ → Set) (is : List PlainInst)
    → seen_classes p is ≡ seen_classes p (map (opened_inst sets) is)
same_classes p sets is =
    same_map Class (λ i. class_under p i.opcode) (λ i j l. ap (class_under p) l.opcode) is (map (opened_inst sets) is)
    (alike_opened sets is)

dead : (p : Profile) (sets : ℕ → Set) (is : List PlainInst) (r : Rule) (n : ℕ) → IsDeadPlace p is r n
    → IsDeadPlace p (map (opened_inst sets) is) r n
dead p sets _ _ _ (IsDeadPlace.misplaced before i later b never) =
    let f = opened_inst sets in
    let there = IsDeadPlace.misplaced (map f before) (f i) (map f later)
    (subst BeginsLayout (same_classes p sets before) b)
    (λ c. never (subst BeginsLayout (sym
    (same_classes p sets (before ++ (i ∷ [])) ∙ ap (seen_classes p) (map-append f before (i ∷ [])))) c)) in
    subst (λ ks. IsDeadPlace p ks L1 (length before)) (sym (map-append f before (i ∷ later)))
    (subst (λ k. IsDeadPlace p (map f before ++ (f i ∷ map f later)) L1 k) (length-map before f) there)
dead p sets _ _ _ (IsDeadPlace.unfinished is b never) =
    let f = opened_inst sets in
    let there = IsDeadPlace.unfinished (map f is) (subst BeginsLayout (same_classes p sets is) b)
    (λ c. never (subst IsLayout (sym (same_classes p sets is)) c)) in
    subst (λ k. IsDeadPlace p (map f is) L2 k) (length-map is f) there

-- an instruction that fits its row when it is opened fits it before
fits_profile : (p : Profile) (G : Table) (sets : ℕ → Set) (i : PlainInst) → FitsProfile p G (opened_inst sets i)
    → FitsProfile p G i
fits_profile p G sets i h = record {
  known = ap (λ (n : ℕ). has_row p (row_of n)) (looks_opened sets i).opcode ∙ h.known;
  shape = fits G sets i h.shape;
}

pub layout_broken : (p : Profile) (G : Table) (sets : ℕ → Set) (is : List PlainInst) (r : Rule) (n : ℕ)
    → Broken p G is r n
    → Broken p G (map (opened_inst sets) is) r n
layout_broken p G sets is _ _ (Broken.misfit i n e never) =
    Broken.misfit (opened_inst sets i) n (opened_at (opened_inst sets) is n i e) (λ h. never (fits_profile p G sets i h))
layout_broken p G sets is _ _ (Broken.dead r n d) = Broken.dead r n (dead p sets is r n d)
