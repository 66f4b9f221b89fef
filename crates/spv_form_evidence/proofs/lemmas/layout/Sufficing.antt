-- Evidence shows that the rule is broken.
use Rattle.std.proofs.Common.{◌≡◌, ◌∙◌, ◌++◌, ◌+◌, ℕ, zero, suc, List, [], ◌∷◌, refl, sym, ap, subst, Bool}
use Rattle.std.proofs.Common.{Some, length, take, drop, arith}
use Rattle.std.specs.Prelude.{slice_get}
use Rattle.std.specs.List.{Contains}
use Rattle.std.proofs.lemmas.List.{map-append, length-take-le}
use Rattle.std.proofs.lemmas.Option.{slice_get_within}
use Rattle.spv_table.specs.Table.{Table}
use Rattle.spv_module.specs.Operand.{PlainInst}
use Rattle.spv_module.specs.declared.profile.Profile.{Profile}
use Rattle.spv_module.specs.declared.fault.Rule.{Rule}
use Rattle.spv_module.specs.declared.fault.Rule.TheVariants.{L1, L2}
use Rattle.spv_layout.specs.Broken.{Broken}
use Rattle.spv_layout.specs.DeadPlace.{IsDeadPlace}
use Rattle.spv_layout.specs.Layout.{BeginsLayout, class_under, seen_classes}
use Rattle.spv_evidence.specs.declared.evidence.Evidence.{Evidence}
use Rattle.spv_form_evidence.specs.layout.Evidence.{AreToCome, IsEvidence}
use Rattle.spv_form_evidence.proofs.lemmas.layout.States.{known_class}

-- a list up to an element of it, and from it on
pub cut : {A : Type 0} (xs : List A) (n : ℕ) (x : A) → slice_get xs n ≡ Some x → xs ≡ take n xs ++ (x ∷ drop (n + 1) xs)
cut [] n x h = cc
cut (y ∷ ys) zero x h = let e : y ≡ x = cc in rw e refl
cut (y ∷ ys) (suc n) x h =
    let e : suc n + 1 ≡ suc (n + 1) = omega arith in
    let d : drop (suc n + 1) (y ∷ ys) ≡ drop (n + 1) ys = rw e refl in
    ap (λ l. y ∷ l) (cut ys n x h ∙ ap (λ l. take n ys ++ (x ∷ l)) (sym d))

pub length_before : {A : Type 0} (xs : List A) (n : ℕ) (x : A) → slice_get xs n ≡ Some x → length (take n xs) ≡ n
length_before xs n x h = let l = slice_get_within xs n x h in length-take-le n xs (omega arith)

pub one_more : (p : Profile) (before : List PlainInst) (i : PlainInst)
    → seen_classes p (before ++ (i ∷ [])) ≡ seen_classes p before ++ (class_under p i.opcode ∷ [])
one_more p before i = map-append (λ (j : PlainInst). class_under p j.opcode) before (i ∷ [])

misplaced : (p : Profile) (is before : List PlainInst) (i : PlainInst) (n : ℕ) (opcodes : List ℕ) (end : Bool)
    → slice_get is n ≡ Some i → before ≡ take n is
    → AreToCome p before opcodes end → ¬ (Contains opcodes i.opcode) → IsDeadPlace p is L1 n
misplaced p is before i n opcodes end h e a none =
    let begun : ¬ (BeginsLayout (seen_classes p (before ++ (i ∷ [])))) = λ b.
    let c : BeginsLayout (seen_classes p before ++ (class_under p i.opcode ∷ [])) = subst BeginsLayout
    (one_more p before i) b in
    none ((a.each i.opcode).1 (record { row = known_class p (seen_classes p before) i.opcode c; begins = c })) in
    let d : IsDeadPlace p (before ++ (i ∷ drop (n + 1) is)) L1 (length before) =
    IsDeadPlace.misplaced before i (drop (n + 1) is) a.begun begun in
    let whole : before ++ (i ∷ drop (n + 1) is) ≡ is = ap (λ b. b ++ (i ∷ drop (n + 1) is)) e ∙ sym (cut is n i h) in
    let place : length before ≡ n = ap length e ∙ length_before is n i h in
    subst (λ k. IsDeadPlace p is L1 k) place (subst (λ l. IsDeadPlace p l L1 (length before)) whole d)

pub suffices : (p : Profile) (G : Table) (is : List PlainInst) (r : Rule) (n : ℕ) (e : Evidence)
    → IsEvidence p G is r n e → Broken p G is r n
suffices p G is _ _ _ (IsEvidence.misfit i n known h k f) = Broken.misfit i n h f
suffices p G is _ _ _ (IsEvidence.misplaced i n opcodes end h a none) =
    Broken.dead L1 n (misplaced p is (take n is) i n opcodes end h refl a none)
suffices p G is _ _ _ (IsEvidence.unfinished opcodes a) =
    Broken.dead L2 (length is) (IsDeadPlace.unfinished is a.begun (λ l. let f = a.whole.1 l in absurd cc))
