-- What is told at the instruction at which a rule is broken.
use Rattle.std.proofs.Common.{◌≡◌, ◌++◌, ◌<◌, ◌≤◌, ℕ, List, [], ◌∷◌, refl, sym, subst, Bool, true}
use Rattle.std.proofs.Common.{false, Option, Some, length, take, map, arith}
use Rattle.std.specs.Prelude.{slice_get}
use Rattle.std.proofs.lemmas.List.{length-map, length-append, take-map}
use Rattle.std.proofs.lemmas.Option.{slice_get_within}
use Rattle.std.proofs.Math.Seq.{take-append_seam, take-length}
use Rattle.spv_table.specs.Table.{Table}
use Rattle.spv_module.specs.Operand.{PlainInst}
use Rattle.spv_module.specs.declared.profile.Profile.{Profile}
use Rattle.spv_module.specs.declared.module.Inst.{Inst}
use Rattle.spv_module.specs.Module.{plain_inst}
use Rattle.spv_module.specs.declared.fault.Rule.{Rule}
use Rattle.spv_module.specs.declared.fault.Rule.TheVariants.{P1, L2}
use Rattle.spv_layout.specs.Broken.{Broken}
use Rattle.spv_layout.specs.DeadPlace.{IsDeadPlace}
use Rattle.spv_layout.specs.Layout.{BeginsLayout, IsLayout, class_under, seen_classes}
use Rattle.spv_layout.specs.Profile.{FitsProfile}
use Rattle.spv_evidence.specs.declared.evidence.Evidence.{Evidence}
use Rattle.spv_evidence.specs.declared.evidence.Evidence.TheVariants.{Shape, MayCome}
use Rattle.spv_form_evidence.specs.layout.Evidence.{AreToCome, IsEvidence}
use Rattle.spv_form_evidence.specs.layout.inner.Told.{IsMayCome, IsShapeOf}
use Rattle.spv_form_evidence.proofs.lemmas.layout.Sufficing.{one_more}

-- where P1 is broken there is an instruction that does not fit
pub record IsMisfit (p : Profile) (G : Table) (is : List PlainInst) (n : ℕ) : Type 0 where
  pub inst : PlainInst
  pub there : slice_get is n ≡ Some inst
  pub misfit : ¬ (FitsProfile p G inst)

not_p1 : (p : Profile) (is : List PlainInst) (r : Rule) (n : ℕ) → IsDeadPlace p is r n → r ≡ P1 → ⊥
not_p1 p _ _ _ (IsDeadPlace.misplaced before i later b d) e = cc
not_p1 p _ _ _ (IsDeadPlace.unfinished is b d) e = cc

pub misfit_at : (p : Profile) (G : Table) (is : List PlainInst) (r : Rule) (n : ℕ) → Broken p G is r n → r ≡ P1 → IsMisfit p G is n
misfit_at p G is _ _ (Broken.misfit i n h f) e = record { inst = i; there = h; misfit = f }
misfit_at p G is _ _ (Broken.dead r n d) e = absurd (not_p1 p is r n d e)

pub misfit_within : (p : Profile) (G : Table) (insts : List Inst) (r : Rule) (n : ℕ) → Broken p G (map plain_inst insts) r n → r ≡ P1
    → n < length insts
misfit_within p G insts r n b e =
    let m = misfit_at p G (map plain_inst insts) r n b e in
    let l = slice_get_within (map plain_inst insts) n m.inst m.there in
    let c = length-map insts plain_inst in
    omega arith

some_same : (o : Option PlainInst) (i j : PlainInst) → o ≡ Some i → o ≡ Some j → i ≡ j
some_same o i j e f = cc

shaped_as : (p : Profile) (G : Table) (is : List PlainInst) (n : ℕ) (i : PlainInst) (e : Evidence) → slice_get is n ≡ Some i
    → ¬ (FitsProfile p G i) → IsShapeOf p i.opcode e → IsEvidence p G is P1 n e
shaped_as p G is n i (Shape o known) h f s = rw s.0 (IsEvidence.misfit i n known h s.1 f)
shaped_as p G is n i e h f s = absurd s

pub shaped : (p : Profile) (G : Table) (is : List PlainInst) (r : Rule) (n : ℕ) (i : PlainInst) (e : Evidence)
    → slice_get is n ≡ Some i → Broken p G is r n → r ≡ P1 → IsShapeOf p i.opcode e
    → IsEvidence p G is r n e
shaped p G is r n i e h b q s =
    let m = misfit_at p G is r n b q in
    let same : m.inst ≡ i = some_same (slice_get is n) m.inst i m.there h in
    subst (λ k. IsEvidence p G is k n e) (sym q) (shaped_as p G is n i e h (subst (λ j. ¬ (FitsProfile p G j)) same m.misfit) s)

-- where another rule is, the place is dead
pub dead_at : (p : Profile) (G : Table) (is : List PlainInst) (r : Rule) (n : ℕ) → Broken p G is r n → ¬ (r ≡ P1) → IsDeadPlace p is r n
dead_at p G is _ _ (Broken.misfit i n h f) e = absurd (e refl)
dead_at p G is _ _ (Broken.dead r n d) e = d

at_seam : (before : List PlainInst) (i : PlainInst) (later : List PlainInst)
    → slice_get (before ++ (i ∷ later)) (length before) ≡ Some i
at_seam [] i later = refl
at_seam (b ∷ before) i later = at_seam before i later

pub dead_within : (p : Profile) (is : List PlainInst) (r : Rule) (n : ℕ) → IsDeadPlace p is r n → n ≤ length is
dead_within p _ _ _ (IsDeadPlace.misplaced before i later b d) = let l = length-append before (i ∷ later) in omega arith
dead_within p _ _ _ (IsDeadPlace.unfinished is b d) = omega arith

pub begun_at : (p : Profile) (is : List PlainInst) (r : Rule) (n : ℕ) → IsDeadPlace p is r n → BeginsLayout (seen_classes p (take n is))
begun_at p _ _ _ (IsDeadPlace.misplaced before i later b d) = subst (λ l. BeginsLayout (seen_classes p l))
    (sym (take-append_seam before (i ∷ later))) b
begun_at p _ _ _ (IsDeadPlace.unfinished is b d) = subst (λ l. BeginsLayout (seen_classes p l)) (sym (take-length is)) b

unfinished_as : (p : Profile) (G : Table) (is : List PlainInst) (opcodes : List ℕ) (end : Bool) → ¬ (IsLayout (seen_classes p is))
    → AreToCome p is opcodes end → IsEvidence p G is L2 (length is) (MayCome opcodes end)
unfinished_as p G is opcodes true d a = absurd (d (a.whole.0 refl))
unfinished_as p G is opcodes false d a = IsEvidence.unfinished opcodes a

placed_as : (p : Profile) (G : Table) (is : List PlainInst) (r : Rule) (n : ℕ) (opcodes : List ℕ) (end : Bool) → IsDeadPlace p is r n
    → AreToCome p (take n is) opcodes end → IsEvidence p G is r n (MayCome opcodes end)
placed_as p G _ _ _ opcodes end (IsDeadPlace.misplaced before i later b d) a =
    IsEvidence.misplaced i (length before) opcodes end (at_seam before i later) a
    (λ c.
    let m = ((a.each i.opcode).0 c).begins in
    let front : take (length before) (before ++ (i ∷ later)) ≡ before = take-append_seam before (i ∷ later) in
    let begins : BeginsLayout (seen_classes p before ++ (class_under p i.opcode ∷ [])) = subst
    (λ l. BeginsLayout (seen_classes p l ++ (class_under p i.opcode ∷ []))) front m in
    d (subst BeginsLayout (sym (one_more p before i)) begins))
placed_as p G _ _ _ opcodes end (IsDeadPlace.unfinished is b d) a =
    unfinished_as p G is opcodes end d (subst (λ l. AreToCome p l opcodes end) (take-length is) a)

pub placed : (p : Profile) (G : Table) (is : List PlainInst) (r : Rule) (n : ℕ) (e : Evidence) → IsDeadPlace p is r n
    → IsMayCome p (take n is) e → IsEvidence p G is r n e
placed p G is r n (MayCome opcodes end) d m = placed_as p G is r n opcodes end d m
placed p G is r n e d m = absurd m

-- the instructions before one, of a slice
pub before_of : (insts : List Inst) (n : ℕ) → map plain_inst (take n insts) ≡ take n (map plain_inst insts)
before_of insts n = sym (take-map plain_inst n insts)
