-- The small lists of the worked examples.
use Rattle.std.proofs.Common.{◌≡◌, ◌<◌, ◌↔◌, ℕ, zero, suc, List, [], ◌∷◌, refl, sym, subst, Bool, true}
use Rattle.std.proofs.Common.{false, ◌||◌, IsTrue, Some, length, take, get_or, arith}
use Rattle.std.specs.Prelude.{nat_eq, slice_get}
use Rattle.std.specs.List.{Contains}
use Rattle.std.proofs.Math.Seq.{take-length}
use Rattle.std.proofs.lemmas.Bool.{eq-eqb}
use Rattle.spv_table.specs.Table.{Table}
use Rattle.spv_module.specs.Operand.{PlainInst}
use Rattle.spv_module.specs.declared.profile.Profile.{Profile}
use Rattle.spv_module.specs.declared.profile.Profile.TheVariants.{Own, OpenCl}
use Rattle.spv_module.specs.Example.{small, load}
use Rattle.spv_module.specs.declared.fault.Rule.{Rule}
use Rattle.spv_module.specs.declared.fault.Rule.TheVariants.{P1, L1, L2}
use Rattle.spv_module.specs.declared.opcode.TheConstants as opcode
use Rattle.spv_layout.specs.declared.state.State.TheVariants as at
use Rattle.spv_layout.specs.Rows.{rows}
use Rattle.spv_layout.specs.Profile.{FitsProfile}
use Rattle.spv_layout.specs.Layout.{seen_classes}
use Rattle.spv_layout.specs.Example.{load_of_word, matrix}
use Rattle.spv_layout.specs.inner.Pass.{Leads}
use Rattle.spv_layout.proofs.Tested.{tested_fits, fits_tested}
use Rattle.spv_layout.proofs.Worked.{leads_by}
use Rattle.spv_evidence.specs.declared.evidence.Evidence.{Evidence}
use Rattle.spv_evidence.specs.declared.evidence.Evidence.TheVariants.{Shape, MayCome}
use Rattle.spv_form_evidence.specs.layout.Evidence.{HasRow, AreToCome, MayFollow, IsEvidence}
use Rattle.spv_form_evidence.specs.layout.Example.{after_block, after_merge, merged, unended}
use Rattle.spv_form_evidence.specs.layout.inner.Automaton.{opcodes_of, followers, may_follow}
use Rattle.spv_form_evidence.proofs.lemmas.layout.Opcodes.{to_come}
use Rattle.spv_form_evidence.proofs.lemmas.layout.States.{follows, followed}

-- what the cases of evidence say
shape_of : (p : Profile) (G : Table) (is : List PlainInst) (r : Rule) (n o : ℕ) (e : Evidence) (known : Bool)
    → IsEvidence p G is r n e → e ≡ Shape o known → IsTrue known ↔ HasRow p o
shape_of p G is _ _ o _ known (IsEvidence.misfit i n k h g f) e =
    let a : i.opcode ≡ o = cc in
    let b : k ≡ known = cc in
    subst (λ m. IsTrue known ↔ HasRow p m) a (subst (λ m. IsTrue m ↔ HasRow p i.opcode) b g)
shape_of p G is _ _ o _ known (IsEvidence.misplaced i n os end h a none) e = absurd cc
shape_of p G is _ _ o _ known (IsEvidence.unfinished os a) e = absurd cc

pub misfit_of : (p : Profile) (G : Table) (is : List PlainInst) (r : Rule) (n : ℕ) (e : Evidence) (i : PlainInst)
    → IsEvidence p G is r n e → r ≡ P1 → slice_get is n ≡ Some i → ¬ (FitsProfile p G i)
misfit_of p G is _ _ _ i (IsEvidence.misfit j n k h g f) e there = let a : j ≡ i = cc in
    subst (λ x. ¬ (FitsProfile p G x)) a f
misfit_of p G is _ _ _ i (IsEvidence.misplaced j n os end h a none) e there = absurd cc
misfit_of p G is _ _ _ i (IsEvidence.unfinished os a) e there = absurd cc

to_come_of : (p : Profile) (G : Table) (is : List PlainInst) (r : Rule) (n : ℕ) (e : Evidence) (opcodes : List ℕ) (end : Bool)
    → IsEvidence p G is r n e → e ≡ MayCome opcodes end → AreToCome p (take n is) opcodes end
to_come_of p G is _ _ _ opcodes end (IsEvidence.misfit i n k h g f) e = absurd cc
to_come_of p G is _ _ _ opcodes end (IsEvidence.misplaced i n os b h a none) e =
    let x : os ≡ opcodes = cc in
    let y : b ≡ end = cc in
    subst (λ l. AreToCome p (take n is) l end) x (subst (λ m. AreToCome p (take n is) os m) y a)
to_come_of p G is _ _ _ opcodes end (IsEvidence.unfinished os a) e =
    let x : os ≡ opcodes = cc in
    let y : false ≡ end = cc in
    subst (λ l. AreToCome p l opcodes end) (sym (take-length is))
    (subst (λ l. AreToCome p is l end) x (subst (λ m. AreToCome p is os m) y a))

-- whether a number is in a list
abbrev has : List ℕ → ℕ → Bool
has [] x = false
has (y ∷ ys) x = nat_eq y x || has ys x

or_later : (a b : Bool) → b ≡ true → (a || b) ≡ true
or_later true b h = refl
or_later false b h = h

has_there : (xs : List ℕ) (x k : ℕ) → k < length xs → get_or xs k x ≡ x → has xs x ≡ true
has_there [] x k l e = absurd (omega (arith, l))
has_there (y ∷ ys) x zero l e = let q : nat_eq y x ≡ true = eq-eqb y x e in rw q refl
has_there (y ∷ ys) x (suc k) l e = or_later (nat_eq y x) (has ys x) (has_there ys x k (omega (arith, l)) e)

pub is_there : (xs : List ℕ) (x : ℕ) → Contains xs x → has xs x ≡ true
is_there xs x c = has_there xs x c.0 c.1 c.2

-- OpLoad has a row; OpTypeMatrix has none
pub load_row : HasRow Own opcode.LOAD
unfolding rows
load_row = refl

pub no_matrix_row : ¬ (HasRow Own 24)
unfolding rows
no_matrix_row h = cc

-- OpImageRead has one with OpenCL alone
pub read_row : HasRow OpenCl opcode.IMAGE_READ
unfolding rows
read_row = refl

pub no_read_row : ¬ (HasRow Own opcode.IMAGE_READ)
unfolding rows
no_read_row h = cc

-- after a block of a function
unended_leads : Leads (seen_classes Own unended) at.Block
unfolding rows
unended_leads = leads_by (seen_classes Own unended) at.Block refl

block_opcodes : followers Own at.Block (opcodes_of Own) ≡ after_block
unfolding rows followers
block_opcodes = refl

pub unended_to_come : AreToCome Own unended after_block false
unended_to_come = subst (λ l. AreToCome Own unended l false) block_opcodes (to_come Own unended at.Block unended_leads)

pub label_follows : MayFollow Own unended opcode.LABEL
unfolding rows
label_follows = follows Own unended at.Block opcode.LABEL unended_leads refl

pub line_follows : MayFollow Own unended opcode.NO_LINE
unfolding rows
line_follows = follows Own unended at.Block opcode.NO_LINE unended_leads refl

pub no_return_follows : ¬ (MayFollow Own unended opcode.RETURN)
unfolding rows
no_return_follows m =
    let e : may_follow Own at.Block opcode.RETURN ≡ true = followed Own unended at.Block opcode.RETURN unended_leads m in absurd
    cc

pub unended_not_three : ¬ (AreToCome Own unended (opcode.LINE ∷ opcode.FUNCTION_END ∷ opcode.LABEL ∷ []) false)
unended_not_three a =
    let e : has (opcode.LINE ∷ opcode.FUNCTION_END ∷ opcode.LABEL ∷ []) opcode.NO_LINE ≡ true = is_there
    (opcode.LINE ∷ opcode.FUNCTION_END ∷ opcode.LABEL ∷ []) opcode.NO_LINE
    ((a.each opcode.NO_LINE).1 line_follows) in absurd cc

pub unended_no_end : ¬ (AreToCome Own unended after_block true)
unended_no_end a = let f : IsTrue false = unended_to_come.whole.1 (a.whole.0 refl) in absurd cc

-- after a merge
merge_leads : Leads (seen_classes Own (take 4 merged)) at.LoopMerge
unfolding rows
merge_leads = leads_by (seen_classes Own (take 4 merged)) at.LoopMerge refl

merge_opcodes : followers Own at.LoopMerge (opcodes_of Own) ≡ after_merge
unfolding rows followers
merge_opcodes = refl

merge_to_come : AreToCome Own (take 4 merged) after_merge false
merge_to_come = subst (λ l. AreToCome Own (take 4 merged) l false) merge_opcodes
    (to_come Own (take 4 merged) at.LoopMerge merge_leads)

pub merged_shows : IsEvidence Own small merged L1 4 (MayCome after_merge false)
merged_shows = IsEvidence.misplaced _ 4 after_merge false refl merge_to_come
    (λ c. let e : has after_merge opcode.LINE ≡ true = is_there after_merge opcode.LINE c in absurd cc)

branch_follows : MayFollow Own (take 4 merged) opcode.BRANCH_CONDITIONAL
unfolding rows
branch_follows = follows Own (take 4 merged) at.LoopMerge opcode.BRANCH_CONDITIONAL merge_leads refl

pub merged_not_one : ¬ (IsEvidence Own small merged L1 4 (MayCome (opcode.BRANCH ∷ []) false))
merged_not_one e =
    let a = to_come_of Own small merged L1 4 (MayCome (opcode.BRANCH ∷ []) false) (opcode.BRANCH ∷ []) false e refl in
    let h : has (opcode.BRANCH ∷ []) opcode.BRANCH_CONDITIONAL ≡ true = is_there
    (opcode.BRANCH ∷ []) opcode.BRANCH_CONDITIONAL ((a.each opcode.BRANCH_CONDITIONAL).1 branch_follows) in
    absurd cc

pub unended_shows : IsEvidence Own small unended L2 4 (MayCome after_block false)
unended_shows = IsEvidence.unfinished after_block unended_to_come

-- shapes
word_fits_not : ¬ (FitsProfile Own small load_of_word)
unfolding rows
word_fits_not f = let h = fits_tested small load_of_word f.shape in cc

matrix_fits_not : ¬ (FitsProfile Own small matrix)
unfolding rows
matrix_fits_not f = let h = fits_tested small matrix f.shape in cc

load_fits : FitsProfile Own small load
unfolding rows
load_fits = record { known = refl; shape = tested_fits small load refl }

pub word_shows : IsEvidence Own small (load_of_word ∷ []) P1 0 (Shape opcode.LOAD true)
word_shows = IsEvidence.misfit load_of_word 0 true refl (λ h. load_row, λ r. refl) word_fits_not

pub word_known : ¬ (IsEvidence Own small (load_of_word ∷ []) P1 0 (Shape opcode.LOAD false))
word_known e = let k : IsTrue false = (shape_of Own small (load_of_word ∷ []) P1 0 opcode.LOAD
    (Shape opcode.LOAD false) false e refl).1
    load_row in absurd cc

pub matrix_shows : IsEvidence Own small (matrix ∷ []) P1 0 (Shape 24 false)
matrix_shows = IsEvidence.misfit matrix 0 false refl (λ h. absurd cc, λ r. absurd (no_matrix_row r)) matrix_fits_not

pub matrix_unknown : ¬ (IsEvidence Own small (matrix ∷ []) P1 0 (Shape 24 true))
matrix_unknown e = no_matrix_row ((shape_of Own small (matrix ∷ []) P1 0 24 (Shape 24 true) true e refl).0 refl)

pub load_shown_not : (e : Evidence) → ¬ (IsEvidence Own small (load ∷ []) P1 0 e)
load_shown_not e h = misfit_of Own small (load ∷ []) P1 0 e load h refl refl load_fits
