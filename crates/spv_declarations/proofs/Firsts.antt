-- The first broken rule, by the first instruction that breaks each.
use Rattle.std.proofs.Common.{◌≡◌, ◌⊎◌, ◌<◌, ◌≤◌, inl, inr, ℕ, refl, sym, subst, arith, List, [], ◌∷◌, Option, Some}
use Rattle.std.proofs.Common.{None}
use Rattle.std.specs.Prelude.{MatchOption}
use Rattle.std.proofs.lemmas.Bool.{cases_lt}
use Rattle.spv_table.specs.Table.{Table}
use Rattle.spv_module.specs.Operand.{PlainInst}
use Rattle.spv_module.specs.declared.fault.Rule.{Rule}
use Rattle.spv_module.specs.declared.fault.Rule.TheVariants as rule
use Rattle.spv_layout.specs.First.{IsFirst, IsUnbroken, rank_of, stage_of}
use Rattle.spv_layout.specs.Stage.{of_standard}
use Rattle.spv_declarations.specs.Broken.{Broken}
use Rattle.spv_declarations.specs.Entry.{IsRepeated, TakesId}
use Rattle.spv_declarations.specs.Declarations.{IsForwardElsewhere, IsIncapable, IsOfNoMember}
use Rattle.spv_declarations.specs.Decorated.{IsHalfBuiltIn, IsInitialized, IsLinkedEntry, IsMisplaced, IsSecond}
use Rattle.spv_declarations.specs.declared.found.Found.{Found}
use Rattle.spv_declarations.specs.inner.First.{IsFirstBelow, IsFirstOf, IsOneOf, AreBefore, IsFirstAmong}

-- What the first `count` instructions tell is told of all, if none of the others breaks the rule.
pub first_all : (count : ℕ) (P Q : ℕ → Type 0) → ((n : ℕ) → P n → Q n) → ((n : ℕ) → Q n → P n)
    → ((n : ℕ) → P n → n < count) → (o : Option ℕ) → IsFirstBelow count P o → IsFirstOf Q o
first_all count P Q f g l None h = λ n q. h n (l n (g n q)) (g n q)
first_all count P Q f g l (Some n) h = (f n h.1, λ k m q. h.2 k m (g k q))

-- What each rule says.
abbrev Means : Table → List PlainInst → Rule → ℕ → Type 0
Means G is rule.O3 n = IsRepeated is n
Means G is rule.O5 n = TakesId is n
Means G is rule.O6 n = IsOfNoMember is n
Means G is rule.O7 n = IsMisplaced is n
Means G is rule.O8 n = IsSecond is n
Means G is rule.O9 n = IsLinkedEntry is n
Means G is rule.O10 n = IsInitialized G is n
Means G is rule.O11 n = IsHalfBuiltIn is n
Means G is rule.O12 n = IsForwardElsewhere is n
Means G is rule.O13 n = IsIncapable G is n
Means G is _ n = ⊥

pub tells : (G : Table) (is : List PlainInst) (r : Rule) (n : ℕ) → Broken G is r n → Means G is r n
tells G is _ _ (Broken.repeated n h) = h
tells G is _ _ (Broken.takes_id n h) = h
tells G is _ _ (Broken.of_no_member n h) = h
tells G is _ _ (Broken.misplaced n h) = h
tells G is _ _ (Broken.second n h) = h
tells G is _ _ (Broken.linked_entry n h) = h
tells G is _ _ (Broken.initialized n h) = h
tells G is _ _ (Broken.half_built_in n h) = h
tells G is _ _ (Broken.forward_elsewhere n h) = h
tells G is _ _ (Broken.incapable n h) = h

-- all of them
abbrev pub all_rules : List Rule
all_rules = rule.O13 ∷ rule.O12 ∷ rule.O11 ∷ rule.O10 ∷ rule.O9 ∷ rule.O8 ∷ rule.O7 ∷ rule.O6 ∷ rule.O5 ∷ rule.O3 ∷ []

is_one : (G : Table) (is : List PlainInst) (r : Rule) (n : ℕ) → Broken G is r n → IsOneOf all_rules r
is_one G is _ _ (Broken.repeated n h) = inr (inr (inr (inr (inr (inr (inr (inr (inr (inl refl)))))))))
is_one G is _ _ (Broken.takes_id n h) = inr (inr (inr (inr (inr (inr (inr (inr (inl refl))))))))
is_one G is _ _ (Broken.of_no_member n h) = inr (inr (inr (inr (inr (inr (inr (inl refl)))))))
is_one G is _ _ (Broken.misplaced n h) = inr (inr (inr (inr (inr (inr (inl refl))))))
is_one G is _ _ (Broken.second n h) = inr (inr (inr (inr (inr (inl refl)))))
is_one G is _ _ (Broken.linked_entry n h) = inr (inr (inr (inr (inl refl))))
is_one G is _ _ (Broken.initialized n h) = inr (inr (inr (inl refl)))
is_one G is _ _ (Broken.half_built_in n h) = inr (inr (inl refl))
is_one G is _ _ (Broken.forward_elsewhere n h) = inr (inl refl)
is_one G is _ _ (Broken.incapable n h) = inl refl

of_stage : (G : Table) (is : List PlainInst) (r : Rule) (n : ℕ) → Broken G is r n → stage_of r ≡ of_standard
of_stage G is _ _ (Broken.repeated n h) = refl
of_stage G is _ _ (Broken.takes_id n h) = refl
of_stage G is _ _ (Broken.of_no_member n h) = refl
of_stage G is _ _ (Broken.misplaced n h) = refl
of_stage G is _ _ (Broken.second n h) = refl
of_stage G is _ _ (Broken.linked_entry n h) = refl
of_stage G is _ _ (Broken.initialized n h) = refl
of_stage G is _ _ (Broken.half_built_in n h) = refl
of_stage G is _ _ (Broken.forward_elsewhere n h) = refl
of_stage G is _ _ (Broken.incapable n h) = refl

-- What is told of all rules is told of the stage.
pub first_told : (G : Table) (is : List PlainInst) (o : Option Found) → IsFirstAmong G is all_rules o
    → MatchOption o (IsUnbroken (Broken G is) of_standard) (λ f. IsFirst (Broken G is) of_standard f.rule f.inst)
first_told G is None h = λ r n s b. h r n (is_one G is r n b) b
first_told G is (Some f) h = record {
  of_stage = of_stage G is f.rule f.inst h.1;
  broken = h.1;
  least = λ q m s b. h.2 q m (is_one G is q m b) b;
}

-- no rules at all
pub first_none : (G : Table) (is : List PlainInst) → IsFirstAmong G is [] None
first_none G is = λ q n o b. o

before_it : (rs : List Rule) (r q : Rule) → AreBefore rs r → IsOneOf rs q → rank_of q ≤ rank_of r
before_it [] r q b o = absurd o
before_it (s ∷ rs) r q b (inl e) = subst (λ (p : Rule). rank_of p ≤ rank_of r) (sym e) b.0
before_it (s ∷ rs) r q b (inr o) = before_it rs r q b.1 o

moved : (G : Table) (is : List PlainInst) (q r : Rule) (n : ℕ) → q ≡ r → Broken G is q n → Broken G is r n
moved G is q r n e b = subst (λ (p : Rule). Broken G is p n) e b

-- One rule more, which is not broken.
pub among_none : (G : Table) (is : List PlainInst) (rs : List Rule) (r : Rule) (o : Option Found)
    → ((n : ℕ) → ¬ (Broken G is r n)) → IsFirstAmong G is rs o → IsFirstAmong G is (r ∷ rs) o
among_none G is rs r None never h =
    λ q n p b. elim p [ inl e ↦ never n (moved G is q r n e b) | inr k ↦ h q n k b ]
among_none G is rs r (Some f) never h = (
  inr h.0,
  h.1,
  λ q m p b. elim p [
    | inl e ↦ absurd (never m (moved G is q r m e b))
    | inr k ↦ h.2 q m k b
  ],
)

-- the least instruction that breaks it
least_one : (G : Table) (is : List PlainInst) (r : Rule) (n m : ℕ)
    → ((k : ℕ) → k < n → ¬ (Broken G is r k)) → Broken G is r m → n ≤ m
least_one G is r n m l b = elim (cases_lt m n) [ inl k ↦ absurd (l m k b) | inr g ↦ g ]

at_or_below : (a b : ℕ) (R : Type 0) → a ≤ b → R → (a < b) ⊎ ((a ≡ b) × R)
at_or_below a b R l r = elim (cases_lt a b) [ inl k ↦ inl k | inr g ↦ inr (omega (arith, l, g), r) ]

-- One that is broken, and not lower than what was found.
pub among_kept : (G : Table) (is : List PlainInst) (rs : List Rule) (r : Rule) (f : Found) (n : ℕ) → AreBefore rs r
    → f.inst ≤ n → IsFirstOf (Broken G is r) (Some n) → IsFirstAmong G is rs (Some f)
    → IsFirstAmong G is (r ∷ rs) (Some f)
among_kept G is rs r f n a le b h = (
  inr h.0,
  h.1,
  λ q m p k. elim p [
    | inl e ↦
        let l = least_one G is r n m b.1 (moved G is q r m e k) in
        at_or_below f.inst m (rank_of f.rule ≤ rank_of q) (omega (arith, le, l))
        (subst (λ (p : Rule). rank_of f.rule ≤ rank_of p) (sym e) (before_it rs r f.rule a h.0))
    | inr o ↦ h.2 q m o k
  ],
)

-- Of each rule the first instruction that breaks it.
pub of_o3 : (G : Table) (is : List PlainInst) (count : ℕ) (o : Option ℕ) → ((n : ℕ) → IsRepeated is n → n < count)
    → IsFirstBelow count (IsRepeated is) o → IsFirstOf (Broken G is rule.O3) o
of_o3 G is count o l h =
    first_all count (IsRepeated is) (Broken G is rule.O3) Broken.repeated (λ n b. tells G is rule.O3 n b) l o h

pub of_o5 : (G : Table) (is : List PlainInst) (count : ℕ) (o : Option ℕ) → ((n : ℕ) → TakesId is n → n < count)
    → IsFirstBelow count (TakesId is) o → IsFirstOf (Broken G is rule.O5) o
of_o5 G is count o l h =
    first_all count (TakesId is) (Broken G is rule.O5) Broken.takes_id (λ n b. tells G is rule.O5 n b) l o h

pub of_o6 : (G : Table) (is : List PlainInst) (count : ℕ) (o : Option ℕ) → ((n : ℕ) → IsOfNoMember is n → n < count)
    → IsFirstBelow count (IsOfNoMember is) o → IsFirstOf (Broken G is rule.O6) o
of_o6 G is count o l h =
    first_all count (IsOfNoMember is) (Broken G is rule.O6) Broken.of_no_member (λ n b. tells G is rule.O6 n b) l o h

pub of_o7 : (G : Table) (is : List PlainInst) (count : ℕ) (o : Option ℕ) → ((n : ℕ) → IsMisplaced is n → n < count)
    → IsFirstBelow count (IsMisplaced is) o → IsFirstOf (Broken G is rule.O7) o
of_o7 G is count o l h =
    first_all count (IsMisplaced is) (Broken G is rule.O7) Broken.misplaced (λ n b. tells G is rule.O7 n b) l o h

pub of_o8 : (G : Table) (is : List PlainInst) (count : ℕ) (o : Option ℕ) → ((n : ℕ) → IsSecond is n → n < count)
    → IsFirstBelow count (IsSecond is) o → IsFirstOf (Broken G is rule.O8) o
of_o8 G is count o l h =
    first_all count (IsSecond is) (Broken G is rule.O8) Broken.second (λ n b. tells G is rule.O8 n b) l o h

pub of_o9 : (G : Table) (is : List PlainInst) (count : ℕ) (o : Option ℕ) → ((n : ℕ) → IsLinkedEntry is n → n < count)
    → IsFirstBelow count (IsLinkedEntry is) o → IsFirstOf (Broken G is rule.O9) o
of_o9 G is count o l h =
    first_all count (IsLinkedEntry is) (Broken G is rule.O9) Broken.linked_entry (λ n b. tells G is rule.O9 n b) l o h

pub of_o10 : (G : Table) (is : List PlainInst) (count : ℕ) (o : Option ℕ)
    → ((n : ℕ) → IsInitialized G is n → n < count)
    → IsFirstBelow count (IsInitialized G is) o → IsFirstOf (Broken G is rule.O10) o
of_o10 G is count o l h =
    first_all count (IsInitialized G is) (Broken G is rule.O10) Broken.initialized
    (λ n b. tells G is rule.O10 n b) l o h

pub of_o11 : (G : Table) (is : List PlainInst) (count : ℕ) (o : Option ℕ) → ((n : ℕ) → IsHalfBuiltIn is n → n < count)
    → IsFirstBelow count (IsHalfBuiltIn is) o → IsFirstOf (Broken G is rule.O11) o
of_o11 G is count o l h =
    first_all count (IsHalfBuiltIn is) (Broken G is rule.O11) Broken.half_built_in
    (λ n b. tells G is rule.O11 n b) l o h

pub of_o12 : (G : Table) (is : List PlainInst) (count : ℕ) (o : Option ℕ)
    → ((n : ℕ) → IsForwardElsewhere is n → n < count)
    → IsFirstBelow count (IsForwardElsewhere is) o → IsFirstOf (Broken G is rule.O12) o
of_o12 G is count o l h = first_all count (IsForwardElsewhere is) (Broken G is rule.O12) Broken.forward_elsewhere
    (λ n b. tells G is rule.O12 n b) l o h

pub of_o13 : (G : Table) (is : List PlainInst) (count : ℕ) (o : Option ℕ) → ((n : ℕ) → IsIncapable G is n → n < count)
    → IsFirstBelow count (IsIncapable G is) o → IsFirstOf (Broken G is rule.O13) o
of_o13 G is count o l h =
    first_all count (IsIncapable G is) (Broken G is rule.O13) Broken.incapable (λ n b. tells G is rule.O13 n b) l o h

-- The rules come in the order of their numbers.
pub before_o3 : AreBefore [] rule.O3
before_o3 = tt

pub before_o5 : AreBefore (rule.O3 ∷ []) rule.O5
before_o5 = (omega arith, tt)

pub before_o6 : AreBefore (rule.O5 ∷ rule.O3 ∷ []) rule.O6
before_o6 = (omega arith, (omega arith, tt))

pub before_o7 : AreBefore (rule.O6 ∷ rule.O5 ∷ rule.O3 ∷ []) rule.O7
before_o7 = (omega arith, (omega arith, (omega arith, tt)))

pub before_o8 : AreBefore (rule.O7 ∷ rule.O6 ∷ rule.O5 ∷ rule.O3 ∷ []) rule.O8
before_o8 = (omega arith, (omega arith, (omega arith, (omega arith, tt))))

pub before_o9 : AreBefore (rule.O8 ∷ rule.O7 ∷ rule.O6 ∷ rule.O5 ∷ rule.O3 ∷ []) rule.O9
before_o9 = (omega arith, (omega arith, (omega arith, (omega arith, (omega arith, tt)))))

pub before_o10 : AreBefore (rule.O9 ∷ rule.O8 ∷ rule.O7 ∷ rule.O6 ∷ rule.O5 ∷ rule.O3 ∷ []) rule.O10
before_o10 = (omega arith, (omega arith, (omega arith, (omega arith, (omega arith, (omega arith, tt))))))

pub before_o11 : AreBefore (rule.O10 ∷ rule.O9 ∷ rule.O8 ∷ rule.O7 ∷ rule.O6 ∷ rule.O5 ∷ rule.O3 ∷ []) rule.O11
before_o11 = (omega arith, (omega arith, (omega arith, (omega arith, (omega arith, (omega arith, (omega arith, tt)))))))

pub before_o12 : AreBefore
    (rule.O11 ∷ rule.O10 ∷ rule.O9 ∷ rule.O8 ∷ rule.O7 ∷ rule.O6 ∷ rule.O5 ∷ rule.O3 ∷ []) rule.O12
before_o12 = (
  omega arith,
  (
    omega arith,
    (
      omega arith,
      (
        omega arith,
        (omega arith, (omega arith, (omega arith, (omega arith, tt)))),
      ),
    ),
  ),
)

pub before_o13 : AreBefore
    (rule.O12 ∷ rule.O11 ∷ rule.O10 ∷ rule.O9 ∷ rule.O8 ∷ rule.O7 ∷ rule.O6 ∷ rule.O5 ∷ rule.O3 ∷ []) rule.O13
before_o13 = (
  omega arith,
  (
    omega arith,
    (
      omega arith,
      (
        omega arith,
        (omega arith, (omega arith, (omega arith, (omega arith, (omega arith, tt))))),
      ),
    ),
  ),
)

-- of the same instructions
pub told_of : (G : Table) (is js : List PlainInst) (o : Option Found) → is ≡ js → IsFirstAmong G is all_rules o
    → MatchOption o (IsUnbroken (Broken G js) of_standard) (λ f. IsFirst (Broken G js) of_standard f.rule f.inst)
told_of G is js o e h = subst
    (λ (k : List PlainInst). MatchOption o (IsUnbroken (Broken G k) of_standard)
    (λ f. IsFirst (Broken G k) of_standard f.rule f.inst)) e (first_told G is o h)

pub incapable_in : (G : Table) (is js : List PlainInst) (count : ℕ) (o : Option ℕ) → is ≡ js
    → IsFirstBelow count (IsIncapable G is) o → IsFirstBelow count (IsIncapable G js) o
incapable_in G is js count o e h = subst (λ (k : List PlainInst). IsFirstBelow count (IsIncapable G k) o) e h
